-- What putting answers.
use Rattle.std.proofs.Common.{◌≡◌, ℕ, ◌+◌, ◌-◌, ◌≤◌, false, List, length, get_or, is_some, set, Some, Ok, sym, ap, ◌∙◌, arith}
use Rattle.store.specs.Meaning.{Content, Counted, paid, replaced, units, with_segment}
use Rattle.store.specs.Outcomes.{judged_place}
use Rattle.store.proofs.Changes.{none_if}
use Rattle.store.proofs.Places.{there}
use Rattle.store.proofs.Sums.{counted_held, counted_replaced}
use Rattle.berths.specs.declared.berth.Berth.{Berth}
use Rattle.berths.specs.Numbers.{slot_count, berth_count, one, berths_shape}
use Rattle.berths.specs.Berthed.{lies, taken, held_in}
use Rattle.berths.proofs.Rows.{read_at, held_set}
use Rattle.berths.proofs.Counts.{one_free}

pub taken_at : (bs : List Berth) (slot n i : ℕ) (b : Berth) → length bs ≡ berth_count → Ok i ≡ judged_place slot_count slot n → b ≡ get_or bs i b → is_some (held_in bs slot n) ≡ taken (get_or bs i b)
taken_at bs slot n i b all p is = ap is_some (sym (read_at bs slot n i b all (there slot_count slot n i p) is))

pub room_at : (bs : List Berth) (slot n i : ℕ) (seg : Content) → Ok i ≡ judged_place slot_count slot n → is_some (held_in bs slot n) ≡ false → 1 ≤ berth_count - units berths_shape (held_in bs)
room_at bs slot n i seg p none = let t = there slot_count slot n i p in one_free (held_in bs) slot n seg t.low t.few none

pub laid_at : (bs : List Berth) (slot n i : ℕ) (b : Berth) (seg : Content) → length bs ≡ berth_count → Ok i ≡ judged_place slot_count slot n → lies b ≡ Some seg → held_in (set bs i b) ≡ with_segment (held_in bs) slot n seg
laid_at bs slot n i b seg all p e = held_set bs slot n i b all (there slot_count slot n i p) ∙ ap (replaced (held_in bs) slot n) e

-- the count of the slot is one more
pub laid_counted : (bs : List Berth) (used : List ℕ) (slot n i k : ℕ) (b : Berth) (seg : Content) → length bs ≡ berth_count → length used ≡ slot_count → Ok i ≡ judged_place slot_count slot n → is_some (held_in bs slot n) ≡ false → lies b ≡ Some seg → k ≡ get_or used slot 0 + 1 → Counted one (held_in bs) used → Counted one (held_in (set bs i b)) (set used slot k)
laid_counted bs used slot n i k b seg all slots p none e more c =
    let t = there slot_count slot n i p in
    let unpaid : paid one (held_in bs slot n) ≡ 0 = ap (paid one) (none_if (held_in bs slot n) none) in
    counted_held one _ _ _ (laid_at bs slot n i b seg all p e) (counted_replaced one (held_in bs) slot n (Some seg) used k (omega (arith, t.low)) t.few c (omega arith))
