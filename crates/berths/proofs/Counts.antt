-- The units held: a berth that is taken is one.
use Rattle.std.proofs.Common.{◌≡◌, ℕ, ◌+◌, ◌-◌, ◌<◌, ◌≤◌, true, false, eqb, is_some, List, length, replicate, set, Some, sym, refl, ap, ◌∙◌, ⊎_elim, arith}
use Rattle.std.proofs.lemmas.Bool.{cases_eq, eq-eqb, ne_eqb}
use Rattle.std.proofs.lemmas.List.{get_or-replicate, get_or-set_same, get_or-set_other, length-set}
use Rattle.store.specs.Meaning.{Content, Held, Counted, nothing, paid, replaced, sum_below, slot_units, units, without_slot}
use Rattle.store.specs.Numbers.{number_count}
use Rattle.store.proofs.Changes.{none_if}
use Rattle.store.proofs.Sums.{slot_nothing, sum_none, sum_same, units-replaced}
use Rattle.berths.specs.Numbers.{slot_count, berth_count, one, berths_shape}
use Rattle.berths.specs.Laws.{units_most}

-- where nothing is held at a place, a unit is free
pub one_free : (h : Held) (slot n : ℕ) (seg : Content) → slot < slot_count → n < number_count → is_some (h slot n) ≡ false → 1 ≤ berth_count - units berths_shape h
one_free h slot n seg low few e =
    let none : paid one (h slot n) ≡ 0 = ap (paid one) (none_if (h slot n) e) in
    let t = units-replaced berths_shape h slot n (Some seg) low few in
    let m = units_most (replaced h slot n (Some seg)) in
    omega arith

-- the units of all slots
three : (f : ℕ → ℕ) → sum_below f slot_count ≡ f 0 + f 1 + f 2
unfolding sum_below
three f = omega arith

pub units_three : (h : Held) → units berths_shape h ≡ slot_units one h 0 + slot_units one h 1 + slot_units one h 2
units_three h = three (slot_units one h)

-- new berths count none
pub new_counted : (h : Held) → h ≡ nothing → Counted one h (replicate slot_count 0)
new_counted h e slot low = get_or-replicate slot_count slot 0 0 low ∙ sym (slot_nothing one slot) ∙ ap (λ z. slot_units one z slot) (sym e)

-- nor does a slot that holds nothing any more
pub counted_without : (h : Held) (slot n : ℕ) (used : List ℕ) → slot < length used → n ≡ 0 → Counted one h used → Counted one (without_slot h slot) (set used slot n)
counted_without h slot n used low e c s within =
    ⊎_elim
    (λ (q : s ≡ slot).
    let self : eqb slot slot ≡ true = eq-eqb slot slot refl in
    let none : slot_units one (without_slot h slot) slot ≡ 0 = sum_same (λ _. 0) (λ k. paid one (without_slot h slot slot k)) number_count (λ k m. rw self) ∙ sum_none number_count in
    rw q (get_or-set_same used slot n 0 low ∙ e ∙ sym none))
    (λ (q : s ≡ slot → ⊥).
    let other = ne_eqb s slot q in
    let inside : s < length used = rw length-set at within in
    get_or-set_other used slot s n 0 q ∙ c s inside ∙ sym (sum_same (λ k. paid one (h s k)) (λ k. paid one (without_slot h slot s k)) number_count (λ k m. rw other)))
    (cases_eq s slot)
