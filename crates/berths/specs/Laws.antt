-- That berths fulfil the laws of a store.
use Rattle.std.specs.Prelude.{◌≡◌, ℕ, ◌<◌, ◌≤◌, true, false, ◌&&◌, List, length, Some, None, Option, nat_lt}
use Rattle.std.specs.Option.{option_map, unwrap_or}
use Rattle.std.proofs.Common.{⊎_elim, refl, ap, arith}
use Rattle.std.proofs.lemmas.Bool.{cases_lt, lt-ltb, le-ltb, and_left, and_right}
use Rattle.store.specs.declared.Segment.{Segment}
use Rattle.store.specs.Meaning.{Content, Held, Placed, Lawful, standing, count_of, paid, slot_units, units}
use Rattle.store.specs.Numbers.{number_count, most_octets}
use Rattle.store.specs.Outcomes.{index}
use Rattle.store.proofs.Places.{There}
use Rattle.store.proofs.Standing.{lengths_standing}
use Rattle.store.proofs.Sums.{sum_most}
use Rattle.berths.specs.declared.berth.Berth.{Berth}
use Rattle.berths.specs.Numbers.{slot_count, berth_count, berth_octets, one, berths_shape}
use Rattle.berths.specs.Berthed.{berth, lies, held_in}

pub lawful : Lawful berths_shape
lawful = record { fewest = omega arith; most = omega arith; some = λ n _. omega arith; rises = λ m n _ _. omega arith; roomy = omega arith }

-- a unit a segment, at most 64 to a slot
paid_most : (o : Option Content) → paid one o ≤ 1
paid_most None = omega arith
paid_most (Some seg) = omega arith

pub slot_most : (h : Held) (slot : ℕ) → slot_units one h slot ≤ number_count
slot_most h slot = let t = sum_most (λ n. paid one (h slot n)) 1 number_count (λ n. paid_most (h slot n)) in omega arith

pub units_most : (h : Held) → units berths_shape h ≤ berth_count
units_most h = let t = sum_most (slot_units one h) number_count slot_count (slot_most h) in omega arith

-- where there is no place nothing is held
pub past : (bs : List Berth) (s k : ℕ) → number_count ≤ k → held_in bs s k ≡ None
unfolding held_in
past bs s k h = let no : (nat_lt s slot_count && nat_lt k number_count) ≡ false = and_right (nat_lt s slot_count) (nat_lt k number_count) (le-ltb _ _ h) in rw no

pub beyond : (bs : List Berth) (s k : ℕ) → slot_count ≤ s → held_in bs s k ≡ None
unfolding held_in
beyond bs s k h = let no : (nat_lt s slot_count && nat_lt k number_count) ≡ false = and_left (nat_lt s slot_count) (nat_lt k number_count) (le-ltb _ _ h) in rw no

pub held_at : (bs : List Berth) (slot n i : ℕ) → There slot_count slot n i → held_in bs slot n ≡ lies (berth bs i)
unfolding held_in
held_at bs slot n i t =
    let d : nat_lt slot slot_count ≡ true = lt-ltb _ _ t.low in
    let e : nat_lt n number_count ≡ true = lt-ltb _ _ t.few in
    rw (d, e, t.is)

placed_lies : (o : Option (Segment ℕ)) (xs : List ℕ) (slot n : ℕ) → slot < slot_count → n < number_count → length xs ≡ berth_octets → unwrap_or (option_map count_of o) 0 ≤ most_octets → Placed berths_shape slot n (option_map (λ l. standing l xs) o)
placed_lies None xs slot n low few full short = tt
placed_lies (Some l) xs slot n low few full short = let c = ap count_of (lengths_standing l xs (omega arith)) in (low, few, omega arith)

-- every segment held is in its place and not too long
pub all_placed : (bs : List Berth) (slot n : ℕ) → Placed berths_shape slot n (held_in bs slot n)
all_placed bs slot n =
    ⊎_elim
    (λ (low : slot < slot_count). ⊎_elim
    (λ (few : n < number_count).
    let b = berth bs (index slot n) in
    rw (held_at bs slot n (index slot n) (record { low = low; few = few; is = refl }))
    (placed_lies b.lengths b.octets slot n low few b.full b.short))
    (λ (few : number_count ≤ n). rw (past bs slot n few) tt)
    (cases_lt n number_count))
    (λ (low : slot_count ≤ slot). rw (beyond bs slot n low) tt)
    (cases_lt slot slot_count)
