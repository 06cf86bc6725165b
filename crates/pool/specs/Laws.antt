-- What the laws of a store need of the pool.
use Rattle.std.specs.Prelude.{◌≡◌, ℕ, ◌<◌, ◌≤◌, true, false, ◌&&◌, ltb, List, drop, Some, None, Option, nat_lt, refl}
use Rattle.std.proofs.Common.{⊎_elim, arith}
use Rattle.std.proofs.lemmas.List.{length-take}
use Rattle.std.proofs.lemmas.Bool.{cases_lt, lt-ltb, le-ltb, and_right, and_left}
use Rattle.store.specs.declared.Segment.{Segment}
use Rattle.store.specs.Meaning.{Placed, Lawful, standing, count, count_of}
use Rattle.store.specs.Numbers.{number_count}
use Rattle.store.specs.Outcomes.{index}
use Rattle.store.proofs.Places.{There}
use Rattle.pool.specs.declared.stored.Stored.{Stored}
use Rattle.pool.specs.Numbers.{slot_count, blocks_for, pool_shape}
use Rattle.pool.specs.Chains.{gathered, stored, laid_at, held_in}

-- what stands at a place
pub past : (octets : List (List ℕ)) (next : List ℕ) (ps : List (Option Stored)) (s k : ℕ) → number_count ≤ k → held_in octets next ps s k ≡ None
unfolding held_in
past octets next ps s k h = let no : (nat_lt s slot_count && nat_lt k number_count) ≡ false = and_right (nat_lt s slot_count) (nat_lt k number_count) (le-ltb _ _ h) in rw no

pub beyond : (octets : List (List ℕ)) (next : List ℕ) (ps : List (Option Stored)) (s k : ℕ) → slot_count ≤ s → held_in octets next ps s k ≡ None
unfolding held_in
beyond octets next ps s k h = let no : (nat_lt s slot_count && nat_lt k number_count) ≡ false = and_left (nat_lt s slot_count) (nat_lt k number_count) (le-ltb _ _ h) in rw no

pub held_at : (octets : List (List ℕ)) (next : List ℕ) (ps : List (Option Stored)) (slot n i : ℕ) → There slot_count slot n i → held_in octets next ps slot n ≡ laid_at octets next (stored ps i)
unfolding held_in
held_at octets next ps slot n i t =
    let d : ltb slot slot_count ≡ true = lt-ltb _ _ t.low in
    let e : ltb n number_count ≡ true = lt-ltb _ _ t.few in
    rw (d, e, t.is)

-- a segment in octets has at most the lengths that it is looked for with
count-standing : (l : Segment ℕ) (xs : List ℕ) → count (standing l xs) ≤ count_of l
count-standing l xs = of l.message l.area
  where
    of : (m : ℕ) (a : Option ℕ) → count (standing (record { message = m; area = a }) xs) ≤ count_of (record { message = m; area = a })
    of m None = let t = length-take m xs in omega arith
    of m (Some a) =
        let t = length-take m xs in
        let u = length-take a (drop m xs) in
        omega arith

-- every segment held is in its place and not too long
placed_at : (octets : List (List ℕ)) (next : List ℕ) (slot n : ℕ) → slot < slot_count → n < number_count → (o : Option Stored) → Placed pool_shape slot n (laid_at octets next o)
placed_at octets next slot n low few None = tt
placed_at octets next slot n low few (Some q) =
    let c = count-standing q.lengths (gathered octets next q.first.block (blocks_for (count_of q.lengths))) in
    (low, few, omega (arith, q.short))

pub all_placed : (octets : List (List ℕ)) (next : List ℕ) (ps : List (Option Stored)) (slot n : ℕ) → Placed pool_shape slot n (held_in octets next ps slot n)
all_placed octets next ps slot n =
    ⊎_elim
    (λ (low : slot < slot_count). ⊎_elim
    (λ (few : n < number_count).
    let t : There slot_count slot n (index slot n) = record { low = low; few = few; is = refl } in
    rw (held_at octets next ps slot n (index slot n) t) (placed_at octets next slot n low few _))
    (λ (few : number_count ≤ n). rw (past octets next ps slot n few) tt)
    (cases_lt n number_count))
    (λ (low : slot_count ≤ slot). rw (beyond octets next ps slot n low) tt)
    (cases_lt slot slot_count)

pub lawful : Lawful pool_shape
lawful = record { fewest = omega arith; most = omega arith; some = λ n _. omega arith; rises = λ m n le _. omega arith; roomy = omega arith }
