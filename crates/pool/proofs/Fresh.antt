-- A pool that holds nothing: all blocks are free, one after the other.
use Rattle.std.proofs.Common.{◌≡◌, ℕ, zero, suc, ◌+◌, ◌<◌, ◌≤◌, Bool, true, false, cond, ◌&&◌, eqb, ltb, List, get_or, replicate, None, Option, sym, refl, ap, ◌∙◌, ⊎_elim, add-one, arith}
use mathlib.Core.Path.{fun_ext}
use Rattle.std.proofs.lemmas.List.{get_or-replicate, get_or_past, length-replicate}
use Rattle.std.proofs.lemmas.Bool.{cases_eq, cases_lt, ne_eqb}
use Rattle.store.specs.Meaning.{Held, Counted, nothing, slot_units, units}
use Rattle.store.specs.Numbers.{number_count}
use Rattle.store.specs.Outcomes.{index}
use Rattle.store.proofs.Sums.{slot_nothing, units-nothing}
use Rattle.pool.specs.Numbers.{slot_count, place_count, block_count, blocks_for, pool_shape}
use Rattle.pool.specs.Chains.{walk, stored, blocks_of, laid_at, held_in, head, size, Apart}
use Rattle.pool.proofs.Links.{Disjoint, apart_from}

none_at : (m i : ℕ) → stored (replicate m None) i ≡ None
none_at m i =
    ⊎_elim
    (λ (p : i < m). get_or-replicate m i None None p)
    (λ (p : m ≤ i). get_or_past (replicate m None) i None (rw length-replicate p))
    (cases_lt i m)

size_at : (m d : ℕ) → (d ≡ place_count → ⊥) → size (replicate m None) 0 d ≡ 0
size_at m d ne = let n : eqb d place_count ≡ false = ne_eqb _ _ ne in rw n (ap blocks_of (none_at m d))

module _ (next : List ℕ) (each : (b : ℕ) → b + 1 < block_count → get_or next b 0 ≡ b + 1) where
  walk_is : (i : ℕ) → i < block_count → walk next 0 i ≡ i
  unfolding walk
  walk_is zero h = refl
  walk_is (suc i) h = ap (λ b. get_or next b 0) (walk_is i (omega arith)) ∙ each i (omega arith) ∙ add-one i

  disjoint_new : (m : ℕ) → Disjoint next (head (replicate m None) 0) (size (replicate m None) 0)
  disjoint_new m d e i j h l z =
      ⊎_elim
      (λ (p : d ≡ place_count). ⊎_elim
      (λ (q : e ≡ place_count).
      let h' : i < block_count = rw p at h in
      let l' : j < block_count = rw q at l in
      let y : walk next 0 i ≡ walk next 0 j = ap (λ k. walk next (head (replicate m None) 0 k) i) (sym p) ∙ z ∙ ap (λ k. walk next (head (replicate m None) 0 k) j) q in
      let a = walk_is i h' in
      let b = walk_is j l' in
      (omega arith, omega arith))
      (λ (ne : e ≡ place_count → ⊥). let y = size_at m e ne in absurd (omega arith))
      (cases_eq e place_count))
      (λ (ne : d ≡ place_count → ⊥). let y = size_at m d ne in absurd (omega arith))
      (cases_eq d place_count)

  pub new_apart : (m free used : ℕ) → free ≡ 0 → used ≡ 0 → Apart next (head (replicate m None) free) (size (replicate m None) used)
  new_apart m free used f e = rw (f, e) (apart_from next (head (replicate m None) 0) (size (replicate m None) 0) (disjoint_new m))

cond_none : {X : Type 0} (b : Bool) → cond {A = Option X} b None None ≡ None
cond_none true = refl
cond_none false = refl

pub new_held : (octets : List (List ℕ)) (next : List ℕ) (m : ℕ) → held_in octets next (replicate m None) ≡ nothing
unfolding held_in
new_held octets next m = fun_ext (λ s. fun_ext (λ n.
    ap (λ z. cond (ltb s slot_count && ltb n number_count) z None) (ap (laid_at octets next) (none_at m (index s n))) ∙ cond_none (ltb s slot_count && ltb n number_count)))

pub new_units : (h : Held) → h ≡ nothing → units pool_shape h ≡ 0
new_units h e = ap (units pool_shape) e ∙ units-nothing pool_shape

pub new_counted : (h : Held) → h ≡ nothing → Counted blocks_for h (replicate slot_count 0)
new_counted h e slot low = get_or-replicate slot_count slot 0 0 low ∙ sym (slot_nothing blocks_for slot) ∙ ap (λ z. slot_units blocks_for z slot) (sym e)
