-- Places and their chains, one place at a time.
use Rattle.std.proofs.Common.{◌≡◌, ℕ, ◌<◌, ◌≤◌, ◌≢◌, true, false, eqb, List, length, set, is_some, Some, None, Option, sym, refl, ap, ◌∙◌, ⊎_elim, arith}
use Rattle.std.proofs.Math.Path.{fun_ext}
use Rattle.std.proofs.lemmas.List.{get_or-set_same, get_or-set_other}
use Rattle.std.proofs.lemmas.Bool.{cases_eq, cases_lt, eq-eqb, ne_eqb}
use Rattle.store.specs.Meaning.{Content, standing, count, count_of, lengths_of, replaced, paid}
use Rattle.store.specs.Numbers.{number_count}
use Rattle.store.specs.Outcomes.{index}
use Rattle.store.proofs.Places.{There}
use Rattle.store.proofs.Standing.{lengths_standing}
use Rattle.pool.specs.declared.blocks.Blocks.{Blocks}
use Rattle.pool.specs.declared.stored.Stored.{Stored}
use Rattle.pool.specs.Numbers.{slot_count, place_count, blocks_for}
use Rattle.pool.specs.Chains.{links, parts, gathered, stored, first_of, blocks_of, segment_of, laid_at, held_in, head, size}
use Rattle.pool.specs.Laws.{past, beyond, held_at}
use Rattle.pool.proofs.Gathered.{length-gathered}

-- one place changes, and the segments of all others stay
module _ (octets octets' : List (List ℕ)) (next next' : List ℕ) (ps : List (Option Stored)) (slot n i : ℕ) (q : Option Stored) (o : Option Content) (all : length ps ≡ place_count) (t : There slot_count slot n i) (here : laid_at octets' next' q ≡ o) (others : (e : ℕ) → e < place_count → (e ≢ i) → laid_at octets' next' (stored ps e) ≡ laid_at octets next (stored ps e)) where
  elsewhere : (s k : ℕ) → s < slot_count → k < number_count → (index s k ≢ i) → held_in octets' next' (set ps i q) s k ≡ held_in octets next ps s k
  elsewhere s k low few ne =
      let u : There slot_count s k (index s k) = record { low = low; few = few; is = refl } in
      held_at octets' next' (set ps i q) s k (index s k) u
      ∙ ap (laid_at octets' next') (get_or-set_other ps i (index s k) q None ne)
      ∙ others (index s k) (omega arith) ne
      ∙ sym (held_at octets next ps s k (index s k) u)

  at_place : held_in octets' next' (set ps i q) slot n ≡ o
  at_place = held_at octets' next' (set ps i q) slot n i t ∙ ap (laid_at octets' next') (get_or-set_same ps i q None (omega (arith, t.low, t.few, t.is))) ∙ here

  away : (s k : ℕ) → ((s ≡ slot) × (k ≡ n) → ⊥) → held_in octets' next' (set ps i q) s k ≡ held_in octets next ps s k
  away s k ne =
      ⊎_elim
      (λ (l : s < slot_count). ⊎_elim
      (λ (f : k < number_count). elsewhere s k l f (λ z. ne (omega (arith, t.is, t.few), omega (arith, t.is, t.few))))
      (λ (f : number_count ≤ k). past octets' next' (set ps i q) s k f ∙ sym (past octets next ps s k f))
      (cases_lt k number_count))
      (λ (l : slot_count ≤ s). beyond octets' next' (set ps i q) s k l ∙ sym (beyond octets next ps s k l))
      (cases_lt s slot_count)

  pub held_changed : held_in octets' next' (set ps i q) ≡ replaced (held_in octets next ps) slot n o
  held_changed = fun_ext (λ s. fun_ext (λ k. ⊎_elim
      (λ (p : s ≡ slot).
      let a : eqb slot slot ≡ true = eq-eqb slot slot refl in
      ⊎_elim
      (λ (r : k ≡ n). let c : eqb n n ≡ true = eq-eqb n n refl in rw (p, r, a, c) at_place)
      (λ (r : k ≡ n → ⊥). let c : eqb k n ≡ false = ne_eqb k n r in rw (p, a, c) (away slot k (λ z. r z.1)))
      (cases_eq k n))
      (λ (p : s ≡ slot → ⊥). let a : eqb s slot ≡ false = ne_eqb s slot p in rw a (away s k (λ z. p z.0)))
      (cases_eq s slot)))

pub laid_same : (octets octets' : List (List ℕ)) (next next' : List ℕ) (o : Option Stored) → ((q : Stored) → o ≡ Some q → gathered octets' next' q.first.block (blocks_for (count_of q.lengths)) ≡ gathered octets next q.first.block (blocks_for (count_of q.lengths))) → laid_at octets' next' o ≡ laid_at octets next o
laid_same octets octets' next next' None f = refl
laid_same octets octets' next next' (Some q) f = ap (λ xs. Some (standing q.lengths xs)) (f q refl)

-- heads and sizes of chains
pub head-place : (ps : List (Option Stored)) (free d : ℕ) (o : Option Stored) → d < place_count → stored ps d ≡ o → head ps free d ≡ first_of o
head-place ps free d o low e = let n : eqb d place_count ≡ false = ne_eqb _ _ (λ z. omega arith) in rw (n, e)

pub size-place : (ps : List (Option Stored)) (used d : ℕ) (o : Option Stored) → d < place_count → stored ps d ≡ o → size ps used d ≡ blocks_of o
size-place ps used d o low e = let n : eqb d place_count ≡ false = ne_eqb _ _ (λ z. omega arith) in rw (n, e)

pub head_other : (ps : List (Option Stored)) (free free' i : ℕ) (q : Option Stored) (e : ℕ) → (e ≢ i) → (e ≢ place_count) → head (set ps i q) free' e ≡ head ps free e
head_other ps free free' i q e ne nf = let n : eqb e place_count ≡ false = ne_eqb _ _ nf in rw n (ap first_of (get_or-set_other ps i e q None ne))

pub size_other : (ps : List (Option Stored)) (used used' i : ℕ) (q : Option Stored) (e : ℕ) → (e ≢ i) → (e ≢ place_count) → size (set ps i q) used' e ≡ size ps used e
size_other ps used used' i q e ne nf = let n : eqb e place_count ≡ false = ne_eqb _ _ nf in rw n (ap blocks_of (get_or-set_other ps i e q None ne))

-- a segment that stands in its chain
pub enough : (b : Blocks) (q : Stored) → count_of q.lengths ≤ length (gathered (parts b) (links b) q.first.block (blocks_for (count_of q.lengths)))
enough b q = let g = length-gathered b q.first (blocks_for (count_of q.lengths)) in omega arith

pub lengths_laid : (b : Blocks) (q : Stored) → lengths_of (segment_of (parts b) (links b) q) ≡ q.lengths
lengths_laid b q = lengths_standing q.lengths _ (enough b q)

pub count_laid : (b : Blocks) (q : Stored) → count (segment_of (parts b) (links b) q) ≡ count_of q.lengths
count_laid b q = ap count_of (lengths_laid b q)

pub paid_laid : (b : Blocks) (q : Stored) → paid blocks_for (laid_at (parts b) (links b) (Some q)) ≡ blocks_for (count_of q.lengths)
paid_laid b q = ap (λ k. blocks_for k) (count_laid b q)

-- whether a place is taken
is_some-laid_at : (octets : List (List ℕ)) (next : List ℕ) (o : Option Stored) → is_some o ≡ is_some (laid_at octets next o)
is_some-laid_at octets next None = refl
is_some-laid_at octets next (Some q) = refl

pub held_taken : (octets : List (List ℕ)) (next : List ℕ) (ps : List (Option Stored)) (slot n i : ℕ) → There slot_count slot n i → is_some (held_in octets next ps slot n) ≡ is_some (stored ps i)
held_taken octets next ps slot n i t = ap is_some (held_at octets next ps slot n i t) ∙ sym (is_some-laid_at octets next (stored ps i))
