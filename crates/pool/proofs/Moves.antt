-- A segment comes into the pool, and goes again.
use Rattle.std.proofs.Common.{◌≡◌, ℕ, ◌+◌, ◌-◌, ◌<◌, ◌≤◌, List, ◌++◌, length, take, drop, set, Some, None, Option, sym, refl, ap, ◌∙◌, subst, arith}
use Rattle.std.proofs.lemmas.List.{get_or-set_same, take-append-drop}
use Rattle.store.specs.Meaning.{Content, standing, count, count_of, lengths_of, octets, replaced}
use Rattle.store.proofs.Places.{There}
use Rattle.store.proofs.Standing.{standing_at}
use Rattle.pool.specs.declared.stored.Stored.{Stored}
use Rattle.pool.specs.Numbers.{slot_count, place_count, block_count, blocks_for}
use Rattle.pool.specs.Chains.{walk, gathered, stored, laid_at, held_in, head, size, Laid}
use Rattle.pool.proofs.Gathered.{gathered-same}
use Rattle.pool.proofs.Held.{held_changed, laid_same, head-place, size-place, head_other, size_other}
use Rattle.pool.proofs.Links.{Disjoint, taken_apart, freed_apart, walk_other}

-- what a pool's chains fulfil
pub record Sound (ps : List (Option Stored)) (next : List ℕ) (free used : ℕ) : Type 0 where
  pub all : length ps ≡ place_count
  pub within : used ≤ block_count
  pub apart : Disjoint next (head ps free) (size ps used)

-- a segment is laid into the first free blocks
module _ (ps : List (Option Stored)) (octs octs' : List (List ℕ)) (next : List ℕ) (free used : ℕ) (s : Sound ps next free used) (slot n i : ℕ) (t : There slot_count slot n i) (vacant : stored ps i ≡ None) (seg : Content) (q : Stored) (m : q.lengths ≡ lengths_of seg) (f : q.first.block ≡ free) (k : ℕ) (c : k ≡ blocks_for (count seg)) (room : k ≤ block_count - used) (laid : Laid octs octs' next free (octets seg) k) where
  low : i < place_count
  low = omega (arith, t.low, t.few, t.is)

  there : stored (set ps i (Some q)) i ≡ Some q
  there = get_or-set_same ps i (Some q) None (omega (arith, low, s.all))

  cost : blocks_for (count_of q.lengths) ≡ k
  cost = ap (λ l. blocks_for (count_of l)) m ∙ sym c

  pub filled_apart : Disjoint next (head (set ps i (Some q)) (walk next free k)) (size (set ps i (Some q)) (used + k))
  filled_apart = taken_apart next (head ps free) (head (set ps i (Some q)) (walk next free k)) (size ps used) (size (set ps i (Some q)) (used + k)) i place_count k
      (λ z. omega (arith, low)) room s.apart
      (head-place (set ps i (Some q)) (walk next free k) i (Some q) low there ∙ f) refl (head_other ps free (walk next free k) i (Some q))
      (size-place (set ps i (Some q)) (used + k) i (Some q) low there ∙ cost) (omega arith) (size_other ps used (used + k) i (Some q))

  here : laid_at octs' next (Some q) ≡ Some seg
  here =
      let g = gathered octs' next q.first.block (blocks_for (count_of q.lengths)) in
      let front : take (length (octets seg)) g ≡ octets seg = ap (λ z. take (length (octets seg)) (gathered octs' next q.first.block z)) cost ∙ ap (λ z. take (length (octets seg)) (gathered octs' next z k)) f ∙ laid.content in
      let whole : g ≡ octets seg ++ drop (length (octets seg)) g = sym (take-append-drop (length (octets seg)) g) ∙ ap (λ z. z ++ drop (length (octets seg)) g) front in
      ap Some (ap (λ z. standing q.lengths z) whole ∙ ap (λ z. standing z (octets seg ++ drop (length (octets seg)) g)) m ∙ standing_at seg (drop (length (octets seg)) g))

  others : (e : ℕ) → e < place_count → (e ≡ i → ⊥) → laid_at octs' next (stored ps e) ≡ laid_at octs next (stored ps e)
  others e inside ne = laid_same octs octs' next next (stored ps e) (λ r at. gathered-same octs octs' next next r.first.block (blocks_for (count_of r.lengths)) (λ j _. refl)
      (λ j h. laid.others (walk next r.first.block j) (λ j' h' z.
      let sz = size-place ps used e (Some r) inside at in
      let hp = head-place ps free e (Some r) inside at in
      let d = (s.apart place_count e j' j (omega arith) (omega arith) (z ∙ ap (λ y. walk next y j) (sym hp))).0 in
      omega arith)))

  pub filled_held : held_in octs' next (set ps i (Some q)) ≡ replaced (held_in octs next ps) slot n (Some seg)
  filled_held = held_changed octs octs' next next ps slot n i (Some q) (Some seg) s.all t here others

-- a chain is put before the free blocks
module _ (ps : List (Option Stored)) (octs : List (List ℕ)) (next : List ℕ) (free used : ℕ) (s : Sound ps next free used) (slot n i : ℕ) (t : There slot_count slot n i) (q : Stored) (e : stored ps i ≡ Some q) (k : ℕ) (c : k ≡ blocks_for (count_of q.lengths)) (enough : k ≤ used) (inside : walk next q.first.block (k - 1) < length next) where
  low' : i < place_count
  low' = omega (arith, t.low, t.few, t.is)

  sizes : size ps used i ≡ k
  sizes = size-place ps used i (Some q) low' e ∙ sym c

  heads : head ps free i ≡ q.first.block
  heads = head-place ps free i (Some q) low' e

  last : walk next (head ps free i) (size ps used i - 1) ≡ walk next q.first.block (k - 1)
  last = ap (λ z. walk next z (size ps used i - 1)) heads ∙ ap (λ z. walk next q.first.block (z - 1)) sizes

  -- the links after the release
  relinked : set next (walk next (head ps free i) (size ps used i - 1)) free ≡ set next (walk next q.first.block (k - 1)) free
  relinked = ap (λ z. set next z free) last

  some : 1 ≤ size ps used i
  some = omega (arith, sizes)

  pub released_apart : Disjoint (set next (walk next q.first.block (k - 1)) free) (head (set ps i None) q.first.block) (size (set ps i None) (used - k))
  released_apart =
      let none = get_or-set_same ps i None None (omega (arith, low', s.all)) in
      let t' = freed_apart next (head ps free) (head (set ps i None) q.first.block) (size ps used) (size (set ps i None) (used - k)) i place_count (λ z. omega (arith, low')) some (omega (arith, last, inside)) s.apart
      (sym heads) (head_other ps free q.first.block i None)
      (size-place (set ps i None) (used - k) i None low' none) (omega (arith, s.within, sizes)) (size_other ps used (used - k) i None) in
      let P : List ℕ → Type 0 = λ z. Disjoint z (head (set ps i None) q.first.block) (size (set ps i None) (used - k)) in
      subst P relinked t'

  others' : (f : ℕ) → f < place_count → (f ≡ i → ⊥) → laid_at octs (set next (walk next q.first.block (k - 1)) free) (stored ps f) ≡ laid_at octs next (stored ps f)
  others' f inside ne = laid_same octs octs next (set next (walk next q.first.block (k - 1)) free) (stored ps f) (λ r at. gathered-same octs octs next (set next (walk next q.first.block (k - 1)) free) r.first.block (blocks_for (count_of r.lengths))
      (λ j h.
      let sz = size-place ps used f (Some r) inside at in
      let hp = head-place ps free f (Some r) inside at in
      let w = walk_other next (head ps free) (size ps used) i place_count some s.apart f j ne (omega arith) in
      ap (λ z. walk z r.first.block j) (sym relinked) ∙ ap (λ z. walk (set next (walk next (head ps free i) (size ps used i - 1)) free) z j) (sym hp) ∙ w ∙ ap (λ z. walk next z j) hp)
      (λ j _. refl))

  pub released_held : held_in octs (set next (walk next q.first.block (k - 1)) free) (set ps i None) ≡ replaced (held_in octs next ps) slot n None
  released_held = held_changed octs octs next (set next (walk next q.first.block (k - 1)) free) ps slot n i None None s.all t refl others'
