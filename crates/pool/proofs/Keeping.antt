-- What a pool's fields fulfil after a segment came or went.
use Rattle.std.proofs.Common.{◌≡◌, ℕ, ◌+◌, ◌-◌, ◌<◌, ◌≤◌, List, length, get_or, take, set, is_some, Some, None, Option, sym, refl, ap, ◌∙◌, subst, arith}
use Rattle.std.proofs.lemmas.List.{length-set, take_at}
use Rattle.store.specs.Meaning.{Content, Counted, count, count_of, lengths_of, octets, paid, replaced, spread, units}
use Rattle.store.proofs.Changes.{none_if}
use Rattle.store.proofs.Places.{There}
use Rattle.store.proofs.Standing.{length-octets, spread_is}
use Rattle.store.proofs.Sums.{counted_held, counted_replaced, paid_below, slot_below, units-replaced}
use Rattle.pool.specs.declared.Pool.{Pool}
use Rattle.pool.specs.declared.stored.Stored.{Stored}
use Rattle.pool.specs.Numbers.{slot_count, place_count, block_count, blocks_for, pool_shape}
use Rattle.pool.specs.Chains.{links, parts, walk, stored, held_in, in_use, head, size, Apart, Laid}
use Rattle.pool.specs.Holding.{holding}
use Rattle.pool.specs.Laws.{held_at}
use Rattle.pool.proofs.Gathered.{length-links, walk_inside}
use Rattle.pool.proofs.Held.{held_taken, paid_laid}
use Rattle.pool.proofs.Links.{disjoint, apart_from}
use Rattle.pool.proofs.Moves.{Sound, filled_apart, filled_held, released_apart, released_held}

-- the facts of a pool's places, its blocks and the free ones, with so many blocks in use
pub record Kept (ps : List (Option Stored)) (octs : List (List ℕ)) (next : List ℕ) (free used : ℕ) : Type 0 where
  pub all : length ps ≡ place_count
  pub kept : in_use octs next ps ≡ used
  pub within : in_use octs next ps ≤ block_count
  pub apart : Apart next (head ps free) (size ps (in_use octs next ps))

-- the octets of a segment that was written to the start of a memory
pub joined : (seg : Content) (m m' : List ℕ) (n : ℕ) → count seg ≤ length m → m' ≡ spread seg m → n ≡ count seg → take n m' ≡ octets seg
joined seg m m' n h e c =
    ap (λ z. take z m') (c ∙ sym (length-octets seg)) ∙ ap (take (length (octets seg))) (e ∙ spread_is seg m h) ∙ take_at (octets seg) _ _ refl

-- what was laid, as the octets of the segment
pub laid_octets : (old new : List (List ℕ)) (next : List ℕ) (first : ℕ) (seg : Content) (xs : List ℕ) (k : ℕ) → xs ≡ octets seg → k ≡ blocks_for (count seg) → Laid old new next first xs (blocks_for (length xs)) → Laid old new next first (octets seg) k
laid_octets old new next first seg xs k x c laid =
    let P : List ℕ → Type 0 = λ z. Laid old new next first z (blocks_for (length z)) in
    let Q : ℕ → Type 0 = λ z. Laid old new next first (octets seg) z in
    let n : blocks_for (length (octets seg)) ≡ k = ap (λ z. blocks_for z) (length-octets seg) ∙ sym c in
    subst Q n (subst P x laid)

module _ (p : Pool) where
  abbrev used : ℕ
  used = units pool_shape (holding p)

  pub sound : Sound p.places (links p.chains) p.free.block used
  sound = record { all = p.all; within = p.within; apart = disjoint (links p.chains) (head p.places p.free.block) (size p.places used) p.apart }

  -- what a slot has in use is not above what all have
  pub slot_used : (slot : ℕ) → slot < slot_count → get_or p.used slot 0 ≤ used
  slot_used slot low =
      let c = p.counted slot (omega (arith, p.slots)) in
      let b = slot_below pool_shape (holding p) slot low in
      omega arith

module _ (p : Pool) (slot n i : ℕ) (t : There slot_count slot n i) where
  low : i < place_count
  low = omega (arith, t.low, t.few, t.is)

  pub vacant_at : holding p slot n ≡ None → stored p.places i ≡ None
  vacant_at e =
      none_if (stored p.places i) (sym (held_taken (parts p.chains) (links p.chains) p.places slot n i t) ∙ ap is_some e)

  -- a segment came
  module _ (none : holding p slot n ≡ None) (seg : Content) (q : Stored) (m : q.lengths ≡ lengths_of seg) (f : q.first.block ≡ p.free.block) (k : ℕ) (c : k ≡ blocks_for (count seg)) (room : k ≤ block_count - units pool_shape (holding p)) (octs : List (List ℕ)) (laid : Laid (parts p.chains) octs (links p.chains) p.free.block (octets seg) k) where
    came : held_in octs (links p.chains) (set p.places i (Some q)) ≡ replaced (holding p) slot n (Some seg)
    came = filled_held p.places (parts p.chains) octs (links p.chains) p.free.block (units pool_shape (holding p)) (sound p) slot n i t (vacant_at none) seg q m f k c room laid

    more : units pool_shape (held_in octs (links p.chains) (set p.places i (Some q))) ≡ units pool_shape (holding p) + k
    more =
        let u = units-replaced pool_shape (holding p) slot n (Some seg) t.low t.few in
        let o : paid blocks_for (holding p slot n) ≡ 0 = ap (paid blocks_for) none in
        ap (units pool_shape) came ∙ omega arith

    kept_more : Kept (set p.places i (Some q)) octs (links p.chains) (walk (links p.chains) p.free.block k) (p.held + k)
    kept_more =
        let ps = set p.places i (Some q) in
        let first = walk (links p.chains) p.free.block k in
        let P : ℕ → Type 0 = λ z. Apart (links p.chains) (head ps first) (size ps z) in
        record {
          all = length-set p.places i _ ∙ p.all;
          kept = omega (arith, more, p.kept);
          within = omega (arith, more, p.within);
          apart = subst P (sym more) (apart_from (links p.chains) (head ps first) (size ps (units pool_shape (holding p) + k)) (filled_apart p.places (parts p.chains) octs (links p.chains) p.free.block (units pool_shape (holding p)) (sound p) slot n i t (vacant_at none) seg q m f k c room laid));
        }

    pub filled_holding : (next : List ℕ) → next ≡ links p.chains → held_in octs next (set p.places i (Some q)) ≡ replaced (holding p) slot n (Some seg)
    filled_holding next e = rw e came

    pub filled_kept : (next : List ℕ) (free : ℕ) → next ≡ links p.chains → free ≡ walk (links p.chains) p.free.block k → Kept (set p.places i (Some q)) octs next free (p.held + k)
    filled_kept next free e g = rw (e, g) kept_more

    pub filled_counted : (next : List ℕ) (u : ℕ) → next ≡ links p.chains → u ≡ get_or p.used slot 0 + k → Counted blocks_for (held_in octs next (set p.places i (Some q))) (set p.used slot u)
    filled_counted next u e is =
        let o : paid blocks_for (holding p slot n) ≡ 0 = ap (paid blocks_for) none in
        counted_held blocks_for _ _ _ (filled_holding next e) (counted_replaced blocks_for (holding p) slot n (Some seg) p.used u (omega (arith, t.low, p.slots)) t.few p.counted (omega arith))

  -- a segment went
  module _ (q : Stored) (e : stored p.places i ≡ Some q) (k : ℕ) (c : k ≡ blocks_for (count_of q.lengths)) where
    paid_k : paid blocks_for (holding p slot n) ≡ k
    paid_k = ap (paid blocks_for) (held_at (parts p.chains) (links p.chains) p.places slot n i t) ∙ rw e (paid_laid p.chains q ∙ sym c)

    pub enough_in : k ≤ get_or p.used slot 0
    enough_in =
        let a = p.counted slot (omega (arith, t.low, p.slots)) in
        let b = paid_below blocks_for (holding p) slot n t.few in
        omega (arith, paid_k)

    in_all : k ≤ units pool_shape (holding p)
    in_all = omega (arith, enough_in, slot_used p slot t.low)

    pub enough : k ≤ p.held
    enough = omega (arith, in_all, p.kept)

    inside : walk (links p.chains) q.first.block (k - 1) < length (links p.chains)
    inside = omega (arith, walk_inside p.chains q.first (k - 1), length-links p.chains)

    gone : held_in (parts p.chains) (set (links p.chains) (walk (links p.chains) q.first.block (k - 1)) p.free.block) (set p.places i None) ≡ replaced (holding p) slot n None
    gone = released_held p.places (parts p.chains) (links p.chains) p.free.block (units pool_shape (holding p)) (sound p) slot n i t q e k c in_all inside

    less : units pool_shape (held_in (parts p.chains) (set (links p.chains) (walk (links p.chains) q.first.block (k - 1)) p.free.block) (set p.places i None)) ≡ units pool_shape (holding p) - k
    less =
        let u = units-replaced pool_shape (holding p) slot n None t.low t.few in
        ap (units pool_shape) gone ∙ omega (arith, paid_k)

    kept_less : Kept (set p.places i None) (parts p.chains) (set (links p.chains) (walk (links p.chains) q.first.block (k - 1)) p.free.block) q.first.block (p.held - k)
    kept_less =
        let ps = set p.places i None in
        let next = set (links p.chains) (walk (links p.chains) q.first.block (k - 1)) p.free.block in
        let P : ℕ → Type 0 = λ z. Apart next (head ps q.first.block) (size ps z) in
        record {
          all = length-set p.places i _ ∙ p.all;
          kept = omega (arith, less, p.kept, in_all);
          within = omega (arith, less, p.within);
          apart = subst P (sym less) (apart_from next (head ps q.first.block) (size ps (units pool_shape (holding p) - k)) (released_apart p.places (parts p.chains) (links p.chains) p.free.block (units pool_shape (holding p)) (sound p) slot n i t q e k c in_all inside));
        }

    pub released_holding : (octs : List (List ℕ)) (next : List ℕ) → octs ≡ parts p.chains → next ≡ set (links p.chains) (walk (links p.chains) q.first.block (k - 1)) p.free.block → held_in octs next (set p.places i None) ≡ replaced (holding p) slot n None
    released_holding octs next a b = rw (a, b) gone

    pub released_kept : (octs : List (List ℕ)) (next : List ℕ) → octs ≡ parts p.chains → next ≡ set (links p.chains) (walk (links p.chains) q.first.block (k - 1)) p.free.block → Kept (set p.places i None) octs next q.first.block (p.held - k)
    released_kept octs next a b = rw (a, b) kept_less

    pub released_counted : (octs : List (List ℕ)) (next : List ℕ) (u : ℕ) → octs ≡ parts p.chains → next ≡ set (links p.chains) (walk (links p.chains) q.first.block (k - 1)) p.free.block → u + k ≡ get_or p.used slot 0 → Counted blocks_for (held_in octs next (set p.places i None)) (set p.used slot u)
    released_counted octs next u a b is =
        counted_held blocks_for _ _ _ (released_holding octs next a b) (counted_replaced blocks_for (holding p) slot n None p.used u (omega (arith, t.low, p.slots)) t.few p.counted (omega (arith, paid_k)))
