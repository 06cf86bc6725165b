-- Chains as blocks change hands: the first free ones become a chain of a place, and a chain becomes free again.
use Rattle.std.specs.Prelude.{◌≡◌, ℕ, zero, suc, ◌+◌, ◌-◌, ◌<◌, ◌≤◌, ◌≢◌, List, length, set, slice_index, slice_set, refl}
use Rattle.std.proofs.Common.{sym, ◌∙◌, ap, ⊎_elim, arith, add-suc, add-zero}
use Rattle.std.proofs.lemmas.List.{get_or-set_same, get_or-set_other}
use Rattle.std.proofs.lemmas.Bool.{cases_eq, cases_lt}
use Rattle.pool.specs.Chains.{walk, Apart}
use Rattle.pool.proofs.Gathered.{walk_more}

-- `Apart`, with its positions one by one
abbrev pub Disjoint : List ℕ → (ℕ → ℕ) → (ℕ → ℕ) → Type 0
Disjoint next heads sizes =
    (d e i j : ℕ) → i < sizes d → j < sizes e → walk next (heads d) i ≡ walk next (heads e) j → (d ≡ e) × (i ≡ j)

pub disjoint : (next : List ℕ) (heads sizes : ℕ → ℕ) → Apart next heads sizes → Disjoint next heads sizes
disjoint next heads sizes a d e i j h l z = a (record { chain = d; other = e; at = i; there = j; low = h; under = l; same = z })

pub apart_from : (next : List ℕ) (heads sizes : ℕ → ℕ) → Disjoint next heads sizes → Apart next heads sizes
apart_from next heads sizes f s = f s.chain s.other s.at s.there s.low s.under s.same

pub walk-walk : (next : List ℕ) (first k i : ℕ) → walk next (walk next first k) i ≡ walk next first (k + i)
unfolding walk
walk-walk next first k zero = ap (walk next first) (sym (add-zero k))
walk-walk next first k (suc i) = ap (λ b. slice_index next b) (walk-walk next first k i) ∙ ap (walk next first) (sym (add-suc k i))

-- a link of a block that is not on the way does not matter
pub walk-set : (next : List ℕ) (b v first i : ℕ) → ((j : ℕ) → j < i → walk next first j ≢ b) → walk (slice_set next b v) first i ≡ walk next first i
unfolding walk
walk-set next b v first zero off = refl
walk-set next b v first (suc i) off =
    ap (λ c. slice_index (slice_set next b v) c) (walk-set next b v first i (λ j h. off j (omega arith)))
    ∙ get_or-set_other next b (walk next first i) v 0 (off i (omega arith))

-- where each position of the new chains was before
data Origin (d free k e i from at : ℕ) : Type 0 where
  taken : e ≡ d → i < k → from ≡ free → at ≡ i → Origin d free k e i from at
  left : e ≡ free → from ≡ free → at ≡ k + i → Origin d free k e i from at
  other : (e ≢ d) → (e ≢ free) → from ≡ e → at ≡ i → Origin d free k e i from at

same_origin : (d free k e f i j from at : ℕ) → Origin d free k e i from at → Origin d free k f j from at → (e ≡ f) × (i ≡ j)
same_origin d free k e f i j from at (taken a b c g) (taken a' b' c' g') = (omega arith, omega arith)
same_origin d free k e f i j from at (taken a b c g) (left a' c' g') = absurd (omega arith)
same_origin d free k e f i j from at (taken a b c g) (other a' b' c' g') = absurd (b' (omega arith))
same_origin d free k e f i j from at (left a c g) (taken a' b' c' g') = absurd (omega arith)
same_origin d free k e f i j from at (left a c g) (left a' c' g') = (omega arith, omega arith)
same_origin d free k e f i j from at (left a c g) (other a' b' c' g') = absurd (b' (omega arith))
same_origin d free k e f i j from at (other a b c g) (taken a' b' c' g') = absurd (b (omega arith))
same_origin d free k e f i j from at (other a b c g) (left a' c' g') = absurd (b (omega arith))
same_origin d free k e f i j from at (other a b c g) (other a' b' c' g') = (omega arith, omega arith)

-- the first k free blocks become the chain of d
module _ (next : List ℕ) (heads heads' sizes sizes' : ℕ → ℕ) (d free k : ℕ) (differ : d ≡ free → ⊥) (room : k ≤ sizes free) (apart : Disjoint next heads sizes) (hd : heads' d ≡ heads free) (hf : heads' free ≡ walk next (heads free) k) (ho : (e : ℕ) → (e ≢ d) → (e ≢ free) → heads' e ≡ heads e) (sd : sizes' d ≡ k) (sf : sizes' free ≡ sizes free - k) (so : (e : ℕ) → (e ≢ d) → (e ≢ free) → sizes' e ≡ sizes e) where
  record Was (e i : ℕ) : Type 0 where
    from : ℕ
    at : ℕ
    low : at < sizes from
    same : walk next (heads' e) i ≡ walk next (heads from) at
    origin : Origin d free k e i from at

  was : (e i : ℕ) → i < sizes' e → Was e i
  was e i h =
      ⊎_elim
      (λ (p : e ≡ d).
      let s = ap sizes' p in
      record { from = free; at = i; low = omega arith; same = ap (λ z. walk next z i) (ap heads' p ∙ hd); origin = taken p (omega arith) refl refl })
      (λ (p : e ≡ d → ⊥). ⊎_elim
      (λ (q : e ≡ free).
      let s = ap sizes' q in
      record { from = free; at = k + i; low = omega arith; same = ap (λ z. walk next z i) (ap heads' q ∙ hf) ∙ walk-walk next (heads free) k i; origin = left q refl refl })
      (λ (q : e ≡ free → ⊥).
      let s = so e p q in
      record { from = e; at = i; low = omega arith; same = ap (λ z. walk next z i) (ho e p q); origin = other p q refl refl })
      (cases_eq e free))
      (cases_eq e d)

  pub taken_apart : Disjoint next heads' sizes'
  taken_apart e f i j h l z =
      let v = was e i h in
      let w = was f j l in
      let t = apart v.from w.from v.at w.at v.low w.low (sym v.same ∙ z ∙ w.same) in
      same_origin d free k e f i j v.from v.at v.origin (rw (sym t.0, sym t.1) at w.origin)

-- where each position was before the chain of d was put before the free ones
data Source (d free k e i from at : ℕ) : Type 0 where
  front : e ≡ free → from ≡ d → at ≡ i → Source d free k e i from at
  back : e ≡ free → from ≡ free → k + at ≡ i → Source d free k e i from at
  other : (e ≢ d) → (e ≢ free) → from ≡ e → at ≡ i → Source d free k e i from at

same_source : (d free k e f i j from at : ℕ) → (d ≢ free) → Source d free k e i from at → Source d free k f j from at → (e ≡ f) × (i ≡ j)
same_source d free k e f i j from at ne (front a b c) (front a' b' c') = (omega arith, omega arith)
same_source d free k e f i j from at ne (front a b c) (back a' b' c') = absurd (ne (omega arith))
same_source d free k e f i j from at ne (front a b c) (other a' b' c' g') = absurd (a' (omega arith))
same_source d free k e f i j from at ne (back a b c) (front a' b' c') = absurd (ne (omega arith))
same_source d free k e f i j from at ne (back a b c) (back a' b' c') = (omega arith, omega arith)
same_source d free k e f i j from at ne (back a b c) (other a' b' c' g') = absurd (b' (omega arith))
same_source d free k e f i j from at ne (other a b c g) (front a' b' c') = absurd (a (omega arith))
same_source d free k e f i j from at ne (other a b c g) (back a' b' c') = absurd (b (omega arith))
same_source d free k e f i j from at ne (other a b c g) (other a' b' c' g') = (omega arith, omega arith)

-- the chain of d is put before the free blocks: the ways before and after
pub walk_other : (next : List ℕ) (heads sizes : ℕ → ℕ) (d free : ℕ) → 1 ≤ sizes d → Disjoint next heads sizes → (e i : ℕ) → (e ≢ d) → i ≤ sizes e → walk (slice_set next (walk next (heads d) (sizes d - 1)) (heads free)) (heads e) i ≡ walk next (heads e) i
walk_other next heads sizes d free some apart e i ne h = walk-set next (walk next (heads d) (sizes d - 1)) (heads free) (heads e) i (λ j l z. ne (apart e d j (sizes d - 1) (omega arith) (omega arith) z).0)

module _ (next : List ℕ) (heads heads' sizes sizes' : ℕ → ℕ) (d free : ℕ) (differ : d ≡ free → ⊥) (some : 1 ≤ sizes d) (last : walk next (heads d) (sizes d - 1) < length next) (apart : Disjoint next heads sizes) where
  walk_front : (i : ℕ) → i < sizes d → walk (slice_set next (walk next (heads d) (sizes d - 1)) (heads free)) (heads d) i ≡ walk next (heads d) i
  walk_front i h = walk-set next (walk next (heads d) (sizes d - 1)) (heads free) (heads d) i (λ j l z. let t = (apart d d j (sizes d - 1) (omega arith) (omega arith) z).1 in omega arith)

  walk_end : walk (slice_set next (walk next (heads d) (sizes d - 1)) (heads free)) (heads d) (sizes d) ≡ heads free
  walk_end =
      let e : sizes d ≡ sizes d - 1 + 1 = omega arith in
      let b = walk next (heads d) (sizes d - 1) in
      ap (walk (slice_set next b (heads free)) (heads d)) e
      ∙ walk_more (slice_set next b (heads free)) (heads d) (sizes d - 1)
      ∙ ap (λ z. slice_index (slice_set next b (heads free)) z) (walk_front (sizes d - 1) (omega arith))
      ∙ get_or-set_same next b (heads free) 0 last

  walk_back : (i : ℕ) → i < sizes free → walk (slice_set next (walk next (heads d) (sizes d - 1)) (heads free)) (heads d) (sizes d + i) ≡ walk next (heads free) i
  walk_back i h =
      let next' = set next (walk next (heads d) (sizes d - 1)) (heads free) in
      sym (walk-walk next' (heads d) (sizes d) i) ∙ ap (λ z. walk next' z i) walk_end ∙ walk_other next heads sizes d free some apart free i (λ z. differ (sym z)) (omega arith)

  module _ (hf : heads' free ≡ heads d) (ho : (e : ℕ) → (e ≢ d) → (e ≢ free) → heads' e ≡ heads e) (sd : sizes' d ≡ 0) (sf : sizes' free ≡ sizes free + sizes d) (so : (e : ℕ) → (e ≢ d) → (e ≢ free) → sizes' e ≡ sizes e) where
    record Came (e i : ℕ) : Type 0 where
      from : ℕ
      at : ℕ
      low : at < sizes from
      same : walk (slice_set next (walk next (heads d) (sizes d - 1)) (heads free)) (heads' e) i ≡ walk next (heads from) at
      source : Source d free (sizes d) e i from at

    came : (e i : ℕ) → i < sizes' e → Came e i
    came e i h =
        let next' = set next (walk next (heads d) (sizes d - 1)) (heads free) in
        ⊎_elim
        (λ (p : e ≡ free).
        let s = ap sizes' p in
        let way = ap (λ z. walk next' z i) (ap heads' p ∙ hf) in
        ⊎_elim
        (λ (l : i < sizes d). record { from = d; at = i; low = l; same = way ∙ walk_front i l; source = front p refl refl })
        (λ (l : sizes d ≤ i).
        let m : sizes d + (i - sizes d) ≡ i = omega arith in
        let low : i - sizes d < sizes free = omega arith in
        record { from = free; at = i - sizes d; low = low; same = way ∙ ap (walk next' (heads d)) (sym m) ∙ walk_back (i - sizes d) low; source = back p refl m })
        (cases_lt i (sizes d)))
        (λ (p : e ≡ free → ⊥). ⊎_elim
        (λ (q : e ≡ d). let s = ap sizes' q in absurd (omega arith))
        (λ (q : e ≡ d → ⊥).
        let s = so e q p in
        record { from = e; at = i; low = omega arith; same = ap (λ z. walk next' z i) (ho e q p) ∙ walk_other next heads sizes d free some apart e i q (omega arith); source = other q p refl refl })
        (cases_eq e d))
        (cases_eq e free)

    pub freed_apart : Disjoint (slice_set next (walk next (heads d) (sizes d - 1)) (heads free)) heads' sizes'
    freed_apart e f i j h l z =
        let v = came e i h in
        let w = came f j l in
        let t = apart v.from w.from v.at w.at v.low w.low (sym v.same ∙ z ∙ w.same) in
        same_source d free (sizes d) e f i j v.from v.at differ v.source (rw (sym t.0, sym t.1) at w.source)
