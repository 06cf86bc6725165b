-- Chains of blocks, written and read one block after another.
use Rattle.std.proofs.Common.{◌≡◌, ℕ, zero, suc, ◌+◌, ◌-◌, ◌*◌, ◌/◌, ◌<◌, ◌≤◌, ◌≢◌, min, List, [], ◌∷◌, ◌++◌, map, length, get_or, take, drop, set, sym, refl, ap, ◌∙◌, ⊎_elim, add-one, take-add, arith}
use Rattle.std.proofs.lemmas.List.{get_or-map, get_or-set_same, get_or-set_other, length-map, nil_from_length, take_at, take_all, drop_at, append_assoc, append-nil, length-append, length-take-le, length-drop}
use Rattle.std.proofs.lemmas.Bool.{cases_lt}
use Rattle.octets.specs.Octets.{written}
use Rattle.octets.proofs.Writes.{then-written, written_none}
use Rattle.pool.specs.declared.blocks.Block.{Block}
use Rattle.pool.specs.declared.blocks.Blocks.{Blocks}
use Rattle.pool.specs.declared.blocks.Link.{Link}
use Rattle.pool.specs.Numbers.{block_count, block_octets, blocks_for}
use Rattle.pool.specs.Chains.{links, parts, block, walk, gathered, Straight, Laid}

-- chains of k blocks
pub gathered_none : (octets : List (List ℕ)) (next : List ℕ) (first : ℕ) → gathered octets next first 0 ≡ []
unfolding gathered
gathered_none octets next first = refl

pub gathered-more : (octets : List (List ℕ)) (next : List ℕ) (first k : ℕ) → gathered octets next first (k + 1) ≡ gathered octets next first k ++ block octets (walk next first k)
unfolding gathered
gathered-more octets next first k = rw add-one

pub walk_none : (next : List ℕ) (first : ℕ) → walk next first 0 ≡ first
unfolding walk
walk_none next first = refl

pub walk_more : (next : List ℕ) (first k : ℕ) → walk next first (k + 1) ≡ get_or next (walk next first k) 0
unfolding walk
walk_more next first k = rw add-one

-- the same blocks give the same octets
pub gathered-same : (octets octets' : List (List ℕ)) (next next' : List ℕ) (first k : ℕ) → ((i : ℕ) → i < k → walk next' first i ≡ walk next first i) → ((i : ℕ) → i < k → block octets' (walk next first i) ≡ block octets (walk next first i)) → gathered octets' next' first k ≡ gathered octets next first k
unfolding gathered
gathered-same octets octets' next next' first zero w e = refl
gathered-same octets octets' next next' first (suc k) w e =
    let ih = gathered-same octets octets' next next' first k (λ i h. w i (omega arith)) (λ i h. e i (omega arith)) in
    let b = ap (block octets') (w k (omega arith)) ∙ e k (omega arith) in
    rw (ih, b)

-- what blocks fulfil
low_links : (xs : List Block) (i : ℕ) → get_or (map (λ x. x.next.block) xs) i 0 < block_count
low_links [] i = omega arith
low_links (x ∷ xs) zero = x.next.there
low_links (x ∷ xs) (suc i) = low_links xs i

pub walk_inside : (b : Blocks) (first : Link) (k : ℕ) → walk (links b) first.block k < block_count
unfolding walk
walk_inside b first zero = first.there
walk_inside b first (suc k) = low_links b.blocks (walk (links b) first.block k)

pub length-links : (b : Blocks) → length (links b) ≡ block_count
length-links b = length-map b.blocks (λ x. x.next.block) ∙ b.all

pub block_at : (b : Blocks) (i : ℕ) (x : Block) → i < block_count → block (parts b) i ≡ (get_or b.blocks i x).octets
block_at b i x low = get_or-map (λ y. y.octets) b.blocks i x [] (omega (arith, b.all))

pub length-block : (b : Blocks) (i : ℕ) → i < block_count → length (block (parts b) i) ≡ block_octets
length-block b i low = of b.blocks i (omega (arith, b.all))
  where
    of : (xs : List Block) (i : ℕ) → i < length xs → length (get_or (map (λ y. y.octets) xs) i []) ≡ block_octets
    of [] i h = absurd (omega arith)
    of (x ∷ xs) zero h = x.long
    of (x ∷ xs) (suc i) h = of xs i (omega arith)

-- the link of the block that was reached leads one block on
pub walk_on : (b : Blocks) (first k i : ℕ) (x : Block) → i < block_count → i ≡ walk (links b) first k → (get_or b.blocks i x).next.block ≡ walk (links b) first (k + 1)
walk_on b first k i x low w = sym (walk_more (links b) first k ∙ ap (λ j. get_or (links b) j 0) (sym w) ∙ get_or-map (λ y. y.next.block) b.blocks i x 0 (omega (arith, b.all)))

-- all chains are long enough
pub length-gathered : (b : Blocks) (first : Link) (k : ℕ) → length (gathered (parts b) (links b) first.block k) ≡ k * block_octets
unfolding gathered
length-gathered b first zero = refl
length-gathered b first (suc k) =
    let ih = length-gathered b first k in
    let l = length-block b (walk (links b) first.block k) (walk_inside b first k) in
    length-append (gathered (parts b) (links b) first.block k) _ ∙ omega arith

-- octets are laid into a chain, part by part: those that are done stand in the first i blocks
pub record Laying (initial now : Blocks) (first link : ℕ) (segment rest : List ℕ) : Type 0 where
  pub same : links now ≡ links initial
  pub done : List ℕ
  pub i : ℕ
  pub at : link ≡ walk (links initial) first i
  pub counted : i ≡ (length done + 31) / 32
  pub cut : segment ≡ done ++ rest
  pub whole : 0 < length rest → length done ≡ i * block_octets
  pub laid : Laid (parts initial) (parts now) (links initial) first done i

pub laying_none : (b : Blocks) (first : ℕ) (segment rest : List ℕ) → rest ≡ segment → Laying b b first first segment rest
laying_none b first segment rest e = record {
  same = refl;
  done = [];
  i = 0;
  at = sym (walk_none (links b) first);
  counted = omega arith;
  cut = sym e;
  whole = λ _. refl;
  laid = record { others = λ _ _. refl; content = refl };
}

module _ (initial now now' : Blocks) (first link link' : Link) (segment rest rest' part : List ℕ) (straight : Straight (links initial) first.block (blocks_for (length segment))) (l : Laying initial now first.block link.block segment rest) (p : rest ≡ part ++ rest') (size : length part ≡ min block_octets (length rest)) (more : 0 < length rest) (next : link'.block ≡ get_or (links now) link.block 0) (same : links now' ≡ links now) (new : parts now' ≡ set (parts now) link.block (written 0 part (block (parts now) link.block))) where
  here : block (parts now') link.block ≡ part ++ drop (0 + length part) (block (parts now) link.block)
  here = ap (λ z. block z link.block) new ∙ get_or-set_same (parts now) link.block (written 0 part (block (parts now) link.block)) [] (omega (arith, link.there, now.all, length-map now.blocks (λ z. z.octets)))

  there : (c : ℕ) → (link.block ≢ c) → block (parts now') c ≡ block (parts now) c
  there c ne = ap (λ z. block z c) new ∙ get_or-set_other (parts now) link.block c (written 0 part (block (parts now) link.block)) [] (λ e. ne (sym e))

  longer : length rest ≡ length part + length rest'
  longer = ap length p ∙ length-append part rest'

  total : length segment ≡ length l.done + length rest
  total = ap length l.cut ∙ length-append l.done rest

  before : gathered (parts now') (links initial) first.block l.i ≡ l.done
  before =
      let g = gathered (parts now) (links initial) first.block l.i in
      let s : gathered (parts now') (links initial) first.block l.i ≡ g = gathered-same (parts now) (parts now') (links initial) (links initial) first.block l.i (λ j _. refl) (λ j h. there (walk (links initial) first.block j) (λ e. let t = straight j l.i (omega (arith, total, l.whole more)) (omega (arith, total, l.whole more)) (sym e ∙ l.at) in omega arith)) in
      let n : length g ≡ l.i * block_octets = ap (λ z. length (gathered (parts now) z first.block l.i)) (sym l.same) ∙ length-gathered now first l.i in
      s ∙ sym (take_all (length l.done) g (omega (arith, l.whole more))) ∙ l.laid.content

  pub laying_more : Laying initial now' first.block link'.block segment rest'
  laying_more = record {
    same = same ∙ l.same;
    done = l.done ++ part;
    i = l.i + 1;
    at = next ∙ ap (λ z. get_or z link.block 0) l.same ∙ ap (λ j. get_or (links initial) j 0) l.at ∙ sym (walk_more (links initial) first.block l.i);
    counted = let n = length-append l.done part in omega (arith, size, l.whole more);
    cut = l.cut ∙ ap (λ z. l.done ++ z) p ∙ sym (append_assoc l.done part rest');
    whole = λ h. let n = length-append l.done part in omega (arith, size, longer, l.whole more);
    laid = record {
      others = λ c ne. there c (λ e. ne l.i (omega arith) (sym l.at ∙ e)) ∙ l.laid.others c (λ j h. ne j (omega arith));
      content =
          let tail = drop (0 + length part) (block (parts now) link.block) in
          ap (take (length (l.done ++ part)))
          (gathered-more (parts now') (links initial) first.block l.i
          ∙ ap (λ z. z ++ block (parts now') (walk (links initial) first.block l.i)) before
          ∙ ap (λ z. l.done ++ block (parts now') z) (sym l.at)
          ∙ ap (λ z. l.done ++ z) here
          ∙ sym (append_assoc l.done part tail))
          ∙ take_at (l.done ++ part) tail (length (l.done ++ part)) refl;
    };
  }

-- where no octets are left, those that are done are the segment's
module _ (initial now : Blocks) (first link : ℕ) (segment rest : List ℕ) (l : Laying initial now first link segment rest) (none : length rest ≡ 0) where
  all_done : segment ≡ l.done
  all_done = l.cut ∙ ap (λ z. l.done ++ z) (nil_from_length rest none) ∙ append-nil l.done

  all_counted : l.i ≡ (length segment + 31) / 32
  all_counted = l.counted ∙ ap (λ z. (length z + 31) / 32) (sym all_done)

  pub laying_rest : 1 ≤ length segment → link ≡ walk (links initial) first (blocks_for (length segment))
  laying_rest some = l.at ∙ ap (walk (links initial) first) (omega (arith, all_counted))

  pub laying_all : Laid (parts initial) (parts now) (links initial) first segment (blocks_for (length segment))
  laying_all = record {
    others = λ b ne. l.laid.others b (λ j h. ne j (omega (arith, all_counted)));
    content = ⊎_elim
        (λ (h : length segment < 1).
        let z = nil_from_length segment (omega arith) in
        ap (λ k. take k (gathered (parts now) (links initial) first (blocks_for (length segment)))) (ap length z) ∙ sym z)
        (λ (h : 1 ≤ length segment).
        let k : blocks_for (length segment) ≡ l.i = omega (arith, all_counted) in
        ap (λ z. take (length segment) (gathered (parts now) (links initial) first z)) k
        ∙ ap (λ z. take (length z) (gathered (parts now) (links initial) first l.i)) all_done
        ∙ l.laid.content ∙ sym all_done)
        (cases_lt (length segment) 1);
  }

-- a list that is cut past its first part
take_past : (n : ℕ) (xs ys : List ℕ) → length xs ≤ n → take n (xs ++ ys) ≡ xs ++ take (n - length xs) ys
take_past n xs ys h =
    let e : length xs + (n - length xs) ≡ n = omega arith in
    ap (λ z. take z (xs ++ ys)) (sym e) ∙ take-add (length xs) (n - length xs) (xs ++ ys) ∙ rw (take_at xs ys _ refl, drop_at xs ys _ refl)

-- one more block is gathered into a memory of n octets
pub gather_none : (octets : List (List ℕ)) (next : List ℕ) (first n : ℕ) (m : List ℕ) → m ≡ written 0 (take n (gathered octets next first 0)) m
gather_none octets next first n m = sym (written_none m 0) ∙ ap (λ z. written 0 z m) (sym (ap (take n) (gathered_none octets next first) ∙ take_all n [] (omega arith)))

module _ (b : Blocks) (first : Link) (n i : ℕ) (m m₁ m₂ part : List ℕ) (low : i * block_octets ≤ n) (fits : n ≤ length m) where
  pub gather_more : part ≡ take (min block_octets (n - i * block_octets)) (block (parts b) (walk (links b) first.block i)) → m₁ ≡ written 0 (take n (gathered (parts b) (links b) first.block i)) m → m₂ ≡ written (i * block_octets) part m₁ → m₂ ≡ written 0 (take n (gathered (parts b) (links b) first.block (i + 1))) m
  gather_more p e f =
      let g = gathered (parts b) (links b) first.block i in
      let here = block (parts b) (walk (links b) first.block i) in
      let long = length-gathered b first i in
      let all = take_all n g (omega arith) in
      let size = length-block b (walk (links b) first.block i) (walk_inside b first i) in
      let cut : part ≡ take (n - i * block_octets) here = p ∙ ⊎_elim
      (λ (h : n - i * block_octets < block_octets). let z : min block_octets (n - i * block_octets) ≡ n - i * block_octets = omega arith in ap (λ k. take k here) z)
      (λ (h : block_octets ≤ n - i * block_octets). take_all (min block_octets (n - i * block_octets)) here (omega arith) ∙ sym (take_all (n - i * block_octets) here (omega arith)))
      (cases_lt (n - i * block_octets) block_octets) in
      let two = then-written m m₁ m₂ (take n g) part 0 (i * block_octets) e f (omega (arith, ap length all)) (omega arith) in
      let join : take n g ++ part ≡ take n (gathered (parts b) (links b) first.block (i + 1)) =
      ap (λ z. z ++ part) all ∙ ap (λ z. g ++ z) cut
      ∙ ap (λ z. g ++ take (n - z) here) (sym long)
      ∙ sym (take_past n g here (omega arith))
      ∙ ap (take n) (sym (gathered-more (parts b) (links b) first.block i)) in
      two ∙ ap (λ z. written 0 z m) join

pub gather_all : (b : Blocks) (first : Link) (i : ℕ) (m m' : List ℕ) → i ≡ (length m + 31) / 32 → m' ≡ written 0 (take (length m) (gathered (parts b) (links b) first.block i)) m → m' ≡ take (length m) (gathered (parts b) (links b) first.block (blocks_for (length m)))
gather_all b first i m m' e f =
    let g = gathered (parts b) (links b) first.block in
    ⊎_elim
    (λ (h : length m < 1).
    let z = nil_from_length m (omega arith) in
    rw z (f ∙ rw z))
    (λ (h : 1 ≤ length m).
    let k : i ≡ blocks_for (length m) = omega arith in
    let size = length-gathered b first i in
    let n = length-take-le (length m) (g i) (omega arith) in
    f ∙ ap (λ z. take (length m) (g i) ++ z) (nil_from_length (drop (0 + length (take (length m) (g i))) m) (length-drop (0 + length (take (length m) (g i))) m ∙ omega arith)) ∙ append-nil (take (length m) (g i)) ∙ ap (λ z. take (length m) (g z)) k)
    (cases_lt (length m) 1)
