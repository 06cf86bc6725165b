-- Octets put into an output, one after another.
use Rattle.std.proofs.Common.{◌≡◌, ℕ, zero, suc, ◌+◌, ◌-◌, ◌*◌, ◌<◌, ◌≤◌, min, List, [], ◌++◌, length, take, drop, get_or, Some, None, Ok, Option, Bor, unwrap_or, refl, sym, ap, ◌∙◌, append_assoc, append-nil, add-one, take-suc, ◌∷◌, length-append, inl, inr, arith}
use Rattle.std.proofs.lemmas.Bool.{cases_lt}
use Rattle.std.proofs.lemmas.Grind.{flat_map-append}
use Rattle.std.proofs.lemmas.List.{nil_from_length, take_at, drop_at, take-append-drop, length-drop, drop-drop}
use Rattle.std.specs.List.{flat_map}
use Rattle.std.specs.Simd.{first_chunks}
use Rattle.octets.specs.Octets.{written}
use Rattle.octets.proofs.Writes.{then-written, length-written}
use Rattle.warning.specs.declared.Warning.TheVariants.{Primary, Message}
use Rattle.warning.specs.Meaning.{lent}
use Rattle.warning.specs.Notice.{Notice, outline}
use Rattle.tape.specs.declared.output.Output.{Output}
use Rattle.tape.specs.Format.{encode, octets_of, piece, pieces}
use Rattle.tape.specs.Writing.{costed, write_outcome, head_octets, body_octets, HasRoom, HasPut}
use Rattle.tape.proofs.Costs.{costed-cost, costed-right, length-encode, room_for, write_fits}
use Rattle.tape.proofs.Pieces.{pieces_step, pieces_last, pieces_none}

-- lent octets, or others where they are absent
pub now_or : (part : Option (Bor (List ℕ))) (none : Bor (List ℕ)) → none.now ≡ [] → (unwrap_or part none).now ≡ octets_of (lent part)
now_or None none e = e
now_or (Some octets) none e = refl

-- a warning on tape is its head and then its body
pub head-body : (w : Notice) → encode w ≡ head_octets (outline w) ++ body_octets w
head-body (Primary pair warning-type None) = refl
head-body (Primary pair warning-type (Some octets)) = refl
head-body (Message block pair coding octets None) = refl
head-body (Message block pair coding octets (Some area)) = refl

-- the head of a warning whose cost is free leaves room for its body
pub body_room : (w : Notice) (n at at₁ : ℕ) (m m₁ : List ℕ) → Ok n ≡ costed (outline w) → n ≤ length m - at → at₁ ≡ at + length (head_octets (outline w)) → m₁ ≡ written at (head_octets (outline w)) m → at₁ + length (body_octets w) ≤ length m₁
body_room w n at at₁ m m₁ e free place after =
    let fit = room_for w n at m e free in
    let whole = ap length (head-body w) ∙ length-append (head_octets (outline w)) (body_octets w) in
    let same = ap length after ∙ length-written m (head_octets (outline w)) at (omega arith) in
    omega arith

-- both of them are the warning, and what writing it answers
pub both_put : (w : Notice) (n at at₁ at₂ : ℕ) (m m₁ m₂ : List ℕ) → Ok n ≡ costed (outline w) → n ≤ length m - at
    → at₁ ≡ at + length (head_octets (outline w)) → m₁ ≡ written at (head_octets (outline w)) m
    → at₂ ≡ at₁ + length (body_octets w) → m₂ ≡ written at₁ (body_octets w) m₁
    → (Ok at₂ ≡ write_outcome (outline w) (length m - at) at) × (m₂ ≡ written at (encode w) m)
both_put w n at at₁ at₂ m m₁ m₂ e free place head end body =
    let fit = room_for w n at m e free in
    let cost = costed-cost (outline w) n e in
    let long = length-encode w (costed-right (outline w) n e) in
    let whole = ap length (head-body w) ∙ length-append (head_octets (outline w)) (body_octets w) in (
      write_fits (costed (outline w)) n (length m - at) at at₂ e free (omega arith),
      rw (head-body w) (then-written m m₁ m₂ (head_octets (outline w)) (body_octets w) at at₁ head body place (omega arith)),
    )

pub then_put : (a b c : Output) (xs ys : List ℕ) → HasPut a xs b → HasPut b ys c → HasRoom a xs → HasPut a (xs ++ ys) c
then_put a b c xs ys p q fit = (
  rw length-append (omega (arith, p.0, q.0)),
  then-written a.memory.now b.memory.now c.memory.now xs ys a.at b.at p.1 q.1 p.0 (omega (arith, p.0)),
  q.2 ∙ p.2,
)

-- a part begins with its first data command
pub pieces_first : (all first rest : List ℕ) → all ≡ first ++ rest → length first ≡ min 32 (length all) → 0 < length all → pieces all ≡ piece first ++ pieces rest
pieces_first all first rest parts size some =
    let sum = ap length parts ∙ length-append first rest in
    elim (cases_lt (length all) 32) [
      | inl short ↦
          let none : rest ≡ [] = nil_from_length rest (omega arith) in
          let whole : all ≡ first = parts ∙ rw none (append-nil first) in
          pieces_last all some (omega arith) ∙ rw (whole, none, pieces_none) (sym (append-nil _))
      | inr long ↦
          let front : take 32 all ≡ first = rw parts (take_at first rest 32 (omega arith)) in
          let back : drop 32 all ≡ rest = rw parts (drop_at first rest 32 (omega arith)) in
          pieces_step all some ∙ rw (front, back)
    ]

-- what is put while the data commands of a part are written: some of them, and the rest are still to come
abbrev pub PutSoFar : Output → List ℕ → Output → List ℕ → Type 0
PutSoFar start part now rest = (done : List ℕ) × (HasPut start done now) × (done ++ pieces rest ≡ pieces part)

pub so_far_room : (start now : Output) (part rest first more : List ℕ) → PutSoFar start part now rest → HasRoom start (pieces part)
    → rest ≡ first ++ more → length first ≡ min 32 (length rest) → 0 < length rest → HasRoom now (piece first)
so_far_room start now part rest first more (done, put, whole) fit parts size some =
    let total = ap length (sym whole) ∙ length-append done (pieces rest) in
    let next = ap length (pieces_first rest first more parts size some) ∙ length-append (piece first) (pieces more) in
    let same = ap length put.1 ∙ length-written start.memory.now done start.at (omega arith) in
    omega (arith, put.0)

pub so_far_more : (start now next : Output) (part rest first more : List ℕ) → PutSoFar start part now rest → HasRoom start (pieces part)
    → rest ≡ first ++ more → length first ≡ min 32 (length rest) → 0 < length rest → HasPut now (piece first) next → PutSoFar start part next more
so_far_more start now next part rest first more (done, put, whole) fit parts size some one =
    let total = ap length (sym whole) ∙ length-append done (pieces rest) in (
      done ++ piece first,
      then_put start now next done (piece first) put one (omega arith),
      append_assoc done (piece first) (pieces more) ∙ ap (λ z. done ++ z) (sym (pieces_first rest first more parts size some)) ∙ whole,
    )

-- a part is its full data commands, and those of the rest
all_full : (k : ℕ) (xs : List ℕ) → k * 32 ≤ length xs → flat_map piece (first_chunks 32 k xs) ++ pieces (drop (k * 32) xs) ≡ pieces xs
all_full zero xs h = refl
all_full (suc k) xs h =
    let rest = all_full k (drop 32 xs) (omega (arith, length-drop 32 xs)) in
    let there : drop (k * 32) (drop 32 xs) ≡ drop (suc k * 32) xs = drop-drop (k * 32) 32 xs ∙ ap (λ n. drop n xs) (omega arith) in
    append_assoc (piece (take 32 xs)) (flat_map piece (first_chunks 32 k (drop 32 xs))) (pieces (drop (suc k * 32) xs))
    ∙ ap (λ z. piece (take 32 xs) ++ (flat_map piece (first_chunks 32 k (drop 32 xs)) ++ pieces z)) (sym there)
    ∙ ap (λ z. piece (take 32 xs) ++ z) rest ∙ sym (pieces_step xs (omega arith))

pub full_room : (start : Output) (part : List ℕ) (k : ℕ) → k * 32 ≤ length part → HasRoom start (pieces part) → HasRoom start (flat_map piece (first_chunks 32 k part))
full_room start part k h fit =
    let whole = ap length (sym (all_full k part h)) ∙ length-append (flat_map piece (first_chunks 32 k part)) (pieces (drop (k * 32) part)) in
    omega arith

pub full_so_far : (start now : Output) (part rest : List ℕ) (k : ℕ) → k * 32 ≤ length part → rest ≡ drop (k * 32) part → HasPut start (flat_map piece (first_chunks 32 k part)) now → PutSoFar start part now rest
full_so_far start now part rest k h e put = (flat_map piece (first_chunks 32 k part), put, ap (λ z. flat_map piece (first_chunks 32 k part) ++ pieces z) e ∙ all_full k part h)

-- the last data command, if there are octets left for it
pub all_put : (start now : Output) (part rest : List ℕ) → length rest ≡ 0 → PutSoFar start part now rest → HasPut start (pieces part) now
all_put start now part rest none (done, put, whole) =
    let e : rest ≡ [] = nil_from_length rest none in
    rw (rw (e, pieces_none, append-nil) at whole) at put

module _ (start now : Output) (part rest : List ℕ) (so_far : PutSoFar start part now rest) (fit : HasRoom start (pieces part)) (some : 0 < length rest) (few : length rest ≤ 32) where
  pub last_room : HasRoom now (piece rest)
  last_room = so_far_room start now part rest rest [] so_far fit (sym (append-nil rest)) (omega arith) some

  pub last_put : (next : Output) → HasPut now (piece rest) next → HasPut start (pieces part) next
  last_put next put = all_put start next part [] refl (so_far_more start now next part rest rest [] so_far fit (sym (append-nil rest)) (omega arith) some put)

-- one full data command more
module _ (ps : List (List ℕ)) (i : ℕ) (inside : i < length ps) where
  pub full_pieces_more : flat_map piece (take (i + 1) ps) ≡ flat_map piece (take i ps) ++ piece (get_or ps i [])
  full_pieces_more =
      ap (λ n. flat_map piece (take n ps)) (add-one i) ∙ ap (flat_map piece) (take-suc ps i [] inside)
      ∙ flat_map-append piece (take i ps) (get_or ps i [] ∷ []) ∙ ap (λ z. flat_map piece (take i ps) ++ z) (append-nil (piece (get_or ps i [])))

  pub full_pieces_within : length (flat_map piece (take (i + 1) ps)) ≤ length (flat_map piece ps)
  full_pieces_within =
      let whole = ap (λ z. length (flat_map piece z)) (sym (take-append-drop (i + 1) ps)) ∙ ap length (flat_map-append piece (take (i + 1) ps) (drop (i + 1) ps))
      ∙ length-append (flat_map piece (take (i + 1) ps)) (flat_map piece (drop (i + 1) ps)) in
      omega arith
