-- The data commands of a part, one at a time.
use Rattle.std.proofs.Common.{◌≡◌, ℕ, zero, suc, ◌-◌, ◌*◌, ◌<◌, ◌≤◌, List, [], ◌++◌, ap, ◌∷◌, length, take, drop, replicate, refl, ◌∙◌, arith}
use Rattle.std.proofs.lemmas.List.{length-drop, length-append, length-replicate, length-take, take_all, drop_all, append-nil, drop-replicate, take-replicate}
use Rattle.tape.specs.Format.{piece, pieces, pieces_by, commands_for, part_cost}

pub pieces_none : pieces [] ≡ []
unfolding pieces
pieces_none = refl

pub commands_more : (n : ℕ) → 0 < n → commands_for n ≡ suc (commands_for (n - 32))
commands_more n h = omega arith

pub pieces_step : (xs : List ℕ) → 0 < length xs → pieces xs ≡ piece (take 32 xs) ++ pieces (drop 32 xs)
unfolding pieces
pieces_step xs h =
    let d = length-drop 32 xs in
    let more = commands_more (length xs) h in
    rw (more, d)

pub pieces_last : (xs : List ℕ) → 0 < length xs → length xs ≤ 32 → pieces xs ≡ piece xs
pieces_last xs h k = pieces_step xs h ∙ rw (take_all 32 xs k, drop_all 32 xs k, pieces_none) (append-nil _)

pub length-piece : (xs : List ℕ) → length xs ≤ 32 → length (piece xs) ≡ 34
length-piece xs h = rw (length-append, length-replicate) (omega arith)

-- a full data command has no zeros past its octets
pub full_piece : (xs : List ℕ) → length xs ≡ 32 → piece xs ≡ 0x44 ∷ 32 ∷ xs
full_piece xs h =
    let none : 32 - length xs ≡ 0 = omega arith in
    ap (λ n. 0x44 ∷ n ∷ (xs ++ replicate (32 - length xs) 0)) h ∙ rw none (ap (λ ys. 0x44 ∷ 32 ∷ ys) (append-nil xs))

-- zeros past a count
pub zeros_past : (n : ℕ) → n ≤ 32 → take {A = ℕ} (32 - n) (drop n (replicate 32 0)) ≡ replicate (32 - n) 0
zeros_past n h = rw drop-replicate (take-replicate (32 - n) (32 - n) 0 (omega arith))

length_by : (n : ℕ) (xs : List ℕ) → length (pieces_by n xs) ≡ n * 34
length_by zero xs = refl
length_by (suc n) xs =
    let t = length-take 32 xs in
    let p = length-piece (take 32 xs) (omega arith) in
    let r = length_by n (drop 32 xs) in
    rw (length-append (piece (take 32 xs)) (pieces_by n (drop 32 xs)), p, r) (omega arith)

pub length-pieces : (xs : List ℕ) → length (pieces xs) ≡ part_cost (length xs)
unfolding pieces
length-pieces xs = length_by (commands_for (length xs)) xs
