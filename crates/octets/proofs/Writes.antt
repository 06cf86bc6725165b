-- Writes to memory, one after another.
use Rattle.std.proofs.Common.{◌≡◌, ℕ, ◌+◌, ◌-◌, ◌≤◌, List, [], ◌++◌, length, take, drop, sym, ap, ◌∙◌, add-zero, add_assoc, arith}
use borrow.Rule.Slice.PartMut.{put_mid}
use Rattle.std.proofs.lemmas.List.{take_at, drop_at, drop-drop, append_assoc, length-append, length-take-le, length-drop, take-append-drop}
use Rattle.octets.specs.Octets.{written}

pub written-part : (m xs ys : List ℕ) (at : ℕ) → ys ≡ xs → put_mid at (at + length xs - at) m ys ≡ written at xs m
written-part m xs ys at e =
    let n : at + length xs - at ≡ length xs = omega arith in
    rw (e, n, drop-drop)

pub written_none : (m : List ℕ) (at : ℕ) → written at [] m ≡ m
written_none m at = rw add-zero (take-append-drop at m)

pub length-written : (m xs : List ℕ) (at : ℕ) → at + length xs ≤ length m → length (written at xs m) ≡ length m
length-written m xs at h =
    let t = length-take-le at m (omega arith) in
    let d = length-drop (at + length xs) m in
    rw (length-append, length-append) (omega arith)

pub written-written : (m xs ys : List ℕ) (at next : ℕ) → next ≡ at + length xs → next ≤ length m → written next ys (written at xs m) ≡ written at (xs ++ ys) m
written-written m xs ys at next e h =
    let front = take at m ++ xs in
    let rest = drop (at + length xs) m in
    let t = length-take-le at m (omega arith) in
    let long : length (take at m ++ xs) ≡ next = rw (length-append, t) (sym e) in
    let whole : written at xs m ≡ front ++ rest = sym (append_assoc (take at m) xs rest) in
    let a : take next (written at xs m) ≡ front = rw whole (take_at front rest next long) in
    let b : drop (next + length ys) (written at xs m) ≡ drop (at + length (xs ++ ys)) m
    = rw (whole, sym (drop-drop (length ys) next (front ++ rest)), drop_at front rest next long, drop-drop, length-append, add_assoc) in
    rw (a, b) (append_assoc (take at m) xs _ ∙ ap (λ z. take at m ++ z) (sym (append_assoc xs ys _)))

-- one write after another, as the contracts of two calls state them
pub then-written : (m₀ m₁ m₂ xs ys : List ℕ) (at next : ℕ) → m₁ ≡ written at xs m₀ → m₂ ≡ written next ys m₁ → next ≡ at + length xs → next ≤ length m₀ → m₂ ≡ written at (xs ++ ys) m₀
then-written m₀ m₁ m₂ xs ys at next a b e h = b ∙ ap (written next ys) a ∙ written-written m₀ xs ys at next e h
