-- What changes of a part of a slice leave.
use Rattle.std.proofs.Common.{◌≡◌, ℕ, ◌+◌, ◌-◌, ◌<◌, ◌≤◌, Bool, true, List, [], ◌∷◌, ◌++◌, length, get_or, set, take, drop, ap, ◌∙◌, take-take, arith}
use borrow.Rule.Slice.PartMut.{put_mid}
use Rattle.std.specs.List.{remove}
use Rattle.std.proofs.lemmas.List.{length-append, length-take-le, take-append-le, take_at}
use Rattle.std.proofs.lemmas.List.Edits.{length-remove}
use Rattle.std.proofs.lemmas.List.Filters.{FiltersInPlace, FiltersInPlace-more_set}
use Rattle.std.proofs.lemmas.Slice.{put_mid-rotated}

module _ {X : Type 0} where
  -- a turn of the tail by one place leaves the others in front
  pub take-rotated : (xs : List X) (i : ℕ) (ys : List X) → i < length xs → ys ≡ drop 1 (take (length xs - i) (drop i xs)) ++ take 1 (take (length xs - i) (drop i xs)) → take (length xs - 1) (put_mid i (length xs - i) xs ys) ≡ remove xs i
  take-rotated [] i ys h e = absurd (omega arith)
  take-rotated (x ∷ xs) i ys h e =
      let n = length-remove (x ∷ xs) i h in
      rw (put_mid-rotated i _ (x ∷ xs) ys x h (omega arith) e) (take_at (remove (x ∷ xs) i) _ _ (omega arith))

  -- the first n places of an array became ys, of which r were freed
  pub front_left : (n r : ℕ) (items last ys : List X) → n ≤ length items → length last ≡ length (take n items) → take (length (take n items) - r) last ≡ ys → take (n - r) (last ++ drop n items) ≡ ys
  front_left n r items last ys h len e =
      let long = length-take-le n items h in
      take-append-le (n - r) last (drop n items) (omega arith) ∙ (rw long at e)

  -- and where the place behind the first n took an element
  pub stored_front : (n : ℕ) (items last : List X) (x : X) → n < length items → last ≡ take (length (take (n + 1) items) - 1) (take (n + 1) items) ++ x ∷ [] → take (n + 1) (last ++ drop (n + 1) items) ≡ take n items ++ x ∷ []
  stored_front n items last x h e =
      let less : length (take (n + 1) items) - 1 ≡ n = omega (arith, length-take-le (n + 1) items (omega arith)) in
      let all : last ≡ take n items ++ x ∷ [] = e ∙ ap (λ ys. ys ++ x ∷ []) (rw less (take-take n (n + 1) items (omega arith))) in
      let long = ap length all ∙ length-append (take n items) (x ∷ []) in
      take_at last (drop (n + 1) items) (n + 1) (omega (arith, long, length-take-le n items (omega arith))) ∙ all

  -- what stays is put behind what stayed before it
  pub stays_at : {p : X → Bool} {xs ys : List X} {k i at : ℕ} {x : X} → FiltersInPlace p xs ys k i → i < length ys → p x ≡ true → x ≡ get_or ys i x → at ≡ k → FiltersInPlace p xs (set ys at x) (k + 1) (i + 1)
  stays_at h lt stays is here = rw here (FiltersInPlace-more_set h lt stays is)
