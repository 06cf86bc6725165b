-- How many entries are alike, after each change of a list.
use Rattle.std.proofs.Common.{◌≡◌, ℕ, suc, ◌+◌, ◌-◌, ◌<◌, ◌≤◌, Bool, true, false, cond, not, leb, List, [], ◌∷◌, ◌++◌, length, get_or, take, drop, is_some, Some, None, Decides, count_by, filter, Option, sym, refl, ap, ◌∙◌, ⊎_elim, take-take, arith}
use Rattle.std.specs.Option.{option_or}
use Rattle.std.specs.List.{remove, position, All}
use Rattle.std.proofs.lemmas.List.Filters.{sum_by-filter_both}
use Rattle.std.proofs.lemmas.List.Quantifiers.{position-Some}
use Rattle.std.proofs.lemmas.List.Sums.{sum_by-append, sum_by_push, sum_by-take-drop, sum_by-remove, sum_by-take-le, sum_by-le, sum_by-le-sum_by, fails_before_first}
use Rattle.std.proofs.lemmas.Bool.{cases_Bool, cond-true, cond-false, leb-true, leb-false, true≢false}
use Rattle.keys.specs.declared.Entry.{Entry}
use Rattle.keys.specs.Entries.{like, place, count_of, without, stored_last}
use Rattle.keys.specs.Memory.{makes_way, freed, remembered}
use Rattle.keys.specs.Limits.{AtMost}
use Rattle.keys.proofs.Slices.{front_left}

module _ {X : Type 0} (p : X → Bool) where
  -- nothing passes where nothing is found
  pub count-none : (xs : List X) → position p xs ≡ None → count_by p xs ≡ 0
  count-none xs e =
      let none : All (λ x. p x ≡ false) xs = λ k d l. fails_before_first p xs k d (grind arith) in
      omega (arith, sum_by-le (λ x. cond (p x) 1 0) 0 xs (λ k d l. grind (arith, none k d l)))

  count-kept : (q : X → Bool) (xs : List X) → count_by p (filter q xs) ≤ count_by p xs
  count-kept q xs = omega (arith, sum_by-filter_both q (λ x. not (q x)) (λ _. refl) (λ x. cond (p x) 1 0) xs)

  pub count-without : (o : Option ℕ) (xs : List X) → count_by p (without o xs) ≤ count_by p xs
  count-without None xs = omega arith
  count-without (Some i) xs =
      let f : X → ℕ = λ x. cond (p x) 1 0 in
      let parts : count_by p (remove xs i) ≡ count_by p (take i xs) + count_by p (drop (suc i) xs) = sum_by-append f (take i xs) (drop (suc i) xs) in
      let whole : count_by p (take (suc i) xs) + count_by p (drop (suc i) xs) ≡ count_by p xs = sum_by-take-drop f xs (suc i) in
      let less : count_by p (take i (take (suc i) xs)) ≤ count_by p (take (suc i) xs) = sum_by-take-le f (take (suc i) xs) i in
      let front : count_by p (take i (take (suc i) xs)) ≡ count_by p (take i xs) = ap (count_by p) (take-take i (suc i) xs (omega arith)) in
      omega (arith, parts, whole, less, front)

pub none_from_test : (o : Option ℕ) → is_some o ≡ false → o ≡ None
none_from_test None e = refl
none_from_test (Some i) e = absurd (true≢false e)

-- q passes where p does
module _ {X : Type 0} (p q : X → Bool) (wider : (x : X) → p x ≡ true → q x ≡ true) where
  pub count-first_removed : (xs : List X) (i : ℕ) → Some i ≡ position p xs → count_by q (remove xs i) + 1 ≡ count_by q xs
  count-first_removed [] i e = absurd (let z : ◌≡◌ {A = ℕ} 0 1 = cc in omega arith)
  count-first_removed (x ∷ xs) i e =
      let r = position-Some p (x ∷ xs) i x (sym e) in
      let less = sum_by-remove (λ y. cond (q y) 1 0) (x ∷ xs) i x r.0 in
      let one = cond-true {A = ℕ} (q (get_or (x ∷ xs) i x)) 1 0 (wider _ r.1) in
      omega (arith, less, one)

module _ {K : Type 0} (grouped : K → K → Bool) where
  -- nothing makes way only where there is room
  pub has_room : (most capacity : ℕ) (key : K) (xs : List (Entry K)) → 0 < most → 0 < capacity → makes_way grouped most capacity key xs ≡ None → length xs < capacity
  has_room most capacity key [] m c e = c
  has_room most capacity key (x ∷ xs) m c e = grind (arith, count-none (like grouped key) (x ∷ xs))

module _ {K : Type 0} (test : K → K → Bool) where
  -- of a list the first places, of which some were freed, became ys
  pub at_most_front : (n count freed : ℕ) (items last ys : List (Entry K)) → count ≤ length items → length last ≡ length (take count items) → take (length (take count items) - freed) last ≡ ys → AtMost n test ys → AtMost n test (take (count - freed) (last ++ drop count items))
  at_most_front n count freed items last ys h len e few = rw (front_left count freed items last ys h len e) few

  pub at_most_kept : (n : ℕ) (q : Entry K → Bool) (xs : List (Entry K)) → AtMost n test xs → AtMost n test (filter q xs)
  at_most_kept n q xs h = λ key. omega (arith, h key, count-kept (like test key) q xs)

  pub at_most_without : (n : ℕ) (o : Option ℕ) (xs : List (Entry K)) → AtMost n test xs → AtMost n test (without o xs)
  at_most_without n o xs h = λ key. omega (arith, h key, count-without (like test key) o xs)

  pub at_most_stored : ((x y z : K) → test x y ≡ true → test x z ≡ test y z) → (n : ℕ) (e : Entry K) (xs : List (Entry K)) → AtMost n test xs → count_of test e.key xs < n → AtMost n test (stored_last e xs)
  at_most_stored together n e xs h less = λ k.
      let more = sum_by_push (λ y. cond (like test k y) 1 0) xs e in
      ⊎_elim
      (λ t. let one = cond-true {A = ℕ} (test k e.key) 1 0 t in
      let alike = sum_by-le-sum_by (λ y. cond (like test k y) 1 0) (λ y. cond (like test e.key y) 1 0) xs (λ y. rw (together k e.key y.key t) (omega arith)) in
      omega (arith, more, one, alike, less))
      (λ f. let none = cond-false {A = ℕ} (test k e.key) 1 0 f in
      omega (arith, more, none, h k))
      (cases_Bool (test k e.key))

module _ {K : Type 0} (same : K → K → Bool) (decides : (x y : K) → Decides (same x y) (x ≡ y)) where
  pub same_together : (x y z : K) → same x y ≡ true → same x z ≡ same y z
  same_together x y z e = ap (λ k. same k z) ((decides x y).0 e)

  pub apart_stored : (e : Entry K) (xs : List (Entry K)) → None ≡ place same e.key xs → AtMost 1 same xs → AtMost 1 same (stored_last e xs)
  apart_stored e xs none h =
      at_most_stored same same_together 1 e xs h (omega (arith, count-none (like same e.key) xs (sym none)))

  -- no key stands twice in what is remembered
  own_freed : (key : K) (xs : List (Entry K)) (o w : Option ℕ) → o ≡ place same key xs → count_of same key xs ≤ 1 → count_of same key (without (option_or o w) xs) < 1
  own_freed key xs (Some i) w e h = omega (arith, count-first_removed (like same key) (like same key) (λ _ t. t) xs i e, h)
  own_freed key xs None w e h = omega (arith, count-without (like same key) w xs, count-none (like same key) xs (sym e))

  module _ (grouped : K → K → Bool) (own : (x : K) → grouped x x ≡ true) (together : (x y z : K) → grouped x y ≡ true → grouped x z ≡ grouped y z) where
    pub apart_remembered : (most capacity : ℕ) (e : Entry K) (xs : List (Entry K)) → AtMost 1 same xs → AtMost 1 same (remembered same grouped most capacity e xs)
    apart_remembered most capacity e xs h =
        let o = freed same grouped most capacity e.key xs in
        at_most_stored same same_together 1 e (without o xs) (at_most_without same 1 o xs h) (own_freed e.key xs (place same e.key xs) (makes_way grouped most capacity e.key xs) refl (h e.key))

    -- few entries of a group stand in what is remembered
    group_freed : (most : ℕ) (key : K) (xs : List (Entry K)) (o : Option ℕ) → 0 < most → most ≤ count_of grouped key xs → o ≡ place grouped key xs → count_of grouped key xs ≤ most → count_of grouped key (without o xs) < most
    group_freed most key xs (Some i) m many e h = omega (arith, count-first_removed (like grouped key) (like grouped key) (λ _ t. t) xs i e)
    group_freed most key xs None m many e h = absurd (omega (arith, count-none (like grouped key) xs (sym e)))

    way_freed : (most : ℕ) (key : K) (xs : List (Entry K)) (b : Bool) (w : Option ℕ) → 0 < most → b ≡ leb most (count_of grouped key xs) → count_of grouped key xs ≤ most → count_of grouped key (without (cond b (place grouped key xs) w) xs) < most
    way_freed most key xs true w m e h = group_freed most key xs (place grouped key xs) m (leb-true most (count_of grouped key xs) (sym e)) refl h
    way_freed most key xs false w m e h = omega (arith, count-without (like grouped key) w xs, leb-false most (count_of grouped key xs) (sym e))

    known_freed : (most capacity : ℕ) (key : K) (xs : List (Entry K)) (o : Option ℕ) → 0 < most → o ≡ place same key xs → count_of grouped key xs ≤ most → count_of grouped key (without (option_or o (makes_way grouped most capacity key xs)) xs) < most
    known_freed most capacity key xs (Some i) m e h =
        let mine : (x : Entry K) → same key x.key ≡ true → grouped key x.key ≡ true = λ x t. ap (λ k. grouped key k) (sym ((decides key x.key).0 t)) ∙ own key in
        omega (arith, count-first_removed (like same key) (like grouped key) mine xs i e)
    known_freed most capacity key xs None m e h = way_freed most key xs (leb most (count_of grouped key xs)) _ m refl h

    pub few_remembered : (most capacity : ℕ) (e : Entry K) (xs : List (Entry K)) → 0 < most → AtMost most grouped xs → AtMost most grouped (remembered same grouped most capacity e xs)
    few_remembered most capacity e xs m h =
        let o = freed same grouped most capacity e.key xs in
        at_most_stored grouped together most e (without o xs) (at_most_without grouped most o xs h) (known_freed most capacity e.key xs (place same e.key xs) m refl (h e.key))
