-- What each operand gives, by the octets that are there.
use Rattle.std.proofs.Common.{◌≡◌, ℕ, ◌+◌, ◌-◌, ◌*◌, ◌<◌, ◌≤◌, Bool, true, false, cond, ◌&&◌, eqb, ltb, leb, List, [], ◌∷◌, length, get_or, take, drop, Some, Ok, Err, sym, refl, ap, ◌∙◌, arith}
use Rattle.std.proofs.lemmas.List.{take_all, take_rest, drop_all, get_or-take, length-take, get_or_past}
use Rattle.std.proofs.lemmas.Bool.{and_from, le-ltb, lt-ltb, le-leb, lt-leb, ne_eqb}
use Rattle.std.specs.List.{list_all}
use Rattle.octets.specs.Octets.{two_at}
use Rattle.tape.specs.declared.fault.TapeFault.{TapeFault}
use Rattle.tape.specs.declared.fault.TapeFault.TheVariants.{Unknown, Ended}
use Rattle.tape.specs.Reading.{Place, place, Read, then, operand, first_is, octet, of_number, number, number_to, all_zero, security_operand}
use Rattle.tape.proofs.Takes.{then_is, limited}

pub operand_wrong : (w : ℕ) (begins : List ℕ → Bool) (at : ℕ) (t : List ℕ) → begins (take w t) ≡ false → operand w begins (place at t) ≡ Err (Unknown at)
unfolding operand
operand_wrong w begins at t h = rw h

pub operand_short : (w : ℕ) (begins : List ℕ → Bool) (at : ℕ) (t : List ℕ) → begins (take w t) ≡ true → length t < w → operand w begins (place at t) ≡ Err (Ended (at + length t))
unfolding operand
operand_short w begins at t h k = let short : ltb (length t) w ≡ true = lt-ltb _ _ k in rw (h, short)

pub operand_long : (w : ℕ) (begins : List ℕ → Bool) (at : ℕ) (t : List ℕ) → begins (take w t) ≡ true → w ≤ length t → operand w begins (place at t) ≡ Ok (take w t, place (at + w) (drop w t))
unfolding operand
operand_long w begins at t h k = let long : ltb (length t) w ≡ false = le-ltb _ _ k in rw (h, long)

-- a value that could not be read
pub then_err : {X Y : Type 0} (r : Read X) (f : X → Place → Read Y) (e : TapeFault) → r ≡ Err e → then r f ≡ Err e
then_err r f e h = rw h

pub octet_none : (test : ℕ → Bool) (at : ℕ) (t : List ℕ) → length t < 1 → octet test (place at t) ≡ Err (Ended (at + length t))
unfolding octet
octet_none test at [] h = then_err _ _ _ (operand_short 1 (first_is test) at [] refl h)
octet_none test at (x ∷ t) h = absurd (omega arith)

-- an octet by what the test says of it
octet_right : (test : ℕ → Bool) (at x : ℕ) (t : List ℕ) → test x ≡ true → octet test (place at (x ∷ t)) ≡ Ok (x, place (at + 1) t)
unfolding octet
octet_right test at x t h = then_is _ _ (x ∷ []) (place (at + 1) t) (operand_long 1 (first_is test) at (x ∷ t) h (omega arith))

octet_wrong : (test : ℕ → Bool) (at x : ℕ) (t : List ℕ) → test x ≡ false → octet test (place at (x ∷ t)) ≡ Err (Unknown at)
unfolding octet
octet_wrong test at x t h = then_err _ _ _ (operand_wrong 1 (first_is test) at (x ∷ t) h)

-- any octet, as a slice's pattern finds it
pub octet-first : (at : ℕ) (t : List ℕ) → 1 ≤ length t → octet (λ c. true) (place at t) ≡ Ok (get_or t 0 0, place (at + 1) (take (length t - 1) (drop 1 t)))
octet-first at [] h = absurd (omega arith)
octet-first at (x ∷ t) h = octet_right (λ c. true) at x t refl ∙ ap (λ z. Ok (x, place (at + 1) z)) (sym (take_rest (x ∷ t) 1))

-- any octet first, and then the test
abbrev tested : (ℕ → Bool) → ℕ → ℕ → Place → Read ℕ
tested test at x q = cond (test x) (Ok (x, q)) (Err (Unknown at))

octet_by : (test : ℕ → Bool) (at x : ℕ) (t : List ℕ) (b : Bool) → test x ≡ b → octet test (place at (x ∷ t)) ≡ cond b (Ok (x, place (at + 1) t)) (Err (Unknown at))
octet_by test at x t true h = octet_right test at x t h
octet_by test at x t false h = octet_wrong test at x t h

octet-tested_at : (test : ℕ → Bool) (at : ℕ) (t : List ℕ) → octet test (place at t) ≡ then (octet (λ c. true) (place at t)) (tested test at)
octet-tested_at test at [] = octet_none test at [] (omega arith) ∙ sym (then_err _ (tested test at) _ (octet_none (λ c. true) at [] (omega arith)))
octet-tested_at test at (x ∷ t) = octet_by test at x t (test x) refl ∙ sym (then_is _ (tested test at) x (place (at + 1) t) (octet_right (λ c. true) at x t refl))

pub octet-tested : (test : ℕ → Bool) (p : Place) → octet test p ≡ then (octet (λ c. true) p) (tested test p.at)
octet-tested test p = octet-tested_at test p.at p.rest

-- what a tested octet gives, by what any octet gave
pub tested_err : (test : ℕ → Bool) (p : Place) (f : TapeFault) → Err f ≡ octet (λ c. true) p → Err f ≡ octet test p
tested_err test p f e = sym (octet-tested test p ∙ then_err _ (tested test p.at) f (sym e))

pub tested_no : (test : ℕ → Bool) (p q : Place) (x : ℕ) → Ok (x, q) ≡ octet (λ c. true) p → test x ≡ false → Err (Unknown p.at) ≡ octet test p
tested_no test p q x e h = sym (octet-tested test p ∙ then_is _ (tested test p.at) x q (sym e) ∙ rw h)

pub tested_yes : (test : ℕ → Bool) (p q : Place) (x : ℕ) → Ok (x, q) ≡ octet (λ c. true) p → test x ≡ true → Ok (x, q) ≡ octet test p
tested_yes test p q x e h = sym (octet-tested test p ∙ then_is _ (tested test p.at) x q (sym e) ∙ rw h)

-- a number of which an octet is missing, and a whole one as a slice's pattern finds it
missing_low : (t : List ℕ) → length t < 2 → get_or t 1 0 ≡ 0
missing_low t h = get_or_past t 1 0 (omega arith)

pub number_none : (at : ℕ) (t : List ℕ) → length t < 2 → number (place at t) ≡ Err (Ended (at + length t))
unfolding number
number_none at t h =
    let low : ltb (get_or (take 2 t) 1 0) 256 ≡ true = rw (take_all 2 t (omega arith), missing_low t h) in
    then_err _ _ _ (operand_short 2 of_number at t low h)

low_right : (t : List ℕ) → get_or t 1 0 < 256 → of_number (take 2 t) ≡ true
low_right t h = rw (get_or-take 2 t 1 0 (omega arith)) (lt-ltb (get_or t 1 0) 256 h)

value_taken : (t : List ℕ) → two_at (take 2 t) 0 ≡ two_at t 0
value_taken t = rw (get_or-take 2 t 0 0 (omega arith), get_or-take 2 t 1 0 (omega arith))

pub number-first : (at v : ℕ) (t : List ℕ) → 2 ≤ length t → get_or t 1 0 < 256 → v ≡ two_at t 0 → number (place at t) ≡ Ok (v, place (at + 2) (take (length t - 2) (drop 2 t)))
unfolding number
number-first at v t h k e =
    then_is _ _ (take 2 t) (place (at + 2) (drop 2 t)) (operand_long 2 of_number at t (low_right t k) h)
    ∙ ap (λ z. Ok (z, place (at + 2) (drop 2 t))) (value_taken t ∙ sym e)
    ∙ ap (λ z. Ok (v, place (at + 2) z)) (sym (take_rest t 2))

second_false : (a b : Bool) → a ≡ true → b ≡ false → (a && b) ≡ false
second_false a b e f = rw (e, f)

cut_value : (t : List ℕ) → length t < 2 → two_at (take 2 t) 0 ≡ get_or t 0 0 * 256
cut_value t h = value_taken t ∙ rw (missing_low t h) (omega arith)

pub number_to_ended : (most at : ℕ) (t : List ℕ) → length t < 2 → get_or t 0 0 * 256 ≤ most → number_to most (place at t) ≡ Err (Ended (at + length t))
unfolding number_to
number_to_ended most at t h k =
    let low : of_number (take 2 t) ≡ true = low_right t (rw (missing_low t h) (omega arith)) in
    let within : leb (two_at (take 2 t) 0) most ≡ true = rw (cut_value t h) (le-leb _ _ k) in
    then_err _ _ _ (operand_short 2 (limited most) at t (and_from _ _ low within) h)

pub number_to_cut : (most at : ℕ) (t : List ℕ) → length t < 2 → most < get_or t 0 0 * 256 → number_to most (place at t) ≡ Err (Unknown at)
unfolding number_to
number_to_cut most at t h k =
    let low : of_number (take 2 t) ≡ true = low_right t (rw (missing_low t h) (omega arith)) in
    let over : leb (two_at (take 2 t) 0) most ≡ false = rw (cut_value t h) (lt-leb _ _ k) in
    then_err _ _ _ (operand_wrong 2 (limited most) at t (second_false _ _ low over))

pub number_to_over : (most at : ℕ) (t : List ℕ) → get_or t 1 0 < 256 → most < two_at t 0 → number_to most (place at t) ≡ Err (Unknown at)
unfolding number_to
number_to_over most at t l k =
    let over : leb (two_at (take 2 t) 0) most ≡ false = rw (value_taken t) (lt-leb _ _ k) in
    then_err _ _ _ (operand_wrong 2 (limited most) at t (second_false _ _ (low_right t l) over))

pub number_to-first : (most at v : ℕ) (t : List ℕ) → 2 ≤ length t → get_or t 1 0 < 256 → v ≡ two_at t 0 → v ≤ most → number_to most (place at t) ≡ Ok (v, place (at + 2) (take (length t - 2) (drop 2 t)))
unfolding number_to
number_to-first most at v t h l e k =
    let within : leb (two_at (take 2 t) 0) most ≡ true = rw (value_taken t) (le-leb _ _ (omega arith)) in
    then_is _ _ (take 2 t) (place (at + 2) (drop 2 t)) (operand_long 2 (limited most) at t (and_from _ _ (low_right t l) within) h)
    ∙ ap (λ z. Ok (z, place (at + 2) (drop 2 t))) (value_taken t ∙ sym e)
    ∙ ap (λ z. Ok (v, place (at + 2) z)) (sym (take_rest t 2))

-- zeros, as a test of each octet finds them
all_zero_is : (xs : List ℕ) → all_zero xs ≡ list_all (λ x. eqb x 0) xs
all_zero_is [] = refl
all_zero_is (x ∷ xs) = ap (λ b. eqb x 0 && b) (all_zero_is xs)

-- octets of a width, of which all past a count are zeros
abbrev zeros_past : ℕ → List ℕ → Bool
zeros_past count xs = all_zero (drop count xs)

module _ (w count at : ℕ) (t : List ℕ) where
  pub padded_wrong : list_all (λ x. eqb x 0) (drop count (take w t)) ≡ false → operand w (zeros_past count) (place at t) ≡ Err (Unknown at)
  padded_wrong e = operand_wrong w (zeros_past count) at t (all_zero_is (drop count (take w t)) ∙ e)

  pub padded_short : list_all (λ x. eqb x 0) (drop count (take w t)) ≡ true → length t < w → operand w (zeros_past count) (place at t) ≡ Err (Ended (at + length t))
  padded_short e l = operand_short w (zeros_past count) at t (all_zero_is (drop count (take w t)) ∙ e) l

  pub padded_long : list_all (λ x. eqb x 0) (drop count (take w t)) ≡ true → w ≤ length t → operand w (zeros_past count) (place at t) ≡ Ok (take w t, place (at + w) (drop w t))
  padded_long e l = operand_long w (zeros_past count) at t (all_zero_is (drop count (take w t)) ∙ e) l

operand_same : (w : ℕ) (f g : List ℕ → Bool) (p : Place) → f (take w p.rest) ≡ g (take w p.rest) → operand w f p ≡ operand w g p
unfolding operand
operand_same w f g p e = rw e

pub security_octets_are : (flag : ℕ) (p : Place) → (flag ≡ 0 → ⊥) → security_operand flag p ≡ then (operand 50 (λ xs. all_zero (drop 50 xs)) p) (λ xs q. Ok (Some xs, q))
security_octets_are flag p h =
    let other : eqb flag 0 ≡ false = ne_eqb _ _ h in
    let long = length-take 50 p.rest in
    let none : drop 50 (take 50 p.rest) ≡ [] = drop_all 50 (take 50 p.rest) (omega arith) in
    let passes : all_zero (drop 50 (take 50 p.rest)) ≡ true = ap all_zero none in
    rw other (ap (λ r. then r (λ xs q. Ok (Some xs, q))) (operand_same 50 (λ xs. true) (λ xs. all_zero (drop 50 xs)) p (sym passes)))
