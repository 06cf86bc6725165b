-- What each operand takes from a tape, and that it is read back.
use Rattle.std.proofs.Common.{◌≡◌, ℕ, zero, suc, ◌+◌, ◌-◌, ◌*◌, ◌/◌, ◌%◌, ◌<◌, ◌≤◌, Bool, true, false, cond, ◌&&◌, eqb, ltb, leb, List, [], ◌∷◌, ◌++◌, length, get_or, take, drop, replicate, Ok, Err, sym, refl, ap, ◌∙◌, arith}
use Rattle.std.proofs.lemmas.List.{take_at, drop_at, append_assoc, length-append, length-take-le, take-append-drop, length-drop, length-replicate}
use Rattle.std.proofs.lemmas.Bool.{eq-eqb, le-ltb, ltb-false, and_parts, eqb-true, leb-true, ltb-true, lt-ltb, le-leb}
use Rattle.octets.specs.Octets.{two, two_at}
use Rattle.warning.specs.declared.Pair.{Pair}
use Rattle.tape.specs.declared.fault.TapeFault.{TapeFault}
use Rattle.tape.specs.Format.{pair_octets, piece}
use Rattle.tape.specs.Reading.{Place, place, Read, then, operand, first_is, octet, of_number, number, number_to, pair_operands, all_zero, data_operands}

-- a reader that took octets from a place
pub record Took (xs : List ℕ) (p q : Place) : Type 0 where
  pub cut : p.rest ≡ xs ++ q.rest
  pub moved : q.at ≡ p.at + length xs

pub then_ok : {X Y : Type 0} (r : Read X) (f : X → Place → Read Y) (y : Y) (q : Place) → then r f ≡ Ok (y, q) → (x : X) × (p : Place) × (r ≡ Ok (x, p)) × (f x p ≡ Ok (y, q))
then_ok (Ok r) f y q e = (r.0, r.1, refl, e)
then_ok (Err g) f y q e = let z : ◌≡◌ {A = ℕ} 0 1 = cc in absurd (omega arith)

-- the same, for a chain of many: what follows for each value and place
pub then_elim : {X Y C : Type 0} (r : Read X) (f : X → Place → Read Y) (y : Y) (q : Place) → then r f ≡ Ok (y, q) → ((x : X) (p : Place) → r ≡ Ok (x, p) → f x p ≡ Ok (y, q) → C) → C
then_elim r f y q e k = let s = then_ok r f y q e in k s.0 s.1 s.2 s.3

pub then_is : {X Y : Type 0} (r : Read X) (f : X → Place → Read Y) (x : X) (p : Place) → r ≡ Ok (x, p) → then r f ≡ f x p
then_is r f x p e = rw e

pub ok_parts : {X : Type 0} (x y : X) (p q : Place) → ◌≡◌ {A = Read X} (Ok (x, p)) (Ok (y, q)) → (x ≡ y) × (p ≡ q)
ok_parts {X} x y p q e =
    let both : ◌≡◌ {A = X × Place} (x, p) (y, q) = cc in
    (ap (λ z. z.0) both, ap (λ z. z.1) both)

pub took_both : (xs ys : List ℕ) (p q r : Place) → Took xs p q → Took ys q r → Took (xs ++ ys) p r
took_both xs ys p q r a b =
    let l = length-append xs ys in
    record { cut = a.cut ∙ ap (λ t. xs ++ t) b.cut ∙ sym (append_assoc xs ys r.rest); moved = omega (arith, a.moved, b.moved) }

pub took_same : (xs ys : List ℕ) (p q r : Place) → xs ≡ ys → q ≡ r → Took xs p q → Took ys p r
took_same xs ys p q r e at t = rw (sym at, sym e) t

chosen : {X : Type 0} (b c : Bool) (f g : TapeFault) (x y : X) → cond b (cond c (Err f) (Ok x)) (Err g) ≡ Ok y → (b ≡ true) × (c ≡ false) × (x ≡ y)
chosen true true f g x y e = let z : ◌≡◌ {A = ℕ} 0 1 = cc in absurd (omega arith)
chosen true false f g x y e = (refl, refl, cc)
chosen false c f g x y e = let z : ◌≡◌ {A = ℕ} 0 1 = cc in absurd (omega arith)

-- what an operand took
pub operand_ok : (w : ℕ) (begins : List ℕ → Bool) (p : Place) (xs : List ℕ) (q : Place) → operand w begins p ≡ Ok (xs, q) → (begins xs ≡ true) × (length xs ≡ w) × Took xs p q
unfolding operand
operand_ok w begins p xs q e =
    let t = p.rest in
    let c = chosen (begins (take w t)) (ltb (length t) w) _ _ (take w t, place (p.at + w) (drop w t)) (xs, q) e in
    let same : take w t ≡ xs = ap (λ z. z.0) c.2 in
    let after : place (p.at + w) (drop w t) ≡ q = ap (λ z. z.1) c.2 in
    let rest : drop w t ≡ q.rest = ap (λ z. z.rest) after in
    let moved : p.at + w ≡ q.at = ap (λ z. z.at) after in
    let long = length-take-le w t (ltb-false _ _ c.1) in
    let size : length xs ≡ w = rw (sym same) long in (
      rw (sym same) c.0,
      size,
      record { cut = sym (take-append-drop w t) ∙ ap (λ z. z ++ drop w t) same ∙ ap (λ z. xs ++ z) rest; moved = omega arith },
    )

-- an operand that stands on the tape is read
pub operand_at : (w : ℕ) (begins : List ℕ → Bool) (at : ℕ) (xs rest : List ℕ) → length xs ≡ w → begins xs ≡ true → operand w begins (place at (xs ++ rest)) ≡ Ok (xs, place (at + w) rest)
unfolding operand
operand_at w begins at xs rest l h =
    let long : ltb (length (xs ++ rest)) w ≡ false = le-ltb _ _ (rw length-append (omega arith)) in
    rw (take_at xs rest w l, h, long, drop_at xs rest w l)

single : (xs : List ℕ) → length xs ≡ 1 → xs ≡ get_or xs 0 0 ∷ []
single [] h = absurd (omega arith)
single (x ∷ []) h = refl
single (x ∷ y ∷ xs) h = absurd (omega arith)

pub octet_ok : (test : ℕ → Bool) (p : Place) (x : ℕ) (q : Place) → octet test p ≡ Ok (x, q) → (test x ≡ true) × Took (x ∷ []) p q
unfolding octet
octet_ok test p x q e =
    let s = then_ok (operand 1 (first_is test) p) _ x q e in
    let o = operand_ok 1 (first_is test) p s.0 s.1 s.2 in
    let one = single s.0 o.1 in
    let is = ok_parts (get_or s.0 0 0) x s.1 q s.3 in
    let list : s.0 ≡ x ∷ [] = one ∙ ap (λ z. z ∷ []) is.0 in
    (rw list at o.0, took_same s.0 (x ∷ []) p s.1 q list is.1 o.2)

pub octet_at : (test : ℕ → Bool) (at x : ℕ) (rest : List ℕ) → test x ≡ true → octet test (place at (x ∷ rest)) ≡ Ok (x, place (at + 1) rest)
unfolding octet
octet_at test at x rest h = then_is _ _ (x ∷ []) (place (at + 1) rest) (operand_at 1 (first_is test) at (x ∷ []) rest refl h)

double : (xs : List ℕ) → length xs ≡ 2 → of_number xs ≡ true → xs ≡ two (two_at xs 0)
double [] h t = absurd (omega arith)
double (x ∷ []) h t = absurd (omega arith)
double (x ∷ y ∷ []) h t =
    let low : y < 256 = ltb-true y 256 t in
    let a : (x * 256 + y) / 256 ≡ x = omega arith in
    let b : (x * 256 + y) % 256 ≡ y = omega arith in
    rw (a, b)
double (x ∷ y ∷ z ∷ xs) h t = absurd (omega arith)

-- a number of two octets took its octets
from_double : (xs : List ℕ) (x : ℕ) (p r q : Place) → length xs ≡ 2 → of_number xs ≡ true → Took xs p r → two_at xs 0 ≡ x → r ≡ q → Took (two x) p q
from_double xs x p r q l n t e at =
    took_same xs (two x) p r q (double xs l n ∙ ap two e) at t

pub number_ok : (p : Place) (x : ℕ) (q : Place) → number p ≡ Ok (x, q) → Took (two x) p q
unfolding number
number_ok p x q e =
    let s = then_ok (operand 2 of_number p) _ x q e in
    let o = operand_ok 2 of_number p s.0 s.1 s.2 in
    let is = ok_parts (two_at s.0 0) x s.1 q s.3 in
    from_double s.0 x p s.1 q o.1 o.0 o.2 is.0 is.1

low_octet : (x : ℕ) → of_number (two x) ≡ true
low_octet x = lt-ltb (x % 256) 256 (omega arith)

value_of_two : (x : ℕ) → two_at (two x) 0 ≡ x
value_of_two x = omega arith

pub number_at : (at x : ℕ) (rest : List ℕ) → number (place at (two x ++ rest)) ≡ Ok (x, place (at + 2) rest)
unfolding number
number_at at x rest =
    then_is _ _ (two x) (place (at + 2) rest) (operand_at 2 of_number at (two x) rest refl (low_octet x))
    ∙ ap (λ n. Ok (n, place (at + 2) rest)) (value_of_two x)

abbrev pub limited : ℕ → List ℕ → Bool
limited most xs = of_number xs && leb (two_at xs 0) most

pub number_to_ok : (most : ℕ) (p : Place) (x : ℕ) (q : Place) → number_to most p ≡ Ok (x, q) → (x ≤ most) × Took (two x) p q
unfolding number_to
number_to_ok most p x q e =
    let s = then_ok (operand 2 (limited most) p) _ x q e in
    let o = operand_ok 2 (limited most) p s.0 s.1 s.2 in
    let is = ok_parts (two_at s.0 0) x s.1 q s.3 in
    let both = and_parts (of_number s.0) (leb (two_at s.0 0) most) o.0 in
    let low : two_at s.0 0 ≤ most = leb-true _ _ both.1 in
    (rw is.0 at low, from_double s.0 x p s.1 q o.1 both.0 o.2 is.0 is.1)

pub number_to_at : (most at x : ℕ) (rest : List ℕ) → x ≤ most → number_to most (place at (two x ++ rest)) ≡ Ok (x, place (at + 2) rest)
unfolding number_to
number_to_at most at x rest h =
    let within : leb (two_at (two x) 0) most ≡ true = rw (value_of_two x) (le-leb x most h) in
    let fits : limited most (two x) ≡ true = rw (low_octet x, within) in
    then_is _ _ (two x) (place (at + 2) rest) (operand_at 2 (limited most) at (two x) rest refl fits)
    ∙ ap (λ n. Ok (n, place (at + 2) rest)) (value_of_two x)

pub pair_ok : (p : Place) (x : Pair) (q : Place) → pair_operands p ≡ Ok (x, q) → Took (pair_octets x) p q
unfolding pair_operands
pair_ok p x q e =
    let i = then_ok (number p) _ x q e in
    let s = then_ok (number i.1) _ x q i.3 in
    let is = ok_parts (record { identifier = i.0; serial = s.0 }) x s.1 q s.3 in
    let a = number_ok p i.0 i.1 i.2 in
    let b = number_ok i.1 s.0 s.1 s.2 in
    took_same _ _ p s.1 q (ap pair_octets is.0) is.1 (took_both (two i.0) (two s.0) p i.1 s.1 a b)

pub pair_at : (at : ℕ) (x : Pair) (rest : List ℕ) → pair_operands (place at (pair_octets x ++ rest)) ≡ Ok (x, place (at + 4) rest)
unfolding pair_operands
pair_at at x rest =
    let moved : at + 2 + 2 ≡ at + 4 = omega arith in
    then_is _ _ x.identifier (place (at + 2) (two x.serial ++ rest)) (number_at at x.identifier (two x.serial ++ rest))
    ∙ then_is _ _ x.serial (place (at + 2 + 2) rest) (number_at (at + 2) x.serial rest)
    ∙ ap (λ n. Ok (x, place n rest)) moved

pub zeros : (xs : List ℕ) → all_zero xs ≡ true → xs ≡ replicate (length xs) 0
zeros [] h = refl
zeros (x ∷ xs) h =
    let both = and_parts (eqb x 0) (all_zero xs) h in
    let x-is = eqb-true x 0 both.0 in
    let rest = zeros xs both.1 in
    rw (x-is, sym rest)

pub zeros_pass : (n : ℕ) → all_zero (replicate n 0) ≡ true
zeros_pass zero = refl
zeros_pass (suc n) = zeros_pass n

-- a data command took its octets
padded : (count : ℕ) (xs : List ℕ) → length xs ≡ 32 → count ≤ 32 → all_zero (drop count xs) ≡ true → take count xs ++ replicate (32 - count) 0 ≡ xs
padded count xs l h z =
    let d = length-drop count xs in
    let tail : drop count xs ≡ replicate (32 - count) 0 = zeros (drop count xs) z ∙ ap (λ n. replicate n 0) (rw l at d) in
    ap (λ ys. take count xs ++ ys) (sym tail) ∙ take-append-drop count xs

pub data_ok : (count : ℕ) (p : Place) (xs : List ℕ) (q : Place) → count ≤ 32 → data_operands count p ≡ Ok (xs, q) → (length xs ≡ count) × Took (piece xs) p q
unfolding data_operands
data_ok count p xs q h e =
    let a = then_ok (octet (λ c. eqb c 0x44) p) _ xs q e in
    let b = then_ok (octet (λ c. eqb c count) a.1) _ xs q a.3 in
    let d = then_ok (operand 32 (λ ys. all_zero (drop count ys)) b.1) _ xs q b.3 in
    let is = ok_parts (take count d.0) xs d.1 q d.3 in
    let command = octet_ok (λ c. eqb c 0x44) p a.0 a.1 a.2 in
    let counted = octet_ok (λ c. eqb c count) a.1 b.0 b.1 b.2 in
    let octets = operand_ok 32 (λ ys. all_zero (drop count ys)) b.1 d.0 d.1 d.2 in
    let all = took_both (a.0 ∷ []) (b.0 ∷ d.0) p a.1 d.1 command.1 (took_both (b.0 ∷ []) d.0 a.1 b.1 d.1 counted.1 octets.2) in
    let t : length (take count d.0) ≡ count = length-take-le count d.0 (omega (arith, octets.1)) in
    let long : length xs ≡ count = rw is.0 at t in
    let first : a.0 ≡ 0x44 = eqb-true _ _ command.0 in
    let second : b.0 ≡ length xs = eqb-true _ _ counted.0 ∙ sym long in
    let rest : d.0 ≡ xs ++ replicate (32 - length xs) 0
    = sym (padded count d.0 octets.1 h octets.0) ∙ ap (λ ys. ys ++ replicate (32 - count) 0) is.0 ∙ ap (λ n. xs ++ replicate (32 - n) 0) (sym long) in
    (long, took_same (a.0 ∷ (b.0 ∷ d.0)) (piece xs) p d.1 q (cc) is.1 all)

pub data_at : (at : ℕ) (xs rest : List ℕ) → length xs ≤ 32 → data_operands (length xs) (place at (piece xs ++ rest)) ≡ Ok (xs, place (at + 34) rest)
unfolding data_operands
data_at at xs rest h =
    let count = length xs in
    let ys = xs ++ replicate (32 - length xs) 0 in
    let long : length (xs ++ replicate (32 - length xs) 0) ≡ 32 = rw (length-append, length-replicate) (omega arith) in
    let pad : all_zero (drop (length xs) (xs ++ replicate (32 - length xs) 0)) ≡ true = rw (drop_at xs (replicate (32 - length xs) 0) (length xs) refl) (zeros_pass (32 - length xs)) in
    let moved : at + 1 + 1 + 32 ≡ at + 34 = omega arith in
    then_is _ _ 0x44 (place (at + 1) (count ∷ (ys ++ rest))) (octet_at (λ c. eqb c 0x44) at 0x44 (count ∷ (ys ++ rest)) refl)
    ∙ then_is _ _ count (place (at + 1 + 1) (ys ++ rest)) (octet_at (λ c. eqb c count) (at + 1) count (ys ++ rest) (eq-eqb count count refl))
    ∙ then_is _ _ ys (place (at + 1 + 1 + 32) rest) (operand_at 32 (λ zs. all_zero (drop count zs)) (at + 1 + 1) ys rest long pad)
    ∙ ap (λ n. Ok (take count ys, place n rest)) moved
    ∙ ap (λ zs. Ok (zs, place (at + 34) rest)) (take_at xs (replicate (32 - length xs) 0) (length xs) refl)
