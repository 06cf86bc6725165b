-- A flag on tape, and what it says of a part.
use Rattle.std.proofs.Common.{◌≡◌, ℕ, zero, suc, ◌≤◌, Bool, true, false, eqb, leb, Ok, sym, refl, ap, ◌∙◌, arith}
use Rattle.std.proofs.lemmas.Bool.{leb-true}
use Rattle.std.specs.Bool.{then_some}
use Rattle.tape.specs.Cursors.{flag_number}
use Rattle.tape.specs.Reading.{Place, octet, present}
use Rattle.tape.proofs.Takes.{octet_ok}

flag_is : (x : ℕ) → x ≤ 1 → flag_number (eqb x 1) ≡ x
flag_is zero l = refl
flag_is (suc zero) l = refl
flag_is (suc (suc x)) l = absurd (omega arith)

at_most_one : (b : Bool) → flag_number b ≤ 1
at_most_one true = omega arith
at_most_one false = omega arith

pub flag_read : (b : Bool) (p q : Place) (x : ℕ) → Ok (x, q) ≡ octet (λ flag. leb flag (flag_number b)) p → Ok (flag_number (eqb x 1), q) ≡ octet (λ flag. leb flag (flag_number b)) p
flag_read b p q x e =
    let passed : leb x (flag_number b) ≡ true = (octet_ok (λ flag. leb flag (flag_number b)) p x q (sym e)).0 in
    let most = at_most_one b in
    let few : x ≤ 1 = omega (arith, leb-true x (flag_number b) passed) in
    ap (λ z. Ok (z, q)) (flag_is x few) ∙ e

-- what a flag says of a part
pub flagged : {X : Type 0} (b : Bool) (x : X) → then_some b x ≡ present (flag_number b) x
flagged true x = refl
flagged false x = refl
