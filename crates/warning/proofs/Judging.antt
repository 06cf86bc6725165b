-- What is judged a warning is one, and the other way round.
use Rattle.std.proofs.Common.{◌≡◌, ℕ, Bool, true, false, cond, not, ◌&&◌, eqb, ltb, leb, is_some, is_ok, Some, None, Ok, Err, Option, Result, sym, refl, ap, ◌∙◌, ⊎_elim, arith}
use Rattle.std.proofs.lemmas.Bool.{cases_lt, lt-ltb, le-ltb, le-leb, lt-leb}
use Rattle.warning.specs.declared.Warning.{Warning}
use Rattle.warning.specs.declared.Warning.TheVariants.{Primary, Message}
use Rattle.warning.specs.declared.WarningFault.{WarningFault}
use Rattle.warning.specs.declared.WarningFault.TheVariants.{Security}
use Rattle.warning.specs.Rules.{carries_message, without_area, limit, total, judged, judged_security, right_security, is_warning}

over_is : (n m : ℕ) → leb n m ≡ not (ltb m n)
over_is n m =
    ⊎_elim
    (λ h. let a : ltb m n ≡ true = lt-ltb m n h in let b : leb n m ≡ false = lt-leb n m h in rw (a, b))
    (λ h. let a : ltb m n ≡ false = le-ltb m n h in let b : leb n m ≡ true = le-leb n m h in rw (a, b))
    (cases_lt m n)

by_test : (b : Bool) (f : WarningFault) → is_ok {T = Unit {0}} (cond b (Ok tt) (Err f)) ≡ b
by_test true f = refl
by_test false f = refl

security_is : (security : Option ℕ) → is_ok (judged_security security) ≡ right_security security
security_is None = refl
security_is (Some n) = by_test (eqb n 50) (Security n)

three : (a b d : Bool) (f g h : WarningFault) → is_ok {T = Unit {0}} (cond (not a) (Err f) (cond b (Err g) (cond d (Err h) (Ok tt)))) ≡ (a && (not b && not d))
three true true d f g h = refl
three true false true f g h = refl
three true false false f g h = refl
three false b d f g h = refl

pub judged_is : (o : Warning ℕ) → is_ok (judged o) ≡ is_warning o
judged_is (Primary pair warning-type security) = security_is security
judged_is (Message block pair coding message area) =
    three (carries_message block) (without_area block && is_some area) (ltb (limit block) (total message area)) _ _ _
    ∙ ap (λ z. carries_message block && (not (without_area block && is_some area) && z)) (sym (over_is (total message area) (limit block)))

ok_unit : (r : Result (Unit {0}) WarningFault) → is_ok r ≡ true → r ≡ Ok tt
ok_unit (Ok tt) h = refl
ok_unit (Err f) h = let z : ◌≡◌ {A = ℕ} 0 1 = cc in absurd (omega arith)

pub right_judged : (o : Warning ℕ) → is_warning o ≡ true → judged o ≡ Ok tt
right_judged o h = ok_unit (judged o) (judged_is o ∙ h)

pub judged_right : (o : Warning ℕ) → judged o ≡ Ok tt → is_warning o ≡ true
judged_right o h = sym (judged_is o) ∙ ap is_ok h
