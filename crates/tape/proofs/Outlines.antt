-- An outline that is read is one of a warning.
use Rattle.std.proofs.Common.{◌≡◌, ℕ, ◌≤◌, Bool, true, false, cond, not, ◌&&◌, eqb, leb, length, replicate, is_some, Some, None, Ok, sym, refl, ap, ◌∙◌, ⊎_elim}
use Rattle.std.proofs.lemmas.List.{length-replicate}
use Rattle.std.proofs.lemmas.Bool.{leb-true, and_from}
use Rattle.std.specs.Option.{option_map}
use Rattle.warning.specs.declared.Pair.{Pair}
use Rattle.warning.specs.declared.Warning.{Warning}
use Rattle.warning.specs.declared.Warning.TheVariants.{Primary, Message}
use Rattle.warning.specs.Rules.{carries_message, without_area, limit, total, is_warning, right_security}
use Rattle.tape.specs.declared.fault.TapeFault.TheVariants.{Unknown}
use Rattle.tape.specs.Heads.{primary_outline, message_outline, head}
use Rattle.tape.specs.Reading.{Place, octet, number, number_to, pair_operands, present, most_flag, most_area}
use Rattle.tape.proofs.Takes.{then_elim, ok_parts, octet_ok, number_to_ok}
use Rattle.tape.proofs.Entries.{area_read, one_of_two}

present_right : (b : Bool) → right_security (cond b None (Some 50)) ≡ true
present_right true = refl
present_right false = refl

pub primary_right : (p : Place) (o : (Warning ℕ)) (q : Place) → primary_outline p ≡ Ok (o, q) → is_warning o ≡ true
unfolding primary_outline
primary_right p o q e =
    then_elim (pair_operands p) _ o q e (λ pair p₁ e₁ k₁.
    then_elim (number p₁) _ o q k₁ (λ t p₂ e₂ k₂.
    then_elim (octet (λ flag. leb flag 1) p₂) _ o q k₂ (λ flag p₃ e₃ k₃.
    let is = ok_parts (Primary pair t (present flag 50)) o p₃ q k₃ in
    ap is_warning (sym is.0) ∙ present_right (eqb flag 0))))

present-length : (b : Bool) (a : ℕ) → option_map length (cond b None (Some (replicate {A = ℕ} a 0))) ≡ cond b None (Some a)
present-length true a = refl
present-length false a = ap Some (length-replicate a 0)

message_made_right : (block : ℕ) (pair : Pair) (coding m flag a : ℕ) (o : (Warning ℕ)) → carries_message block ≡ true → m ≤ limit block → flag ≤ most_flag block → a ≤ most_area block m flag → Message block pair coding m (present flag a) ≡ o → is_warning o ≡ true
message_made_right block pair coding m flag a o eb em ef ea is =
    let ar = area_read block m flag a (replicate a 0) ef em ea (length-replicate a 0) in
    let same = present-length (eqb flag 0) a in
    let allowed = ap (λ z. not (without_area block && is_some z)) (sym same) ∙ ar.allowed in
    let few = ap (λ z. leb (total m z) (limit block)) (sym same) ∙ ar.few in
    ap is_warning (sym is) ∙ and_from _ _ eb (and_from _ _ allowed few)

pub message_right : (p : Place) (o : (Warning ℕ)) (q : Place) → message_outline p ≡ Ok (o, q) → is_warning o ≡ true
unfolding message_outline
message_right p o q e =
    then_elim (octet carries_message p) _ o q e (λ block p₁ e₁ k₁.
    then_elim (pair_operands p₁) _ o q k₁ (λ pair p₂ e₂ k₂.
    then_elim (octet (λ coding. true) p₂) _ o q k₂ (λ coding p₃ e₃ k₃.
    then_elim (number_to (limit block) p₃) _ o q k₃ (λ m p₄ e₄ k₄.
    then_elim (octet (λ flag. leb flag (most_flag block)) p₄) _ o q k₄ (λ flag p₅ e₅ k₅.
    then_elim (number_to (most_area block m flag) p₅) _ o q k₅ (λ a p₆ e₆ k₆.
    message_made_right block pair coding m flag a o (octet_ok carries_message p block p₁ e₁).0 (number_to_ok (limit block) p₃ m p₄ e₄).0
    (leb-true _ _ (octet_ok (λ flag. leb flag (most_flag block)) p₄ flag p₅ e₅).0) (number_to_ok (most_area block m flag) p₅ a p₆ e₆).0
    (ok_parts (Message block pair coding m (present flag a)) o p₆ q k₆).0))))))

pub head_right : (p : Place) (o : (Warning ℕ)) (q : Place) → head p ≡ Ok (o, q) → is_warning o ≡ true
unfolding head
head_right p o q e =
    then_elim (octet (λ c. true) p) _ o q e (λ command r e₁ k.
    ⊎_elim
    (λ h. primary_right r o q h.1)
    (λ h. message_right r o q h.1)
    (one_of_two (eqb command 0x50) (eqb command 0x4D) (primary_outline r) (message_outline r) (Unknown p.at) (o, q) k))
