-- A warning is its head and then its body.
use Rattle.std.proofs.Common.{◌≡◌, ℕ, ◌-◌, ◌≤◌, Bool, true, false, cond, eqb, leb, List, length, take, drop, Some, None, Ok, Err, Option, unwrap_or, sym, refl, ap, ◌∙◌, arith}
use Rattle.std.proofs.lemmas.List.{take_all, length-take-le}
use Rattle.std.proofs.lemmas.Bool.{eqb-true}
use Rattle.std.specs.Option.{option_map}
use Rattle.warning.specs.declared.Pair.{Pair}
use Rattle.warning.specs.declared.Warning.{Warning}
use Rattle.warning.specs.declared.Warning.TheVariants.{Primary, Message}
use Rattle.warning.specs.Notice.{Notice, outline}
use Rattle.warning.specs.Rules.{carries_message, limit, is_warning, right_security}
use Rattle.tape.specs.declared.fault.TapeFault.{TapeFault}
use Rattle.tape.specs.declared.fault.TapeFault.TheVariants.{Unknown}
use Rattle.tape.specs.Heads.{primary_outline, message_outline, outline_by, head, body}
use Rattle.tape.specs.Reading.{Place, Read, then, operand, octet, number, number_to, pair_operands, all_zero, primary_operands, message_operands, by_command, part, most_flag, most_area, entry}
use Rattle.tape.proofs.Takes.{then_elim, ok_parts, operand_ok, number_to_ok}
use Rattle.tape.proofs.Splits.{security_octets_are}
use Rattle.tape.proofs.Entries.{part_ok}

-- a first thing, and what follows it in two steps
then_deep : {X Y Z : Type 0} (r : Read X) (f : X → Place → Read Z) (g : X → Place → Read Y) (k : Y → Place → Read Z) → ((x : X) (q : Place) → r ≡ Ok (x, q) → f x q ≡ then (g x q) k) → then r f ≡ then (then r g) k
then_deep (Ok r) f g k h = h r.0 r.1 refl
then_deep (Err e) f g k h = refl

-- security information whose flag is known
abbrev securing : Pair → ℕ → Option (List ℕ) → Place → Read Notice
securing pair t security q = Ok (Primary pair t security, q)

abbrev padded_security : Place → Read (List ℕ)
padded_security p = operand 50 (λ xs. all_zero (drop 50 xs)) p

security_by : (pair : Pair) (t : ℕ) (b : Bool) (p : Place) → then (then (operand 50 (λ xs. cond b (all_zero xs) true) p) (λ xs q. Ok (cond b None (Some xs), q))) (securing pair t) ≡ body (Primary pair t (cond b None (Some 50))) p
unfolding body
security_by pair t true p =
    sym (then_deep (operand 50 (λ xs. all_zero xs) p) (λ xs q. Ok (Primary pair t None, q)) (λ xs q. Ok (None, q)) (securing pair t) (λ xs q e. refl))
security_by pair t false p =
    ap (λ z. then z (securing pair t)) (security_octets_are 1 p (λ e. omega arith))
    ∙ sym (then_deep (padded_security p) (λ xs q. Ok (Primary pair t (Some (take 50 xs)), q)) (λ xs q. Ok (Some xs, q)) (securing pair t) (λ xs q e.
    let told = operand_ok 50 (λ ys. all_zero (drop 50 ys)) p xs q e in
    ap (λ z. Ok (Primary pair t (Some z), q)) (take_all 50 xs (omega (arith, told.1)))))

primary_split : (p : Place) → primary_operands p ≡ then (primary_outline p) body
unfolding primary_operands primary_outline
primary_split p =
    then_deep (pair_operands p) _ _ body (λ pair p₁ e₁.
    then_deep (number p₁) _ _ body (λ t p₂ e₂.
    then_deep (octet (λ flag. leb flag 1) p₂) _ _ body (λ flag p₃ e₃. security_by pair t (eqb flag 0) p₃)))

-- both parts of a message whose lengths are known
no_area_length : (b : Bool) (a n : ℕ) → a ≤ cond b 0 n → b ≡ true → a ≡ 0
no_area_length true a n h e = omega arith
no_area_length false a n h e = let z : ◌≡◌ {A = ℕ} 0 1 = cc in absurd (omega arith)

data_by_flag : (block : ℕ) (pair : Pair) (coding m : ℕ) (b : Bool) (a : ℕ) (p : Place) → (b ≡ true → a ≡ 0) → then (part m p) (λ xs p. then (part a p) (λ ys p. Ok (Message block pair coding xs (cond b None (Some ys)), p))) ≡ body (Message block pair coding m (cond b None (Some a))) p
unfolding body
data_by_flag block pair coding m true a p h =
    ap (λ z. then (part m p) (λ xs p. then (part z p) (λ ys p. Ok (Message block pair coding xs None, p)))) (h refl)
data_by_flag block pair coding m false a p h = refl

message_split : (p : Place) → message_operands p ≡ then (message_outline p) body
unfolding message_operands message_outline
message_split p =
    then_deep (octet carries_message p) _ _ body (λ block p₁ e₁.
    then_deep (pair_operands p₁) _ _ body (λ pair p₂ e₂.
    then_deep (octet (λ coding. true) p₂) _ _ body (λ coding p₃ e₃.
    then_deep (number_to (limit block) p₃) _ _ body (λ m p₄ e₄.
    then_deep (octet (λ flag. leb flag (most_flag block)) p₄) _ _ body (λ flag p₅ e₅.
    then_deep (number_to (most_area block m flag) p₅) _ _ body (λ a p₆ e₆.
    let few = (number_to_ok (most_area block m flag) p₅ a p₆ e₆).0 in
    data_by_flag block pair coding m (eqb flag 0) a p₆ (no_area_length (eqb flag 0) a (limit block - m) few)))))))

command_split : (a b : Bool) (x y : Read Notice) (v w : Read (Warning ℕ)) (f : TapeFault) → x ≡ then v body → y ≡ then w body → cond a x (cond b y (Err f)) ≡ then (cond a v (cond b w (Err f))) body
command_split true b x y v w f h k = h
command_split false true x y v w f h k = k
command_split false false x y v w f h k = refl

-- the whole warning
pub entry_split : (p : Place) → entry p ≡ then (head p) body
unfolding entry head
entry_split p =
    then_deep (octet (λ c. true) p) (λ command q. by_command command p.at q) (λ command q. outline_by command p.at q) body (λ command q e.
    command_split (eqb command 0x50) (eqb command 0x4D) (primary_operands q) (message_operands q) (primary_outline q) (message_outline q) (Unknown p.at) (primary_split q) (message_split q))

-- security information and an area as a body has them
security_same : (security : Option ℕ) (xs : List ℕ) → right_security security ≡ true → length xs ≡ 50 → option_map length (option_map (λ n. take n xs) security) ≡ security
security_same None xs h l = refl
security_same (Some n) xs h l = let e = eqb-true n 50 h in ap Some (length-take-le n xs (omega arith))

area_same : (area : Option ℕ) (ys : List ℕ) → length ys ≡ unwrap_or area 0 → option_map length (option_map (λ n. ys) area) ≡ area
area_same None ys l = refl
area_same (Some n) ys l = ap Some l

-- a body gives a warning of the outline that was given
pub body_outline : (o : (Warning ℕ)) (p : Place) (w : Notice) (q : Place) → is_warning o ≡ true → body o p ≡ Ok (w, q) → outline w ≡ o
unfolding body
body_outline (Primary pair t security) p w q h e =
    then_elim (operand 50 (λ xs. all_zero (drop (unwrap_or security 0) xs)) p) _ w q e (λ xs r e₁ k.
    let told = operand_ok 50 (λ xs. all_zero (drop (unwrap_or security 0) xs)) p xs r e₁ in
    let is = ok_parts (Primary pair t (option_map (λ n. take n xs) security)) w r q k in
    ap outline (sym is.0) ∙ ap (Primary pair t) (security_same security xs h told.1))
body_outline (Message block pair coding m area) p w q h e =
    then_elim (part m p) _ w q e (λ xs r e₁ k₁.
    then_elim (part (unwrap_or area 0) r) _ w q k₁ (λ ys s e₂ k₂.
    let first = (part_ok m p xs r e₁).0 in
    let second = (part_ok (unwrap_or area 0) r ys s e₂).0 in
    let is = ok_parts (Message block pair coding xs (option_map (λ n. ys) area)) w s q k₂ in
    ap outline (sym is.0)
    ∙ ap (λ z. Message block pair coding z (option_map length (option_map (λ n. ys) area))) first
    ∙ ap (Message block pair coding m) (area_same area ys second)))
