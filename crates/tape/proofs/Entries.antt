-- Reading one warning: what it took is its written form, and its written form is read back.
use Rattle.std.proofs.Common.{◌≡◌, ℕ, zero, suc, ◌+◌, ◌-◌, ◌*◌, ◌≤◌, min, Bool, true, false, cond, not, ◌&&◌, eqb, leb, ◌⊎◌, List, [], ◌∷◌, ◌++◌, length, take, drop, replicate, is_some, Some, None, Ok, Err, Option, unwrap_or, sym, refl, ap, ◌∙◌, inl, inr, ⊎_elim, arith}
use Rattle.std.proofs.lemmas.List.{take_at, drop_at, append_assoc, append-nil, length-append, length-take, length-drop, take-append-drop, take_all, drop_all, nil_from_length}
use Rattle.std.proofs.lemmas.Bool.{eq-eqb, and_parts, eqb-true, leb-true, le-leb, cases_lt}
use Rattle.std.specs.Option.{option_map}
use Rattle.octets.specs.Octets.{two}
use Rattle.warning.specs.declared.Pair.{Pair}
use Rattle.warning.specs.declared.Warning.TheVariants.{Primary, Message}
use Rattle.warning.specs.Notice.{Notice, outline}
use Rattle.warning.specs.Rules.{carries_message, without_area, limit, total, is_warning, right_security}
use Rattle.tape.specs.declared.fault.TapeFault.{TapeFault}
use Rattle.tape.specs.declared.fault.TapeFault.TheVariants.{Unknown}
use Rattle.tape.specs.Format.{piece, pieces, pieces_by, commands_for, pair_octets, security_part, area_head, flag_of, octets_of, encode}
use Rattle.tape.specs.Reading.{Place, place, Read, operand, octet, number, number_to, pair_operands, all_zero, present, security_operand, primary_operands, data_operands, data_by, part, most_flag, most_area, message_operands, by_command, entry}
use Rattle.tape.proofs.Pieces.{length-pieces}
use Rattle.tape.proofs.Costs.{length-encode}
use Rattle.tape.proofs.Takes.{Took, then_ok, then_elim, then_is, ok_parts, took_both, took_same, operand_ok, operand_at, octet_ok, octet_at, number_ok, number_at, number_to_ok, number_to_at, pair_ok, pair_at, zeros, data_ok, data_at}

-- a part of a list that is cut into its first octets and the others
cut_front : (xs ys : List ℕ) → (length xs ≡ 32) ⊎ (length xs ≤ 32) × (ys ≡ []) → (take 32 (xs ++ ys) ≡ xs) × (drop 32 (xs ++ ys) ≡ ys)
cut_front xs ys (inl l) = (take_at xs ys 32 l, drop_at xs ys 32 l)
cut_front xs ys (inr h) =
    let whole : xs ++ ys ≡ xs = ap (λ z. xs ++ z) h.1 ∙ append-nil xs in
    (rw whole (take_all 32 xs h.0), rw (whole, h.1) (drop_all 32 xs h.0))

-- the first 32 octets of a part, or all of a shorter one
fronts : (count : ℕ) (xs ys : List ℕ) → length xs ≡ min 32 count → length ys ≡ count - 32 → (length xs ≡ 32) ⊎ (length xs ≤ 32) × (ys ≡ [])
fronts count xs ys a b = ⊎_elim (λ h. inr (omega arith, nil_from_length ys (omega arith))) (λ h. inl (omega arith)) (cases_lt count 32)

data_by_ok : (n count : ℕ) (p : Place) (xs : List ℕ) (q : Place) → n ≡ commands_for count → data_by n count p ≡ Ok (xs, q) → (length xs ≡ count) × Took (pieces_by n xs) p q
data_by_ok zero count p xs q h e =
    let is = ok_parts [] xs p q e in
    let none : length xs ≡ 0 = rw (sym is.0) in
    (omega arith, took_same [] [] p p q refl is.1 (record { cut = refl; moved = omega arith }))
data_by_ok (suc n) count p xs q h e =
    let a = then_ok (data_operands (min 32 count) p) _ xs q e in
    let b = then_ok (data_by n (count - 32) a.1) _ xs q a.3 in
    let is = ok_parts (a.0 ++ b.0) xs b.1 q b.3 in
    let front = data_ok (min 32 count) p a.0 a.1 (omega arith) a.2 in
    let back = data_by_ok n (count - 32) a.1 b.0 b.1 (omega (arith, h)) b.2 in
    let cut = cut_front a.0 b.0 (fronts count a.0 b.0 front.0 back.0) in
    let long : length xs ≡ count = ap length (sym is.0) ∙ length-append a.0 b.0 ∙ omega (arith, front.0, back.0) in
    let first : take 32 xs ≡ a.0 = ap (take 32) (sym is.0) ∙ cut.0 in
    let others : drop 32 xs ≡ b.0 = ap (drop 32) (sym is.0) ∙ cut.1 in
    let same : piece a.0 ++ pieces_by n b.0 ≡ piece (take 32 xs) ++ pieces_by n (drop 32 xs) = ap (λ z. piece z ++ pieces_by n b.0) (sym first) ∙ ap (λ z. piece (take 32 xs) ++ pieces_by n z) (sym others) in
    (long, took_same _ _ p b.1 q same is.1 (took_both (piece a.0) (pieces_by n b.0) p a.1 b.1 front.1 back.1))

data_by_at : (n at : ℕ) (xs rest : List ℕ) → n ≡ commands_for (length xs) → data_by n (length xs) (place at (pieces_by n xs ++ rest)) ≡ Ok (xs, place (at + n * 34) rest)
data_by_at zero at xs rest h =
    let none = nil_from_length xs (omega arith) in
    let moved : at ≡ at + 0 * 34 = omega arith in
    ap (λ z. Ok (z, place at rest)) (sym none) ∙ ap (λ z. Ok (xs, place z rest)) moved
data_by_at (suc n) at xs rest h =
    let front = take 32 xs in
    let others = drop 32 xs in
    let t : length (take 32 xs) ≡ min 32 (length xs) = length-take 32 xs in
    let d : length (drop 32 xs) ≡ length xs - 32 = length-drop 32 xs in
    let moved : at + 34 + n * 34 ≡ at + suc n * 34 = omega arith in
    let tail = pieces_by n (drop 32 xs) ++ rest in
    let first : data_operands (min 32 (length xs)) (place at ((piece front ++ pieces_by n others) ++ rest)) ≡ Ok (front, place (at + 34) tail)
    = ap (λ z. data_operands (min 32 (length xs)) (place at z)) (append_assoc (piece front) (pieces_by n others) rest) ∙ ap (λ z. data_operands z (place at (piece front ++ tail))) (sym t) ∙ data_at at front tail (omega arith) in
    let second : data_by n (length xs - 32) (place (at + 34) tail) ≡ Ok (others, place (at + 34 + n * 34) rest)
    = ap (λ z. data_by n z (place (at + 34) tail)) (sym d) ∙ data_by_at n (at + 34) others rest (omega arith) in
    then_is _ _ front (place (at + 34) tail) first
    ∙ then_is _ _ others (place (at + 34 + n * 34) rest) second
    ∙ ap (λ z. Ok (front ++ others, place z rest)) moved
    ∙ ap (λ z. Ok (z, place (at + suc n * 34) rest)) (take-append-drop 32 xs)

pub part_ok : (count : ℕ) (p : Place) (xs : List ℕ) (q : Place) → part count p ≡ Ok (xs, q) → (length xs ≡ count) × Took (pieces xs) p q
unfolding part pieces
part_ok count p xs q e =
    let r = data_by_ok (commands_for count) count p xs q refl e in
    (r.0, took_same _ _ p q q (ap (λ z. pieces_by (commands_for z) xs) (sym r.0)) refl r.1)

pub part_at : (at : ℕ) (xs rest : List ℕ) → part (length xs) (place at (pieces xs ++ rest)) ≡ Ok (xs, place (at + length (pieces xs)) rest)
unfolding part pieces
part_at at xs rest = data_by_at (commands_for (length xs)) at xs rest refl ∙ ap (λ z. Ok (xs, place (at + z) rest)) (sym (length-pieces xs))

-- a warning that was read from a place: it is one, and what was taken is its written form after the command octet
pub record Entered (command : ℕ) (w : Notice) (p q : Place) : Type 0 where
  pub right : is_warning (outline w) ≡ true
  pub tail : List ℕ
  pub whole : encode w ≡ command ∷ tail
  pub took : Took tail p q

-- flag and security information as they are read
security_same : (flag : ℕ) (xs : List ℕ) → flag ≤ 1 → length xs ≡ 50 → cond (eqb flag 0) (all_zero xs) true ≡ true → (security_part (present flag xs) ≡ flag ∷ xs) × (right_security (option_map length (present flag xs)) ≡ true)
security_same zero xs h l z = (ap (λ ys. 0 ∷ ys) (sym (zeros xs z ∙ ap (λ n. replicate n 0) l)), refl)
security_same (suc zero) xs h l z = (refl, eq-eqb (length xs) 50 l)
security_same (suc (suc n)) xs h l z = absurd (omega arith)

-- the operands of a primary after its command octet
abbrev primary_tail : Pair → ℕ → Option (List ℕ) → List ℕ
primary_tail pair warning-type security = (pair_octets pair ++ two warning-type) ++ security_part security

primary_made : (pair : Pair) (t flag : ℕ) (xs : List ℕ) (w : Notice) (p p₁ p₂ p₃ p₄ q : Place)
    → Took (pair_octets pair) p p₁ → Took (two t) p₁ p₂ → (leb flag 1 ≡ true) × Took (flag ∷ []) p₂ p₃
    → (cond (eqb flag 0) (all_zero xs) true ≡ true) × (length xs ≡ 50) × Took xs p₃ p₄
    → (Primary pair t (present flag xs) ≡ w) × (p₄ ≡ q) → Entered 0x50 w p q
primary_made pair t flag xs w p p₁ p₂ p₃ p₄ q ep et ef ex is =
    let same = security_same flag xs (leb-true _ _ ef.0) ex.1 ex.0 in
    let head = took_both (pair_octets pair) (two t) p p₁ p₂ ep et in
    let all = took_both (pair_octets pair ++ two t) (flag ∷ xs) p p₂ p₄ head (took_both (flag ∷ []) xs p₂ p₃ p₄ ef.1 ex.2) in
    let list : (pair_octets pair ++ two t) ++ (flag ∷ xs) ≡ primary_tail pair t (present flag xs) = ap (λ z. (pair_octets pair ++ two t) ++ z) (sym same.0) in
    record {
      right = ap (λ z. is_warning (outline z)) (sym is.0) ∙ same.1;
      tail = primary_tail pair t (present flag xs);
      whole = ap encode (sym is.0);
      took = took_same _ _ p p₄ q list is.1 all;
    }

primary_ok : (p : Place) (w : Notice) (q : Place) → primary_operands p ≡ Ok (w, q) → Entered 0x50 w p q
unfolding primary_operands
primary_ok p w q e =
    then_elim (pair_operands p) _ w q e (λ pair p₁ e₁ k₁.
    then_elim (number p₁) _ w q k₁ (λ t p₂ e₂ k₂.
    then_elim (octet (λ flag. leb flag 1) p₂) _ w q k₂ (λ flag p₃ e₃ k₃.
    then_elim (security_operand flag p₃) _ w q k₃ (λ security p₄ e₄ k₄.
    then_elim (operand 50 (λ xs. cond (eqb flag 0) (all_zero xs) true) p₃) _ security p₄ e₄ (λ xs p₅ e₅ k₅.
    let is = ok_parts (present flag xs) security p₅ p₄ k₅ in
    let made = ok_parts (Primary pair t security) w p₄ q k₄ in
    primary_made pair t flag xs w p p₁ p₂ p₃ p₅ q
    (pair_ok p pair p₁ e₁) (number_ok p₁ t p₂ e₂) (octet_ok (λ flag. leb flag 1) p₂ flag p₃ e₃)
    (operand_ok 50 (λ ys. cond (eqb flag 0) (all_zero ys) true) p₃ xs p₅ e₅)
    (ap (Primary pair t) is.0 ∙ made.0, is.1 ∙ made.1))))))

right_flag : (security : Option (List ℕ)) → leb (flag_of security) 1 ≡ true
right_flag None = refl
right_flag (Some xs) = refl

-- the octets of the security information, zeros where it is absent
abbrev security_list : Option (List ℕ) → List ℕ
security_list None = replicate 50 0
security_list (Some xs) = xs

security_read : (security : Option (List ℕ)) → right_security (option_map length security) ≡ true → (length (security_list security) ≡ 50) × (cond (eqb (flag_of security) 0) (all_zero (security_list security)) true ≡ true) × (present (flag_of security) (security_list security) ≡ security) × (security_part security ≡ flag_of security ∷ security_list security)
security_read None h = (refl, refl, refl, refl)
security_read (Some xs) h = (eqb-true (length xs) 50 h, refl, refl, refl)

primary_at : (at : ℕ) (pair : Pair) (warning-type : ℕ) (security : Option (List ℕ)) (rest : List ℕ) → right_security (option_map length security) ≡ true → primary_operands (place at (primary_tail pair warning-type security ++ rest)) ≡ Ok (Primary pair warning-type security, place (at + 57) rest)
unfolding primary_operands
primary_at at pair warning-type security rest h =
    let s = security_read security h in
    let xs = security_list security in
    let flag = flag_of security in
    let t₁ = flag ∷ (xs ++ rest) in
    let moved : at + 4 + 2 + 1 + 50 ≡ at + 57 = omega arith in
    ap (λ z. primary_operands (place at ((pair_octets pair ++ two warning-type) ++ z ++ rest))) s.3
    ∙ then_is _ _ pair (place (at + 4) (two warning-type ++ t₁)) (pair_at at pair (two warning-type ++ t₁))
    ∙ then_is _ _ warning-type (place (at + 4 + 2) t₁) (number_at (at + 4) warning-type t₁)
    ∙ then_is _ _ flag (place (at + 4 + 2 + 1) (xs ++ rest)) (octet_at (λ f. leb f 1) (at + 4 + 2) flag (xs ++ rest) (right_flag security))
    ∙ then_is _ _ security (place (at + 4 + 2 + 1 + 50) rest)
    (then_is _ _ xs (place (at + 4 + 2 + 1 + 50) rest) (operand_at 50 (λ ys. cond (eqb flag 0) (all_zero ys) true) (at + 4 + 2 + 1) xs rest s.0 s.1)
    ∙ ap (λ z. Ok (z, place (at + 4 + 2 + 1 + 50) rest)) s.2)
    ∙ ap (λ z. Ok (Primary pair warning-type security, place z rest)) moved

flag_allowed : (b : Bool) → 1 ≤ cond b 0 1 → b ≡ false
flag_allowed true h = absurd (omega arith)
flag_allowed false h = refl

flag_small : (b : Bool) → cond b 0 1 ≤ 1
flag_small true = omega arith
flag_small false = omega arith

no_area : (b : Bool) → not (b && false) ≡ true
no_area true = refl
no_area false = refl

some_allowed : (b : Bool) → not (b && true) ≡ true → b ≡ false
some_allowed true h = let z : ◌≡◌ {A = ℕ} 0 1 = cc in absurd (omega arith)
some_allowed false h = refl

-- flag, length and octets of an area as they are read
pub record AreaRead (block octets flag a : ℕ) (xs : List ℕ) : Type 0 where
  pub head : area_head (present flag xs) ≡ flag ∷ two a
  pub octets_are : octets_of (present flag xs) ≡ xs
  pub allowed : not (without_area block && is_some (option_map length (present flag xs))) ≡ true
  pub few : leb (total octets (option_map length (present flag xs))) (limit block) ≡ true

pub area_read : (block octets flag a : ℕ) (xs : List ℕ) → flag ≤ most_flag block → octets ≤ limit block → a ≤ most_area block octets flag → length xs ≡ a → AreaRead block octets flag a xs
area_read block octets zero a xs f o h l =
    let none = nil_from_length xs (omega arith) in
    let zero-length : a ≡ 0 = omega arith in
    record {
      head = ap (λ z. 0 ∷ two z) (sym zero-length);
      octets_are = sym none;
      allowed = no_area (without_area block);
      few = le-leb (octets + 0) (limit block) (omega arith);
    }
area_read block octets (suc zero) a xs f o h l =
    let other : without_area block ≡ false = flag_allowed (without_area block) f in
    record {
      head = ap (λ z. 1 ∷ two z) l;
      octets_are = refl;
      allowed = rw other;
      few = le-leb (octets + length xs) (limit block) (omega arith);
    }
area_read block octets (suc (suc flag)) a xs f o h l =
    let s = flag_small (without_area block) in absurd (omega arith)

all_three : (a b d : Bool) → a ≡ true → b ≡ true → d ≡ true → (a && (b && d)) ≡ true
all_three a b d e f g = rw (e, f, g)

-- the operands of a message after its command octet, with its data
abbrev message_tail : ℕ → Pair → ℕ → List ℕ → Option (List ℕ) → List ℕ
message_tail block pair coding octets area =
    block ∷ (pair_octets pair ++ (coding ∷ (two (length octets) ++ (area_head area ++ (pieces octets ++ pieces (octets_of area))))))

-- the octets of a message as they are read, and as its written form has them
tail_same : (block : ℕ) (pair : Pair) (coding m flag a : ℕ) (ms as' : List ℕ) → length ms ≡ m → AreaRead block m flag a as' → block ∷ (pair_octets pair ++ (coding ∷ (two m ++ (flag ∷ (two a ++ (pieces ms ++ pieces as')))))) ≡ message_tail block pair coding ms (present flag as')
tail_same block pair coding m flag a ms as' l r =
    ap (λ z. block ∷ (pair_octets pair ++ (coding ∷ (two z ++ (flag ∷ (two a ++ (pieces ms ++ pieces as'))))))) (sym l)
    ∙ ap (λ z. block ∷ (pair_octets pair ++ (coding ∷ (two (length ms) ++ (z ++ (pieces ms ++ pieces as')))))) (sym r.head)
    ∙ ap (λ z. block ∷ (pair_octets pair ++ (coding ∷ (two (length ms) ++ (area_head (present flag as') ++ (pieces ms ++ pieces z)))))) (sym r.octets_are)

message_made : (block : ℕ) (pair : Pair) (coding m flag a : ℕ) (ms as' : List ℕ) (w : Notice) (p p₁ p₂ p₃ p₄ p₅ p₆ p₇ p₈ q : Place)
    → (carries_message block ≡ true) × Took (block ∷ []) p p₁ → Took (pair_octets pair) p₁ p₂ → Took (coding ∷ []) p₂ p₃
    → (m ≤ limit block) × Took (two m) p₃ p₄ → (leb flag (most_flag block) ≡ true) × Took (flag ∷ []) p₄ p₅ → (a ≤ most_area block m flag) × Took (two a) p₅ p₆
    → (length ms ≡ m) × Took (pieces ms) p₆ p₇ → (length as' ≡ a) × Took (pieces as') p₇ p₈
    → (Message block pair coding ms (present flag as') ≡ w) × (p₈ ≡ q) → Entered 0x4D w p q
message_made block pair coding m flag a ms as' w p p₁ p₂ p₃ p₄ p₅ p₆ p₇ p₈ q eb ep ec em ef ea eo es is =
    let ar = area_read block m flag a as' (leb-true _ _ ef.0) em.0 ea.0 es.0 in
    let t₇ = took_both (pieces ms) (pieces as') p₆ p₇ p₈ eo.1 es.1 in
    let t₆ = took_both (two a) (pieces ms ++ pieces as') p₅ p₆ p₈ ea.1 t₇ in
    let t₅ = took_both (flag ∷ []) (two a ++ (pieces ms ++ pieces as')) p₄ p₅ p₈ ef.1 t₆ in
    let t₄ = took_both (two m) (flag ∷ (two a ++ (pieces ms ++ pieces as'))) p₃ p₄ p₈ em.1 t₅ in
    let t₃ = took_both (coding ∷ []) (two m ++ (flag ∷ (two a ++ (pieces ms ++ pieces as')))) p₂ p₃ p₈ ec t₄ in
    let t₂ = took_both (pair_octets pair) (coding ∷ (two m ++ (flag ∷ (two a ++ (pieces ms ++ pieces as'))))) p₁ p₂ p₈ ep t₃ in
    let t₁ = took_both (block ∷ []) (pair_octets pair ++ (coding ∷ (two m ++ (flag ∷ (two a ++ (pieces ms ++ pieces as')))))) p p₁ p₈ eb.1 t₂ in
    let area = present flag as' in
    let few : leb (total (length ms) (option_map length area)) (limit block) ≡ true = ap (λ z. leb (total z (option_map length area)) (limit block)) eo.0 ∙ ar.few in
    record {
      right = ap (λ z. is_warning (outline z)) (sym is.0) ∙ all_three _ _ _ eb.0 ar.allowed few;
      tail = message_tail block pair coding ms area;
      whole = ap encode (sym is.0);
      took = took_same _ _ p p₈ q (tail_same block pair coding m flag a ms as' eo.0 ar) is.1 t₁;
    }

message_ok : (p : Place) (w : Notice) (q : Place) → message_operands p ≡ Ok (w, q) → Entered 0x4D w p q
unfolding message_operands
message_ok p w q e =
    then_elim (octet carries_message p) _ w q e (λ block p₁ e₁ k₁.
    then_elim (pair_operands p₁) _ w q k₁ (λ pair p₂ e₂ k₂.
    then_elim (octet (λ coding. true) p₂) _ w q k₂ (λ coding p₃ e₃ k₃.
    then_elim (number_to (limit block) p₃) _ w q k₃ (λ m p₄ e₄ k₄.
    then_elim (octet (λ flag. leb flag (most_flag block)) p₄) _ w q k₄ (λ flag p₅ e₅ k₅.
    then_elim (number_to (most_area block m flag) p₅) _ w q k₅ (λ a p₆ e₆ k₆.
    then_elim (part m p₆) _ w q k₆ (λ ms p₇ e₇ k₇.
    then_elim (part a p₇) _ w q k₇ (λ as' p₈ e₈ k₈.
    message_made block pair coding m flag a ms as' w p p₁ p₂ p₃ p₄ p₅ p₆ p₇ p₈ q
    (octet_ok carries_message p block p₁ e₁) (pair_ok p₁ pair p₂ e₂) (octet_ok (λ coding. true) p₂ coding p₃ e₃).1
    (number_to_ok (limit block) p₃ m p₄ e₄) (octet_ok (λ flag. leb flag (most_flag block)) p₄ flag p₅ e₅) (number_to_ok (most_area block m flag) p₅ a p₆ e₆)
    (part_ok m p₆ ms p₇ e₇) (part_ok a p₇ as' p₈ e₈)
    (ok_parts (Message block pair coding ms (present flag as')) w p₈ q k₈)))))))))

-- an area that stands on tape, and what its flag and length may be
area_fits : (block octets : ℕ) (area : Option (List ℕ)) → not (without_area block && is_some (option_map length area)) ≡ true → octets + unwrap_or (option_map length area) 0 ≤ limit block → (leb (flag_of area) (most_flag block) ≡ true) × (length (octets_of area) ≤ most_area block octets (flag_of area)) × (present (flag_of area) (octets_of area) ≡ area)
area_fits block octets None h k = (le-leb 0 (most_flag block) (omega arith), omega arith, refl)
area_fits block octets (Some xs) h k =
    let other = some_allowed (without_area block) h in
    (rw other, omega arith, refl)

message_at : (at block : ℕ) (pair : Pair) (coding : ℕ) (octets : List ℕ) (area : Option (List ℕ)) (rest : List ℕ) → is_warning (outline (Message block pair coding octets area)) ≡ true → message_operands (place at (message_tail block pair coding octets area ++ rest)) ≡ Ok (Message block pair coding octets area, place (at + 11 + length (pieces octets) + length (pieces (octets_of area))) rest)
unfolding message_operands
message_at at block pair coding octets area rest h =
    let xs = octets_of area in
    let flag = flag_of area in
    let a = length (octets_of area) in
    let m = length octets in
    let first = and_parts (carries_message block) _ h in
    let second = and_parts (not (without_area block && is_some (option_map length area))) _ first.1 in
    let few : length octets + unwrap_or (option_map length area) 0 ≤ limit block = leb-true _ _ second.1 in
    let fits = area_fits block (length octets) area second.0 few in
    let r₁ = pieces octets ++ (pieces xs ++ rest) in
    let assoc : (pieces octets ++ pieces xs) ++ rest ≡ r₁ = append_assoc (pieces octets) (pieces xs) rest in
    let moved : at + 1 + 4 + 1 + 2 + 1 + 2 + length (pieces octets) + length (pieces xs) ≡ at + 11 + length (pieces octets) + length (pieces xs) = omega arith in
    ap (λ z. message_operands (place at (block ∷ (pair_octets pair ++ (coding ∷ (two m ++ (flag ∷ (two a ++ z)))))))) assoc
    ∙ then_is _ _ block (place (at + 1) (pair_octets pair ++ (coding ∷ (two m ++ (flag ∷ (two a ++ r₁)))))) (octet_at carries_message at block _ first.0)
    ∙ then_is _ _ pair (place (at + 1 + 4) (coding ∷ (two m ++ (flag ∷ (two a ++ r₁))))) (pair_at (at + 1) pair _)
    ∙ then_is _ _ coding (place (at + 1 + 4 + 1) (two m ++ (flag ∷ (two a ++ r₁)))) (octet_at (λ c. true) (at + 1 + 4) coding _ refl)
    ∙ then_is _ _ m (place (at + 1 + 4 + 1 + 2) (flag ∷ (two a ++ r₁))) (number_to_at (limit block) (at + 1 + 4 + 1) m _ (omega (arith, few)))
    ∙ then_is _ _ flag (place (at + 1 + 4 + 1 + 2 + 1) (two a ++ r₁)) (octet_at (λ f. leb f (most_flag block)) (at + 1 + 4 + 1 + 2) flag _ fits.0)
    ∙ then_is _ _ a (place (at + 1 + 4 + 1 + 2 + 1 + 2) r₁) (number_to_at (most_area block m flag) (at + 1 + 4 + 1 + 2 + 1) a r₁ fits.1)
    ∙ then_is _ _ octets (place (at + 1 + 4 + 1 + 2 + 1 + 2 + length (pieces octets)) (pieces xs ++ rest)) (part_at (at + 1 + 4 + 1 + 2 + 1 + 2) octets (pieces xs ++ rest))
    ∙ then_is _ _ xs (place (at + 1 + 4 + 1 + 2 + 1 + 2 + length (pieces octets) + length (pieces xs)) rest) (part_at (at + 1 + 4 + 1 + 2 + 1 + 2 + length (pieces octets)) xs rest)
    ∙ ap (λ z. Ok (Message block pair coding octets z, place (at + 1 + 4 + 1 + 2 + 1 + 2 + length (pieces octets) + length (pieces xs)) rest)) fits.2
    ∙ ap (λ z. Ok (Message block pair coding octets area, place z rest)) moved

pub one_of_two : {X : Type 0} (a b : Bool) (x y : Read X) (f : TapeFault) (z : X × Place) → cond a x (cond b y (Err f)) ≡ Ok z → ((a ≡ true) × (x ≡ Ok z)) ⊎ ((b ≡ true) × (y ≡ Ok z))
one_of_two true b x y f z e = inl (refl, e)
one_of_two false true x y f z e = inr (refl, e)
one_of_two false false x y f z e = let n : ◌≡◌ {A = ℕ} 0 1 = cc in absurd (omega arith)

-- a command octet tells which operands follow
command_ok : (command : ℕ) (at : ℕ) (p : Place) (w : Notice) (q : Place) → by_command command at p ≡ Ok (w, q) → Entered command w p q
command_ok command at p w q e =
    ⊎_elim
    (λ h. rw (eqb-true command 0x50 h.0) (primary_ok p w q h.1))
    (λ h. rw (eqb-true command 0x4D h.0) (message_ok p w q h.1))
    (one_of_two (eqb command 0x50) (eqb command 0x4D) (primary_operands p) (message_operands p) (Unknown at) (w, q) e)

-- a warning that is read is one, and its written form stands there
pub entry_ok : (p : Place) (w : Notice) (q : Place) → entry p ≡ Ok (w, q) → (is_warning (outline w) ≡ true) × Took (encode w) p q
unfolding entry
entry_ok p w q e =
    then_elim (octet (λ c. true) p) _ w q e (λ command r e₁ k.
    let first = (octet_ok (λ c. true) p command r e₁).1 in
    let entered = command_ok command p.at r w q k in
    let all = took_both (command ∷ []) entered.tail p r q first entered.took in
    (entered.right, took_same _ _ p q q (sym entered.whole) refl all))

-- a warning that stands there is read
pub entry_at : (at : ℕ) (w : Notice) (rest : List ℕ) → is_warning (outline w) ≡ true → entry (place at (encode w ++ rest)) ≡ Ok (w, place (at + length (encode w)) rest)
unfolding entry
entry_at at (Primary pair warning-type security) rest h =
    let long = length-encode (Primary pair warning-type security) h in
    let moved : at + 1 + 57 ≡ at + length (encode (Primary pair warning-type security)) = omega (arith, long) in
    then_is _ _ 0x50 (place (at + 1) (primary_tail pair warning-type security ++ rest)) (octet_at (λ c. true) at 0x50 _ refl)
    ∙ primary_at (at + 1) pair warning-type security rest h
    ∙ ap (λ z. Ok (Primary pair warning-type security, place z rest)) moved
entry_at at (Message block pair coding octets area) rest h =
    let p₁ = pieces octets in
    let p₂ = pieces (octets_of area) in
    let both = length-append (pieces octets) (pieces (octets_of area)) in
    let moved : at + 1 + 11 + length p₁ + length p₂ ≡ at + length (encode (Message block pair coding octets area)) = omega arith in
    then_is _ _ 0x4D (place (at + 1) (message_tail block pair coding octets area ++ rest)) (octet_at (λ c. true) at 0x4D _ refl)
    ∙ message_at (at + 1) block pair coding octets area rest h
    ∙ ap (λ z. Ok (Message block pair coding octets area, place z rest)) moved
