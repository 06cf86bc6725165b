-- What each operand and a whole warning come to when more octets follow.
use Rattle.std.proofs.Common.{◌≡◌, ℕ, zero, suc, ◌+◌, ◌-◌, ◌<◌, ◌≤◌, min, Bool, true, false, cond, ◌&&◌, eqb, leb, ◌⊎◌, List, [], ◌∷◌, ◌++◌, length, get_or, take, drop, replicate, Ok, Err, refl, ap, ◌∙◌, inl, inr, arith}
use Rattle.std.proofs.lemmas.List.{length-append, length-replicate, nil_from_length}
use Rattle.std.proofs.lemmas.List.Elements.{All-nil, All-cons, All-replicate}
use Rattle.std.proofs.lemmas.Bool.{cases_Bool, and_parts, and_from, ltb-true, lt-ltb, leb-true, le-leb, eq-eqb}
use Rattle.octets.specs.Octets.{two_at}
use Rattle.warning.specs.declared.Warning.TheVariants.{Primary, Message}
use Rattle.warning.specs.Notice.{Notice}
use Rattle.warning.specs.Rules.{carries_message, limit}
use Rattle.tape.specs.declared.fault.TapeFault.TheVariants.{Ended}
use Rattle.tape.specs.Format.{commands_for}
use Rattle.tape.specs.Reading.{Place, place, Read, operand, first_is, octet, of_number, number, number_to, pair_operands, all_zero, present, security_operand, primary_operands, data_operands, data_by, part, most_flag, most_area, message_operands, by_command, entry}
use Rattle.tape.specs.Judging.{AreOctets}
use Rattle.tape.proofs.Takes.{then_is, octet_at, zeros_pass}
use Rattle.tape.proofs.Splits.{then_err, octet_none}
use Rattle.tape.proofs.Outcomes.{Outcome, read, wrong, short, Judged, judged_done, judged_then, Beginnings, judged_operand}

-- an octet before others, one by itself, and zeros
octet_first : (c : ℕ) (xs : List ℕ) → c < 256 → AreOctets xs → AreOctets (c ∷ xs)
octet_first c xs l h = All-cons (λ x. x < 256) c xs l h

one_octet : (c : ℕ) → c < 256 → AreOctets (c ∷ [])
one_octet c l = octet_first c [] l (All-nil (λ x. x < 256))

zero_octets : (n : ℕ) → AreOctets (replicate n 0)
zero_octets n = All-replicate (λ x. x < 256) n 0 (omega arith)

-- one octet, where some octet passes the test
one_fewer : (test : ℕ → Bool) (xs ys : List ℕ) → first_is test (xs ++ ys) ≡ true → first_is test xs ≡ true
one_fewer test [] ys h = refl
one_fewer test (x ∷ xs) ys h = h

one_filled : (test : ℕ → Bool) (c : ℕ) → c < 256 → test c ≡ true → (xs : List ℕ) → length xs < 1 → first_is test xs ≡ true → (ys : List ℕ) × (AreOctets ys) × (length (xs ++ ys) ≡ 1) × (first_is test (xs ++ ys) ≡ true)
one_filled test c o h [] l k = (c ∷ [], one_octet c o, refl, h)
one_filled test c o h (x ∷ xs) l k = absurd (omega arith)

one_of : (test : ℕ → Bool) (c : ℕ) → c < 256 → test c ≡ true → Beginnings 1 (first_is test)
one_of test c o h = record { none = refl; fewer = one_fewer test; filled = one_filled test c o h }

-- where zeros may follow what passes, they fill an operand
zeros_fill : (w : ℕ) (begins : List ℕ → Bool) → ((xs : List ℕ) (n : ℕ) → begins xs ≡ true → begins (xs ++ replicate n 0) ≡ true) → (xs : List ℕ) → length xs < w → begins xs ≡ true → (ys : List ℕ) × (AreOctets ys) × (length (xs ++ ys) ≡ w) × (begins (xs ++ ys) ≡ true)
zeros_fill w begins pass xs l h =
    let n = w - length xs in
    let long : length (xs ++ replicate (w - length xs) 0) ≡ w = rw (length-append, length-replicate) (omega arith) in
    (replicate n 0, zero_octets n, long, pass xs n h)

-- an octet that is missing counts as 0, the least; a zero in its place is the same
at_fewer : (xs ys : List ℕ) (i : ℕ) → get_or xs i 0 ≤ get_or (xs ++ ys) i 0
at_fewer [] ys i = omega arith
at_fewer (x ∷ xs) ys zero = omega arith
at_fewer (x ∷ xs) ys (suc i) = at_fewer xs ys i

zero_at : (n i : ℕ) → ◌≡◌ {A = ℕ} (get_or (replicate n 0) i 0) 0
zero_at zero i = refl
zero_at (suc n) zero = refl
zero_at (suc n) (suc i) = zero_at n i

at_zeros : (xs : List ℕ) (n i : ℕ) → get_or (xs ++ replicate n 0) i 0 ≡ get_or xs i 0
at_zeros [] n i = zero_at n i
at_zeros (x ∷ xs) n zero = refl
at_zeros (x ∷ xs) n (suc i) = at_zeros xs n i

number_fewer : (xs ys : List ℕ) → of_number (xs ++ ys) ≡ true → of_number xs ≡ true
number_fewer xs ys h =
    let low = ltb-true _ _ h in
    let less = at_fewer xs ys 1 in
    lt-ltb _ _ (omega arith)

number_zeros : (xs : List ℕ) (n : ℕ) → of_number xs ≡ true → of_number (xs ++ replicate n 0) ≡ true
number_zeros xs n h = rw (at_zeros xs n 1) h

of_numbers : Beginnings 2 of_number
of_numbers = record { none = refl; fewer = number_fewer; filled = zeros_fill 2 of_number number_zeros }

-- a number that has a limit
module _ (most : ℕ) where
  abbrev up_to : List ℕ → Bool
  up_to xs = of_number xs && leb (two_at xs 0) most

  limit_fewer : (xs ys : List ℕ) → up_to (xs ++ ys) ≡ true → up_to xs ≡ true
  limit_fewer xs ys h =
      let both = and_parts (of_number (xs ++ ys)) (leb (two_at (xs ++ ys) 0) most) h in
      let low : two_at (xs ++ ys) 0 ≤ most = leb-true _ _ both.1 in
      let high = at_fewer xs ys 0 in
      let less = at_fewer xs ys 1 in
      and_from _ _ (number_fewer xs ys both.0) (le-leb _ _ (omega arith))

  limit_zeros : (xs : List ℕ) (n : ℕ) → up_to xs ≡ true → up_to (xs ++ replicate n 0) ≡ true
  limit_zeros xs n h = rw (at_zeros xs n 1, at_zeros xs n 0) h

  numbers_to : Beginnings 2 up_to
  numbers_to = record { none = and_from _ _ refl (le-leb _ _ (omega arith)); fewer = limit_fewer; filled = zeros_fill 2 up_to limit_zeros }

-- zeros past a count
zeros_fewer : (count : ℕ) (xs ys : List ℕ) → all_zero (drop count (xs ++ ys)) ≡ true → all_zero (drop count xs) ≡ true
zeros_fewer zero [] ys h = refl
zeros_fewer zero (x ∷ xs) ys h =
    let both = and_parts (eqb x 0) (all_zero (xs ++ ys)) h in
    and_from _ _ both.0 (zeros_fewer zero xs ys both.1)
zeros_fewer (suc count) [] ys h = refl
zeros_fewer (suc count) (x ∷ xs) ys h = zeros_fewer count xs ys h

drop_zeros : (count n : ℕ) → all_zero (drop count (replicate n 0)) ≡ true
drop_zeros zero n = zeros_pass n
drop_zeros (suc count) zero = refl
drop_zeros (suc count) (suc n) = drop_zeros count n

zeros_zeros : (count : ℕ) (xs : List ℕ) (n : ℕ) → all_zero (drop count xs) ≡ true → all_zero (drop count (xs ++ replicate n 0)) ≡ true
zeros_zeros count [] n h = drop_zeros count n
zeros_zeros zero (x ∷ xs) n h =
    let both = and_parts (eqb x 0) (all_zero xs) h in
    and_from _ _ both.0 (zeros_zeros zero xs n both.1)
zeros_zeros (suc count) (x ∷ xs) n h = zeros_zeros count xs n h

drop_none : (count : ℕ) → all_zero (drop count []) ≡ true
drop_none zero = refl
drop_none (suc count) = refl

padding : (w count : ℕ) → Beginnings w (λ xs. all_zero (drop count xs))
padding w count = record { none = drop_none count; fewer = zeros_fewer count; filled = zeros_fill w (λ xs. all_zero (drop count xs)) (zeros_zeros count) }

-- security information: zeros where it is absent, otherwise any octets
security_begins : (w : ℕ) (absent : Bool) → Beginnings w (λ xs. cond absent (all_zero xs) true)
security_begins w true = padding w 0
security_begins w false = record { none = refl; fewer = λ xs ys h. refl; filled = zeros_fill w (λ xs. true) (λ xs n h. refl) }

judged_octet : (test : ℕ → Bool) (c : ℕ) → c < 256 → test c ≡ true → Judged (octet test)
unfolding octet
judged_octet test c o h = judged_then (operand 1 (first_is test)) _ (judged_operand 1 (first_is test) (one_of test c o h)) (λ xs. judged_done (get_or xs 0 0))

judged_number : Judged number
unfolding number
judged_number = judged_then (operand 2 of_number) _ (judged_operand 2 of_number of_numbers) (λ xs. judged_done (two_at xs 0))

judged_number_to : (most : ℕ) → Judged (number_to most)
unfolding number_to
judged_number_to most = judged_then (operand 2 (up_to most)) _ (judged_operand 2 (up_to most) (numbers_to most)) (λ xs. judged_done (two_at xs 0))

judged_pair : Judged pair_operands
unfolding pair_operands
judged_pair = judged_then number _ judged_number (λ i. judged_then number _ judged_number (λ s. judged_done (record { identifier = i; serial = s })))

judged_security : (flag : ℕ) → Judged (security_operand flag)
judged_security flag =
    let begins = λ (xs : List ℕ). cond (eqb flag 0) (all_zero xs) true in
    judged_then (operand 50 begins) _ (judged_operand 50 begins (security_begins 50 (eqb flag 0))) (λ xs. judged_done (present flag xs))

judged_data : (count : ℕ) → count < 256 → Judged (data_operands count)
unfolding data_operands
judged_data count o =
    judged_then (octet (λ c. eqb c 0x44)) _ (judged_octet (λ c. eqb c 0x44) 0x44 (omega arith) refl) (λ command.
    judged_then (octet (λ c. eqb c count)) _ (judged_octet (λ c. eqb c count) count o (eq-eqb count count refl)) (λ c.
    judged_then (operand 32 (λ xs. all_zero (drop count xs))) _ (judged_operand 32 (λ xs. all_zero (drop count xs)) (padding 32 count)) (λ xs.
    judged_done (take count xs))))

judged_data_by : (n count : ℕ) → Judged (data_by n count)
judged_data_by zero count = judged_done []
judged_data_by (suc n) count =
    judged_then (data_operands (min 32 count)) _ (judged_data (min 32 count) (omega arith)) (λ xs.
    judged_then (data_by n (count - 32)) _ (judged_data_by n (count - 32)) (λ ys.
    judged_done (xs ++ ys)))

judged_part : (count : ℕ) → Judged (part count)
unfolding part
judged_part count = judged_data_by (commands_for count) count

judged_flag : (most : ℕ) → Judged (octet (λ flag. leb flag most))
judged_flag most = judged_octet (λ flag. leb flag most) 0 (omega arith) (le-leb _ _ (omega arith))

judged_primary : Judged primary_operands
unfolding primary_operands
judged_primary =
    judged_then pair_operands _ judged_pair (λ pair.
    judged_then number _ judged_number (λ warning-type.
    judged_then (octet (λ flag. leb flag 1)) _ (judged_flag 1) (λ flag.
    judged_then (security_operand flag) _ (judged_security flag) (λ security.
    judged_done (Primary pair warning-type security)))))

judged_message : Judged message_operands
unfolding message_operands
judged_message =
    judged_then (octet carries_message) _ (judged_octet carries_message 8 (omega arith) refl) (λ block.
    judged_then pair_operands _ judged_pair (λ pair.
    judged_then (octet (λ coding. true)) _ (judged_octet (λ coding. true) 0 (omega arith) refl) (λ coding.
    judged_then (number_to (limit block)) _ (judged_number_to (limit block)) (λ count.
    judged_then (octet (λ flag. leb flag (most_flag block))) _ (judged_flag (most_flag block)) (λ flag.
    judged_then (number_to (most_area block count flag)) _ (judged_number_to (most_area block count flag)) (λ area.
    judged_then (part count) _ (judged_part count) (λ octets.
    judged_then (part area) _ (judged_part area) (λ xs.
    judged_done (Message block pair coding octets (present flag xs))))))))))

-- the operands of a command that stands there
entry_by : (at c : ℕ) (t : List ℕ) → entry (place at (c ∷ t)) ≡ by_command c at (place (at + 1) t)
unfolding entry
entry_by at c t = then_is _ _ c (place (at + 1) t) (octet_at (λ z. true) at c t refl)

entry_from : (at c : ℕ) (t : List ℕ) (r : Place → Read Notice) → ((s : List ℕ) → by_command c at (place (at + 1) s) ≡ r (place (at + 1) s)) → Outcome r (at + 1) t → Outcome entry at (c ∷ t)
entry_from at c t r same (read o after rest e l gives) = read o after rest (omega arith) (omega arith) (λ more. entry_by at c (t ++ more) ∙ same (t ++ more) ∙ gives more)
entry_from at c t r same (wrong offset some gives) = wrong offset (omega arith) (λ more. entry_by at c (t ++ more) ∙ same (t ++ more) ∙ gives more)
entry_from at c t r same (short ends fill octets o after gives) =
    let long : at + 1 + length t ≡ at + suc (length t) = omega arith in
    short (entry_by at c t ∙ same t ∙ ends ∙ ap (λ n. Err (Ended n)) long) fill octets o after (λ more. entry_by at c (t ++ (fill ++ more)) ∙ same (t ++ (fill ++ more)) ∙ gives more)

-- where no octet is left, those of a primary complete it
entry_begun : (at : ℕ) → Outcome primary_operands (at + 1) [] → Outcome entry at []
unfolding entry
entry_begun at (read o after rest e l gives) =
    let none : rest ≡ [] = nil_from_length rest (omega arith) in
    short (then_err _ _ _ (octet_none (λ c. true) at [] (omega arith))) (0x50 ∷ []) (one_octet 0x50 (omega arith)) o after (λ more. entry_by at 0x50 more ∙ gives more ∙ ap (λ z. Ok (o, place after (z ++ more))) none)
entry_begun at (wrong offset some gives) = absurd (omega arith)
entry_begun at (short ends fill octets o after gives) =
    short (then_err _ _ _ (octet_none (λ c. true) at [] (omega arith))) (0x50 ∷ fill) (octet_first 0x50 fill (omega arith) octets) o after (λ more. entry_by at 0x50 (fill ++ more) ∙ gives more)

entry_command : (at c : ℕ) (t : List ℕ) → (eqb c 0x50 ≡ true) ⊎ (eqb c 0x50 ≡ false) → (eqb c 0x4D ≡ true) ⊎ (eqb c 0x4D ≡ false) → Outcome entry at (c ∷ t)
entry_command at c t (inl h) k = entry_from at c t primary_operands (λ s. rw h) (judged_primary (at + 1) t)
entry_command at c t (inr h) (inl k) = entry_from at c t message_operands (λ s. rw (h, k)) (judged_message (at + 1) t)
entry_command at c t (inr h) (inr k) = wrong at (omega arith) (λ more. entry_by at c (t ++ more) ∙ rw (h, k))

pub judged_entry : Judged entry
judged_entry at [] = entry_begun at (judged_primary (at + 1) [])
judged_entry at (c ∷ t) = entry_command at c t (cases_Bool (eqb c 0x50)) (cases_Bool (eqb c 0x4D))
