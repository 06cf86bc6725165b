-- What reading something comes to when more octets follow: it stays read, it stays wrong, or some octets complete it.
use Rattle.std.proofs.Common.{◌≡◌, ℕ, zero, suc, ◌+◌, ◌<◌, ◌≤◌, Bool, true, false, List, [], ◌∷◌, ◌++◌, length, take, drop, Ok, Err, sym, refl, ap, ◌∙◌, ⊎_elim, arith}
use Rattle.std.proofs.lemmas.List.{append_assoc, append-nil, length-append, length-drop, nil_from_length, take_all, take-append-le, drop-append-le}
use Rattle.std.proofs.lemmas.List.Elements.{All-append}
use Rattle.std.proofs.lemmas.Bool.{cases_Bool, cases_lt, both_ways}
use Rattle.tape.specs.declared.fault.TapeFault.TheVariants.{Unknown, Ended}
use Rattle.tape.specs.Reading.{Place, place, Read, then, operand}
use Rattle.tape.specs.Judging.{AreOctets}
use Rattle.tape.proofs.Takes.{then_is, operand_at}
use Rattle.tape.proofs.Splits.{then_err, operand_wrong, operand_short, operand_long}

-- A reading at a place. What it read, and the refusal of a wrong octet, are the same with more octets after them. Where the
-- octets end too early, some complete it and leave nothing over. An octet is wrong only where there is one.
pub data Outcome {X : Type 0} (r : Place → Read X) (at : ℕ) (t : List ℕ) : Type 0 where
  read : (x : X) (after : ℕ) (rest : List ℕ) → after + length rest ≡ at + length t → length rest ≤ length t → ((more : List ℕ) → r (place at (t ++ more)) ≡ Ok (x, place after (rest ++ more))) → Outcome r at t
  wrong : (offset : ℕ) → 0 < length t → ((more : List ℕ) → r (place at (t ++ more)) ≡ Err (Unknown offset)) → Outcome r at t
  short : r (place at t) ≡ Err (Ended (at + length t)) → (fill : List ℕ) → AreOctets fill → (x : X) (after : ℕ) → ((more : List ℕ) → r (place at (t ++ (fill ++ more))) ≡ Ok (x, place after more)) → Outcome r at t

abbrev pub Judged : {X : Type 0} → (Place → Read X) → Type 0
Judged r = (at : ℕ) (t : List ℕ) → Outcome r at t

-- with no octets after it
pub as_it_is : {X : Type 0} (r : Place → Read X) (at : ℕ) (t : List ℕ) → r (place at t) ≡ r (place at (t ++ []))
as_it_is r at t = ap (λ z. r (place at z)) (sym (append-nil t))

pub judged_done : {X : Type 0} (x : X) → Judged (λ p. Ok (x, p))
judged_done x at t = read x at t refl (omega arith) (λ more. refl)

-- one thing after another, by what the first of them came to
module _ {X Y : Type 0} (r : Place → Read X) (f : X → Place → Read Y) (at : ℕ) (t : List ℕ) where
  after_read : (x : X) (after : ℕ) (rest : List ℕ) → after + length rest ≡ at + length t → length rest ≤ length t → ((more : List ℕ) → r (place at (t ++ more)) ≡ Ok (x, place after (rest ++ more))) → Outcome (f x) after rest → Outcome (λ p. then (r p) f) at t
  after_read x after rest e l gives (read y end last e₁ l₁ gives₁) = read y end last (omega arith) (omega arith) (λ more. then_is _ f x (place after (rest ++ more)) (gives more) ∙ gives₁ more)
  after_read x after rest e l gives (wrong offset some gives₁) = wrong offset (omega arith) (λ more. then_is _ f x (place after (rest ++ more)) (gives more) ∙ gives₁ more)
  after_read x after rest e l gives (short ends fill octets y end gives₁) =
      short
      (ap (λ z. then z f) (as_it_is r at t) ∙ then_is _ f x (place after (rest ++ [])) (gives []) ∙ sym (as_it_is (f x) after rest) ∙ ends ∙ ap (λ n. Err (Ended n)) e)
      fill octets y end
      (λ more. then_is _ f x (place after (rest ++ (fill ++ more))) (gives (fill ++ more)) ∙ gives₁ more)

  after_short : r (place at t) ≡ Err (Ended (at + length t)) → (fill : List ℕ) → AreOctets fill → (x : X) (after : ℕ) → ((more : List ℕ) → r (place at (t ++ (fill ++ more))) ≡ Ok (x, place after more)) → Outcome (f x) after [] → Outcome (λ p. then (r p) f) at t
  after_short ends fill octets x after gives (read y end last e l gives₁) =
      let none : last ≡ [] = nil_from_length last (omega arith) in
      short (then_err _ f _ ends) fill octets y end (λ more. then_is _ f x (place after more) (gives more) ∙ gives₁ more ∙ ap (λ z. Ok (y, place end (z ++ more))) none)
  after_short ends fill octets x after gives (wrong offset some gives₁) = absurd (omega arith)
  after_short ends fill octets x after gives (short ends₁ fill₁ octets₁ y end gives₁) =
      short (then_err _ f _ ends) (fill ++ fill₁) (All-append (λ z. z < 256) fill fill₁ octets octets₁) y end (λ more.
      ap (λ z. then (r (place at (t ++ z))) f) (append_assoc fill fill₁ more) ∙ then_is _ f x (place after (fill₁ ++ more)) (gives (fill₁ ++ more)) ∙ gives₁ more)

  after_first : Outcome r at t → ((x : X) → Judged (f x)) → Outcome (λ p. then (r p) f) at t
  after_first (read x n rest e l gives) b = after_read x n rest e l gives (b x n rest)
  after_first (wrong offset some gives) b = wrong offset some (λ more. then_err _ f _ (gives more))
  after_first (short ends fill octets x n gives) b = after_short ends fill octets x n gives (b x n [])

pub judged_then : {X Y : Type 0} (r : Place → Read X) (f : X → Place → Read Y) → Judged r → ((x : X) → Judged (f x)) → Judged (λ p. then (r p) f)
judged_then r f a b at t = after_first r f at t (a at t) b

-- A test of the octets of an operand, as far as they are there. No octets pass it, a part from the start of what passes does
-- too, and what passes has octets that fill the operand.
pub record Beginnings (w : ℕ) (begins : List ℕ → Bool) : Type 0 where
  pub none : begins [] ≡ true
  pub fewer : (xs ys : List ℕ) → begins (xs ++ ys) ≡ true → begins xs ≡ true
  pub filled : (xs : List ℕ) → length xs < w → begins xs ≡ true → (ys : List ℕ) × (AreOctets ys) × (length (xs ++ ys) ≡ w) × (begins (xs ++ ys) ≡ true)

-- more octets leave the front of an operand as it is
take_front : (w : ℕ) (t more : List ℕ) → (ys : List ℕ) × (take w (t ++ more) ≡ take w t ++ ys)
take_front zero t more = ([], refl)
take_front (suc w) [] more = (take (suc w) more, refl)
take_front (suc w) (x ∷ t) more = let s = take_front w t more in (s.0, ap (λ z. x ∷ z) s.1)

module _ (w : ℕ) (begins : List ℕ → Bool) (test : Beginnings w begins) (at : ℕ) where
  still_wrong : (t more : List ℕ) → begins (take w t) ≡ false → begins (take w (t ++ more)) ≡ false
  still_wrong t more h =
      let s = take_front w t more in
      ⊎_elim
      (λ k. absurd (both_ways (begins (take w t)) h (test.fewer (take w t) s.0 (ap begins (sym s.1) ∙ k))))
      (λ k. k)
      (cases_Bool (begins (take w (t ++ more))))

  operand_refused : (t : List ℕ) → begins (take w t) ≡ false → Outcome (operand w begins) at t
  operand_refused [] h = absurd (both_ways (begins []) (ap begins (sym (take_all w [] (omega arith))) ∙ h) test.none)
  operand_refused (x ∷ t) h = wrong at (omega arith) (λ more. operand_wrong w begins at (x ∷ (t ++ more)) (still_wrong (x ∷ t) more h))

  operand_begun : (t : List ℕ) → length t < w → begins (take w t) ≡ true → Outcome (operand w begins) at t
  operand_begun t l h =
      let whole : take w t ≡ t = take_all w t (omega arith) in
      let s = test.filled t l (ap begins (sym whole) ∙ h) in
      short (operand_short w begins at t h l) s.0 s.1 (t ++ s.0) (at + w) (λ more.
      ap (λ z. operand w begins (place at z)) (sym (append_assoc t s.0 more)) ∙ operand_at w begins at (t ++ s.0) more s.2 s.3)

  operand_whole : (t : List ℕ) → w ≤ length t → begins (take w t) ≡ true → Outcome (operand w begins) at t
  operand_whole t l h =
      let d = length-drop w t in
      read (take w t) (at + w) (drop w t) (omega arith) (omega arith) (λ more.
      let front : take w (t ++ more) ≡ take w t = take-append-le w t more l in
      let back : drop w (t ++ more) ≡ drop w t ++ more = drop-append-le w t more l in
      let long = length-append t more in
      operand_long w begins at (t ++ more) (ap begins front ∙ h) (omega arith)
      ∙ ap (λ z. Ok (z, place (at + w) (drop w (t ++ more)))) front
      ∙ ap (λ z. Ok (take w t, place (at + w) z)) back)

pub judged_operand : (w : ℕ) (begins : List ℕ → Bool) → Beginnings w begins → Judged (operand w begins)
judged_operand w begins test at t =
    ⊎_elim
    (λ h. ⊎_elim (λ l. operand_begun w begins test at t l h) (λ l. operand_whole w begins test at t l h) (cases_lt (length t) w))
    (λ h. operand_refused w begins test at t h)
    (cases_Bool (begins (take w t)))
