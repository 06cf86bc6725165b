-- What a whole tape comes to when more octets follow: a wrong octet is wrong for good, and a tape that ends too early can be completed.
use Rattle.std.proofs.Common.{◌≡◌, ℕ, zero, suc, ◌+◌, ◌<◌, ◌≤◌, List, [], ◌∷◌, ◌++◌, length, Ok, Err, Result, sym, refl, ap, ◌∙◌, arith}
use Rattle.std.proofs.lemmas.List.{append-nil}
use Rattle.warning.specs.Notice.{Notice}
use Rattle.tape.specs.declared.fault.TapeFault.{TapeFault}
use Rattle.tape.specs.declared.fault.TapeFault.TheVariants.{Unknown, Ended}
use Rattle.tape.specs.Reading.{Place, place, entry, prepended, followed, read_tape}
use Rattle.tape.specs.Judging.{AreOctets, WrongForGood, CutShort}
use Rattle.tape.proofs.Whole.{all_read, all_read_step}
use Rattle.tape.proofs.Steps.{read_less}
use Rattle.tape.proofs.Outcomes.{Outcome, read, wrong, short, as_it_is}
use Rattle.tape.proofs.Judgements.{judged_entry}

-- all warnings from a place on: they are read, or an octet is wrong whatever follows, or some octets complete the last of them
data Tape (at : ℕ) (t : List ℕ) : Type 0 where
  readable : (ws : List Notice) → all_read (place at t) ≡ Ok ws → Tape at t
  refused : (offset : ℕ) → ((more : List ℕ) → all_read (place at (t ++ more)) ≡ Err (Unknown offset)) → Tape at t
  ended : all_read (place at t) ≡ Err (Ended (at + length t)) → (fill : List ℕ) (ws : List Notice) → AreOctets fill → all_read (place at (t ++ fill)) ≡ Ok ws → Tape at t

-- the first warning, and what follows it
first_read : (p : Place) (w : Notice) (q : Place) → 0 < length p.rest → entry p ≡ Ok (w, q) → all_read p ≡ prepended w (all_read q)
first_read p w q some e = all_read_step p some ∙ ap (λ z. followed z all_read) e

first_refused : (p : Place) (f : TapeFault) → 0 < length p.rest → entry p ≡ Err f → all_read p ≡ Err f
first_refused p f some e = all_read_step p some ∙ ap (λ z. followed z all_read) e

-- from the first octet of an entry on
module _ (at x : ℕ) (t : List ℕ) where
  after_first : (w : Notice) (after : ℕ) (rest : List ℕ) → after + length rest ≡ at + length (x ∷ t) → ((more : List ℕ) → entry (place at (x ∷ (t ++ more))) ≡ Ok (w, place after (rest ++ more))) → Tape after rest → Tape at (x ∷ t)
  after_first w after rest e gives tape =
      let first : (more : List ℕ) → all_read (place at (x ∷ (t ++ more))) ≡ prepended w (all_read (place after (rest ++ more)))
      = λ more. first_read (place at (x ∷ (t ++ more))) w (place after (rest ++ more)) (omega arith) (gives more) in
      let alone : all_read (place at (x ∷ t)) ≡ prepended w (all_read (place after rest))
      = ap (λ z. all_read (place at (x ∷ z))) (sym (append-nil t)) ∙ first [] ∙ ap (λ z. prepended w (all_read (place after z))) (append-nil rest) in
      elim tape [
        | readable ws h ↦ readable (w ∷ ws) (alone ∙ ap (prepended w) h)
        | refused offset h ↦ refused offset (λ more. first more ∙ ap (prepended w) (h more))
        | ended h fill ws octets k ↦ ended (alone ∙ ap (prepended w) h ∙ ap (λ n. Err (Ended n)) e) fill (w ∷ ws) octets (first fill ∙ ap (prepended w) k)
      ]

  -- an entry has some octets, so fewer than all follow it
  at_entry : (n : ℕ) → length t ≤ n → ((after : ℕ) (rest : List ℕ) → length rest ≤ n → Tape after rest) → Outcome entry at (x ∷ t) → Tape at (x ∷ t)
  at_entry n l others (read w after rest e m gives) =
      let alone : entry (place at (x ∷ t)) ≡ Ok (w, place after rest) = as_it_is entry at (x ∷ t) ∙ gives [] ∙ ap (λ z. Ok (w, place after z)) (append-nil rest) in
      let less = read_less (place at (x ∷ t)) w (place after rest) alone in
      after_first w after rest e gives (others after rest (omega arith))
  at_entry n l others (wrong offset some gives) = refused offset (λ more. first_refused (place at (x ∷ (t ++ more))) _ (omega arith) (gives more))
  at_entry n l others (short ends fill octets w after gives) =
      ended
      (first_refused (place at (x ∷ t)) _ (omega arith) ends)
      fill (w ∷ []) octets
      (ap (λ z. all_read (place at (x ∷ (t ++ z)))) (sym (append-nil fill)) ∙ first_read (place at (x ∷ (t ++ (fill ++ [])))) w (place after []) (omega arith) (gives []))

judged_tape : (n at : ℕ) (t : List ℕ) → length t ≤ n → Tape at t
judged_tape n at [] l = readable [] refl
judged_tape zero at (x ∷ t) l = absurd (omega arith)
judged_tape (suc n) at (x ∷ t) l = at_entry at x t n (omega arith) (λ after rest k. judged_tape n after rest k) (judged_entry at (x ∷ t))

stays_wrong : (tape more : List ℕ) (offset : ℕ) → Tape 0 tape → all_read (place 0 tape) ≡ Err (Unknown offset) → all_read (place 0 (tape ++ more)) ≡ Err (Unknown offset)
stays_wrong tape more offset (readable ws h) e = let z : ◌≡◌ {A = ℕ} 0 1 = cc in absurd (omega arith)
stays_wrong tape more offset (refused at h) e =
    let same : ◌≡◌ {A = Result (List Notice) TapeFault} (Err (Unknown at)) (Err (Unknown offset)) = sym (h []) ∙ ap (λ z. all_read (place 0 z)) (append-nil tape) ∙ e in
    h more ∙ same
stays_wrong tape more offset (ended h fill ws octets k) e = let z : ◌≡◌ {A = ℕ} 0 1 = cc in absurd (omega arith)

pub wrong_for_good : WrongForGood
unfolding read_tape
wrong_for_good tape more offset e = stays_wrong tape more offset (judged_tape (length tape) 0 tape (omega arith)) e

completed : (tape : List ℕ) (offset : ℕ) → Tape 0 tape → all_read (place 0 tape) ≡ Err (Ended offset) → (offset ≡ length tape) × ((more : List ℕ) × (ws : List Notice) × (AreOctets more) × (all_read (place 0 (tape ++ more)) ≡ Ok ws))
completed tape offset (readable ws h) e = let z : ◌≡◌ {A = ℕ} 0 1 = cc in absurd (omega arith)
completed tape offset (refused at h) e =
    let same : ◌≡◌ {A = Result (List Notice) TapeFault} (Err (Unknown at)) (Err (Ended offset)) = sym (h []) ∙ ap (λ z. all_read (place 0 z)) (append-nil tape) ∙ e in
    let z : ◌≡◌ {A = ℕ} 0 1 = cc in
    absurd (omega arith)
completed tape offset (ended h fill ws octets k) e =
    let same : offset ≡ 0 + length tape = cc in
    (omega arith, (fill, ws, octets, k))

pub cut_short : CutShort
unfolding read_tape
cut_short tape offset e = completed tape offset (judged_tape (length tape) 0 tape (omega arith)) e
