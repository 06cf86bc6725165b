-- How the reading of a whole tape ends.
use Rattle.std.proofs.Common.{◌≡◌, ℕ, ◌+◌, ◌<◌, true, false, List, [], ◌∷◌, ◌++◌, length, take, drop, is_some, Some, None, Ok, Err, Option, sym, ap, ◌∙◌, arith}
use Rattle.std.proofs.lemmas.List.{length-drop, length-take-le, take_all, take-append-drop}
use Rattle.tape.specs.declared.fault.TapeFault.{TapeFault}
use Rattle.tape.specs.declared.fault.TapeFault.TheVariants.{Ended}
use Rattle.tape.specs.declared.fault.Failure.{Failure}
use Rattle.tape.specs.declared.fault.Failure.TheVariants.{Fault, Memory}
use Rattle.warning.specs.Notice.{Notice}
use Rattle.tape.specs.Format.{encode_all}
use Rattle.tape.specs.Reading.{Place, place, entry, followed, read_tape}
use Rattle.tape.specs.declared.reader.TapeReader.{TapeReader}
use Rattle.tape.specs.Readers.{whole_tape, read_so_far, Next, ReadAs}
use Rattle.tape.proofs.Splits.{then_err, octet_none}
use Rattle.tape.proofs.Steps.{Reached}
use Rattle.tape.proofs.Whole.{all_read, all_read_step, all_read_at, prepended_all, prepended_err, reads_back}

-- what was read and what is left are the tape
whole_tape_is : (t : List ℕ) (at : ℕ) (ws : List Notice) → Reached t at ws → encode_all ws ++ drop at t ≡ t
whole_tape_is t at ws r = ap (λ z. z ++ drop at t) r.written ∙ take-append-drop at t

passed : (t : List ℕ) (at : ℕ) (ws : List Notice) → Reached t at ws → length (encode_all ws) ≡ at
passed t at ws r = ap length r.written ∙ length-take-le at t r.within

zero_more : (n : ℕ) → 0 + n ≡ n
zero_more n = omega arith

-- nothing is left
pub ends_whole : (t : List ℕ) (at : ℕ) (ws : List Notice) → Reached t at ws → length (drop at t) ≡ 0 → (read_tape t ≡ Ok ws) × (take at t ≡ t)
ends_whole t at ws r h =
    let d = length-drop at t in
    let all : take at t ≡ t = take_all at t (omega arith) in
    (ap read_tape (sym all ∙ sym r.written) ∙ reads_back ws r.right, all)

-- what is left is refused
pub ends_refused : (t : List ℕ) (at : ℕ) (ws : List Notice) (f : TapeFault) → Reached t at ws → 0 < length (drop at t) → entry (place at (drop at t)) ≡ Err f → read_tape t ≡ Err f
unfolding read_tape
ends_refused t at ws f r h e =
    let rest = drop at t in
    ap (λ z. all_read (place 0 z)) (sym (whole_tape_is t at ws r))
    ∙ all_read_at 0 ws rest r.right
    ∙ ap (λ z. prepended_all ws (all_read (place z rest))) (zero_more (length (encode_all ws)) ∙ passed t at ws r)
    ∙ ap (prepended_all ws) (all_read_step (place at rest) h ∙ ap (λ z. followed z all_read) e)
    ∙ prepended_err ws f

-- each warning leaves less
pub next-less : (p q : Place) (ws vs : List Notice) (o : Option ℕ) → is_some o ≡ true → Next p ws q vs (Ok o) → length q.rest < length p.rest
next-less p q ws vs None h n = let z : ◌≡◌ {A = ℕ} 0 1 = cc in absurd (omega arith)
next-less p q ws vs (Some o) h n = n.1

-- no warning was left
pub next_none : (p q : Place) (ws vs : List Notice) (o : Option ℕ) → is_some o ≡ false → Next p ws q vs (Ok o) → length q.rest ≡ 0
next_none p q ws vs None h n = ap (λ z. length z.rest) n.1 ∙ n.0
next_none p q ws vs (Some o) h n = let z : ◌≡◌ {A = ℕ} 0 1 = cc in absurd (omega arith)

-- an error is the whole tape's
pub ends_err : (t : List ℕ) (at : ℕ) (ws vs : List Notice) (q : Place) (e : Failure TapeFault) → Reached t at ws → Next (place at (drop at t)) ws q vs (Err e) → ReadAs (read_tape t) (Err e)
ends_err t at ws vs q (Fault f) r n = ends_refused t at ws f r n.0 n.1
ends_err t at ws vs q Memory r n = tt

-- a reader's own facts
pub reached : (r : TapeReader) → Reached (whole_tape r) r.at (read_so_far r)
reached r = record { within = r.within; right = r.right; written = r.written }

-- where there are no octets, there is no warning
pub entry_none : (at : ℕ) (t : List ℕ) → length t < 1 → entry (place at t) ≡ Err (Ended at)
unfolding entry
entry_none at [] h = let e : at + 0 ≡ at = omega arith in then_err _ _ _ (octet_none (λ c. true) at [] h) ∙ ap (λ z. Err (Ended z)) e
entry_none at (x ∷ t) h = absurd (omega arith)
