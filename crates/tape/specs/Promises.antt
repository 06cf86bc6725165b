-- The round trips, for every list of warnings and every string of octets.
use Rattle.std.specs.Prelude.{◌≡◌, ℕ, ◌≤◌, Bool, true, ◌&&◌, List, [], ◌∷◌, ◌++◌, length, Ok, Err, vec_items, Result, Vec}
use Rattle.warning.specs.declared.WarningFault.{WarningFault}
use Rattle.tape.specs.declared.fault.Failure.{Failure}
use Rattle.tape.specs.declared.fault.Failure.TheVariants.{Fault, Memory}
use Rattle.std.specs.declared.alloc.Global.{Global}
use Rattle.warning.specs.Notice.{Notice, outline}
use Rattle.warning.specs.Rules.{is_warning, judged}
use Rattle.tape.specs.Format.{encode, encode_all}
use Rattle.tape.specs.Reading.{read_tape}

-- each is a warning
abbrev pub all_warnings : List Notice → Bool
all_warnings [] = true
all_warnings (w ∷ ws) = is_warning (outline w) && all_warnings ws

-- a list of warnings on tape; the first that is none is the refusal
abbrev pub written_by : Result (Unit {0}) WarningFault → List ℕ → Result (List ℕ) WarningFault → Result (List ℕ) WarningFault
written_by (Err f) xs rest = Err f
written_by (Ok u) xs (Ok ys) = Ok (xs ++ ys)
written_by (Ok u) xs (Err f) = Err f

abbrev pub written : List Notice → Result (List ℕ) WarningFault
written [] = Ok []
written (w ∷ ws) = written_by (judged (outline w)) (encode w) (written ws)

-- a warning at the end of a tape; an error leaves the tape as it was
abbrev pub Appended : List ℕ → Notice → List ℕ → Result (Unit {0}) (Failure WarningFault) → Type 0
Appended before w after (Ok u) = (judged (outline w) ≡ Ok tt) × (after ≡ before ++ encode w)
Appended before w after (Err (Fault f)) = (judged (outline w) ≡ Err f) × (after ≡ before)
Appended before w after (Err Memory) = after ≡ before

-- the tape of a list of warnings, in memory of its own; where that is wanting, nothing is said
abbrev pub WrittenAs : List Notice → Result (Vec ℕ Global) (Failure WarningFault) → Type 0
WrittenAs ws (Ok tape) = written ws ≡ Ok (vec_items tape)
WrittenAs ws (Err (Fault f)) = written ws ≡ Err f
WrittenAs ws (Err Memory) = Unit {0}

-- what was written reads back as the same warnings
abbrev pub ReadsWhatWasWritten : Type 0
ReadsWhatWasWritten = (ws : List Notice) → all_warnings ws ≡ true → read_tape (encode_all ws) ≡ Ok ws

-- what is readable writes back as the same octets
abbrev pub WritesWhatWasRead : Type 0
WritesWhatWasRead = (tape : List ℕ) (ws : List Notice) → read_tape tape ≡ Ok ws → (all_warnings ws ≡ true) × (encode_all ws ≡ tape)

-- no warning takes more octets than n, and one takes so many
pub record Longest (n : ℕ) : Type 0 where
  pub most : (w : Notice) → is_warning (outline w) ≡ true → length (encode w) ≤ n
  pub met : (w : Notice) × (is_warning (outline w) ≡ true) × (length (encode w) ≡ n)
