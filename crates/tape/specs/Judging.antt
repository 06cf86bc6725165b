-- What a refusal says of the octets that may follow, for every string of octets.
use Rattle.std.specs.Prelude.{◌≡◌, ℕ, ◌<◌, List, ◌++◌, length, Ok, Err, All}
use Rattle.warning.specs.Notice.{Notice}
use Rattle.tape.specs.declared.fault.TapeFault.TheVariants.{Unknown, Ended}
use Rattle.tape.specs.Reading.{read_tape}

-- a tape with a wrong octet is refused in the same way whatever octets follow
abbrev pub WrongForGood : Type 0
WrongForGood = (tape more : List ℕ) (offset : ℕ) → read_tape tape ≡ Err (Unknown offset) → read_tape (tape ++ more) ≡ Err (Unknown offset)

-- octets: each number is below 256
abbrev pub AreOctets : List ℕ → Type 0
AreOctets xs = All (λ x. x < 256) xs

-- a tape that ends too early is refused at its length, and some octets complete it to a readable one
abbrev pub CutShort : Type 0
CutShort = (tape : List ℕ) (offset : ℕ) → read_tape tape ≡ Err (Ended offset) → (offset ≡ length tape) × ((more : List ℕ) × (ws : List Notice) × (AreOctets more) × (read_tape (tape ++ more) ≡ Ok ws))
