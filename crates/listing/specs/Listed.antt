-- How a listing ends.
use Rattle.std.specs.Prelude.{◌≡◌, ℕ, ◌<◌, Bool, true, List, length, Ok, Err, Result}
use Rattle.warning.specs.Notice.{Notice}
use Rattle.tape.specs.declared.fault.TapeFault.{TapeFault}
use Rattle.tape.specs.Reading.{Place, entry, read_tape}

-- what is left where the reader stops: nothing, or what is refused
abbrev pub Left : Place → Result (Unit {0}) TapeFault → Type 0
Left p (Ok done) = length p.rest ≡ 0
Left p (Err fault) = (0 < length p.rest) × (entry p ≡ Err fault)

-- a readable tape is written back as the same octets; any other is refused as its reading says
abbrev pub Listed : List ℕ → Result Bool TapeFault → Type 0
Listed tape (Ok same) = (same ≡ true) × ((ws : List Notice) × (read_tape tape ≡ Ok ws))
Listed tape (Err fault) = read_tape tape ≡ Err fault
