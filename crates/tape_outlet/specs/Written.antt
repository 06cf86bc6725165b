-- The warnings that a tape reads as, and the refusals of writing as those of an outlet.
use Rattle.std.specs.Prelude.{ℕ, List, [], Ok, Err, Result}
use Rattle.warning.specs.Notice.{Notice}
use Rattle.tape.specs.declared.fault.TapeFault.{TapeFault}
use Rattle.tape.specs.declared.fault.WriteFault.{WriteFault}
use Rattle.tape.specs.declared.fault.WriteFault.TheVariants.{NoWarning as NotWritten, Full as NoRoom}
use Rattle.tape.specs.Reading.{read_tape}
use Rattle.outlet.specs.declared.OutletFault.{OutletFault}
use Rattle.outlet.specs.declared.OutletFault.TheVariants.{NoWarning, Full}

-- none where the octets are no tape, which the octets of an outlet always are
abbrev pub or_none : Result (List Notice) TapeFault → List Notice
or_none (Ok ws) = ws
or_none (Err f) = []

abbrev pub read_as : List ℕ → List Notice
read_as tape = or_none (read_tape tape)

abbrev pub as_outlet : WriteFault → OutletFault
as_outlet (NotWritten fault) = NoWarning fault
as_outlet (NoRoom cost free) = Full cost free
