-- The meaning of a tape outlet.
use Rattle.std.specs.Prelude.{List, take}
use Rattle.warning.specs.Notice.{Notice}
use Rattle.tape_outlet.specs.declared.TapeOutlet.{TapeOutlet}
use Rattle.tape_outlet.specs.Written.{read_as}

abbrev pub holding : TapeOutlet → List Notice
holding t = read_as (take t.used t.octets)
