use Rattle.std.proofs.Common.{◌≡◌, length}
use Rattle.tape.specs.Readers.{whole_tape, stands_at}
use Rattle.tape.proofs.tapes.read.Given as goal

abbrev pub invariant-loop-reader : goal.invariant-loop-reader
invariant-loop-reader l = whole_tape l.reader ≡ whole_tape l.initial.reader

abbrev pub decreases-loop-reader : goal.decreases-loop-reader
decreases-loop-reader l = length (stands_at l.reader).rest
