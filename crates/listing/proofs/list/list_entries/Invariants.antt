use Rattle.std.proofs.Common.{◌≡◌, length}
use Rattle.tape.specs.Readers.{whole_tape, stands_at}
use Rattle.listing.proofs.list.list_entries.Given as goal

abbrev pub invariant-loop-offset : goal.invariant-loop-offset
invariant-loop-offset g l = whole_tape l.reader ≡ whole_tape l.initial.reader

abbrev pub decreases-loop-offset : goal.decreases-loop-offset
decreases-loop-offset g l = length (stands_at l.reader).rest
