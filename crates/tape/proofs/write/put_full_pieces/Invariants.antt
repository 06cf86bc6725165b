use Rattle.std.proofs.Common.{◌≡◌, ◌+◌, length, take}
use Rattle.std.specs.List.{flat_map}
use Rattle.octets.specs.Octets.{written}
use Rattle.tape.specs.Format.{piece}
use Rattle.tape.proofs.write.put_full_pieces.Given as goal

abbrev pub invariant-loop-octets : goal.invariant-loop-octets
invariant-loop-octets l =
    (l.next ≡ l.at + length (flat_map piece (take l.octets-index l.pieces)))
    × (l.memory ≡ written l.at (flat_map piece (take l.octets-index l.pieces)) l.initial.memory)
