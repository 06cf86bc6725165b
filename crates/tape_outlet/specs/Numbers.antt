-- The numbers of the tape outlet, as the contracts cite them. The code has the same in src/numbers.rt.
use Rattle.std.specs.Prelude.{ℕ}
use Rattle.warning.specs.declared.Warning.{Warning}
use Rattle.tape.specs.Format.{cost}
use Rattle.outlet.specs.Meaning.{Room}

abbrev pub tape_octets : ℕ
tape_octets = 32768

-- a warning costs the octets that it takes on tape
abbrev pub tape_room : Room
tape_room = record { total = tape_octets; cost = cost }

-- an outline, and what its warning costs
abbrev pub with_cost : Warning ℕ → Warning ℕ × ℕ
with_cost o = (o, cost o)
