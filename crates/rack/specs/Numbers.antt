-- The numbers of the rack, as the contracts cite them. The code has the same in src/numbers.rt.
use Rattle.std.specs.Prelude.{ℕ}
use Rattle.outlet.specs.Meaning.{Room}

abbrev pub place_count : ℕ
place_count = 3

-- a warning costs one unit, whatever its octets
abbrev pub rack_room : Room
rack_room = record { total = place_count; cost = λ o. 1 }
