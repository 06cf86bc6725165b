-- The numbers of the rules, as the contracts cite them. The code has the same in src/numbers.rt.
use Rattle.std.specs.Prelude.{ℕ}

-- the segment numbers of a slot
abbrev pub number_count : ℕ
number_count = 64

-- message and area octets of one segment together
abbrev pub most_octets : ℕ
most_octets = 256
