-- The numbers of the lists, as the contracts cite them. The code has the same in src/numbers.rt.
use Rattle.std.specs.Prelude.{ℕ}

-- how many warnings can be open
abbrev pub open_capacity : ℕ
open_capacity = 8

-- how many primaries can be remembered, and how many of them for one network
abbrev pub remembered_capacity : ℕ
remembered_capacity = 12

abbrev pub most_of_network : ℕ
most_of_network = 2

-- the seconds after which an entry goes
abbrev pub expiry_period : ℕ
expiry_period = 10800
