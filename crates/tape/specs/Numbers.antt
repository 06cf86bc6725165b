-- The numbers of the tape format, as the contracts cite them. The code has the same in src/numbers.rt.
use Rattle.std.specs.Prelude.{ℕ}

-- the command octets
abbrev pub primary_command : ℕ
primary_command = 0x50

abbrev pub message_command : ℕ
message_command = 0x4D

abbrev pub data_command : ℕ
data_command = 0x44

-- the octets that a data command carries
abbrev pub data_octets : ℕ
data_octets = 32

-- the longest entry
abbrev pub longest_entry : ℕ
longest_entry = 17454
