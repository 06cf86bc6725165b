-- The numbers of the rules, as the contracts cite them. The code has the same in src/numbers.rt.
use Rattle.std.specs.Prelude.{ℕ, ◌-◌, ◌^◌}

-- the blocks whose warnings are messages: the secondary notification of ETWS, which has no area,
-- and the notifications of CMAS in LTE and in NR cells
abbrev pub etws_secondary : ℕ
etws_secondary = 11

abbrev pub cmas_lte : ℕ
cmas_lte = 12

abbrev pub cmas_nr : ℕ
cmas_nr = 8

-- message and area octets of one warning together
abbrev pub most_octets : ℕ
most_octets = 16384

-- the octets of security information
abbrev pub security_octets : ℕ
security_octets = 50

-- the octets that name the radio of a cell
abbrev pub radio_lte : ℕ
radio_lte = 4

abbrev pub radio_nr : ℕ
radio_nr = 5

-- a mobile country code has at most three digits
abbrev pub most_mcc : ℕ
most_mcc = 999

-- a count is a number of 64 bits
abbrev pub most_count : ℕ
most_count = 2 ^ 64 - 1
