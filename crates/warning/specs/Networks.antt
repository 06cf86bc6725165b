-- The codes that name a network.
use Rattle.std.specs.Prelude.{ℕ, Bool, cond, ◌&&◌, ◌==◌, nat_le, nat_lt}
use Rattle.warning.specs.Numbers.{most_mcc}

-- the first number that has more digits than a network code may have; a code has 2 or 3 digits
abbrev pub mnc_end : ℕ → ℕ
mnc_end digits = cond (digits == 2) 100 (cond (digits == 3) 1000 0)

-- a country code of three digits, and a network code of 2 or 3
abbrev pub is_network : ℕ → ℕ → ℕ → Bool
is_network mcc digits mnc = nat_le mcc most_mcc && nat_lt mnc (mnc_end digits)
