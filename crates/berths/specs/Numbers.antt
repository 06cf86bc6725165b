-- The numbers of the berths, as the contracts cite them. The code has the same in src/numbers.rt.
use Rattle.std.specs.Prelude.{ℕ}
use Rattle.store.specs.Meaning.{Shape}

abbrev pub slot_count : ℕ
slot_count = 3

-- 64 to a slot
abbrev pub berth_count : ℕ
berth_count = 192

abbrev pub berth_octets : ℕ
berth_octets = 260

-- a segment costs one unit, whatever its octets
abbrev pub one : ℕ → ℕ
one octets = 1

abbrev pub berths_shape : Shape
berths_shape = record { slots = slot_count; total = berth_count; cost = one }
