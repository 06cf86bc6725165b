-- The numbers of the pool, as the contracts cite them. The code has the same in src/numbers.rt.
use Rattle.std.specs.Prelude.{ℕ, ◌+◌, ◌/◌, max}
use Rattle.store.specs.Meaning.{Shape}

abbrev pub slot_count : ℕ
slot_count = 9

-- 64 to a slot
abbrev pub place_count : ℕ
place_count = 576

abbrev pub block_count : ℕ
block_count = 512

abbrev pub block_octets : ℕ
block_octets = 32

-- the cost of so many octets: a block for each 32 that are begun, and one where there are none
abbrev pub blocks_for : ℕ → ℕ
blocks_for n = max 1 ((n + 31) / 32)

abbrev pub pool_shape : Shape
pool_shape = record { slots = slot_count; total = block_count; cost = blocks_for }
