-- The octets of a pattern, and a sum over octets.
use Rattle.std.specs.Prelude.{ℕ, ◌+◌, ◌*◌, ◌/◌, ◌%◌, ◌^◌, List, [], ◌∷◌, map}
use Rattle.std.specs.List.{range_with_len}

-- octet i of the pattern with a seed
abbrev pub octet_at : ℕ → ℕ → ℕ
octet_at seed i = (seed % 256 + 7 * (i % 256) + i / 32 % 256) % 256

-- its first octets
abbrev pub pattern : ℕ → ℕ → List ℕ
pattern seed count = map (octet_at seed) (range_with_len 0 count)

-- octets from the place i on, each times a weight by its place
abbrev pub weighted_from : ℕ → List ℕ → ℕ
weighted_from i [] = 0
weighted_from i (x ∷ xs) = (i % 251 + 1) * x + weighted_from (i + 1) xs

-- their sum, as far as 64 bits hold it
abbrev pub weighted_sum : List ℕ → ℕ
weighted_sum xs = weighted_from 0 xs % 2 ^ 64
