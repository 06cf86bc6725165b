-- Octets in memory, and numbers of two octets.
use Rattle.std.specs.Prelude.{ℕ, ◌+◌, ◌*◌, ◌/◌, ◌%◌, List, [], ◌∷◌, ◌++◌, length, take, drop, slice_index}

-- a number as two octets, the high one first
abbrev pub two : ℕ → List ℕ
two n = (n / 256) ∷ (n % 256) ∷ []

-- the number that two octets stand for, the high one first
abbrev pub of_two : ℕ → ℕ → ℕ
of_two high low = high * 256 + low

-- the number that stands in two octets from the place i on
abbrev pub two_at : List ℕ → ℕ → ℕ
two_at octets i = of_two (slice_index octets i) (slice_index octets (i + 1))

-- memory that has the octets from `at` on, and is otherwise as it was
abbrev pub written : ℕ → List ℕ → List ℕ → List ℕ
written at octets memory = take at memory ++ (octets ++ drop (at + length octets) memory)
