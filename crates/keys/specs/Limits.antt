-- How many entries of a list are alike: no key stands twice, and few are of one group.
use Rattle.std.specs.Prelude.{ℕ, ◌≤◌, Bool, List}
use Rattle.keys.specs.declared.Entry.{Entry}
use Rattle.keys.specs.Entries.{count_of}

-- whatever the key, at most n entries pass the test with it
abbrev pub AtMost : {K : Type 0} → ℕ → (K → K → Bool) → List (Entry K) → Type 0
AtMost {K} n test xs = (key : K) → count_of test key xs ≤ n
