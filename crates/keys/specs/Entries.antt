-- Lists of keys with the clock of their storing, the oldest first, for every kind of key.
use Rattle.std.specs.Prelude.{◌≡◌, ℕ, ◌-◌, ◌<◌, Bool, not, List, [], ◌∷◌, ◌++◌, length, Some, None, count_by, filter, Option, ◌≢◌, nat_le, slice_index_or}
use Rattle.std.specs.List.{remove, position, All}
use Rattle.keys.specs.declared.Entry.{Entry}
use Rattle.keys.specs.declared.Expiry.{Expiry}

-- a list without the element at a place; without none, the list itself
abbrev pub without : {X : Type 0} → Option ℕ → List X → List X
without None xs = xs
without (Some i) xs = remove xs i

module _ {K : Type 0} where
  abbrev pub entry : K → ℕ → Entry K
  entry key clock = record { key = key; stored = clock }

  -- an entry whose key is the same as a key, or of its group, by the test that is given
  abbrev pub like : (K → K → Bool) → K → Entry K → Bool
  like test key e = test key e.key

  -- where a key stands, or the oldest of a key's group
  abbrev pub place : (K → K → Bool) → K → List (Entry K) → Option ℕ
  place test key xs = position (like test key) xs

  -- at the place that is found the key stands; where none is found, it stands nowhere
  abbrev pub Found : K → List (Entry K) → Option ℕ → Type 0
  Found key xs None = All (λ e. e.key ≢ key) xs
  Found key xs (Some i) = (i < length xs) × ((d : Entry K) → (slice_index_or xs i d).key ≡ key)

  -- how many entries are of a key's group
  abbrev pub count_of : (K → K → Bool) → K → List (Entry K) → ℕ
  count_of test key xs = count_by (like test key) xs

  -- where the oldest entry of all stands
  abbrev pub oldest_place : List (Entry K) → Option ℕ
  oldest_place [] = None
  oldest_place (e ∷ es) = Some 0

  -- a list with one entry more, the newest
  abbrev pub stored_last : Entry K → List (Entry K) → List (Entry K)
  stored_last e xs = xs ++ e ∷ []

  -- stored a period ago or more; what was stored after the clock has the age 0
  abbrev pub old : Expiry → Entry K → Bool
  old expiry e = nat_le expiry.period (expiry.clock - e.stored)

  -- how many entries expiry takes, and what it leaves, in order
  abbrev pub gone : Expiry → List (Entry K) → ℕ
  gone expiry xs = count_by (old expiry) xs

  abbrev pub left : Expiry → List (Entry K) → List (Entry K)
  left expiry xs = filter (λ e. not (old expiry e)) xs
