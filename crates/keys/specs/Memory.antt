-- The rule of a memory that holds few entries of a group, and few in all.
use Rattle.std.specs.Prelude.{ℕ, Bool, cond, List, length, is_some, None, Option, nat_le}
use Rattle.std.specs.Option.{option_or}
use Rattle.keys.specs.declared.Entry.{Entry}
use Rattle.keys.specs.declared.memory.Memory.{Memory}
use Rattle.keys.specs.declared.memory.Memory.TheVariants.{Known, New}
use Rattle.keys.specs.Entries.{place, count_of, oldest_place, stored_last, without}

module _ {K : Type 0} (grouped : K → K → Bool) where
  -- What makes way for a new key: with the most entries of its group held, the oldest of the group;
  -- else, with all places taken, the oldest of all; else nothing.
  abbrev pub makes_way : ℕ → ℕ → K → List (Entry K) → Option ℕ
  makes_way most capacity key xs =
      cond (nat_le most (count_of grouped key xs)) (place grouped key xs)
      (cond (nat_le capacity (length xs)) (oldest_place xs) None)

  abbrev pub room_for : ℕ → ℕ → K → List (Entry K) → List (Entry K)
  room_for most capacity key xs = without (makes_way most capacity key xs) xs

module _ {K : Type 0} (same grouped : K → K → Bool) where
  -- The place that is freed before a key is stored: its own, if it is held; else what makes way.
  abbrev pub freed : ℕ → ℕ → K → List (Entry K) → Option ℕ
  freed most capacity key xs = option_or (place same key xs) (makes_way grouped most capacity key xs)

  -- The list after a key was remembered: the key is the newest, and the others keep their order.
  abbrev pub remembered : ℕ → ℕ → Entry K → List (Entry K) → List (Entry K)
  remembered most capacity e xs = stored_last e (without (freed most capacity e.key xs) xs)

-- whether a key is held
abbrev pub holds : {K : Type 0} → (K → K → Bool) → K → List (Entry K) → Bool
holds same key xs = is_some (place same key xs)

abbrev pub memory_of : {K : Type 0} → (K → K → Bool) → K → List (Entry K) → Memory
memory_of same key xs = cond (holds same key xs) Known New
