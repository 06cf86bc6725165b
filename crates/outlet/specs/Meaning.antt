-- What an outlet means: the warnings that it holds, the oldest first, and its room.
use Rattle.std.specs.Prelude.{◌≡◌, ℕ, ◌-◌, ◌≤◌, true, List, sum_by, Option}
use Rattle.std.specs.List.{All}
use Rattle.warning.specs.declared.Pair.{Pair}
use Rattle.warning.specs.declared.Warning.{Warning}
use Rattle.warning.specs.declared.Warning.TheVariants.{Primary, Message}
use Rattle.warning.specs.Notice.{Notice, outline}
use Rattle.warning.specs.Rules.{is_warning}

-- the units of an outlet in all, and the units that a warning costs
pub record Room : Type 0 where
  pub total : ℕ
  pub cost : Warning ℕ → ℕ

-- What every room fulfils: while nothing is held, each warning has room. Only kind, block and
-- lengths count for a cost.
pub record Lawful (room : Room) : Type 0 where
  pub roomy : (o : Warning ℕ) → is_warning o ≡ true → room.cost o ≤ room.total
  pub of_primary : (p q : Pair) (t u : ℕ) (security : Option ℕ) → room.cost (Primary p t security) ≡ room.cost (Primary q u security)
  pub of_message : (block : ℕ) (p q : Pair) (c d : ℕ) (n : ℕ) (area : Option ℕ) → room.cost (Message block p c n area) ≡ room.cost (Message block q d n area)

-- each is a warning
abbrev pub Warnings : List Notice → Type 0
Warnings ws = All (λ w. is_warning (outline w) ≡ true) ws

-- the units that warnings cost together, and the units that are free while they are held
abbrev pub costs : Room → List Notice → ℕ
costs room ws = sum_by (λ w. room.cost (outline w)) ws

abbrev pub units_free : Room → List Notice → ℕ
units_free room ws = room.total - costs room ws
