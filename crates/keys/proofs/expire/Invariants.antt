use Rattle.std.proofs.Common.{◌-◌, ◌≤◌, not}
use Rattle.std.proofs.lemmas.List.Filters.{FiltersInPlace}
use Rattle.keys.specs.Entries.{old}
use Rattle.keys.proofs.expire.Given as goal

abbrev pub invariant-loop-i : goal.invariant-loop-i
invariant-loop-i g l =
    FiltersInPlace (λ e. not (old l.expiry e)) l.initial.xs l.xs (l.i - l.went) l.i
    × (l.went ≤ l.i)
