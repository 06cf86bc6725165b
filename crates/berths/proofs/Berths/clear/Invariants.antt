use Rattle.std.proofs.Common.{◌≡◌, ℕ, ◌<◌, None}
use Rattle.berths.specs.Berthed.{berth, lies}
use Rattle.berths.proofs.Berths.clear.Given as goal

abbrev pub invariant-loop-berth : goal.invariant-loop-berth
invariant-loop-berth l = (k : ℕ) → k < l.berth-index → lies (berth l.berth-items k) ≡ None
