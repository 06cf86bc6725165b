use Rattle.std.proofs.Common.{◌≡◌}
use Rattle.store.proofs.Changes.{without_below}
use Rattle.pool.specs.Holding.{holding}
use Rattle.pool.proofs.Pool.clear.Given as goal

abbrev pub invariant-loop-number : goal.invariant-loop-number
invariant-loop-number l = holding l.self ≡ without_below (holding l.initial.self) l.slot l.number
