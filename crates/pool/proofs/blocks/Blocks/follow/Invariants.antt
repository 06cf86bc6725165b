use Rattle.std.proofs.Common.{◌≡◌}
use Rattle.pool.specs.Chains.{links, walk}
use Rattle.pool.proofs.blocks.Blocks.follow.Given as goal

abbrev pub invariant-loop : goal.invariant-loop
invariant-loop l = l.link.block ≡ walk (links l.self) l.initial.link.block l.counter
