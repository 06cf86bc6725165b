use Rattle.std.proofs.Common.{sym, ◌∙◌, arith}
use Rattle.pool.specs.Chains.{links}
use Rattle.pool.proofs.Gathered.{walk_none, walk_on}
use Rattle.pool.proofs.blocks.Blocks.follow.Goals as goal

pub loop-init : goal.loop-init
loop-init c = sym (walk_none (links c.args.self.now) c.args.first.block)

pub loop-preserved : goal.loop-preserved
loop-preserved c = walk_on c.args.self.now c.args.first.block c.loop.counter c.index.result c.index-self-index.result (omega (arith, c.loop.link.there, c.index.ensures)) (c.index.ensures ∙ c.loop.invariant)
