use Rattle.std.proofs.Common.{◌≡◌, None, ap, ◌∙◌, arith}
use Rattle.store.specs.Meaning.{replaced}
use Rattle.store.specs.Numbers.{number_count}
use Rattle.store.proofs.Changes.{without_below, below_none, below_more, below_all}
use Rattle.pool.specs.Numbers.{pool_shape}
use Rattle.pool.specs.Chains.{links, parts}
use Rattle.pool.specs.Holding.{holding}
use Rattle.pool.specs.Laws.{all_placed}
use Rattle.pool.proofs.Pool.clear.Goals as goal

pub loop-number-init : goal.loop-number-init
loop-number-init c = below_none (holding c.args.self.now) c.args.slot

pub loop-number-preserved : goal.loop-number-preserved
loop-number-preserved c =
    c.release.ensures ∙ ap (λ h. replaced h c.args.slot c.loop-number.number None) c.loop-number.invariant ∙ below_more (holding c.args.self.now) c.args.slot c.loop-number.number

pub returns : goal.returns
returns c =
    let p = c.args.self.now in
    let end : c.loop-number.number ≡ number_count = omega arith in
    c.loop-number.invariant ∙ ap (without_below (holding p) c.args.slot) end ∙ below_all pool_shape (holding p) c.args.slot (all_placed (parts p.chains) (links p.chains) p.places)
