use Rattle.std.proofs.Common.{set, ap, ◌∙◌}
use Rattle.std.proofs.Math.Seq.{map-set_same}
use Rattle.std.proofs.lemmas.List.{map-set}
use Rattle.pool.specs.Chains.{links}
use Rattle.pool.proofs.blocks.Blocks.link_end.Goals as goal
use Rattle.std.proofs.Common.{refl}

pub returns-clause-linked : goal.returns-clause-linked
returns-clause-linked c = map-set (λ x. x.next.block) c.args.self.now.blocks c.index.result _ ∙ ap (λ i. set (links c.args.self.now) i c.args.to.block) (c.index.ensures ∙ c.follow-last.ensures)

pub returns-clause-same : goal.returns-clause-same
returns-clause-same c = map-set_same (λ x. x.octets) c.args.self.now.blocks c.index.result _ c.index-self-index.result refl
