use Rattle.std.proofs.Common.{◌+◌, ◌*◌, None, sym, refl, ap, ◌∙◌, arith}
use Rattle.std.proofs.lemmas.List.{length-set}
use Rattle.store.proofs.Changes.{replaced-same}
use Rattle.store.proofs.Places.{There}
use Rattle.pool.specs.Numbers.{slot_count, blocks_for}
use Rattle.pool.specs.Chains.{links, parts, laid_at}
use Rattle.pool.specs.Holding.{holding}
use Rattle.pool.specs.Laws.{held_at}
use Rattle.pool.proofs.Keeping.{enough, enough_in, released_counted, released_holding, released_kept}
use Rattle.pool.proofs.Pool.release.Goals as goal

pub returns-in_default : goal.returns-in_default
returns-in_default c =
    let p = c.args.self.now in
    let t : There slot_count c.args.slot c.args.number (c.args.slot * 64 + c.args.number) = record { low = c.requires.low; few = c.requires.few; is = refl } in
    replaced-same (holding p) c.args.slot c.args.number None (held_at (parts p.chains) (links p.chains) p.places c.args.slot c.args.number _ t ∙ ap (laid_at (parts p.chains) (links p.chains)) (sym c.stored_at.ensures ∙ c.in_default.is))

pub overflow_sub-self : goal.overflow_sub-self
overflow_sub-self c =
    let t : There slot_count c.args.slot c.args.number (c.args.slot * 64 + c.args.number) = record { low = c.requires.low; few = c.requires.few; is = refl } in
    omega (arith, enough c.args.self.now c.args.slot c.args.number _ t c.in-Some.stored (sym c.stored_at.ensures ∙ c.in-Some.is) c.blocks_for-cost.result (c.blocks_for-cost.ensures ∙ ap (λ z. blocks_for z) c.count.ensures))

pub overflow_sub-self-2 : goal.overflow_sub-self-2
overflow_sub-self-2 c =
    let t : There slot_count c.args.slot c.args.number (c.args.slot * 64 + c.args.number) = record { low = c.requires.low; few = c.requires.few; is = refl } in
    omega (arith, enough_in c.args.self.now c.args.slot c.args.number _ t c.in-Some.stored (sym c.stored_at.ensures ∙ c.in-Some.is) c.blocks_for-cost.result (c.blocks_for-cost.ensures ∙ ap (λ z. blocks_for z) c.count.ensures))

pub invariant_of-self : goal.invariant_of-self
invariant_of-self c =
    let t : There slot_count c.args.slot c.args.number (c.args.slot * 64 + c.args.number) = record { low = c.requires.low; few = c.requires.few; is = refl } in
    let p = c.args.self.now in
    let is = sym c.stored_at.ensures ∙ c.in-Some.is in
    let k = c.blocks_for-cost.ensures ∙ ap (λ z. blocks_for z) c.count.ensures in
    let kept = released_kept p c.args.slot c.args.number _ t c.in-Some.stored is c.blocks_for-cost.result k _ _ c.link_end.ensures.same c.link_end.ensures.linked in
    record {
      all = kept.all;
      slots = length-set p.used c.args.slot _ ∙ p.slots;
      kept = omega (arith, kept.kept);
      within = kept.within;
      apart = kept.apart;
      counted = released_counted p c.args.slot c.args.number _ t c.in-Some.stored is c.blocks_for-cost.result k _ _ _ c.link_end.ensures.same c.link_end.ensures.linked (omega (arith, enough_in p c.args.slot c.args.number _ t c.in-Some.stored is c.blocks_for-cost.result k));
    }

pub returns : goal.returns
returns c =
    let t : There slot_count c.args.slot c.args.number (c.args.slot * 64 + c.args.number) = record { low = c.requires.low; few = c.requires.few; is = refl } in
    released_holding c.args.self.now c.args.slot c.args.number _ t c.in-Some.stored (sym c.stored_at.ensures ∙ c.in-Some.is) c.blocks_for-cost.result (c.blocks_for-cost.ensures ∙ ap (λ z. blocks_for z) c.count.ensures) _ _ c.link_end.ensures.same c.link_end.ensures.linked
