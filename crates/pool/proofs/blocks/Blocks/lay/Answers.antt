use Rattle.std.proofs.Common.{rules, ◌≡◌, ◌≤◌, sym, ap, ◌∙◌, min, length, arith}
use Rattle.std.proofs.lemmas.Bool.Decides.{nat_tests}
use Rattle.std.specs.Slice.Iter.{chunks_rest}
use Rattle.pool.specs.Numbers.{blocks_for}
use Rattle.pool.specs.Chains.{links, walk}
use Rattle.pool.proofs.Gathered.{laying_none, laying_more, laying_rest, laying_all}
use Rattle.pool.proofs.blocks.Blocks.lay.Goals as goal

pub loop-part-init : goal.loop-part-init
loop-part-init c =
    let made = c.into_iter-part-iterator.ensures.into_iter_gives in
    (search rules, laying_none c.args.self.now c.args.first.block c.args.segment.now _ (ap chunks_rest made ∙ c.chunks-part-items.ensures.rest))

pub loop-part-preserved : goal.loop-part-preserved
loop-part-preserved c =
    let steps = c.in-Some.ensures.steps in
    let size = c.loop-part.invariant.0 in
    (steps.0 ∙ size, laying_more c.args.self.now c.loop-part.self c.write-link.new.self c.args.first c.loop-part.link c.write-link.result c.args.segment.now _ _ c.in-Some.part.now c.requires c.loop-part.invariant.1 steps.1.0 (steps.1.1 ∙ ap (λ n. min n (length (chunks_rest c.loop-part.part-iterator))) size) steps.1.2 c.write-link.ensures.next c.write-link.ensures.same c.write-link.ensures.octets)

pub returns-then-is_empty : goal.returns-then-is_empty
returns-then-is_empty c =
    let b = c.args.self.now in
    let l = c.loop-part.invariant.1 in
    let none : length c.args.segment.now ≡ 0 = grind (arith, nat_tests) in
    record {
      rest = c.follow.ensures ∙ ap (λ z. walk z c.args.first.block 1) l.same ∙ ap (λ n. walk (links b) c.args.first.block (blocks_for n)) (sym none);
      same = l.same;
      laid = laying_all b c.loop-part.self c.args.first.block c.loop-part.link.block c.args.segment.now _ l c.in-None.ensures.steps.1.0;
    }

pub returns : goal.returns
returns c =
    let b = c.args.self.now in
    let l = c.loop-part.invariant.1 in
    let some : 1 ≤ length c.args.segment.now = grind (arith, nat_tests) in
    record {
      rest = laying_rest b c.loop-part.self c.args.first.block c.loop-part.link.block c.args.segment.now _ l c.in-None.ensures.steps.1.0 some;
      same = l.same;
      laid = laying_all b c.loop-part.self c.args.first.block c.loop-part.link.block c.args.segment.now _ l c.in-None.ensures.steps.1.0;
    }
