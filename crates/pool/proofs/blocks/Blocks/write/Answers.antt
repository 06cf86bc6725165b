use Rattle.std.proofs.Common.{◌<◌, length, get_or, set, sym, ap, ◌∙◌, arith}
use Rattle.std.proofs.Math.Seq.{map-set_same}
use Rattle.std.proofs.lemmas.List.{get_or-map, map-set}
use Rattle.octets.specs.Octets.{written}
use Rattle.pool.specs.Chains.{links, parts, block}
use Rattle.pool.proofs.Gathered.{block_at}
use Rattle.pool.proofs.blocks.Blocks.write.Goals as goal

pub returns : goal.returns
returns c =
    let b = c.args.self.now in
    let i = c.index.result in
    let x = c.index-blocks-index.result in
    let y = c.write.new.self in
    let part = c.args.part.now in
    let low : i < length b.blocks = omega (arith, c.args.link.there, c.index.ensures, b.all) in
    let link = ap (λ z. z.block) c.write.ensures.next in
    record {
      next = link ∙ sym (get_or-map (λ z. z.next.block) b.blocks i x 0 low) ∙ ap (λ j. get_or (links b) j 0) c.index.ensures;
      same = map-set_same (λ z. z.next.block) b.blocks i y x link;
      octets = map-set (λ z. z.octets) b.blocks i y
          ∙ ap (set (parts b) i) (c.write.ensures.octets ∙ ap (written 0 part) (sym (block_at b i x (omega (arith, low, b.all)))))
          ∙ ap (λ j. set (parts b) j (written 0 part (block (parts b) j))) c.index.ensures;
    }
