use Rattle.std.proofs.Common.{rules, ◌≡◌, ◌+◌, ◌%◌, get_or, replicate, refl, ◌∙◌, arith}
use Rattle.std.proofs.lemmas.List.{get_or-map}
use Rattle.pool.specs.declared.blocks.Block.{Block}
use Rattle.pool.proofs.blocks.Blocks.new.Goals as goal

empty : Block
empty = record { octets = replicate 32 0; next = record { block = 0; there = omega arith }; long = refl }

pub returns : goal.returns
returns c b low =
    let made : (get_or c.from_fn.result b empty).next.block ≡ (b + 1) % 512 = let call = c.from_fn.ensures.items.at b empty (omega arith) in search rules in
    get_or-map (λ y. y.next.block) c.from_fn.result b empty 0 (omega (arith, c.from_fn.ensures.items.long)) ∙ made ∙ omega arith
