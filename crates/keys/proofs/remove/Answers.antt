use Rattle.keys.proofs.Slices.{take-rotated}
use Rattle.keys.proofs.remove.Goals as goal

pub returns : goal.returns
returns g c = take-rotated c.args.xs.now c.args.at c.rotate_left.new.self c.requires c.rotate_left.ensures.after
