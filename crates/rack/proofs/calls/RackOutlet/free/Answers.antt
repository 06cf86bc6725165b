use Rattle.std.proofs.Common.{arith}
use Rattle.rack.specs.Laws.{units_held}
use Rattle.rack.proofs.calls.RackOutlet.free.Goals as goal

pub returns : goal.returns
returns c = omega (arith, units_held c.args.self.now)
