use Rattle.std.proofs.Common.{◌-◌, sym, ap}
use Rattle.tape_outlet.specs.Numbers.{tape_octets}
use Rattle.tape_outlet.specs.Kept.{used_costs}
use Rattle.tape_outlet.proofs.calls.TapeOutletOutlet.free.Goals as goal

pub returns : goal.returns
returns c = ap (λ n. tape_octets - n) (sym (used_costs c.args.self.now))
