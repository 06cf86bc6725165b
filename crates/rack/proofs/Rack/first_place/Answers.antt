use Rattle.std.proofs.Common.{sym, ap, arith}
use Rattle.std.specs.List.{slice_get}
use Rattle.rack.proofs.Ring.{first_lies}
use Rattle.rack.proofs.Rack.first_place.Goals as goal

pub returns-else-self-eq0 : goal.returns-else-self-eq0
returns-else-self-eq0 c = sym (ap (λ z. slice_get z 0) (first_lies c.args.self.now c.index-self-self.result (omega arith)))
