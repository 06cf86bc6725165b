use Rattle.std.proofs.Common.{◌-◌, ◌*◌}
use Rattle.tape.proofs.Gathers.{Handing}
use Rattle.tape.proofs.read.part.Given as goal

abbrev pub invariant-loop : goal.invariant-loop
invariant-loop g l = Handing (λ xs. g.S.Sink.took l.initial.sink xs l.sink) l.count l.initial.here (l.count - l.counter * 32) l.here
