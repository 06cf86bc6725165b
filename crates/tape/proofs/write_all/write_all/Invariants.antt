use Rattle.std.proofs.Common.{◌≡◌, map, take, Ok, vec_items}
use Rattle.warning.specs.Meaning.{owned}
use Rattle.tape.specs.Promises.{written}
use Rattle.tape.proofs.write_all.write_all.Given as goal

abbrev pub invariant-loop-w : goal.invariant-loop-w
invariant-loop-w l = written (map owned (take l.w-index l.warnings)) ≡ Ok (vec_items l.tape)
