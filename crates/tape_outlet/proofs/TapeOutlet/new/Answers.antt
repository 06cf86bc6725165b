use Rattle.std.proofs.Common.{[], refl, ap, arith}
use Rattle.tape.specs.Format.{encode_all}
use Rattle.tape.specs.Promises.{all_warnings}
use Rattle.tape_outlet.proofs.Tapes.{kept_held}
use Rattle.tape_outlet.proofs.TapeOutlet.new.Goals as goal

pub invariant_of-result : goal.invariant_of-result
invariant_of-result c =
    let none = kept_held [] [] (record { right = refl; is = refl }) in
    record { all = refl; within = omega arith; right = ap all_warnings none; written = ap encode_all none }

pub returns : goal.returns
returns c = kept_held [] [] (record { right = refl; is = refl })
