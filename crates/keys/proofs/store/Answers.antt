use Rattle.std.proofs.Common.{◌-◌, length, set, sym, ◌∙◌, arith}
use Rattle.std.proofs.lemmas.List.{length-set, take_more_set, take_all}
use Rattle.keys.proofs.store.Goals as goal

pub returns : goal.returns
returns g c =
    let xs = c.args.xs.now in
    let last = length xs - 1 in
    let e = c.args.entry in
    let long = length-set xs last e in
    sym (take_all _ (set xs last e) (omega (arith, long))) ∙ take_more_set xs last e (omega arith)
