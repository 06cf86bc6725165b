use Rattle.std.proofs.Common.{◌++◌, ap, ◌∙◌}
use Rattle.warning.specs.Meaning.{said}
use Rattle.tape.proofs.Costs.{written_whole}
use Rattle.tape.proofs.write_all.append.Goals as goal

pub returns : goal.returns
returns c =
    let w = written_whole (said c.args.w) _ c.write.new.memory _ c.in-Ok.end c.in-Ok.ensures.value c.in-Ok.ensures.after in
    (w.0, c.in_ok-extend_from_slice.ensures.items ∙ ap (λ z. c.args.tape.now.items ++ z) w.1)
