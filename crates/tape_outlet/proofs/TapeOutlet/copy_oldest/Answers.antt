use Rattle.std.proofs.Common.{sym, ap, ◌∙◌}
use Rattle.std.specs.Result.{result_ok}
use Rattle.tape_outlet.specs.Holding.{holding}
use Rattle.tape_outlet.proofs.Tapes.{Kept, first_entry, first-copied}
use Rattle.tape_outlet.proofs.TapeOutlet.copy_oldest.Goals as goal

pub returns : goal.returns
returns c =
    let s = c.args.self.now in
    let k : Kept c.tape.result.now (holding s) = record { right = s.right; is = sym c.tape.ensures.written } in
    record {
      value = c.ok.ensures.value ∙ ap result_ok c.copy_entry.ensures.value ∙ first_entry _ _ k;
      after = c.copy_entry.ensures.after ∙ first-copied _ _ c.args.buffer.now k;
    }
