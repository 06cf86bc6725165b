use Rattle.std.proofs.Common.{◌≡◌, ℕ, List, Ok, Err, sym, ap, ◌∙◌, subst}
use Rattle.std.proofs.lemmas.Result.{err_from_is_err_and}
use Rattle.tape.specs.Reading.{read_tape}
use Rattle.tape.specs.Readers.{whole_tape, stands_at, read_so_far, ReadAs}
use Rattle.tape.proofs.Ends.{reached, ends_whole, ends_err, next-less, next_none}
use Rattle.tape.proofs.Continued.{wrong_for_good, cut_short}
use Rattle.tape.proofs.tapes.read.Goals as goal

pub returns-in_err-next : goal.returns-in_err-next
returns-in_err-next c =
    let p = err_from_is_err_and c.from_residual.result c.from_residual.ensures.1 in
    let r = c.loop-reader.reader in
    let same : whole_tape r ≡ c.args.tape.now = c.loop-reader.invariant ∙ c.new-reader.ensures.tape in
    let value = ends_err (whole_tape r) r.at (read_so_far r) _ _ c.in_err-next.field-0.0 (reached r) c.in_err-next.ensures.step in
    rw (p.1, p.2) (record { value = subst (λ (t : List ℕ). ReadAs (read_tape t) (Err c.in_err-next.field-0.0)) same value; writes_back = tt; judged = (wrong_for_good, cut_short) })

pub loop-reader-smaller : goal.loop-reader-smaller
loop-reader-smaller c = next-less (stands_at c.loop-reader.reader) (stands_at c.next.new.self) _ _ c.in_ok-next.field-0 (sym c.if-is_some.ensures) c.in_ok-next.ensures.step

pub returns : goal.returns
returns c =
    let r = c.next.new.self in
    let same : whole_tape r ≡ c.args.tape.now = c.next.ensures.tape ∙ c.loop-reader.invariant ∙ c.new-reader.ensures.tape in
    let none = next_none (stands_at c.loop-reader.reader) (stands_at r) _ _ c.in_ok-next.field-0 (sym c.if-is_some.ensures) c.in_ok-next.ensures.step in
    let end = ends_whole (whole_tape r) r.at (read_so_far r) (reached r) none in
    record {
      value = ap read_tape (sym same) ∙ end.0 ∙ ap Ok (sym c.into_warnings.ensures.value);
      writes_back = c.into_warnings.ensures.written ∙ end.1 ∙ same;
      judged = (wrong_for_good, cut_short);
    }
