use Rattle.std.proofs.Common.{◌≡◌, Result, sym, ap, ◌∙◌, subst}
use Rattle.std.proofs.lemmas.Slice.Eq.{slice_eq-Decides}
use Rattle.tape.specs.declared.fault.TapeFault.{TapeFault}
use Rattle.tape.specs.Reading.{read_tape}
use Rattle.tape.specs.Readers.{whole_tape, stands_at, read_so_far}
use Rattle.tape.proofs.Ends.{reached, ends_whole, ends_refused}
use Rattle.listing.specs.Listed.{Left}
use Rattle.listing.proofs.list.list.Goals as goal
use Rattle.std.proofs.lemmas.Bool.Decides.{Decides-eqb}

pub returns-in-Err : goal.returns-in-Err
returns-in-Err g c =
    let r = c.list_entries.new.reader in
    let same : whole_tape r ≡ c.args.tape.now = c.list_entries.ensures.tape ∙ c.new-reader.ensures.tape in
    let left = subst (λ (o : Result (Unit {0}) TapeFault). Left (stands_at r) o) c.in-Err.is c.in_ok-fault.ensures.left in
    ap read_tape (sym same) ∙ ends_refused (whole_tape r) r.at (read_so_far r) c.in-Err.fault (reached r) left.0 left.1

pub returns : goal.returns
returns g c =
    let r = c.list_entries.new.reader in
    let same : whole_tape r ≡ c.args.tape.now = c.list_entries.ensures.tape ∙ c.new-reader.ensures.tape in
    let left = subst (λ (o : Result (Unit {0}) TapeFault). Left (stands_at r) o) c.in_default.is c.in_ok-fault.ensures.left in
    let end = ends_whole (whole_tape r) r.at (read_so_far r) (reached r) left in
    let again : c.as_slice.result.now ≡ c.args.tape.now = c.as_slice.ensures.value ∙ c.in-Ok.ensures.same ∙ end.1 ∙ same in
    let equal = slice_eq-Decides Decides-eqb c.as_slice.result.now c.args.tape.now c.eq-same.result c.eq-same.ensures in
    (equal.1 again, (read_so_far r, ap read_tape (sym same) ∙ end.0))
