use Rattle.std.proofs.Common.{◌≡◌, length, sym, ◌∙◌, rules}
use Rattle.tape.proofs.Readings.{passed_so, written_whole}
use Rattle.tape.proofs.Entries.{part_ok}
use Rattle.tape.proofs.read.fill.Goals as goal

pub returns : goal.returns
returns c =
    passed_so (λ xs. xs) _ _ _ c.part.result c.part.new.cursor
    (λ xs e t.
    let size = (part_ok (length c.args.memory.now) c.args.cursor.now xs c.part.new.cursor e).0 in
    let whole : c.part.new.sink.memory.now ≡ xs = t.1 ∙ written_whole xs c.args.memory.now size in
    let name = sym t.2 in
    search rules)
    c.part.ensures
