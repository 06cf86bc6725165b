use Rattle.std.specs.declared.alloc.Global.{Global}
use Rattle.std.proofs.Common.{Vec, ◌≡◌, ℕ, List, map, IfOk, Ok, vec_items, subst}
use Rattle.warning.specs.declared.Warning.{Warning}
use Rattle.warning.specs.Meaning.{owned}
use Rattle.tape.specs.Promises.{WrittenAs}
use Rattle.tape.specs.Reading.{read_tape}
use Rattle.tape.specs.Readers.{read_so_far}
use Rattle.tape.proofs.Lists.{back_same, back_wanting}
use Rattle.tape.proofs.Whole.{reads_back, writes_back}
use Rattle.tape.proofs.reader.TapeReader.write_back.Goals as goal

pub returns : goal.returns
returns c =
    let self = c.args.self.now in
    let written = c.write_all.result in
    let items : c.as_slice.result.now ≡ vec_items self.read = c.as_slice.ensures.value in
    let value = subst (λ (ws : List (Warning (Vec ℕ Global))). WrittenAs (map owned ws) written) items c.write_all.ensures.value in
    record {
      same = back_same (read_so_far self) _ written self.written value;
      reads_back = subst (λ (ws : List (Warning (Vec ℕ Global))). IfOk written (λ tape. read_tape (vec_items tape) ≡ Ok (map owned ws))) items c.write_all.ensures.reads_back;
      round_trips = (reads_back, writes_back);
      wanting = back_wanting (read_so_far self) written self.right value;
    }
