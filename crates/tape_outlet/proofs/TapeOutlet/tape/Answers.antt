use Rattle.std.proofs.Common.{◌≡◌, ◌-◌, take, sym, ap, ◌∙◌, arith}
use Rattle.tape.specs.Reading.{read_tape}
use Rattle.tape_outlet.proofs.Tapes.{held, kept_reads}
use Rattle.tape_outlet.proofs.TapeOutlet.tape.Goals as goal

pub returns : goal.returns
returns c =
    let s = c.args.self.now in
    let size : s.used - 0 ≡ s.used = omega arith in
    let same = ap (λ z. take z s.octets) size in
    record { written = same ∙ sym s.written; reads = ap read_tape same ∙ kept_reads _ _ (held s) }
