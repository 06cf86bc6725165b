use Rattle.std.proofs.Common.{rules, leb}
use Rattle.tape.specs.Cursors.{flag_number}
use Rattle.tape.proofs.Flags.{flag_read}
use Rattle.tape.proofs.cursor.Cursor.flag.Goals as goal

pub returns : goal.returns
returns c =
    flag_read c.args.may_be_set _ _ c.in_ok-flag.flag (c.in_ok-flag.ensures (λ flag. leb flag (flag_number c.args.may_be_set)) (λ x r l e. search rules))
