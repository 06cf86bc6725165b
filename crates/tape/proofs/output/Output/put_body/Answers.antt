use Rattle.std.proofs.Common.{length-append, ap, ◌∙◌, refl, arith}
use Rattle.warning.specs.Meaning.{lent}
use Rattle.tape.specs.Format.{pieces, octets_of}
use Rattle.tape.proofs.Puts.{now_or, then_put}
use Rattle.tape.proofs.output.Output.put_body.Goals as goal

pub returns-in-Message : goal.returns-in-Message
returns-in-Message c =
    let message = pieces c.in-Message.message.now in
    let area = pieces (octets_of (lent c.in-Message.area)) in
    let octets = ap (λ z. z.now) c.unwrap_or-in-Message.ensures ∙ now_or c.in-Message.area _ refl in
    let fit = rw (c.in-Message.is, length-append) at c.requires.fit in
    let put = rw octets at c.put_part-in-Message.ensures in
    rw c.in-Message.is (then_put c.args.self.now c.put_part.new.self c.put_part-in-Message.new.self message area c.put_part.ensures put (omega arith))
