use Rattle.std.proofs.Common.{◌≡◌, ℕ, List, [], Some, None, Option, ap, ◌∙◌, refl, arith}
use Rattle.std.specs.Borrow.{Bor}
use Rattle.std.specs.Option.{unwrap_or}
use Rattle.octets.specs.Octets.{written}
use Rattle.octets.proofs.Writes.{then-written}
use Rattle.warning.specs.Contents.{part_octets}
use Rattle.warning.specs.Meaning.{lent}
use Rattle.outlet.proofs.standing.lay.Goals as goal

unwrap_or-now : (part : Option (Bor (List ℕ))) (none : Bor (List ℕ)) → none.now ≡ [] → (unwrap_or part none).now ≡ part_octets (lent part)
unwrap_or-now (Some octets) none e = refl
unwrap_or-now None none e = e

pub returns-in-Message : goal.returns-in-Message
returns-in-Message c =
    let m₀ = c.args.memory.now in
    let m₁ = c.put-next.new.memory in
    let first = c.put-next.ensures in
    let second = c.put-in-Message.ensures in
    let area = ap (λ z. z.now) c.unwrap_or-in-Message.ensures ∙ unwrap_or-now c.in-Message.area _ refl in
    let fit = rw c.in-Message.is at c.requires in
    rw c.in-Message.is
    (then-written m₀ m₁ c.put-in-Message.new.memory c.in-Message.message.now _ 0 c.put-next.result first.after
    (second.after ∙ ap (λ z. written c.put-next.result z m₁) area) first.next (omega arith))
