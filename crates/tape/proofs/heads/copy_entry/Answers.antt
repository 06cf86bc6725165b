use Rattle.std.proofs.Common.{◌≡◌, ℕ, List, drop, Ok, Err, Result, sym, ap, ◌∙◌, rules}
use Rattle.std.proofs.lemmas.Result.{err_from_is_err_and}
use Rattle.warning.specs.declared.Warning.{Warning}
use Rattle.warning.specs.Notice.{outline}
use Rattle.tape.specs.declared.fault.TapeFault.{TapeFault}
use Rattle.tape.specs.Heads.{body, answered, copied}
use Rattle.tape.specs.Reading.{Place, place, entry}
use Rattle.tape.proofs.Bodies.{body_outline}
use Rattle.tape.proofs.Readings.{head_refused, head_read}
use Rattle.tape.proofs.heads.copy_entry.Goals as goal

refused_entry : (p : Place) (f : TapeFault) (memory : List ℕ) → entry p ≡ Err f → (◌≡◌ {A = Result ((Warning ℕ) × ℕ) TapeFault} (Err f) (answered outline (entry p))) × (memory ≡ copied (entry p) memory)
refused_entry p f memory e = (ap (answered outline) (sym e), ap (λ z. copied z memory) (sym e))

pub returns-in_err-outline : goal.returns-in_err-outline
returns-in_err-outline c =
    let p = err_from_is_err_and c.from_residual.result c.from_residual.ensures.1 in
    let e = rw c.new-cursor.ensures at c.in_err-outline.ensures.value in
    let both = refused_entry _ _ c.args.memory.now (head_refused _ _ (sym e)) in
    rw (p.1, p.2) (record { value = both.0; after = both.1 })

pub returns-in_err-pass_body : goal.returns-in_err-pass_body
returns-in_err-pass_body c =
    let p = err_from_is_err_and c.from_residual-in_err-pass_body.result c.from_residual-in_err-pass_body.ensures.1 in
    let e = rw c.new-cursor.ensures at c.in_ok-outline.ensures.value in
    let both = refused_entry _ _ c.args.memory.now (head_read _ _ _ (sym e) ∙ ap (body c.in_ok-outline.outline) (sym c.fork-end.ensures) ∙ c.in_err-pass_body.ensures) in
    rw (p.1, p.2) (record { value = both.0; after = both.1 })

pub returns-clause-value : goal.returns-clause-value
returns-clause-value c =
    let e = rw c.new-cursor.ensures at c.in_ok-outline.ensures.value in
    let judged = c.in_ok-pass_body.ensures in
    let same : body c.in_ok-outline.outline c.head.new.cursor ≡ Ok (judged.0, c.pass_body.new.cursor)
    = ap (body c.in_ok-outline.outline) (sym c.fork-end.ensures) ∙ judged.1 in
    let told = body_outline c.in_ok-outline.outline c.head.new.cursor judged.0 c.pass_body.new.cursor c.in_ok-outline.ensures.right same in
    ap (λ z. Ok (z, c.offset.result)) (sym told)
    ∙ ap (λ n. Ok (outline judged.0, n)) c.offset.ensures
    ∙ sym (ap (answered outline) (head_read _ _ _ (sym e) ∙ same))

pub returns-clause-after : goal.returns-clause-after
returns-clause-after c =
    let e = rw c.new-cursor.ensures at c.in_ok-outline.ensures.value in
    let second = c.in_ok-pass_body-2.ensures in
    let p = place c.args.at (drop c.args.at c.args.tape.now) in
    let done : c.pass_body-2.new.sink.memory.now ≡ copied (entry p) c.args.memory.now
    = second.2.1 ∙ sym (ap (λ z. copied z c.args.memory.now) (head_read _ _ _ (sym e) ∙ second.1)) in
    let name = sym second.2.2 in
    search rules
