use Rattle.std.proofs.Common.{◌≡◌, sym, ap, ◌∙◌, arith}
use Rattle.std.proofs.lemmas.Grind.{common_steps}
use Rattle.std.specs.Option.{option_map}
use Rattle.std.specs.Result.{result_ok}
use Rattle.outlet.specs.Outcomes.{first_of}
use Rattle.tape_outlet.specs.Holding.{holding}
use Rattle.tape_outlet.proofs.Tapes.{Kept, first_head}
use Rattle.tape_outlet.proofs.calls.TapeOutletOutlet.first.Goals as goal

pub returns : goal.returns
returns c =
    let s = c.args.self.now in
    let k : Kept c.tape.result.now (holding s) = record { right = s.right; is = sym c.tape.ensures.written } in
    let told : option_map (λ x. x.0) c.ok.result ≡ first_of (holding s)
    = ap (option_map (λ x. x.0)) (c.ok.ensures.value ∙ ap result_ok c.read_head.ensures.value) ∙ first_head _ _ k in
    rw (sym told) (grind (arith, common_steps))
