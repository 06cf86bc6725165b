use Rattle.std.proofs.Common.{[], ◌∷◌, refl, ap, ◌∙◌}
use Rattle.instances.specs.Primaries.{answers, primary_of}
use Rattle.instances.proofs.Five.{answers_step, five}
use Rattle.instances.proofs.primaries.five_primaries.Goals as goal

pub returns : goal.returns
returns c =
    let x = primary_of c.args.network c.args.x in
    let y = primary_of c.args.network c.args.y in
    let z = primary_of c.args.network c.args.z in
    let clock = c.args.clock in
    let first = c.remember-first in
    let second = c.remember-second in
    let third = c.remember-third in
    let fourth = c.remember-fourth in
    let fifth = c.remember-fifth in
    let run =
    answers_step clock x (y ∷ x ∷ z ∷ y ∷ []) _ _ _ _ first.ensures.answer first.ensures.after
    (answers_step clock y (x ∷ z ∷ y ∷ []) _ _ _ _ second.ensures.answer second.ensures.after
    (answers_step clock x (z ∷ y ∷ []) _ _ _ _ third.ensures.answer third.ensures.after
    (answers_step clock z (y ∷ []) _ _ _ _ fourth.ensures.answer fourth.ensures.after
    (answers_step clock y [] _ _ _ _ fifth.ensures.answer fifth.ensures.after refl)))) in
    record {
      answers = run ∙ ap (answers clock (x ∷ y ∷ x ∷ z ∷ y ∷ [])) c.new-list.ensures;
      table = five;
    }
