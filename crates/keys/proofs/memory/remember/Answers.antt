use Rattle.std.proofs.Common.{length, take, drop, sym, refl, ap, ◌∙◌, arith}
use Rattle.std.specs.List.{remove}
use Rattle.std.specs.Option.{option_or}
use Rattle.std.proofs.lemmas.List.{length-take-le, take_at}
use Rattle.keys.specs.Entries.{entry, without, stored_last}
use Rattle.keys.specs.Memory.{makes_way}
use Rattle.keys.proofs.Counts.{apart_remembered, few_remembered}
use Rattle.keys.proofs.Slices.{stored_front}
use Rattle.keys.proofs.memory.remember.Goals as goal

pub returns-in-Some : goal.returns-in-Some
returns-in-Some g c =
    let law = g.met.K.Key in
    let same = g.K.Key.same in
    let grouped = g.K.Key.grouped in
    let e = c.args.entry in
    let most = c.args.most in
    let count = c.args.count.now in
    let xs = c.args.xs.now in
    let held = take count xs in
    let way = makes_way grouped most (length xs) e.key held in
    let whole = take_at c.renew.new.xs (drop count xs) count (omega (arith, length-take-le count xs c.requires.held)) in
    let renewed = c.renew.ensures e ∙ ap (λ k. stored_last (entry k e.stored) (remove held c.in-Some.at)) (c.in-Some.ensures.found.1 e) in
    let after = whole ∙ renewed ∙ ap (λ o. stored_last e (without (option_or o way) held)) c.in-Some.ensures.value in
    record {
      answer = rw (sym c.in-Some.ensures.value) refl;
      after = after;
      held = c.requires.held;
      apart = λ h. rw after (apart_remembered same law.decides grouped law.itself law.together most (length xs) e held h);
      few = λ h. rw after (few_remembered same law.decides grouped law.itself law.together most (length xs) e held c.requires.group h);
    }

pub returns : goal.returns
returns g c =
    let law = g.met.K.Key in
    let same = g.K.Key.same in
    let grouped = g.K.Key.grouped in
    let e = c.args.entry in
    let most = c.args.most in
    let xs = c.args.xs.now in
    let held = take c.args.count.now xs in
    let way = makes_way grouped most (length xs) e.key held in
    let room = c.make_room-left in
    let stored = stored_front room.result room.new.xs c.store.new.xs e (omega (arith, room.ensures.free, room.auto.xs)) c.store.ensures in
    let after = stored ∙ ap (stored_last e) room.ensures.after ∙ ap (λ o. stored_last e (without (option_or o way) held)) c.in_default.ensures.value in
    record {
      answer = rw (sym c.in_default.ensures.value) refl;
      after = after;
      held = omega (arith, room.ensures.free);
      apart = λ h. rw after (apart_remembered same law.decides grouped law.itself law.together most (length xs) e held h);
      few = λ h. rw after (few_remembered same law.decides grouped law.itself law.together most (length xs) e held c.requires.group h);
    }
