use Rattle.std.proofs.Common.{[], ◌∷◌, map, vec_items, refl}
use Rattle.std.proofs.lemmas.Slice.{pushed}
use Rattle.warning.specs.Meaning.{owned}
use Rattle.tape.proofs.Steps.{Reached, read_less, step_read, step_reached, owned-more}
use Rattle.tape.proofs.reader.TapeReader.next.Goals as goal

pub invariant_of-self-2 : goal.invariant_of-self-2
invariant_of-self-2 c =
    let self = c.args.self.now in
    let more = pushed (c.in_ok-warning.warning ∷ []) refl c.in_ok-push.was c.push.ensures.items in
    let reached : Reached self.tape.now self.at (map owned (vec_items self.read)) = record { within = self.within; right = self.right; written = self.written } in
    let next = step_reached self.tape.now self.at (map owned (vec_items self.read)) (map owned (vec_items c.push.new.self)) (owned c.in_ok-warning.warning) c.entry.new.cursor reached (rw c.new-cursor.ensures at c.in_ok-warning.ensures) (owned-more _ _ _ more) c.offset-self.result c.offset-self.ensures in
    record { within = next.within; right = next.right; written = next.written }

pub returns : goal.returns
returns c =
    let self = c.args.self.now in
    let more = pushed (c.in_ok-warning.warning ∷ []) refl c.in_ok-push.was c.push.ensures.items in
    let reached : Reached self.tape.now self.at (map owned (vec_items self.read)) = record { within = self.within; right = self.right; written = self.written } in
    let read = step_read self.tape.now self.at (map owned (vec_items self.read)) (map owned (vec_items c.push.new.self)) (owned c.in_ok-warning.warning) c.entry.new.cursor reached (rw c.new-cursor.ensures at c.in_ok-warning.ensures) (owned-more _ _ _ more) c.offset-self.result c.offset-self.ensures in
    record { tape = refl; step = (refl, read_less _ _ _ read, (owned c.in_ok-warning.warning, read, owned-more _ _ _ more)) }
