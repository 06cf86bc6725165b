use Rattle.std.proofs.Common.{◌≡◌, ◌/◌, false, length, eqb, sym, refl, ◌∙◌, arith}
use Rattle.std.proofs.lemmas.Bool.{eqb-false, eqb-true}
use borrow.Rule.Slice.Mut.{set_vals}
use Rattle.tape.specs.declared.output.Output.{Output}
use Rattle.tape.proofs.Puts.{full_room, full_so_far, last_room, last_put, all_put}
use Rattle.tape.proofs.output.Output.put_part.Goals as goal

pub put_full_pieces-self-requires : goal.put_full_pieces-self-requires
put_full_pieces-self-requires c =
    let part = c.args.part.now in
    rw c.as_chunks.ensures.front (full_room c.args.self.now part (length part / 32) (omega arith) c.requires.fit)

pub put_piece-requires-clause-fit : goal.put_piece-requires-clause-fit
put_piece-requires-clause-fit c =
    let part = c.args.part.now in
    let last = c.as_chunks.result.1.now in
    let start = c.args.self.now in
    let e = c.as_chunks.ensures.front in
    let some : eqb (length last) 0 ≡ false = sym c.is_empty.ensures ∙ c.if-not-is_empty.true in
    let now : Output = record { memory = set_vals c.put_full_pieces-self.new.memory start.memory; at = c.put_full_pieces-self.result } in
    last_room start now part last
    (full_so_far start now part last (length part / 32) (omega arith) c.as_chunks.ensures.back (rw e at c.put_full_pieces-self.ensures.next, rw e at c.put_full_pieces-self.ensures.after, refl))
    c.requires.fit (omega (arith, eqb-false _ _ some)) (omega arith)

pub returns-then-not-is_empty : goal.returns-then-not-is_empty
returns-then-not-is_empty c =
    let part = c.args.part.now in
    let last = c.as_chunks.result.1.now in
    let start = c.args.self.now in
    let e = c.as_chunks.ensures.front in
    let some : eqb (length last) 0 ≡ false = sym c.is_empty.ensures ∙ c.if-not-is_empty.true in
    let now : Output = record { memory = set_vals c.put_full_pieces-self.new.memory start.memory; at = c.put_full_pieces-self.result } in
    last_put start now part last
    (full_so_far start now part last (length part / 32) (omega arith) c.as_chunks.ensures.back (rw e at c.put_full_pieces-self.ensures.next, rw e at c.put_full_pieces-self.ensures.after, refl))
    c.requires.fit (omega (arith, eqb-false _ _ some)) (omega arith) c.put_piece.new.self c.put_piece.ensures

pub returns-else-not-is_empty : goal.returns-else-not-is_empty
returns-else-not-is_empty c =
    let part = c.args.part.now in
    let last = c.as_chunks.result.1.now in
    let start = c.args.self.now in
    let e = c.as_chunks.ensures.front in
    let none = eqb-true (length last) 0 (sym c.is_empty.ensures ∙ c.if-not-is_empty.false) in
    let now : Output = record { memory = set_vals c.put_full_pieces-self.new.memory start.memory; at = c.put_full_pieces-self.result } in
    all_put start now part last none
    (full_so_far start now part last (length part / 32) (omega arith) c.as_chunks.ensures.back (rw e at c.put_full_pieces-self.ensures.next, rw e at c.put_full_pieces-self.ensures.after, refl))
