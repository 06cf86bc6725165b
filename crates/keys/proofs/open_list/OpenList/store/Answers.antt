use Rattle.std.proofs.Common.{take, sym, ◌∙◌, arith}
use native.Mathlib.Nat.{sub-zero}
use Rattle.keys.specs.Kinds.{same_pair}
use Rattle.keys.specs.Agree.{decides_pair}
use Rattle.keys.proofs.Counts.{apart_stored, none_from_test}
use Rattle.keys.proofs.Slices.{stored_front}
use Rattle.keys.proofs.open_list.OpenList.store.Goals as goal

pub invariant_of-self-clause-apart : goal.invariant_of-self-clause-apart
invariant_of-self-clause-apart c =
    let s = c.args.self.now in
    let none = sym (none_from_test c.find.result (sym c.if-is_some.ensures)) ∙ c.find.ensures.value in
    let after = stored_front s.count s.entries c.store.new.xs _ (omega arith) (simp sub-zero at c.store.ensures) in
    simp sub-zero (rw after (apart_stored same_pair decides_pair _ (take s.count s.entries) none s.apart))
