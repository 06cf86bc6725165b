use Rattle.std.proofs.Common.{ap, ◌∙◌, arith}
use Rattle.tape.specs.Format.{encode_all}
use Rattle.tape.specs.Promises.{all_warnings}
use Rattle.tape_outlet.specs.Holding.{holding}
use Rattle.tape_outlet.proofs.Tapes.{held, kept_held, first_within, kept_moved}
use Rattle.tape_outlet.proofs.TapeOutlet.remove_oldest.Goals as goal

pub copy_within-requires-clause-start_le_end : goal.copy_within-requires-clause-start_le_end
copy_within-requires-clause-start_le_end c =
    let s = c.args.self.now in
    omega (arith, first_within s.octets s.octets (holding s) s.used (omega (arith, s.all, s.within)) (held s) c.args.freed c.requires)

pub overflow_sub-self : goal.overflow_sub-self
overflow_sub-self c =
    let s = c.args.self.now in
    omega (arith, first_within s.octets s.octets (holding s) s.used (omega (arith, s.all, s.within)) (held s) c.args.freed c.requires)

pub invariant_of-self : goal.invariant_of-self
invariant_of-self c =
    let s = c.args.self.now in
    let k = kept_moved s.octets c.copy_within.new.self (holding s) s.used (omega (arith, s.all, s.within)) (held s) c.args.freed c.requires c.copy_within.ensures.after in
    let reads = kept_held _ _ k in
    record { all = c.copy_within.ensures.len ∙ s.all; within = omega (arith, s.within); right = ap all_warnings reads ∙ k.right; written = ap encode_all reads ∙ k.is }

pub returns : goal.returns
returns c =
    let s = c.args.self.now in
    kept_held _ _ (kept_moved s.octets c.copy_within.new.self (holding s) s.used (omega (arith, s.all, s.within)) (held s) c.args.freed c.requires c.copy_within.ensures.after)
