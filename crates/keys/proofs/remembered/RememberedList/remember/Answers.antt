use Rattle.keys.proofs.remembered.RememberedList.remember.Goals as goal

pub invariant_of-self-clause-apart : goal.invariant_of-self-clause-apart
invariant_of-self-clause-apart c = c.remember.ensures.apart c.args.self.now.apart

pub invariant_of-self-clause-few : goal.invariant_of-self-clause-few
invariant_of-self-clause-few c = c.remember.ensures.few c.args.self.now.few
