use Rattle.tape.proofs.Costs.{longest_most, longest_met}
use Rattle.tape.proofs.write.longest_entry.Goals as goal

pub returns : goal.returns
returns c = record { most = longest_most; met = longest_met }
