use Rattle.instances.proofs.Five.{five}
use Rattle.instances.proofs.instances_stand.Goals as goal

pub returns-clause-primaries : goal.returns-clause-primaries
returns-clause-primaries c = five
