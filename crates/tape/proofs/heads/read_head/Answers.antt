use Rattle.tape.proofs.Bodies.{entry_split}
use Rattle.tape.proofs.heads.read_head.Goals as goal

pub returns-in_err-outline-clause-parts : goal.returns-in_err-outline-clause-parts
returns-in_err-outline-clause-parts c = entry_split

pub returns-clause-parts : goal.returns-clause-parts
returns-clause-parts c = entry_split
