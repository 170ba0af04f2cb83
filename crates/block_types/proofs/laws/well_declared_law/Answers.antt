use Rattle.block_types.proofs.ProgramsKept.{well_declared}
use Rattle.block_types.proofs.laws.well_declared_law.Goals as goal

pub returns : goal.returns
returns c = λ hosts tree program is. well_declared hosts tree program ((c.program_typing_law.ensures hosts).typing tree program is)
