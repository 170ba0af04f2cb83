use Rattle.typing_laws.proofs.ProgramLaws.{program_laws}
use Rattle.typing_laws.proofs.program_typing_law.Goals as goal

pub returns : goal.returns
returns c = program_laws
