use Rattle.typing_laws.proofs.ProgramLaws.{declaration_laws}
use Rattle.typing_laws.proofs.declaration_typing_law.Goals as goal

pub returns : goal.returns
returns c = declaration_laws
