use Rattle.typing_laws.proofs.TypingLaws.{main_laws}
use Rattle.typing_laws.proofs.main_typing_law.Goals as goal

pub returns : goal.returns
returns c = main_laws
