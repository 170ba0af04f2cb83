use Rattle.typing_laws.proofs.TypingLaws.{function_laws}
use Rattle.typing_laws.proofs.function_typing_law.Goals as goal

pub returns : goal.returns
returns c = function_laws
