use Rattle.typing_laws.proofs.TypingLaws.{condition_laws}
use Rattle.typing_laws.proofs.condition_typing_law.Goals as goal

pub returns : goal.returns
returns c = condition_laws
