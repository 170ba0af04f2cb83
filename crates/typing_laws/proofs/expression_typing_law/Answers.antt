use Rattle.typing_laws.proofs.TypingLaws.{expression_laws}
use Rattle.typing_laws.proofs.expression_typing_law.Goals as goal

pub returns : goal.returns
returns c = expression_laws
