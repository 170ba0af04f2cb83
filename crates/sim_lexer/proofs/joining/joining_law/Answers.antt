use Rattle.sim_lexer.proofs.LexingLaw.{are_few, are_spelled}
use Rattle.sim_lexer.proofs.JoinedText.{joined_reads_back, tokens_stay_within}
use Rattle.sim_lexer.proofs.joining.joining_law.Goals as goal

pub returns-clause-joined : goal.returns-clause-joined
returns-clause-joined c = joined_reads_back

pub returns-clause-within : goal.returns-clause-within
returns-clause-within c = tokens_stay_within

pub returns-clause-few : goal.returns-clause-few
returns-clause-few c = are_few

pub returns-clause-spelled : goal.returns-clause-spelled
returns-clause-spelled c = are_spelled
