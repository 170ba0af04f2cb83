use Rattle.chain_laws.proofs.Lowering.{term_lowered, term_only, term_refused}
use Rattle.chain_laws.proofs.term_law.Goals as goal

pub returns-clause-holds : goal.returns-clause-holds
returns-clause-holds c = term_lowered

pub returns-clause-only : goal.returns-clause-only
returns-clause-only c = term_only

pub returns-clause-refused : goal.returns-clause-refused
returns-clause-refused c = term_refused
