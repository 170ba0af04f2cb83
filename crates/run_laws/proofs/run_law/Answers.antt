use Rattle.run_laws.proofs.Answered.{program_answered, statement_answered}
use Rattle.run_laws.proofs.Only.{program_only, statement_only}
use Rattle.run_laws.proofs.run_law.Goals as goal

pub returns-clause-holds : goal.returns-clause-holds
returns-clause-holds c = program_answered

pub returns-clause-only : goal.returns-clause-only
returns-clause-only c = program_only

pub returns-clause-statement_holds : goal.returns-clause-statement_holds
returns-clause-statement_holds c = statement_answered

pub returns-clause-statement_only : goal.returns-clause-statement_only
returns-clause-statement_only c = statement_only
