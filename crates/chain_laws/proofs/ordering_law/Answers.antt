use Rattle.chain_laws.proofs.Holds.{holds}
use Rattle.chain_laws.proofs.Only.{only}
use Rattle.chain_laws.proofs.Refused.{refused}
use Rattle.chain_laws.proofs.ordering_law.Goals as goal

pub returns-clause-holds : goal.returns-clause-holds
returns-clause-holds c = holds

pub returns-clause-only : goal.returns-clause-only
returns-clause-only c = only

pub returns-clause-refused : goal.returns-clause-refused
returns-clause-refused c = refused
