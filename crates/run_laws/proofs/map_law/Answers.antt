use Rattle.run_laws.proofs.Maps.{map_answered, map_only}
use Rattle.run_laws.proofs.map_law.Goals as goal

pub returns-clause-holds : goal.returns-clause-holds
returns-clause-holds c = map_answered

pub returns-clause-only : goal.returns-clause-only
returns-clause-only c = map_only
