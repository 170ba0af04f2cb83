use Rattle.sim_grammar.proofs.WholeCuts.{begun, completed, places}
use Rattle.sim_grammar.proofs.cutting.cut_law.Goals as goal

pub returns-clause-begun : goal.returns-clause-begun
returns-clause-begun c = begun

pub returns-clause-completed : goal.returns-clause-completed
returns-clause-completed c = completed

pub returns-clause-places : goal.returns-clause-places
returns-clause-places c = places
