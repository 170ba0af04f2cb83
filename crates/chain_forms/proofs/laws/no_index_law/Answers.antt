use Rattle.chain_forms.proofs.NoIndex.{none_left}
use Rattle.chain_forms.proofs.laws.no_index_law.Goals as goal

pub returns : goal.returns
returns c = none_left
