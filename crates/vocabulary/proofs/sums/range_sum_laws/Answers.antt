use Rattle.vocabulary.proofs.SumsOverLists.{same_below, one_index, blocks}
use Rattle.vocabulary.proofs.sums.range_sum_laws.Goals as goal

pub returns : goal.returns
returns c = record { same_below = same_below; one_index = one_index; blocks = blocks }
