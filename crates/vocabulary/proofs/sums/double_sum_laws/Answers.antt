use Rattle.vocabulary.proofs.SumsOverLists.{exchanged, product, mapped, flattened}
use Rattle.vocabulary.proofs.sums.double_sum_laws.Goals as goal

pub returns : goal.returns
returns g c = record { exchanged = exchanged; product = product; mapped = mapped; flattened = flattened }
