use Rattle.index_sums.proofs.Reordered.{by_times, sums}
use Rattle.index_sums.proofs.reorder_law.Goals as goal

pub returns : goal.returns
returns g c = record { by_times = λ same decides. by_times same decides; sums = sums }
