use Rattle.loop_laws.proofs.Folds.{number_taken, number_refused, numbers_ended}
use Rattle.loop_laws.proofs.number_laws.Goals as goal

pub returns : goal.returns
returns g c = record { taken = number_taken; refused = number_refused; ended = numbers_ended }
