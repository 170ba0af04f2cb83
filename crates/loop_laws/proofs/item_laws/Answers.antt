use Rattle.loop_laws.proofs.Folds.{item_taken, item_refused, items_ended}
use Rattle.loop_laws.proofs.item_laws.Goals as goal

pub returns : goal.returns
returns g c = record { taken = item_taken; refused = item_refused; ended = items_ended }
