use Rattle.algebra_meaning.proofs.Comparisons.{and_ended, and_stopped, and_taken, or_ended, or_stopped, or_taken}
use Rattle.algebra_meaning.proofs.laws.condition_laws.Goals as goal

pub returns : goal.returns
returns g c = record {
  and_taken = and_taken c.item_laws.ensures;
  and_stopped = and_stopped c.item_laws.ensures;
  and_ended = and_ended c.item_laws.ensures;
  or_taken = or_taken c.item_laws.ensures;
  or_stopped = or_stopped c.item_laws.ensures;
  or_ended = or_ended c.item_laws.ensures;
}
