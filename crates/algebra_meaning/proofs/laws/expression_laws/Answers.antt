use Rattle.algebra_meaning.proofs.Chains.{factor_stopped, factor_taken, factors_ended, row_stopped, row_taken, rows_ended, term_stopped, term_taken, terms_ended, value_stopped, value_taken, values_ended}
use Rattle.algebra_meaning.proofs.laws.expression_laws.Goals as goal

pub returns : goal.returns
returns c = record {
  term_taken = term_taken c.item_laws.ensures;
  term_stopped = term_stopped c.item_laws.ensures;
  terms_ended = terms_ended c.item_laws.ensures;
  factor_taken = factor_taken c.item_laws-2.ensures;
  factor_stopped = factor_stopped c.item_laws-2.ensures;
  factors_ended = factors_ended c.item_laws-2.ensures;
  row_taken = row_taken c.item_laws-3.ensures;
  row_stopped = row_stopped c.item_laws-3.ensures;
  rows_ended = rows_ended c.item_laws-3.ensures;
  value_taken = value_taken c.item_laws-4.ensures;
  value_stopped = value_stopped c.item_laws-4.ensures;
  values_ended = values_ended c.item_laws-4.ensures;
}
