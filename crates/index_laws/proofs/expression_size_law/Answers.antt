use Rattle.index_laws.proofs.Added.{sums_are_sized}
use Rattle.index_laws.proofs.ExpressionSizes.{are_sized}
use Rattle.index_laws.proofs.expression_size_law.Goals as goal

pub returns-clause-values : goal.returns-clause-values
returns-clause-values c = are_sized c.meaning_form_law.ensures c.entry_law.ensures

pub returns-clause-sums : goal.returns-clause-sums
returns-clause-sums c = sums_are_sized
