use Rattle.run_sizes.proofs.Reached.{fit_in_runs, meant_in_runs}
use Rattle.run_sizes.proofs.run_size_law.Goals as goal

pub returns-clause-fit : goal.returns-clause-fit
returns-clause-fit c = fit_in_runs c.expression_size_law.ensures.values c.expression_size_law.ensures.sums c.shape_law.ensures.statements

pub returns-clause-meant : goal.returns-clause-meant
returns-clause-meant c =
    meant_in_runs c.expression_size_law.ensures.values c.expression_size_law.ensures.sums c.shape_law.ensures.statements
    c.expression_typing_law.ensures c.index_expression_law.ensures.sum
