use Rattle.sim_printer.proofs.Growing.{grown_both, grown_last}
use Rattle.sim_printer.proofs.declarations.func.Goals as goal

pub returns : goal.returns
returns c =
    grown_last c.fixed.result c.args.line.now _ _ _ _
    (grown_both _ _ _ _ _ (grown_both _ _ _ _ _ c.in_ok-func_head.ensures c.in_ok-results_in_parentheses.ensures) c.in_ok-statements.ensures) c.fixed.ensures
