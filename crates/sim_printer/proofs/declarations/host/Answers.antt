use Rattle.sim_printer.proofs.Growing.{grown_both, grown_last}
use Rattle.sim_printer.proofs.declarations.host.Goals as goal

pub returns : goal.returns
returns c =
    grown_last c.fixed-2.result c.args.line.now _ _ _ _
    (grown_both _ _ _ _ _ (grown_both _ _ _ _ _ (grown_both _ _ _ _ _ c.in_ok-host_name.ensures c.in_ok-ints_in_parentheses.ensures) c.in_ok-fixed.ensures) c.in_ok-int.ensures) c.fixed-2.ensures
