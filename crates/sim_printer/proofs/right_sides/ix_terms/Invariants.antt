use Rattle.sim_printer.specs.Printed as spec
use Rattle.sim_printer.proofs.Parts.{SoFar}
use Rattle.sim_printer.proofs.right_sides.ix_terms.Given as goal

-- those so far are printed
abbrev pub invariant-loop-one : goal.invariant-loop-one
invariant-loop-one l = SoFar spec.ix_sum_words l.initial.line l.line l.all l.one-index l.is_first
