use Rattle.std.proofs.Common.{◌≡◌, map, take}
use Rattle.typed_tree.specs.declared.main_procedure.TypedTarget.TheVariants.{Variable}
use Rattle.global_algebra.proofs.assignment.targets_of.Given as goal

abbrev pub invariant-loop-variable : goal.invariant-loop-variable
invariant-loop-variable l = l.targets.items ≡ map Variable (take l.variable-index l.variables)
