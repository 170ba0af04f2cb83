use Rattle.std.proofs.Common.{◌≡◌, drop}
use Rattle.std.specs.Slice.Iter.{iter_rest}
use Rattle.typed_tree.specs.MainProcedure.{targets_fault}
use Rattle.main_types.proofs.targets.targets_fault.Given as goal

-- the fault so far and those of the targets and values that are left
abbrev pub invariant-loop-aim : goal.invariant-loop-aim
invariant-loop-aim l = targets_fault l.fault (drop l.aim-index l.aims) (iter_rest l.values) ≡ targets_fault l.initial.fault l.aims (iter_rest l.initial.values)
