use Rattle.std.proofs.Common.{◌≡◌, drop}
use Rattle.typed_tree.specs.MainProcedure.{all_targets}
use Rattle.main_types.proofs.Aims.{with_targets}
use Rattle.main_types.proofs.targets.all_targets.Given as goal

-- the targets so far and those that are left give all
abbrev pub invariant-loop-aim : goal.invariant-loop-aim
invariant-loop-aim l = with_targets l.targets (all_targets l.line (drop l.aim-index l.aims)) ≡ all_targets l.line l.aims
