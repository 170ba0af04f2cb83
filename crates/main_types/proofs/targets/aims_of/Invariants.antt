use Rattle.std.proofs.Common.{◌≡◌, map, take}
use Rattle.typed_tree.specs.MainProcedure.{aim_of}
use Rattle.main_types.proofs.targets.aims_of.Given as goal

-- those so far
abbrev pub invariant-loop-target : goal.invariant-loop-target
invariant-loop-target l = l.aims ≡ map (aim_of l.environment) (take l.target-index l.targets)
