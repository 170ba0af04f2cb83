use Rattle.std.proofs.Common.{◌≡◌, map, take}
use Rattle.typed_tree.specs.MainProcedure.{result_type}
use Rattle.main_types.proofs.maps.result_types.Given as goal

-- those so far
abbrev pub invariant-loop-one : goal.invariant-loop-one
invariant-loop-one l = l.types ≡ map result_type (take l.one-index l.results)
