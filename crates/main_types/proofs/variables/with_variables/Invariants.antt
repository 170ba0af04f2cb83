use Rattle.std.proofs.Common.{◌≡◌, drop}
use Rattle.std.specs.Slice.Iter.{iter_rest}
use Rattle.typed_tree.specs.MainProcedure.{with_variables}
use Rattle.main_types.proofs.variables.with_variables.Given as goal

-- the variables so far and the names and types that are left give all
abbrev pub invariant-loop-name : goal.invariant-loop-name
invariant-loop-name l = with_variables l.walk (drop l.name-index l.names) (iter_rest l.types) ≡ with_variables l.initial.walk l.names (iter_rest l.initial.types)
