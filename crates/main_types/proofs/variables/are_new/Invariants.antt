use Rattle.std.proofs.Common.{◌≡◌, [], drop}
use Rattle.typed_tree.specs.MainProcedure.{are_new}
use Rattle.main_types.proofs.variables.are_new.Given as goal

-- the names that are left are new after those so far where all are new
abbrev pub invariant-loop-name : goal.invariant-loop-name
invariant-loop-name l = are_new l.known l.before (drop l.name-index l.names) ≡ are_new l.known [] l.names
