use Rattle.std.proofs.Common.{◌≡◌, drop}
use Rattle.typed_tree.specs.Declarations.{is_written}
use Rattle.typed_measures.specs.Places.{place_test}
use Rattle.typed_measures.proofs.writes.+statement.Given as goal

-- what the statements before were asked changes nothing
abbrev pub invariant-is_written-loop-statement : goal.invariant-is_written-loop-statement
invariant-is_written-loop-statement l =
    is_written l.result_number l.position (place_test l.at_element) (drop l.statement-index l.statements) ≡ is_written l.result_number l.position (place_test l.at_element) l.statements
