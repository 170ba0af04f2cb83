use Rattle.std.proofs.Common.{◌≡◌, map, take}
use Rattle.typed_tree.specs.Expressions.{row_types}
use Rattle.expression_types.proofs.blocks.row_types.Given as goal

-- the rows so far have their types
abbrev pub invariant-loop-row : goal.invariant-loop-row
invariant-loop-row l = l.types ≡ map row_types (take l.row-index l.rows)
