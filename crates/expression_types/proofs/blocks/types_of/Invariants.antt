use Rattle.std.proofs.Common.{◌≡◌, map, take}
use Rattle.typed_tree.specs.Expressions.{type_of}
use Rattle.expression_types.proofs.blocks.types_of.Given as goal

-- the types of the expressions so far
abbrev pub invariant-loop-part : goal.invariant-loop-part
invariant-loop-part l = l.types ≡ map type_of (take l.part-index l.expressions)
