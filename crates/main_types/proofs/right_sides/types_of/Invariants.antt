use Rattle.std.proofs.Common.{◌≡◌, map, take}
use Rattle.typed_tree.specs.Expressions.{type_of}
use Rattle.main_types.proofs.right_sides.types_of.Given as goal

-- those so far
abbrev pub invariant-loop-arg : goal.invariant-loop-arg
invariant-loop-arg l = l.types ≡ map type_of (take l.arg-index l.args)
