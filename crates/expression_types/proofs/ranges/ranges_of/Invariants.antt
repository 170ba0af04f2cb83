use Rattle.std.proofs.Common.{◌≡◌, map, take}
use Rattle.typed_tree.specs.Expressions.{range_of}
use Rattle.expression_types.proofs.ranges.ranges_of.Given as goal

-- the values of the indices so far
abbrev pub invariant-loop-index : goal.invariant-loop-index
invariant-loop-index l = l.ranges ≡ map range_of (take l.index-index l.indices)
