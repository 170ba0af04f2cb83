use Rattle.std.proofs.Common.{◌≡◌, ◌++◌}
use Rattle.std.specs.Vec.Iter.{into_iter_items}
use Rattle.plain_maps.proofs.elements.append.Given as goal

-- those that are there, and those that are left
abbrev pub invariant-loop-one : goal.invariant-loop-one
invariant-loop-one l = l.so_far ++ into_iter_items l.one-iterator ≡ l.initial.so_far ++ l.fn.more
