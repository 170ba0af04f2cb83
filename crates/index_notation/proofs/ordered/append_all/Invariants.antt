use Rattle.std.proofs.Common.{◌≡◌, ◌++◌, take}
use Rattle.std.specs.List.{flat_map}
use Rattle.index_notation.proofs.ordered.append_all.Given as goal

abbrev pub invariant-loop-group : goal.invariant-loop-group
invariant-loop-group l = l.links ≡ l.fn.links ++ flat_map (λ group. group) (take l.group-index l.groups)
