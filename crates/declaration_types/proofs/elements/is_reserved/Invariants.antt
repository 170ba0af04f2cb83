use Rattle.std.proofs.Common.{◌≡◌}
use Rattle.declaration_types.specs.Reserved.{is_reserved_below}
use Rattle.declaration_types.proofs.elements.is_reserved.Given as goal

-- whether it is `key` or the name of a column so far
abbrev pub invariant-loop-position : goal.invariant-loop-position
invariant-loop-position l = l.reserved ≡ is_reserved_below l.position l.name
