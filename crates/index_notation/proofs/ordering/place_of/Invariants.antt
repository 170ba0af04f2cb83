use Rattle.std.proofs.Common.{◌≡◌}
use Rattle.chain_forms.specs.Following.{with_group}
use Rattle.index_notation.proofs.Groups.{passing}
use Rattle.index_notation.proofs.ordering.place_of.Given as goal

-- the groups before stand before the other one
abbrev pub invariant-loop-place : goal.invariant-loop-place
invariant-loop-place l = with_group l.group l.groups ≡ passing l.group l.groups l.place
