use Rattle.std.proofs.Common.{◌≡◌, ◌-◌, length}
use Rattle.std.specs.List.{list_all, range_with_len}
use Rattle.chain_forms.specs.Following.{are_ordered, is_ordered}
use Rattle.index_notation.proofs.ordered.are_ordered.Given as goal

abbrev pub invariant-loop-position : goal.invariant-loop-position
invariant-loop-position l =
    list_all (is_ordered l.atoms l.links) (range_with_len l.position (length l.atoms - l.position)) ≡ are_ordered l.atoms l.links
