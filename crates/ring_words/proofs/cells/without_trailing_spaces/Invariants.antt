use Rattle.std.proofs.Common.{length, take, ◌≡◌, ◌+◌, ◌≤◌}
use Rattle.std.specs.List.{suffix_len}
use Rattle.ring_words.specs.Cell as spec
use Rattle.ring_words.proofs.cells.without_trailing_spaces.Given as goal

abbrev pub invariant-loop-end : goal.invariant-loop-end
invariant-loop-end l =
    (l.end ≤ length l.bytes) × (l.end + suffix_len spec.is_space l.bytes ≡ length l.bytes + suffix_len spec.is_space (take l.end l.bytes))

abbrev pub decreases-loop-end : goal.decreases-loop-end
decreases-loop-end l = l.end
