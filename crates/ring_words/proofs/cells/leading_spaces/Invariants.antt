use Rattle.std.proofs.Common.{length, drop, ◌-◌, ◌≡◌, ◌+◌, ◌≤◌}
use Rattle.std.specs.List.{prefix_len}
use Rattle.ring_words.specs.Cell as spec
use Rattle.ring_words.proofs.cells.leading_spaces.Given as goal

abbrev pub invariant-loop-offset : goal.invariant-loop-offset
invariant-loop-offset l =
    (l.offset ≤ length l.bytes) × (prefix_len spec.is_space l.bytes ≡ l.offset + prefix_len spec.is_space (drop l.offset l.bytes))

abbrev pub decreases-loop-offset : goal.decreases-loop-offset
decreases-loop-offset l = length l.bytes - l.offset
