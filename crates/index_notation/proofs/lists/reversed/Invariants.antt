use Rattle.std.proofs.Common.{◌≡◌, ◌+◌, ◌++◌, reverse, length}
use Rattle.index_notation.proofs.lists.reversed.Given as goal

-- the items that are left, and those that were taken from the last on
abbrev pub invariant-loop : goal.invariant-loop
invariant-loop g l = record {
  items : l.left ++ reverse l.list ≡ l.fn.items;
  count : length l.left + l.counter ≡ length l.fn.items;
}
