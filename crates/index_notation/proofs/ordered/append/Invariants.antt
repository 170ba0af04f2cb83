use Rattle.std.proofs.Common.{◌≡◌, ◌++◌, take}
use Rattle.index_notation.proofs.ordered.append.Given as goal

abbrev pub invariant-loop-link : goal.invariant-loop-link
invariant-loop-link l = l.links ≡ l.fn.links ++ take l.link-index l.more
