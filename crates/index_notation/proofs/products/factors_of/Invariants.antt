use Rattle.std.proofs.Common.{◌≡◌, ◌+◌, ◌++◌, length, map, reverse}
use Rattle.chain_forms.specs.Lowering.{factor, factors_of}
use Rattle.index_notation.proofs.products.factors_of.Given as goal

abbrev pub invariant-loop : goal.invariant-loop
invariant-loop l = record {
  value : factors_of l.fn.line l.fn.entrywise l.fn.factors ≡ l.list ++ map (factor l.fn.line l.fn.entrywise) (reverse l.left);
  count : length l.left + l.counter ≡ length l.initial.left;
}
