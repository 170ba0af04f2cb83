use Rattle.std.proofs.Common.{◌≡◌, ◌+◌, ◌++◌, ◌∷◌, [], length}
use Rattle.chain_forms.specs.Lowering.{nested}
use Rattle.index_notation.proofs.products.nested.Given as goal

abbrev pub invariant-loop : goal.invariant-loop
invariant-loop l = record {
  value : nested l.fn.line l.fn.factors ≡ nested l.fn.line (l.left ++ l.value ∷ []);
  count : length l.left + l.counter ≡ length l.initial.left;
}
