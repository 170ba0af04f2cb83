use Rattle.std.proofs.Common.{◌≡◌, ◌++◌, drop, map}
use Rattle.chain_forms.specs.Lowering.{group_product}
use Rattle.index_notation.proofs.terms.group_products.Given as goal

abbrev pub invariant-loop-group : goal.invariant-loop-group
invariant-loop-group l =
    map (group_product l.line l.atoms) l.groups ≡ l.products ++ map (group_product l.line l.atoms) (drop l.group-index l.groups)
