use Rattle.std.proofs.Common.{◌∙◌}
use Rattle.index_notation.proofs.Factors.{dotted}
use Rattle.index_notation.proofs.products.dot.Goals as goal

pub returns : goal.returns
returns c =
    dotted c.args.line c.args.factors c.remove-first.new.self c.remove-first.result c.in_ok-left.left c.in_ok-right.right c.remove-first.ensures.item
    c.remove-first.ensures.rest c.in_ok-left.ensures
    (c.in_ok-right.ensures ∙ c.in_ok-rest.ensures)
