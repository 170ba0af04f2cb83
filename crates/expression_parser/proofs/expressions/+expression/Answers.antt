use Rattle.std.proofs.Common.{rules, arith}
use Rattle.std.proofs.lemmas.Grind.{common_steps}
use Rattle.expression_parser.proofs.Nesting.{expression-none, expression-inside}
use Rattle.expression_parser.proofs.expressions.+expression.Goals as goal

pub returns-then-depth-eq0 : goal.returns-then-depth-eq0
returns-then-depth-eq0 t c = expression-none c.args.depth c.args.cursor.now (omega arith)

pub returns : goal.returns
returns t c =
    let inside = expression-inside c.args.depth c.args.cursor.now (omega arith) in
    rw inside (first_of (search rules, grind (arith, common_steps)))
