use Rattle.std.proofs.Common.{rules, arith}
use Rattle.std.proofs.lemmas.Grind.{common_steps}
use Rattle.statement_parser.proofs.Nesting.{func_statement-none, func_statement-inside}
use Rattle.statement_parser.proofs.functions.+func_statement.Goals as goal

pub returns-then-depth-eq0 : goal.returns-then-depth-eq0
returns-then-depth-eq0 t c = func_statement-none c.args.depth c.args.cursor.now (omega arith)

pub returns : goal.returns
returns t c =
    let inside = func_statement-inside c.args.depth c.args.cursor.now (omega arith) in
    rw inside (first_of (search rules, grind (arith, common_steps)))
