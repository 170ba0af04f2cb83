use Rattle.std.proofs.Common.{rules, arith}
use Rattle.std.proofs.lemmas.Grind.{common_steps}
use Rattle.statement_parser.proofs.Nesting.{main_statement-none, main_statement-inside}
use Rattle.statement_parser.proofs.main_procedure.+main_statement.Goals as goal

pub returns-then-depth-eq0 : goal.returns-then-depth-eq0
returns-then-depth-eq0 t c = main_statement-none c.args.depth c.args.cursor.now (omega arith)

pub returns : goal.returns
returns t c =
    let inside = main_statement-inside c.args.depth c.args.cursor.now (omega arith) in
    rw inside (first_of (search rules, grind (arith, common_steps)))
