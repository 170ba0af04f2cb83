-- Where the further names or targets of a statement can't be read.
use Rattle.std.proofs.Common.{◌≡◌, false, List, refl}
use Rattle.std.specs.Prelude.{Ok, Err}
use Rattle.sim_lexer.specs.Words.{Word}
use Rattle.sim_lexer.specs.declared.token.symbol.TheConstants as symbol
use Rattle.sim_syntax.specs.declared.expression.Expr.{Expr}
use Rattle.sim_grammar.specs.Rule.{sym}
use Rattle.sim_grammar.specs.Read.{Reader, starts, skip, separated}
use Rattle.sim_grammar.specs.ReadMain.{sides}
use Rattle.token_cursor.specs.declared.halt.Halt.{Halt}
use Rattle.token_cursor.specs.declared.halt.Halt.TheVariants.{Syntax, Memory}
use Rattle.token_cursor.specs.Reads.{Reads}

pub others_halt : {A : Type 0} (value : Reader Expr) (part : Reader A) (ws middle after : List Word) (halt : Halt)
    → starts (sym symbol.ASSIGN) ws ≡ false → skip (sym symbol.COMMA) ws ≡ Ok middle → Reads (separated (sym symbol.COMMA) part middle) (Err halt) after
    → Reads (sides value part ws) (Err halt) after
unfolding sides
others_halt value part ws middle after Syntax none skipped halts = rw (none, skipped, halts) refl
others_halt value part ws middle after Memory none skipped halts = tt
