-- ReadsBack: what is printed of a program, and that it reads back.
use Rattle.std.specs.Prelude.{◌≡◌, ℕ, List, Ok}
use Rattle.sim_lexer.specs.Joined.{joined}
use Rattle.sim_lexer.specs.Tokens.{tokens}
use Rattle.sim_lexer.specs.Words.{words_of}
use Rattle.sim_lexer.specs.declared.token.Token.{Token}
use Rattle.sim_syntax.specs.declared.program.Program.{Program}
use Rattle.sim_grammar.specs.Grammar.{Derives}
use Rattle.sim_printer.specs.Printed.{printed}
use Rattle.sim_printer.specs.FirstLine.{on_first_line}

-- the printed text is cut into tokens, and they derive the same program on the first line
abbrev pub ReadsBack : Program → Type 0
ReadsBack program = (again : List Token) × (tokens (joined (printed program)) ≡ Ok again) × Derives (on_first_line program) (words_of (joined (printed program)) again)

-- so it is of each program that a text derives
abbrev pub ReadBack : Type 0
ReadBack = (program : Program) (source : List ℕ) (all : List Token) → tokens source ≡ Ok all → Derives program (words_of source all) → ReadsBack program
