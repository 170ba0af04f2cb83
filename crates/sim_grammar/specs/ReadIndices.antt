-- How index expressions are read off the front of the words.
use Rattle.std.specs.Prelude.{List, [], ◌∷◌, Option}
use Rattle.sim_lexer.specs.declared.token.TokenKind.TheVariants.{Name, Number, Keyword, Symbol}
use Rattle.sim_lexer.specs.declared.token.keyword.TheConstants as keyword
use Rattle.sim_lexer.specs.declared.token.symbol.TheConstants as symbol
use Rattle.sim_syntax.specs.declared.statement.Right.{Right}
use Rattle.sim_syntax.specs.declared.statement.IxTerm.{IxTerm}
use Rattle.sim_syntax.specs.declared.statement.IxAtom.{IxAtom}
use Rattle.sim_grammar.specs.Rule.{sym}
use Rattle.sim_grammar.specs.Trees.{Text, ix_number_of, ix_named_of, ix_term_of, ix_of}
use Rattle.sim_grammar.specs.Read.{Reader, spelt, ◌⊛◌, ◌▹◌, ◌◃◌, each, choose, made, node, separated, one_or_two, maybe, maybe_some, whether}
use Rattle.sim_grammar.specs.ReadExpressions.{sign}

abbrev name : Reader Text
name = spelt Name

abbrev digits : Reader Text
digits = spelt Number

-- ---- index expressions
unfoldable pub names : Reader (List Text)
names = one_or_two (sym symbol.COMMA) name

unfoldable pub indices : Reader (List Text)
indices = sym symbol.OPEN_PAREN ▹ names ◃ sym symbol.CLOSE_PAREN

unfoldable pub maybe_indices : Reader (List Text)
maybe_indices = maybe_some (sym symbol.OPEN_PAREN) indices

unfoldable pub maybe_field : Reader (Option Text)
maybe_field = maybe (sym symbol.POINT) (sym symbol.POINT ▹ name)

unfoldable pub ix_named : Reader IxAtom
ix_named = node ix_named_of (name ⊛ maybe_field ⊛ maybe_indices)

unfoldable pub ix_number : Reader IxAtom
ix_number = node ix_number_of digits

unfoldable pub ix_atom : Reader IxAtom
ix_atom = choose (Number ∷ []) ix_number ix_named

unfoldable pub ix_product : Reader (List IxAtom)
ix_product = separated (sym symbol.STAR) ix_atom

unfoldable pub ix_term : Reader IxTerm
ix_term = node ix_term_of (sign ⊛ ix_product)

unfoldable pub ix_terms : Reader (List IxTerm)
ix_terms = each (Symbol symbol.PLUS ∷ sym symbol.MINUS) ix_term

unfoldable pub first_ix_term : Reader IxTerm
first_ix_term = node ix_term_of (whether (sym symbol.MINUS) ⊛ ix_product)

unfoldable pub ix_sum : Reader (List IxTerm)
ix_sum = made (λ terms. terms.0 ∷ terms.1) (first_ix_term ⊛ ix_terms)

unfoldable pub free_names : Reader (List Text)
free_names = maybe_some (Name ∷ []) names

unfoldable pub ix : Reader Right
ix = node ix_of ((Keyword keyword.IX ∷ sym symbol.OPEN_PAREN) ▹ free_names ⊛ sym symbol.CLOSE_PAREN ▹ ix_sum)
