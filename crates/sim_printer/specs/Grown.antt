-- Grown: a text to which words are appended, each followed by a blank.
use Rattle.std.specs.Prelude.{◌≡◌, ℕ, Bool, true, false, List, [], ◌++◌}
use Rattle.sim_lexer.specs.Joined.{joined}
use Rattle.sim_lexer.specs.Words.{Word}
use Rattle.sim_lexer.specs.declared.token.TokenKind.{TokenKind}
use Rattle.sim_lexer.specs.declared.token.symbol.TheConstants as symbol
use Rattle.sim_grammar.specs.Rule.{sym}
use Rattle.sim_printer.specs.Printed.{fixed, whether, sign, operator}

pub record Grown (old new : List ℕ) (words : List Word) : Type 0 where
  pub is : new ≡ old ++ joined words

-- what stands before a part of a list, a factor and a term: before the first one there is no separator, no operator and no plus
abbrev pub before_part_words : Bool → List TokenKind → List Word
before_part_words true separator = []
before_part_words false separator = fixed separator

abbrev pub before_factor_words : Bool → Bool → List Word
before_factor_words true entrywise = []
before_factor_words false entrywise = operator entrywise

abbrev pub before_term_words : Bool → Bool → List Word
before_term_words true minus = whether (sym symbol.MINUS) minus
before_term_words false minus = sign minus
