-- Words: the tokens of a text with their texts in place of their offsets, which is what a grammar speaks of.
use Rattle.std.specs.Prelude.{ℕ, List, map, slice_range}
use Rattle.sim_lexer.specs.declared.token.Token.{Token}
use Rattle.sim_lexer.specs.declared.token.TokenKind.{TokenKind}

pub record Word : Type 0 where
  pub kind : TokenKind
  pub text : List ℕ
  pub line : ℕ

abbrev pub word_of : List ℕ → Token → Word
word_of source token = record { kind = token.kind; text = slice_range source token.from token.to; line = token.line }

-- the words of a text's tokens
abbrev pub words_of : List ℕ → List Token → List Word
words_of source tokens = map (word_of source) tokens
