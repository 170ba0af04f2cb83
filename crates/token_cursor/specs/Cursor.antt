-- What contracts see of a cursor, and what it keeps.
use Rattle.std.specs.Prelude.{List, ℕ, All}
use Rattle.sim_lexer.specs.Tokens.{LiesIn, IsSpelled}
use Rattle.sim_lexer.specs.declared.token.Token.{Token}

-- the tokens lie in the text, spelled as their kinds say
pub record AreOf (source : List ℕ) (tokens : List Token) : Type 0 where
  pub lie : All (LiesIn source) tokens
  pub spell : All (IsSpelled source) tokens
