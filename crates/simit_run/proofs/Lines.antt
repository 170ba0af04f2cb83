-- The line of a token, among words.
use Rattle.std.proofs.Common.{◌≡◌, ℕ, zero, suc, List, [], ◌∷◌, drop, refl, sym, ap, ◌∙◌}
use Rattle.std.specs.Prelude.{Option, Some, None, slice_get}
use Rattle.sim_lexer.specs.Words.{words_of}
use Rattle.sim_lexer.specs.declared.token.Token.{Token}
use Rattle.sim_grammar.specs.Rule.{line_of}

abbrev line_or_none : Option Token → ℕ
line_or_none None = 0
line_or_none (Some token) = token.line

line_of_drop : (source : List ℕ) (tokens : List Token) (n : ℕ) → line_of (drop n (words_of source tokens)) ≡ line_or_none (slice_get tokens n)
line_of_drop source [] zero = refl
line_of_drop source [] (suc n) = refl
line_of_drop source (token ∷ tokens) zero = refl
line_of_drop source (token ∷ tokens) (suc n) = line_of_drop source tokens n

-- the line of the word of an index is that of the token there
pub line_of_token : (source : List ℕ) (tokens : List Token) (n : ℕ) (token : Token) → slice_get tokens n ≡ Some token
    → token.line ≡ line_of (drop n (words_of source tokens))
line_of_token source tokens n token is = sym (line_of_drop source tokens n ∙ ap line_or_none is)
