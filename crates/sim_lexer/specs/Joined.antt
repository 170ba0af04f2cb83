-- Joined: words as a text on one line, and which words can stand there.
use Rattle.std.specs.Prelude.{◌≡◌, ⊤, ℕ, ◌≤◌, ◌<◌, List, [], ◌∷◌, ◌++◌, length, map, All, Ok}
use Rattle.std.specs.List.{flat_map}
use Rattle.vocabulary.specs.declared.limits.TheConstants.{MOST_TOKENS, MOST_DEPTH}
use Rattle.vocabulary.specs.declared.marks.TheConstants.{SPACE}
use Rattle.sim_lexer.specs.declared.token.Token.{Token}
use Rattle.sim_lexer.specs.declared.token.TokenKind.{TokenKind}
use Rattle.sim_lexer.specs.declared.token.TokenKind.TheVariants.{End}
use Rattle.sim_lexer.specs.Tokens.{Spells, IsSpelled, depth_after_kind, tokens}
use Rattle.sim_lexer.specs.Words.{Word, words_of}

-- words as a text on one line: each followed by a blank
abbrev pub joined : List Word → List ℕ
joined words = flat_map (λ word. word.text ++ SPACE ∷ []) words

-- from a depth on, words of these kinds never open one bracket or block more than may be open
abbrev pub StaysWithin : ℕ → List TokenKind → Type 0
StaysWithin depth [] = ⊤
StaysWithin depth (kind ∷ kinds) = (depth_after_kind depth kind ≤ MOST_DEPTH) × StaysWithin (depth_after_kind depth kind) kinds

-- words that can stand on one line as the tokens of one text
pub record AreJoinable (words : List Word) : Type 0 where
  pub few : length words < MOST_TOKENS
  pub spelled : All (λ word. Spells word.kind word.text) words
  pub no_end : All (λ word. ¬ (word.kind ≡ End)) words
  pub first_line : All (λ word. word.line ≡ 1) words
  pub within : StaysWithin 0 (map (λ word. word.kind) words)

-- the end of a text on one line
abbrev pub end_word : Word
end_word = record { kind = End; text = []; line = 1 }

-- ---- the laws

-- words that are joined read back as the same words and the end of the text
abbrev pub JoinedReadsBack : Type 0
JoinedReadsBack = (words : List Word) → AreJoinable words → (again : List Token) × (tokens (joined words) ≡ Ok again) × (words_of (joined words) again ≡ words ++ end_word ∷ [])

-- the tokens of a text never open one bracket or block more than may be open
abbrev pub TokensStayWithin : Type 0
TokensStayWithin = (source : List ℕ) (all : List Token) → tokens source ≡ Ok all → StaysWithin 0 (map (λ token. token.kind) all)

-- they are no more than a text may have
abbrev pub TokensAreFew : Type 0
TokensAreFew = (source : List ℕ) (all : List Token) → tokens source ≡ Ok all → length all ≤ MOST_TOKENS

-- each is spelled as its kind asks
abbrev pub TokensAreSpelled : Type 0
TokensAreSpelled = (source : List ℕ) (all : List Token) → tokens source ≡ Ok all → All (IsSpelled source) all
