-- Tokens: how a text is cut into gaps and tokens, or the first fault in it.
use Rattle.std.specs.Prelude.{◌≡◌, ℕ, zero, suc, ◌+◌, ◌-◌, ◌≤◌, ◌<◌, ◌↔◌, Bool, true, false, not, ◌&&◌, ◌||◌, ◌==◌, nat_lt, nat_eq, List, [], ◌∷◌, ◌++◌, length, take, drop, count_by, position, slice_index, slice_index_or, slice_range, Contains, ◌⊎◌, Option, Some, None, option_map, Result, Ok, Err, if◌then◌else◌, codes, bytes_eq, IsAscii}
use Rattle.std.specs.List.{prefix_len, starts_with, list_all}
use Rattle.std.specs.Char.{is_ascii_digit, is_ascii_alphabetic}
use Rattle.vocabulary.specs.Answers.{◌>>=◌}
use Rattle.vocabulary.specs.declared.limits.TheConstants.{MOST_TOKENS, MOST_NAME_BYTES, MOST_DEPTH}
use Rattle.vocabulary.specs.declared.marks.TheConstants.{SPACE, LINE_FEED, POINT}
use Rattle.sim_lexer.specs.declared.token.Token.{Token}
use Rattle.sim_lexer.specs.declared.token.TokenKind.{TokenKind}
use Rattle.sim_lexer.specs.declared.token.TokenKind.TheVariants.{Name, Number, Keyword, Symbol, End}
use Rattle.sim_lexer.specs.declared.token.LexFault.{LexFault}
use Rattle.sim_lexer.specs.declared.token.LexFault.TheVariants.{BadByte, LongName, TooMany, TooDeep}
use Rattle.sim_lexer.specs.declared.token.keyword.TheConstants.{IF, WHILE, FOR, END}
use Rattle.sim_lexer.specs.declared.token.symbol.TheConstants.{OPEN_PAREN, CLOSE_PAREN, OPEN_BRACKET, CLOSE_BRACKET, OPEN_BRACE, CLOSE_BRACE}

-- ---- spellings

-- the keywords; the number of a keyword is its index here, from 0
abbrev pub keywords : List (List ℕ)
keywords = codes "and" ∷ codes "assert" ∷ codes "by" ∷ codes "dot" ∷ codes "element" ∷ codes "else" ∷ codes "end" ∷ codes "extern" ∷ codes "for" ∷ codes "func" ∷ codes "if" ∷ codes "in" ∷ codes "int" ∷ codes "isqrt" ∷ codes "ix" ∷ codes "main" ∷ codes "map" ∷ codes "matrix" ∷ codes "max" ∷ codes "min" ∷ codes "not" ∷ codes "or" ∷ codes "proc" ∷ codes "quot" ∷ codes "reduce" ∷ codes "rescale" ∷ codes "set" ∷ codes "tangent" ∷ codes "to" ∷ codes "var" ∷ codes "vector" ∷ codes "while" ∷ []

-- the symbols, the longer ones first; the number of a symbol is its index here, from 0
abbrev pub symbols : List (List ℕ)
symbols = codes ".*" ∷ codes "->" ∷ codes "==" ∷ codes "!=" ∷ codes "<=" ∷ codes ">=" ∷ codes "(" ∷ codes ")" ∷ codes "[" ∷ codes "]" ∷ codes "{" ∷ codes "}" ∷ codes ":" ∷ codes ";" ∷ codes "," ∷ codes "." ∷ codes "*" ∷ codes "+" ∷ codes "-" ∷ codes "=" ∷ codes "<" ∷ codes ">" ∷ codes "'" ∷ []

-- the byte of a text of one byte
abbrev pub byte : List ℕ → ℕ
byte text = slice_index text 0

abbrev pub is_line_feed : ℕ → Bool
is_line_feed b = b == LINE_FEED

-- a space, a tab, a carriage return or a line feed
abbrev pub is_blank : ℕ → Bool
is_blank b = b == SPACE || b == byte (codes "\t") || b == byte (codes "\r") || is_line_feed b

abbrev pub is_percent : ℕ → Bool
is_percent b = b == byte (codes "%")

abbrev pub is_letter : ℕ → Bool
is_letter b = is_ascii_alphabetic b || b == byte (codes "_")

abbrev pub is_name_byte : ℕ → Bool
is_name_byte b = is_letter b || is_ascii_digit b

-- ---- what a text begins with

abbrev mutual
  -- with how many bytes of blanks and comments a text begins
  pub gap_len : List ℕ → ℕ
  gap_len [] = 0
  gap_len (b ∷ text) = if is_blank b then 1 + gap_len text else if is_percent b then 1 + comment_len text else 0

  -- the same inside a comment, which goes to the next line feed or the end
  pub comment_len : List ℕ → ℕ
  comment_len [] = 0
  comment_len (b ∷ text) = if is_line_feed b then 1 + gap_len text else 1 + comment_len text

abbrev pub name_len : List ℕ → ℕ
name_len text = prefix_len is_name_byte text

abbrev pub digits_len : List ℕ → ℕ
digits_len text = prefix_len is_ascii_digit text

-- digits, and where a point and a digit follow them, the point and the digits after it
abbrev pub number_len : List ℕ → ℕ
number_len text =
    let whole = digits_len text in
    let decimals = digits_len (drop (whole + 1) text) in
    if starts_with nat_eq (drop whole text) (codes ".") && nat_lt 0 decimals then whole + 1 + decimals else whole

abbrev pub kind_of_keyword : Option ℕ → TokenKind
kind_of_keyword None = Name
kind_of_keyword (Some n) = Keyword n

-- the kind of a token that is spelled as a name
abbrev pub word_kind : List ℕ → TokenKind
word_kind word = kind_of_keyword (position (λ k. bytes_eq k word) keywords)

-- the first symbol of the list with which the text begins, so the longest
abbrev pub symbol_at : List ℕ → Option ℕ
symbol_at text = position (starts_with nat_eq text) symbols

abbrev pub symbol_token_at : List ℕ → Option (TokenKind × ℕ)
symbol_token_at text = option_map (λ n. (Symbol n, length (slice_index_or symbols n []))) (symbol_at text)

-- the kind of the token with which a text begins, and its length, unless the first byte begins none
unfoldable pub token_at : List ℕ → Option (TokenKind × ℕ)
token_at [] = Some (End, 0)
token_at (b ∷ rest) =
    let text = b ∷ rest in
    if is_letter b then Some (word_kind (take (name_len text) text), name_len text)
    else if is_ascii_digit b then Some (Number, number_len text)
    else symbol_token_at text

-- ---- the whole text

-- the line of an offset: 1 and the line feeds before it
abbrev pub line_at : List ℕ → ℕ → ℕ
line_at text offset = 1 + count_by is_line_feed (take offset text)

-- the token of that kind and length at an offset of the text
abbrev pub located : List ℕ → ℕ → Option (TokenKind × ℕ) → Result Token LexFault
located text from None = Err (BadByte from)
located text from (Some token) = Ok (record { kind = token.0; from = from; to = from + token.1; line = line_at text from })

-- the next token from an offset of the text on, after the gap there
unfoldable pub token_after : List ℕ → ℕ → Result Token LexFault
token_after text offset =
    let from = offset + gap_len (drop offset text) in
    located text from (token_at (drop from text))

abbrev pub opens : TokenKind → Bool
opens (Keyword n) = n == IF || n == WHILE || n == FOR
opens (Symbol n) = n == OPEN_PAREN || n == OPEN_BRACKET || n == OPEN_BRACE
opens _ = false

abbrev pub closes : TokenKind → Bool
closes (Keyword n) = n == END
closes (Symbol n) = n == CLOSE_PAREN || n == CLOSE_BRACKET || n == CLOSE_BRACE
closes _ = false

-- how many brackets and blocks are open after a token of this kind, from those before it: never below 0
abbrev pub depth_after_kind : ℕ → TokenKind → ℕ
depth_after_kind depth kind = if opens kind then depth + 1 else if closes kind then depth - 1 else depth

abbrev pub is_name : TokenKind → Bool
is_name Name = true
is_name _ = false

abbrev pub is_end : TokenKind → Bool
is_end End = true
is_end _ = false

-- the depth after a token, or its fault: it is too long a name, or opens one bracket or block too many
unfoldable pub depth_after : ℕ → Token → Result ℕ LexFault
depth_after depth token =
    if is_name token.kind && nat_lt MOST_NAME_BYTES (token.to - token.from) then Err (LongName token.from)
    else if nat_lt MOST_DEPTH (depth_after_kind depth token.kind) then Err (TooDeep token.from)
    else Ok (depth_after_kind depth token.kind)

-- the tokens from an offset on, up to the end of the text, where the fuel is how many more there may be
unfoldable pub tokens_from : ℕ → List ℕ → ℕ → ℕ → Result (List Token) LexFault
tokens_from zero text offset depth = do
  token ← token_after text offset
  Err (TooMany token.from)
tokens_from (suc fuel) text offset depth = do
  token ← token_after text offset
  next_depth ← depth_after depth token
  if is_end token.kind then Ok (token ∷ []) else (tokens_from fuel text token.to next_depth >>= λ others. Ok (token ∷ others))

-- the tokens of a text, with its end, or the first fault in it
unfoldable pub tokens : List ℕ → Result (List Token) LexFault
tokens text = tokens_from MOST_TOKENS text 0 0

-- ---- what a reader of the tokens can rely on

-- a token lies in the text, and where it is a name its bytes are ASCII
pub record LiesIn (text : List ℕ) (token : Token) : Type 0 where
  pub order : token.from ≤ token.to
  pub within : token.to ≤ length text
  pub ascii : is_name token.kind ≡ true → IsAscii (slice_range text token.from token.to)

-- the last token is the end, and no other is
abbrev pub EndsOnce : List Token → Type 0
EndsOnce tokens = (0 < length tokens) × ((k : ℕ) (d : Token) → k < length tokens → ((slice_index_or tokens k d).kind ≡ End) ↔ (k + 1 ≡ length tokens))

-- ---- the law: a text is its tokens' bytes with gaps between, and each token is the longest

abbrev pub is_one_line : List ℕ → Bool
is_one_line bytes = list_all (λ b. not (is_line_feed b)) bytes

-- a gap: blanks, and comments from a percent sign to a line feed
pub data IsGap : List ℕ → Type 0 where
  nothing : IsGap []
  blank : (b : ℕ) (gap : List ℕ) → is_blank b ≡ true → IsGap gap → IsGap (b ∷ gap)
  comment : (words gap : List ℕ) → is_one_line words ≡ true → IsGap gap → IsGap (codes "%" ++ words ++ LINE_FEED ∷ gap)

-- the gap before the end of a text, which may have a comment without a line feed at its end
pub data IsLastGap : List ℕ → Type 0 where
  closed : (gap : List ℕ) → IsGap gap → IsLastGap gap
  left_open : (gap words : List ℕ) → IsGap gap → is_one_line words ≡ true → IsLastGap (gap ++ (codes "%" ++ words))

abbrev pub Separates : TokenKind → List ℕ → Type 0
Separates End gap = IsLastGap gap
Separates _ gap = IsGap gap

-- a letter, then name bytes
abbrev pub IsWord : List ℕ → Type 0
IsWord word = (0 < length word) × (is_letter (slice_index word 0) ≡ true) × (list_all is_name_byte word ≡ true)

abbrev pub AreDigits : List ℕ → Type 0
AreDigits digits = (0 < length digits) × (list_all is_ascii_digit digits ≡ true)

-- digits, or digits, a point and digits
abbrev pub IsNumber : List ℕ → Type 0
IsNumber bytes = AreDigits bytes ⊎ ((whole decimals : List ℕ) × AreDigits whole × AreDigits decimals × (bytes ≡ whole ++ POINT ∷ decimals))

-- the bytes that a token of a kind may have
abbrev pub Spells : TokenKind → List ℕ → Type 0
Spells Name word = IsWord word × (length word ≤ MOST_NAME_BYTES) × ¬ (Contains keywords word)
Spells Number bytes = IsNumber bytes
Spells (Keyword n) word = (n < length keywords) × (slice_index_or keywords n [] ≡ word)
Spells (Symbol n) signs = (n < length symbols) × (slice_index_or symbols n [] ≡ signs)
Spells End bytes = bytes ≡ []

abbrev pub IsSpelled : List ℕ → Token → Type 0
IsSpelled text token = Spells token.kind (slice_range text token.from token.to)

-- from an offset on, the text is these tokens in order, with gaps before them and nothing after
abbrev pub IsCut : List ℕ → ℕ → List Token → Type 0
IsCut text offset [] = offset ≡ length text
IsCut text offset (token ∷ others) = (offset ≤ token.from) × Separates token.kind (slice_range text offset token.from) × IsCut text token.to others

-- a token is the longest at its offset: no longer slice of the text from there on is spelled as a token of any kind, or is a
-- word, even one that is too long for a name
pub record IsLongest (text : List ℕ) (token : Token) : Type 0 where
  pub no_token : (to : ℕ) (kind : TokenKind) → token.to < to → to ≤ length text → ¬ Spells kind (slice_range text token.from to)
  pub no_word : (to : ℕ) → token.to < to → to ≤ length text → ¬ IsWord (slice_range text token.from to)
