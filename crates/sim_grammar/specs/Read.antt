-- How a value is read off the front of words: the value and the words after it, or where no value can be read, the words from
-- the one on that can't go on.
use Rattle.std.specs.Prelude.{ℕ, zero, suc, ◌==◌, Bool, true, false, List, [], ◌∷◌, ◌++◌, length, Option, Some, None, Result, Ok, Err, if◌then◌else◌}
use Rattle.std.specs.List.{list_any}
use Rattle.vocabulary.specs.Answers.{◌>>=◌}
use Rattle.sim_lexer.specs.Words.{Word}
use Rattle.sim_lexer.specs.declared.token.TokenKind.{TokenKind}
use Rattle.sim_lexer.specs.declared.token.TokenKind.TheVariants.{Name, Number, Keyword, Symbol, End}
use Rattle.sim_grammar.specs.Rule.{line_of}

-- what is read: a value and the words after it, or the words from the first on that can't go on
abbrev pub Read : Type 0 → Type 0
Read A = Result (A × List Word) (List Word)

abbrev pub Reader : Type 0 → Type 0
Reader A = List Word → Read A

-- ---- single words

abbrev pub is_kind : TokenKind → TokenKind → Bool
is_kind (Keyword m) (Keyword n) = m == n
is_kind (Symbol m) (Symbol n) = m == n
is_kind Name Name = true
is_kind Number Number = true
is_kind End End = true
is_kind a b = false

-- whether a kind is one of these
abbrev pub among : List TokenKind → TokenKind → Bool
among kinds kind = list_any (is_kind kind) kinds

-- whether the first word is of one of these kinds
abbrev pub starts : List TokenKind → List Word → Bool
starts kinds [] = false
starts kinds (w ∷ ws) = among kinds w.kind

-- the words after a word of a kind
unfoldable pub skip_one : TokenKind → List Word → Result (List Word) (List Word)
skip_one kind [] = Err []
skip_one kind (w ∷ ws) = if is_kind w.kind kind then Ok ws else Err (w ∷ ws)

-- the words after words of these kinds
unfoldable pub skip : List TokenKind → List Word → Result (List Word) (List Word)
skip [] ws = Ok ws
skip (kind ∷ kinds) ws = skip_one kind ws >>= skip kinds

-- the text of a first word of a kind
unfoldable pub spelt : TokenKind → Reader (List ℕ)
spelt kind [] = Err []
spelt kind (w ∷ ws) = if is_kind w.kind kind then Ok (w.text, ws) else Err (w ∷ ws)

-- ---- one after the other

-- two values
infixr 22 ◌⊛◌
abbrev pub ◌⊛◌ : {A B : Type 0} → Reader A → Reader B → Reader (A × B)
(first ⊛ second) ws = first ws >>= λ a. second a.1 >>= λ b. Ok ((a.0, b.0), b.1)

-- fixed words, and a value after them
infixr 22 ◌▹◌
abbrev pub ◌▹◌ : {A : Type 0} → List TokenKind → Reader A → Reader A
(kinds ▹ part) ws = skip kinds ws >>= part

-- a value, and fixed words after it
infixl 20 ◌◃◌
abbrev pub ◌◃◌ : {A : Type 0} → Reader A → List TokenKind → Reader A
(part ◃ kinds) ws = part ws >>= λ a. skip kinds a.1 >>= λ rest. Ok (a.0, rest)

-- values after those read so far, at most as many as the fuel: another as long as a word of these kinds stands there
unfoldable pub repeat : {A : Type 0} → ℕ → List TokenKind → Reader A → List A → Reader (List A)
repeat zero kinds part values ws = Ok (values, ws)
repeat (suc fuel) kinds part values ws =
    if starts kinds ws then (part ws >>= λ a. repeat fuel kinds part (values ++ a.0 ∷ []) a.1) else Ok (values, ws)

-- values as long as a word of these kinds stands there; each takes a word or more, so they are no more than the words
unfoldable pub each : {A : Type 0} → List TokenKind → Reader A → Reader (List A)
each kinds part ws = repeat (length ws) kinds part [] ws

-- ---- alternatives

-- the first where a word of these kinds stands there, and else the second
abbrev pub choose : {A : Type 0} → List TokenKind → Reader A → Reader A → Reader A
choose kinds first second ws = if starts kinds ws then first ws else second ws

-- fixed words, and the value that they state
abbrev pub fixed : {A : Type 0} → List TokenKind → A → Reader A
fixed kinds stated ws = skip kinds ws >>= λ rest. Ok (stated, rest)

-- ---- values

-- what is made of what is read
abbrev pub made : {A B : Type 0} → (A → B) → Reader A → Reader B
made make part ws = part ws >>= λ a. Ok (make a.0, a.1)

-- what is read by a reader that knows the line of the first word
abbrev pub at : {A : Type 0} → (ℕ → Reader A) → Reader A
at part ws = part (line_of ws) ws

-- a node: what is made of the line of the first word and of what is read
abbrev pub node : {A B : Type 0} → (ℕ → A → B) → Reader A → Reader B
node make part = at (λ line. made (make line) part)

-- ---- lists

-- a first value, and those that stand after separators
unfoldable pub separated : {A : Type 0} → List TokenKind → Reader A → Reader (List A)
separated separator part = made (λ values. values.0 ∷ values.1) (part ⊛ each separator (separator ▹ part))

-- maybe a value after a separator
unfoldable pub maybe_second : {A : Type 0} → List TokenKind → Reader A → Reader (List A)
maybe_second separator part = choose separator (made (λ value. value ∷ []) (separator ▹ part)) (fixed [] [])

-- a first value, and maybe a second after a separator
unfoldable pub one_or_two : {A : Type 0} → List TokenKind → Reader A → Reader (List A)
one_or_two separator part = made (λ values. values.0 ∷ values.1) (part ⊛ maybe_second separator part)

-- a value, where a word of these kinds stands there
abbrev pub maybe : {A : Type 0} → List TokenKind → Reader A → Reader (Option A)
maybe kinds part = choose kinds (made (λ value. Some value) part) (fixed [] None)

-- a list, where a word of these kinds stands there
abbrev pub maybe_some : {A : Type 0} → List TokenKind → Reader (List A) → Reader (List A)
maybe_some kinds part = choose kinds part (fixed [] [])

-- whether words of these kinds stand there
abbrev pub whether : List TokenKind → Reader Bool
whether kinds = choose kinds (fixed kinds true) (fixed [] false)
