-- How rules of a grammar are made. A rule says which words state which value, and which words are cuts: what may stand of it before
-- the text breaks off. Both are relations, apart from any way of reading words.
use Rattle.std.specs.Prelude.{◌≡◌, ℕ, Bool, true, false, List, [], ◌∷◌, ◌++◌, map, Option, Some, None, ◌⊎◌}
use Rattle.sim_lexer.specs.Words.{Word}
use Rattle.sim_lexer.specs.declared.token.TokenKind.{TokenKind}
use Rattle.sim_lexer.specs.declared.token.TokenKind.TheVariants.{Keyword, Symbol}

pub record Rule (A : Type 0) : Type 1 where
  -- the words state the value
  pub states : A → List Word → Type 0
  -- the words are none, or words of the first parts of the rule, and a cut of its next part
  pub cuts : List Word → Type 0

-- ---- single words

-- a symbol, a keyword
abbrev pub sym : ℕ → List TokenKind
sym n = Symbol n ∷ []

abbrev pub key : ℕ → List TokenKind
key n = Keyword n ∷ []

abbrev pub kinds_of : List Word → List TokenKind
kinds_of words = map (λ word. word.kind) words

-- words of these kinds
abbrev pub Are : List TokenKind → List Word → Type 0
Are kinds words = kinds_of words ≡ kinds

-- words of the first of these kinds, from none to all
pub record Begin (kinds : List TokenKind) (words : List Word) : Type 0 where
  pub missing : List TokenKind
  pub parts : kinds ≡ kinds_of words ++ missing

-- one word of a kind, which states its text; as a cut, any text will do
abbrev pub Spelt : TokenKind → Rule (List ℕ)
Spelt kind = record {
  states = λ text words. (line : ℕ) × (words ≡ record { kind = kind; text = text; line = line } ∷ []);
  cuts = Begin (kind ∷ []);
}

-- the line of the first word
abbrev pub line_of : List Word → ℕ
line_of [] = 0
line_of (word ∷ words) = word.line

-- ---- one after the other

-- words that are split into a front and a back
pub record Joined (Front Back : List Word → Type 0) (words : List Word) : Type 0 where
  pub front : List Word
  pub back : List Word
  pub parts : words ≡ front ++ back
  pub first : Front front
  pub second : Back back

-- words of one rule, and after them words of another: two values
infixr 22 ◌⊗◌
abbrev pub ◌⊗◌ : {A B : Type 0} → Rule A → Rule B → Rule (A × B)
◌⊗◌ {A} First Second = record {
  states = λ values. Joined (First.states values.0) (Second.states values.1);
  cuts = λ words. First.cuts words ⊎ ((value : A) × Joined (First.states value) Second.cuts words);
}

-- fixed words, and after them words of a rule
infixr 22 ◌▸◌
abbrev pub ◌▸◌ : {A : Type 0} → List TokenKind → Rule A → Rule A
kinds ▸ Part = record {
  states = λ value. Joined (Are kinds) (Part.states value);
  cuts = λ words. Begin kinds words ⊎ Joined (Are kinds) Part.cuts words;
}

-- words of a rule, and after them fixed words
infixl 20 ◌◂◌
abbrev pub ◌◂◌ : {A : Type 0} → Rule A → List TokenKind → Rule A
◌◂◌ {A} Part kinds = record {
  states = λ value. Joined (Part.states value) (Are kinds);
  cuts = λ words. Part.cuts words ⊎ ((value : A) × Joined (Part.states value) (Begin kinds) words);
}

-- one after the other, words for each value of a list
abbrev pub StateEach : {A : Type 0} → (A → List Word → Type 0) → List A → List Word → Type 0
StateEach States [] words = words ≡ []
StateEach States (x ∷ xs) words = Joined (States x) (StateEach States xs) words

-- { part }
abbrev pub Each : {A : Type 0} → Rule A → Rule (List A)
Each {A} Part = record {
  states = StateEach Part.states;
  cuts = λ words. (values : List A) × Joined (StateEach Part.states values) Part.cuts words;
}

-- ---- alternatives

infixr 18 ◌∣◌
abbrev pub ◌∣◌ : {A : Type 0} → Rule A → Rule A → Rule A
First ∣ Second = record {
  states = λ value words. First.states value words ⊎ Second.states value words;
  cuts = λ words. First.cuts words ⊎ Second.cuts words;
}

-- fixed words, and the value that they state
abbrev pub Fixed : {A : Type 0} → List TokenKind → A → Rule A
Fixed kinds stated = record {
  states = λ value words. Are kinds words × (value ≡ stated);
  cuts = Begin kinds;
}

-- ---- values

-- what is made of the value that the words state by another rule
abbrev pub Made : {A B : Type 0} → (A → B) → Rule A → Rule B
Made {A} make Part = record {
  states = λ made words. (value : A) × (made ≡ make value) × Part.states value words;
  cuts = Part.cuts;
}

-- a rule that knows the line of the first word
abbrev pub At : {A : Type 0} → (ℕ → Rule A) → Rule A
At Part = record {
  states = λ value words. (Part (line_of words)).states value words;
  cuts = λ words. (Part (line_of words)).cuts words;
}

-- a node: what is made of the line of the first word and of such a value
abbrev pub Node : {A B : Type 0} → (ℕ → A → B) → Rule A → Rule B
Node make Part = At (λ line. Made (make line) Part)

-- what no words state
abbrev pub Never : {A : Type 0} → Rule A
Never = record {
  states = λ value words. ⊥;
  cuts = λ words. words ≡ [];
}

-- ---- lists

-- part { separator part }
abbrev pub Separated : {A : Type 0} → List TokenKind → Rule A → Rule (List A)
Separated separator Part = Made (λ values. values.0 ∷ values.1) (Part ⊗ Each (separator ▸ Part))

-- part [ separator part ]
abbrev pub OneOrTwo : {A : Type 0} → List TokenKind → Rule A → Rule (List A)
OneOrTwo separator Part = Made (λ values. values.0 ∷ values.1) (Part ⊗ (Made (λ value. value ∷ []) (separator ▸ Part) ∣ Fixed [] []))

-- [ part ]
abbrev pub Maybe : {A : Type 0} → Rule A → Rule (Option A)
Maybe Part = Made (λ value. Some value) Part ∣ Fixed [] None

-- [ part ], where an absent one and an empty one are one list
abbrev pub MaybeSome : {A : Type 0} → Rule (List A) → Rule (List A)
MaybeSome Part = Part ∣ Fixed [] []

-- whether there are fixed words
abbrev pub Whether : List TokenKind → Rule Bool
Whether kinds = Fixed kinds true ∣ Fixed [] false
