-- Words as cuts see them: beginnings of words in two parts, and samples of words that complete a cut.
use Rattle.std.proofs.Common.{◌≡◌, ℕ, ltb, Bool, true, List, [], ◌∷◌, ◌++◌, map, length, refl, sym, subst, ap, ◌∙◌, inl, inr}
use Rattle.std.specs.Prelude.{◌⊎◌, codes, slice_index_or}
use Rattle.std.specs.List.{list_all}
use Rattle.std.proofs.lemmas.Bool.{and_parts}
use Rattle.std.proofs.lemmas.List.{map-append}
use Rattle.std.proofs.lemmas.List.Folds.{list_all-append}
use Rattle.sim_lexer.specs.Tokens.{keywords, symbols}
use Rattle.sim_lexer.specs.Words.{Word}
use Rattle.sim_lexer.specs.declared.token.TokenKind.{TokenKind}
use Rattle.sim_lexer.specs.declared.token.TokenKind.TheVariants.{Name, Number, Keyword, Symbol, End}
use Rattle.sim_grammar.specs.Rule.{Are, Begin, kinds_of, line_of, Joined}

-- ---- beginnings

-- a beginning of two lists in a row ends within the first, or within the second
abbrev Overlap : List Word → List Word → List Word → List Word → Type 0
Overlap front rest first second =
    ((more : List Word) × (first ≡ front ++ more)) ⊎ ((more : List Word) × (front ≡ first ++ more) × (second ≡ more ++ rest))

overlap : (front rest first second : List Word) → front ++ rest ≡ first ++ second → Overlap front rest first second
overlap [] rest first second same = inl (first, refl)
overlap (w ∷ front) rest [] second same = inr (w ∷ front, refl, sym same)
overlap (w ∷ front) rest (v ∷ first) second same =
    let one : w ≡ v = cc in
    let others : front ++ rest ≡ first ++ second = cc in
    elim (overlap front rest first second others) [
      | inl within ↦ inl (within.0, (let parts = within.1 in cc))
      | inr after ↦ inr (after.0, (let parts = after.1 in cc), after.2)
    ]

-- a beginning of words in two parts is one of the first part, or the first part and a beginning of the second
pub joined-begun : {First Second CutFirst CutSecond : List Word → Type 0} → ((front rest : List Word) → First (front ++ rest) → CutFirst front)
    → ((front rest : List Word) → Second (front ++ rest) → CutSecond front) → (front rest : List Word) → Joined First Second (front ++ rest) → CutFirst front ⊎ Joined First CutSecond front
joined-begun {First} {Second} {CutFirst} {CutSecond} one two front rest is = by (overlap front rest is.front is.back is.parts)
  where
    by : Overlap front rest is.front is.back → CutFirst front ⊎ Joined First CutSecond front
    by (inl within) = inl (one front within.0 (subst First within.1 is.first))
    by (inr after) = inr (record { front = is.front; back = after.0; parts = after.1; first = is.first; second = two after.0 rest (subst Second after.2 is.second) })

-- a beginning of fixed words
pub are-begun : (kinds : List TokenKind) (front rest : List Word) → Are kinds (front ++ rest) → Begin kinds front
are-begun kinds front rest is = record { missing = kinds_of rest; parts = sym is ∙ map-append (λ (word : Word). word.kind) front rest }

-- ---- samples of words

-- a text that a word of a kind may have
abbrev pub sample_text : TokenKind → List ℕ
sample_text Name = codes "x"
sample_text Number = codes "0"
sample_text (Keyword n) = slice_index_or keywords n []
sample_text (Symbol n) = slice_index_or symbols n []
sample_text End = []

-- whether there is one: the number of a keyword or symbol stands for one
abbrev pub has_sample : TokenKind → Bool
has_sample (Keyword n) = ltb n (length keywords)
has_sample (Symbol n) = ltb n (length symbols)
has_sample _ = true

abbrev pub sample_word : TokenKind → Word
sample_word kind = record { kind = kind; text = sample_text kind; line = 0 }

abbrev pub sample_words : List TokenKind → List Word
sample_words kinds = map sample_word kinds

abbrev pub have_samples : List TokenKind → Bool
have_samples kinds = list_all has_sample kinds

pub kinds-samples : (kinds : List TokenKind) → kinds_of (sample_words kinds) ≡ kinds
kinds-samples [] = refl
kinds-samples (kind ∷ kinds) = ap (λ others. kind ∷ others) (kinds-samples kinds)

-- samples stand on no line, so words have the line that they have without them
pub line-samples : (words : List Word) (kinds : List TokenKind) → line_of (words ++ sample_words kinds) ≡ line_of words
line-samples [] [] = refl
line-samples [] (kind ∷ kinds) = refl
line-samples (w ∷ words) kinds = refl

pub samples-append : (kinds others : List TokenKind) → have_samples kinds ≡ true → have_samples others ≡ true → have_samples (kinds ++ others) ≡ true
samples-append kinds others one two = list_all-append has_sample kinds others ∙ rw (one, two) refl

-- what is missing of fixed words completes them
pub begin-completed : (kinds : List TokenKind) (cut : List Word) (is : Begin kinds cut) → Are kinds (cut ++ sample_words is.missing)
begin-completed kinds cut is = map-append (λ (word : Word). word.kind) cut (sample_words is.missing) ∙ ap (λ others. kinds_of cut ++ others) (kinds-samples is.missing) ∙ sym is.parts

pub missing-samples : (kinds : List TokenKind) (cut : List Word) (is : Begin kinds cut) → have_samples kinds ≡ true → have_samples is.missing ≡ true
missing-samples kinds cut is all = (and_parts (have_samples (kinds_of cut)) (have_samples is.missing) (sym (list_all-append has_sample (kinds_of cut) is.missing) ∙ ap have_samples (sym is.parts) ∙ all)).1
