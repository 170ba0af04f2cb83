-- What `parse` answers, by the law of reading.
use Rattle.std.proofs.Common.{◌≡◌, ℕ, suc, List, [], ◌∷◌, refl, ap, ◌∙◌, arith, inl, inr}
use Rattle.std.proofs.lemmas.List.Elements.{All-cons, All-nil}
use Rattle.std.specs.Prelude.{◌↔◌, Result, Ok, Err, IfOk}
use Rattle.std.specs.Result.{result_map_both}
use Rattle.vocabulary.specs.Answers.{Answers}
use Rattle.sim_lexer.specs.Tokens.{EndsOnce}
use Rattle.sim_lexer.specs.Words.{Word, word_of, words_of}
use Rattle.sim_lexer.specs.declared.token.Token.{Token}
use Rattle.sim_lexer.specs.declared.token.TokenKind.TheVariants.{End}
use Rattle.sim_syntax.specs.declared.program.Program.{Program}
use Rattle.sim_grammar.specs.Grammar.{Derives, IsPlace}
use Rattle.sim_grammar.specs.ReadProgram.{program_in}
use Rattle.sim_grammar.specs.Laws.{HasOneEnd}
use Rattle.sim_parser.specs.declared.parser.ParseFault.{ParseFault}
use Rattle.sim_parser.specs.declared.parser.ParseFault.TheVariants.{Syntax, Memory}

abbrev known : Result Program ℕ → Result Program ParseFault
known r = result_map_both (λ p. p) Syntax r

-- ---- what is answered, where words are read as they are derived

module _ (words : List Word) (reads : (p : Program) → (program_in words ≡ Ok p) ↔ Derives p words) where
  pub answer-derived : (r : Result Program ParseFault) → Answers Memory (known (program_in words)) r → IfOk r (λ p. Derives p words)
  answer-derived (Err fault) answers = tt
  answer-derived (Ok p) answers = by (program_in words) refl answers
    where
      by : (r : Result Program ℕ) → program_in words ≡ r → known r ≡ Ok p → Derives p words
      by (Ok q) is same = let one : q ≡ p = cc in (reads p).0 (is ∙ ap Ok one)
      by (Err n) is same = absurd (cc)

  pub derived-answer : (r : Result Program ParseFault) → Answers Memory (known (program_in words)) r → (p : Program) → Derives p words → Answers Memory (Ok p) r
  derived-answer r answers p is = let read = (reads p).1 is in rw read at answers

  pub answer-refused : (r : Result Program ParseFault) → Answers Memory (known (program_in words)) r → (n : ℕ) → r ≡ Err (Syntax n) → (p : Program) → Derives p words → ⊥
  answer-refused (Ok q) answers n is p derived = cc
  answer-refused (Err Memory) answers n is p derived = cc
  answer-refused (Err (Syntax m)) answers n is p derived = let read = (reads p).1 derived in elim answers [
    | inl never ↦ cc
    | inr same ↦ (let other = rw read at same in cc)
  ]

pub answer-place : (words : List Word) → ((n : ℕ) → program_in words ≡ Err n → IsPlace words n)
    → (r : Result Program ParseFault) → Answers Memory (known (program_in words)) r → (n : ℕ) → r ≡ Err (Syntax n) → IsPlace words n
answer-place words place (Ok p) answers n is = absurd (cc)
answer-place words place (Err Memory) answers n is = absurd (cc)
answer-place words place (Err (Syntax m)) answers n is = elim answers [
  | inl never ↦ absurd (cc)
  | inr same ↦ by (program_in words) refl same
]
  where
    by : (r : Result Program ℕ) → program_in words ≡ r → known r ≡ Err (Syntax m) → IsPlace words n
    by (Ok q) read same = absurd (cc)
    by (Err k) read same = let one : k ≡ n = cc in place n (read ∙ ap Err one)

-- ---- the words of tokens that end once

ends_later : (token next : Token) (tokens : List Token) → EndsOnce (token ∷ next ∷ tokens) → EndsOnce (next ∷ tokens)
ends_later token next tokens ends = (
  omega arith,
  λ k d within.
      let one = ends.1 (suc k) d (omega arith) in
      ((λ is. let at = one.0 is in omega arith), (λ at. one.1 (omega arith))),
)

no_end_here : (token next : Token) (tokens : List Token) → EndsOnce (token ∷ next ∷ tokens) → token.kind ≡ End → ⊥
no_end_here token next tokens ends is = let at = (ends.1 0 token (omega arith)).0 is in omega arith

pub has_one_end : (source : List ℕ) (tokens : List Token) → EndsOnce tokens → HasOneEnd (words_of source tokens)
has_one_end source [] ends = absurd (omega (arith, ends.0))
has_one_end source (token ∷ []) ends = record {
  front = [];
  last = word_of source token;
  parts = refl;
  is_end = (ends.1 0 token (omega arith)).1 refl;
  no_end = All-nil (λ (word : Word). ¬ (word.kind ≡ End));
}
has_one_end source (token ∷ next ∷ tokens) ends =
    let others = has_one_end source (next ∷ tokens) (ends_later token next tokens ends) in
    record {
      front = word_of source token ∷ others.front;
      last = others.last;
      parts = ap (λ ws. word_of source token ∷ ws) others.parts;
      is_end = others.is_end;
      no_end = All-cons (λ (word : Word). ¬ (word.kind ≡ End)) (word_of source token) others.front (no_end_here token next tokens ends) others.no_end;
    }
