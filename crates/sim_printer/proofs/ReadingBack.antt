-- What is printed of a program reads back.
use Rattle.std.proofs.Common.{◌≡◌, ℕ, ◌+◌, List, [], ◌∷◌, ◌++◌, length, map, Ok, refl, sym, subst, ap, ◌∙◌, arith}
use Rattle.std.specs.Prelude.{All}
use Rattle.std.proofs.lemmas.List.{length-append, length-map}
use Rattle.std.proofs.lemmas.List.Elements.{All-cons, All-nil, All-head, All-tail}
use Rattle.sim_lexer.specs.Tokens.{Spells, IsSpelled, depth_after_kind, tokens}
use Rattle.sim_lexer.specs.Words.{Word, word_of, words_of}
use Rattle.sim_lexer.specs.Joined.{StaysWithin, AreJoinable, end_word, JoinedReadsBack, TokensAreFew, TokensAreSpelled, TokensStayWithin}
use Rattle.sim_lexer.specs.declared.token.Token.{Token}
use Rattle.sim_lexer.specs.declared.token.TokenKind.TheVariants.{End}
use Rattle.sim_grammar.specs.Rule.{Are}
use Rattle.sim_printer.specs.Printed.{printed}
use Rattle.sim_printer.specs.ReadsBack.{ReadBack}
use Rattle.sim_printer.proofs.Lightness.{IsLight, AreSpelled, ArePlain, Within, spelled_first, within_first}
use Rattle.sim_printer.proofs.KeptDeclarations.{program_kept}

-- ---- words as lists

words_spelled : (source : List ℕ) (all : List Token) → All (IsSpelled source) all → AreSpelled (words_of source all)
words_spelled source [] h = tt
words_spelled source (token ∷ all) h = (All-head (IsSpelled source) token all h, words_spelled source all (All-tail (IsSpelled source) token all h))

words_within : (source : List ℕ) (all : List Token) (d : ℕ) → StaysWithin d (map (λ token. token.kind) all) → Within d (words_of source all)
words_within source [] d h = tt
words_within source (token ∷ all) d h = (h.0, words_within source all (depth_after_kind d token.kind) h.1)

all_spelled : (ws : List Word) → AreSpelled ws → All (λ word. Spells word.kind word.text) ws
all_spelled [] h = All-nil (λ (w : Word). Spells w.kind w.text)
all_spelled (w ∷ ws) h = All-cons (λ (w : Word). Spells w.kind w.text) w ws h.0 (all_spelled ws h.1)

no_end : (ws : List Word) → ArePlain ws → All (λ word. ¬ (word.kind ≡ End)) ws
no_end [] h = All-nil (λ (w : Word). ¬ (w.kind ≡ End))
no_end (w ∷ ws) h = All-cons (λ (w : Word). ¬ (w.kind ≡ End)) w ws h.1 (no_end ws h.2)

first_line : (ws : List Word) → ArePlain ws → All (λ word. word.line ≡ 1) ws
first_line [] h = All-nil (λ (w : Word). w.line ≡ 1)
first_line (w ∷ ws) h = All-cons (λ (w : Word). w.line ≡ 1) w ws h.0 (first_line ws h.2)

-- ---- programs

module _ (joins : JoinedReadsBack) (few : TokensAreFew) (spelled : TokensAreSpelled) (within : TokensStayWithin) where
  module _ (source : List ℕ) (all : List Token) (are : tokens source ≡ Ok all) (p front back : List Word) (parts : words_of source all ≡ front ++ back) (ends : Are (End ∷ []) back) (light : IsLight p front) where
    joinable : AreJoinable p
    joinable = record {
      few =
          let f = light.few in
          let one : length back ≡ 1 = sym (length-map back (λ (w : Word). w.kind)) ∙ ap length ends in
          let whole : length all ≡ length front + length back = sym (length-map all (word_of source)) ∙ ap length parts ∙ length-append front back in
          let most = few source all are in
          omega arith;
      spelled = all_spelled p (light.spelled (spelled_first front back (subst AreSpelled parts (words_spelled source all (spelled source all are)))));
      no_end = no_end p light.plain;
      first_line = first_line p light.plain;
      within = light.within 0 (within_first 0 front back (subst (Within 0) parts (words_within source all 0 (within source all are))));
    }

  pub reads_back : ReadBack
  reads_back program source all are (depth, j) =
      let kept = program_kept depth in
      let light = kept.light program j.front j.first in
      let back = joins (printed program) (joinable source all are (printed program) j.front j.back j.parts j.second light) in
      (back.0, back.1, (depth, record { front = printed program; back = end_word ∷ []; parts = back.2; first = kept.states program j.front j.first; second = refl }))
