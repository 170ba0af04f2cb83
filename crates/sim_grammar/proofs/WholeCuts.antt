-- The cuts of a program are exactly the beginnings of programs.
use Rattle.std.proofs.Common.{◌≡◌, suc, ◌+◌, ltb, true, List, [], ◌∷◌, length, take, refl, arith, inl}
use Rattle.std.specs.Prelude.{All, Contains, codes}
use Rattle.std.proofs.lemmas.Bool.{and_parts}
use Rattle.std.proofs.lemmas.Bool.Decides.{Decides-ltb}
use Rattle.std.proofs.lemmas.List.Elements.{All-cons, All-nil}
use Rattle.std.proofs.lemmas.List.Sums.{AllPass-from_list_all}
use Rattle.sim_lexer.specs.Tokens.{Spells, keywords, symbols}
use Rattle.sim_lexer.specs.Words.{Word}
use Rattle.sim_lexer.specs.declared.token.TokenKind.{TokenKind}
use Rattle.sim_lexer.specs.declared.token.TokenKind.TheVariants.{Name, Number, Keyword, Symbol, End}
use Rattle.sim_grammar.specs.Grammar.{IsCut}
use Rattle.sim_grammar.specs.CutLaws.{BeginsProgram, BeginningsAreCuts, CutsAreCompleted, PlacesEndBeginnings}
use Rattle.sim_grammar.proofs.CutWords.{sample_text, has_sample, sample_words, have_samples}
use Rattle.sim_grammar.proofs.CutDeclarations.{program_text-cuts}

pub begun : BeginningsAreCuts
begun words (program, rest, derived) = (derived.0, (program_text-cuts derived.0).begun program words rest derived.1)

-- ---- samples are spelled as their kinds ask

-- each keyword has more than one letter
no_keyword : Contains keywords (codes "x") → ⊥
no_keyword found = let long = AllPass-from_list_all (λ text. ltb 1 (length text)) keywords refl found.0 (codes "x") found.1 in let text = found.2 in cc

sample-spelled : (kind : TokenKind) → has_sample kind ≡ true → Spells kind (sample_text kind)
sample-spelled Name is = ((omega arith, refl, refl), omega arith, no_keyword)
sample-spelled Number is = inl (omega arith, refl)
sample-spelled (Keyword n) is = ((Decides-ltb n (length keywords)).0 is, refl)
sample-spelled (Symbol n) is = ((Decides-ltb n (length symbols)).0 is, refl)
sample-spelled End is = refl

samples-spelled : (kinds : List TokenKind) → have_samples kinds ≡ true → All (λ word. Spells word.kind word.text) (sample_words kinds)
samples-spelled [] is = All-nil (λ (word : Word). Spells word.kind word.text)
samples-spelled (kind ∷ kinds) is =
    let parts = and_parts (has_sample kind) (have_samples kinds) is in
    All-cons (λ (word : Word). Spells word.kind word.text) _ (sample_words kinds) (sample-spelled kind parts.0) (samples-spelled kinds parts.1)

pub completed : CutsAreCompleted
completed words cut =
    let one = (program_text-cuts cut.0).completed words cut.1 in
    (one.value, sample_words one.missing, samples-spelled one.missing one.sampled, (suc cut.0, one.is))

begins_program : (words : List Word) → IsCut words → BeginsProgram words
begins_program words cut = let one = completed words cut in (one.0, one.1, one.3)

pub places : PlacesEndBeginnings
places words place = (
  λ is. (is.within, begins_program (take place words) is.before, λ begins. is.breaks (begun (take (place + 1) words) begins)),
  λ is. record { within = is.0; before = begun (take place words) is.1; breaks = λ cut. is.2 (begins_program (take (place + 1) words) cut) },
)
