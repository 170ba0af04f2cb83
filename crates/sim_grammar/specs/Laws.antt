-- What the contract of the law of reading says: how the reader of programs agrees with the grammar.
use Rattle.std.specs.Prelude.{◌≡◌, ◌≤◌, ◌↔◌, ℕ, List, [], ◌∷◌, ◌++◌, length, All, Ok, Err}
use Rattle.sim_lexer.specs.Words.{Word}
use Rattle.sim_lexer.specs.declared.token.TokenKind.TheVariants.{End}
use Rattle.sim_syntax.specs.declared.program.Program.{Program}
use Rattle.sim_grammar.specs.Grammar.{Derives, IsPlace}
use Rattle.sim_grammar.specs.ReadProgram.{program_text, program_in}

-- the last word is the end of the text, and no other is
pub record HasOneEnd (words : List Word) : Type 0 where
  pub front : List Word
  pub last : Word
  pub parts : words ≡ front ++ last ∷ []
  pub is_end : last.kind ≡ End
  pub no_end : All (λ word. ¬ (word.kind ≡ End)) front

-- the words of a text are read as a program exactly where they derive it
abbrev pub ReadsWhatIsDerived : Type 0
ReadsWhatIsDerived = (words : List Word) → HasOneEnd words → (program : Program) → (program_in words ≡ Ok program) ↔ Derives program words

-- and else as the place of the word at which they stop being a cut of a program
abbrev pub ReadsThePlace : Type 0
ReadsThePlace = (words : List Word) → HasOneEnd words → (place : ℕ) → program_in words ≡ Err place → IsPlace words place

-- reading that can't go on leaves no more than the words
abbrev pub LeavesNoMore : Type 0
LeavesNoMore = (depth : ℕ) (words stuck : List Word) → program_text depth words ≡ Err stuck → length stuck ≤ length words
