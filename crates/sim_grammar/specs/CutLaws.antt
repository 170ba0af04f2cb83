-- CutLaws: what cuts have to do with whole programs. The rules say apart which words state a program and which are a cut of one;
-- the laws tie the two.
use Rattle.std.specs.Prelude.{ℕ, ◌+◌, ◌<◌, ◌↔◌, List, ◌++◌, length, take, All}
use Rattle.sim_lexer.specs.Tokens.{Spells}
use Rattle.sim_lexer.specs.Words.{Word}
use Rattle.sim_syntax.specs.declared.program.Program.{Program}
use Rattle.sim_grammar.specs.Grammar.{Derives, IsCut, IsPlace}

-- some program begins with these words, be they none or all of it
abbrev pub BeginsProgram : List Word → Type 0
BeginsProgram words = (program : Program) × (rest : List Word) × Derives program (words ++ rest)

-- each beginning of the words of a program is a cut
abbrev pub BeginningsAreCuts : Type 0
BeginningsAreCuts = (words : List Word) → BeginsProgram words → IsCut words

-- each cut is completed to a program by some further words, or none, each with a text that its kind may have
abbrev pub CutsAreCompleted : Type 0
CutsAreCompleted = (words : List Word) → IsCut words →
    (program : Program) × (rest : List Word) × All (λ word. Spells word.kind word.text) rest × Derives program (words ++ rest)

-- the first word with which no program begins any more is that of an index: one begins with the words before it, and none with it
abbrev pub EndsBeginnings : List Word → ℕ → Type 0
EndsBeginnings words index = (index < length words) × BeginsProgram (take index words) × ¬ BeginsProgram (take (index + 1) words)

-- the place at which words stop being a cut is exactly that word's
abbrev pub PlacesEndBeginnings : Type 0
PlacesEndBeginnings = (words : List Word) (place : ℕ) → IsPlace words place ↔ EndsBeginnings words place
