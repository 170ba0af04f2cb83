-- What a function that reads answers, and where its cursor stands after it.
use Rattle.std.specs.Prelude.{◌≡◌, ⊤, List, Result, Ok, Err}
use Rattle.sim_lexer.specs.Words.{Word}
use Rattle.sim_grammar.specs.Read.{Read}
use Rattle.token_cursor.specs.declared.halt.Halt.{Halt}
use Rattle.token_cursor.specs.declared.halt.Halt.TheVariants.{Syntax, Memory}

-- the value that is read, with the cursor after it; or else the cursor is at the word that can't go on, unless memory ran out
abbrev pub Reads : {A : Type 0} → Read A → Result A Halt → List Word → Type 0
Reads read (Ok value) after = read ≡ Ok (value, after)
Reads read (Err Syntax) after = read ≡ Err after
Reads read (Err Memory) after = ⊤

-- the cursor is after the words that are skipped, or at the word that can't go on
abbrev pub Skips : Result (List Word) (List Word) → Result (Unit {0}) Halt → List Word → Type 0
Skips skipped (Ok done) after = skipped ≡ Ok after
Skips skipped (Err Syntax) after = skipped ≡ Err after
Skips skipped (Err Memory) after = ⊤
