-- A typed program with what its host functions answer.
use Rattle.std.specs.Prelude.{ℕ}
use Rattle.typed_tree.specs.declared.program.TypedProgram.{TypedProgram}

-- what the host function of a number answers of two words
abbrev pub Answer : Type 0
Answer = ℕ → ℕ → ℕ → ℕ

-- a typed program, linked to the host functions that it calls
pub record LinkedProgram : Type 0 where
  pub typed : TypedProgram
  pub answer : Answer

abbrev pub linked : Answer → TypedProgram → LinkedProgram
linked answer typed = record { typed = typed; answer = answer }
