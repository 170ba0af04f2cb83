-- A function value that reads a part.
use Rattle.std.specs.Prelude.{ℕ, List, Result}
use Rattle.std.specs.declared.alloc.Global.{Global}
use denote.Ref.{MutBor}
use Rattle.sim_lexer.specs.Words.{Word}
use Rattle.token_cursor.specs.declared.halt.Halt.{Halt}
use Rattle.sim_grammar.specs.Read.{Reader}
use Rattle.token_cursor.specs.Reads.{Reads}

-- it reads what a reader reads
pub record Follows {A : Type 0} (reader : Reader A) (post : MutBor (List Word) → Result A Halt → MutBor (List Word) → Type 0) : Type 0 where
  pub reads : (old new : MutBor (List Word)) (r : Result A Halt) → post old r new → Reads (reader old.now) r new.now

-- it may be called at a depth, and reads what a reader reads that is told how deep parts may be nested
pub record Nests {A : Type 0} (reader : ℕ → Reader A) (depth : ℕ) (pre : Global → MutBor (List Word) → ℕ → Type 0)
    (post : Global → MutBor (List Word) → ℕ → Result A Halt → MutBor (List Word) → Type 0) : Type 0 where
  pub callable : (alloc : Global) (old : MutBor (List Word)) → pre alloc old depth
  pub reads : (alloc : Global) (old new : MutBor (List Word)) (r : Result A Halt) → post alloc old depth r new → Reads (reader depth old.now) r new.now

-- it may be called at a depth
abbrev pub IsCallable : ℕ → (Global → MutBor (List Word) → ℕ → Type 0) → Type 0
IsCallable depth pre = (alloc : Global) (old : MutBor (List Word)) → pre alloc old depth
