-- Parts of statements.
use Rattle.std.specs.Prelude.{ℕ, List, None, Ok}
use Rattle.vocabulary.specs.Answers.{◌>>=◌}
use Rattle.typed_tree.specs.declared.condition.TypedCond.{TypedCond}
use Rattle.typed_tree.specs.declared.environment.Walk.{Walk}
use Rattle.typed_tree.specs.declared.function.FunctionStmt.{FunctionStmt}
use Rattle.typed_tree.specs.declared.function.FunctionStmt.TheVariants as stmt
use Rattle.typed_tree.specs.Steps.{Step}
use Rattle.typed_tree.specs.Walking.{counted}

-- a choice ends, of which the condition and both lists were judged
abbrev pub chosen : ℕ → TypedCond → List FunctionStmt → List FunctionStmt → Step Walk FunctionStmt
chosen line cond body otherwise walk = counted line None walk >>= λ after. Ok (stmt.If line cond body otherwise, after)
