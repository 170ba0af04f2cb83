use Rattle.std.proofs.Common.{ℕ, ◌<◌, ◌≤◌, length}
use Rattle.hypergraph.specs.Sets.{set_at}
use Rattle.set_tables.specs.Output.{table_text}
use Rattle.simit_run.specs.Schemas.{schema_at}
use Rattle.simit_run.proofs.writing.longest.Given as goal

-- none of the texts so far is longer
abbrev pub invariant-loop-number : goal.invariant-loop-number
invariant-loop-number l = (number : ℕ) → number < l.number → length (table_text (schema_at l.schemas number) (set_at l.sets number)) ≤ l.longest
