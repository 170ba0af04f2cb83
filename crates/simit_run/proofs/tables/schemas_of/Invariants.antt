use Rattle.std.proofs.Common.{◌≡◌, ◌<◌, ℕ, map}
use Rattle.std.specs.List.{range_with_len}
use Rattle.write_back.specs.Schemas.{schema_of}
use Rattle.simit_run.specs.TableContracts.{IsReadable}
use Rattle.simit_run.proofs.tables.schemas_of.Given as goal

-- a schema for each set so far, and each can be read
abbrev pub invariant-loop-number : goal.invariant-loop-number
invariant-loop-number l = record {
  made : l.schemas ≡ map (schema_of l.typed) (range_with_len 0 l.number);
  readable : (k : ℕ) → k < l.number → IsReadable l.typed k;
}
