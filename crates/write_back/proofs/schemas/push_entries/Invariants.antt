use Rattle.std.proofs.Common.{◌≡◌, ◌++◌}
use Rattle.write_back.specs.Schemas.{entry_columns}
use Rattle.write_back.proofs.schemas.push_entries.Given as goal

-- the columns of the entries so far
abbrev pub invariant-loop-index : goal.invariant-loop-index
invariant-loop-index l = l.columns ≡ l.initial.columns ++ entry_columns l.scale l.heading l.index
