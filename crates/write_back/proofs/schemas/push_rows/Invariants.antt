use Rattle.std.proofs.Common.{◌≡◌, ◌++◌}
use Rattle.std.specs.List.{flat_map, range_with_len}
use Rattle.write_back.specs.Schemas.{entry_columns, entry_heading}
use Rattle.write_back.proofs.schemas.push_rows.Given as goal

-- the columns of the rows so far
abbrev pub invariant-loop-row : goal.invariant-loop-row
invariant-loop-row l =
    l.columns ≡ l.initial.columns ++ flat_map (λ row. entry_columns l.scale (entry_heading l.heading row) l.count) (range_with_len 0 l.row)
