use Rattle.loop_laws.proofs.Rows.{row_begun, row_grown, rows_alone, rows_begun, rows_grown}
use Rattle.loop_laws.proofs.row_laws.Goals as goal

pub returns : goal.returns
returns g c = record { row_begun = row_begun; row_grown = row_grown; rows_begun = rows_begun; rows_grown = rows_grown; rows_alone = rows_alone }
