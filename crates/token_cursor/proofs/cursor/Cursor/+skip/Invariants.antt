use Rattle.std.proofs.Common.{length}
use Rattle.token_cursor.proofs.cursor.Cursor.+skip.Given as goal

abbrev pub decreases-skip : goal.decreases-skip
decreases-skip l = length l.kinds.now
