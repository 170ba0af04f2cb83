use Rattle.std.proofs.Common.{◌≡◌, length}
use Rattle.sim_grammar.specs.Read.{Reader, repeat, ◌▹◌}
use Rattle.token_cursor.specs.Nests.{Follows}
use Rattle.token_cursor.proofs.lists.repeat.Given as goal

-- the values so far and those that follow are all of them
abbrev pub invariant-loop-fuel : goal.invariant-loop-fuel
invariant-loop-fuel g l =
    (reader : Reader _) → Follows reader (goal.F-post g l.part)
    → repeat l.fuel l.starts (l.before ▹ reader) l.values l.cursor ≡ repeat (length l.fn.cursor) l.starts (l.before ▹ reader) l.fn.values l.fn.cursor

abbrev pub decreases-loop-fuel : goal.decreases-loop-fuel
decreases-loop-fuel g l = l.fuel
