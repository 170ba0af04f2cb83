use Rattle.std.proofs.Common.{◌≡◌, ◌+◌, drop}
use Rattle.sim_lexer.specs.Tokens.{gap_len}
use Rattle.sim_lexer.proofs.Lexing.{gap_left}
use Rattle.sim_lexer.proofs.lexer.gap_len.Given as goal

abbrev pub invariant-loop-i : goal.invariant-loop-i
invariant-loop-i l = gap_len l.text ≡ l.i + gap_left l.in_comment (drop l.i l.text)
