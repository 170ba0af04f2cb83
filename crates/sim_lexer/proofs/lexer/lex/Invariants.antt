use Rattle.std.proofs.Common.{◌-◌, vec_len}
use Rattle.vocabulary.specs.declared.limits.TheConstants.{MOST_TOKENS}
use Rattle.sim_lexer.proofs.Lexing.{Begins}
use Rattle.sim_lexer.proofs.lexer.lex.Given as goal

abbrev pub invariant-loop-tokens : goal.invariant-loop-tokens
invariant-loop-tokens l = Begins l.bytes l.tokens.items l.last l.depth

abbrev pub decreases-loop-tokens : goal.decreases-loop-tokens
decreases-loop-tokens l = MOST_TOKENS - vec_len l.tokens
