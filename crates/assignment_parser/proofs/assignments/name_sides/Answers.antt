use Rattle.std.proofs.Common.{rules}
use Rattle.sim_lexer.specs.declared.token.TokenKind.TheVariants.{Name}
use Rattle.sim_grammar.specs.Read.{spelt}
use Rattle.assignment_parser.proofs.assignments.name_sides.Goals as goal

pub returns : goal.returns
returns c = c.sides.ensures (spelt Name) (record { reads = λ old new r post. search rules })
