use Rattle.command_words.specs.Parsing.{values_in}
use Rattle.command_words.proofs.Accepted.{known_small}
use Rattle.command_words.proofs.found.number_in.Goals as goal

pub number_of-requires : goal.number_of-requires
number_of-requires c = known_small (values_in c.args.matches.now) c.args.flag c.in-Some.digits.now c.requires.values c.requires.number c.in-Some.ensures
