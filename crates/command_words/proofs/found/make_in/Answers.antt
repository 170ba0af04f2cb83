use Rattle.std.proofs.Common.{arith, []}
use Rattle.command_words.specs.Parsing.{positionals_in}
use Rattle.command_words.proofs.Accepted.{both_small}
use Rattle.command_words.proofs.found.make_in.Goals as goal

pub number_of-requires : goal.number_of-requires
number_of-requires c =
    (both_small c.in-Some-len2.field-0.now (positionals_in c.args.matches.now) _ (record { ref_ptr = (0, 0); now = [] }) (omega (arith, c.in-Some-len2.len_at_least)) (omega (arith, c.in-Some-len2.len_below))
    c.in-Some-len2.ensures c.requires.numbers).0

pub number_of-requires-in-Some-len2 : goal.number_of-requires-in-Some-len2
number_of-requires-in-Some-len2 c =
    (both_small c.in-Some-len2.field-0.now (positionals_in c.args.matches.now) (record { ref_ptr = (0, 0); now = [] }) _ (omega (arith, c.in-Some-len2.len_at_least)) (omega (arith, c.in-Some-len2.len_below))
    c.in-Some-len2.ensures c.requires.numbers).1
