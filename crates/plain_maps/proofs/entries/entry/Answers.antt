use Rattle.std.proofs.Common.{◌∙◌}
use Rattle.algebra_meaning.specs.Assembled.{entry}
use Rattle.plain_maps.proofs.Sums.{folded_amounts}
use Rattle.plain_maps.proofs.entries.entry.Goals as goal

pub returns : goal.returns
unfolding entry
returns c = c.added.ensures ∙ folded_amounts c.args.place.number c.args.place.row c.args.place.column c.args.r c.args.c c.args.contributed.now
