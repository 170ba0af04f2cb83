use Rattle.std.proofs.Common.{◌∙◌}
use Rattle.std.specs.List.{zip}
use Rattle.value_algebra.proofs.Sums.{folded_pairs}
use Rattle.value_algebra.proofs.products.sum_of_products.Goals as goal

pub returns : goal.returns
returns c = c.pair_products.ensures ∙ folded_pairs (zip c.args.left.now c.args.right.now)
