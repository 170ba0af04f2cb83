use Rattle.std.proofs.Common.{ℕ, ◌∙◌}
use Rattle.std.specs.List.{range_with_len}
use Rattle.value_algebra.specs.Value.{in_rows, word_at}
use Rattle.value_algebra.proofs.Sums.{folded_products}
use Rattle.value_algebra.proofs.products.row_times_column.Goals as goal

pub returns : goal.returns
returns c =
    let left : ℕ → ℕ = λ k. word_at (in_rows c.args.width c.args.left.now) c.args.row k in
    let right : ℕ → ℕ = λ k. word_at (in_rows c.args.right_width c.args.right.now) k c.args.column in
    c.row_products.ensures ∙ folded_products left right (range_with_len 0 c.args.width)
