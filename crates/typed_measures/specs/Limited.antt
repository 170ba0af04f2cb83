-- Costs are counted up to their limit.
use Rattle.std.specs.Prelude.{ℕ, suc, min}
use Rattle.vocabulary.specs.declared.limits.TheConstants.{MOST_FUNCTION_COST}

-- a cost over the limit counts as the least such
unfoldable pub limited : ℕ → ℕ
limited cost = min cost (suc MOST_FUNCTION_COST)
