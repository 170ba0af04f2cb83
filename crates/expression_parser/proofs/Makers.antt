-- Sums and products of more than one part.
use Rattle.std.proofs.Common.{◌≡◌, ℕ, Bool, true, false, List, [], ◌∷◌, refl}
use Rattle.sim_syntax.specs.declared.expression.Expr.{Expr}
use Rattle.sim_syntax.specs.declared.expression.Expr.TheVariants as expr
use Rattle.sim_syntax.specs.declared.expression.SumTerm.{SumTerm}
use Rattle.sim_syntax.specs.declared.expression.ProductFactor.{ProductFactor}
use Rattle.sim_grammar.specs.Trees.{term_of, factor_of, sum_of, product_of}

pub product_of_more : (line : ℕ) (value : Expr) (others : List ProductFactor) → (others ≡ [] → ⊥) → product_of line (value, others) ≡ expr.Product line (factor_of line (false, value) ∷ others)
product_of_more line value [] more = absurd (more refl)
product_of_more line value (x ∷ others) more = refl

pub sum_of_more : (line : ℕ) (minus : Bool) (value : Expr) (others : List SumTerm) → ((minus ≡ false) × (others ≡ []) → ⊥) → sum_of line (minus, (value, others)) ≡ expr.Sum line (term_of line (minus, value) ∷ others)
sum_of_more line false value [] more = absurd (more (refl, refl))
sum_of_more line true value [] more = refl
sum_of_more line false value (x ∷ others) more = refl
sum_of_more line true value (x ∷ others) more = refl
