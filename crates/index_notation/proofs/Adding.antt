-- Sums of one term.
use Rattle.std.proofs.Common.{◌≡◌, ℕ, Bool, true, false, List, [], ◌∷◌, refl, sym, ap, ◌∙◌}
use Rattle.std.specs.Prelude.{slice_get, not, if◌then◌else◌, Some, None}
use Rattle.sim_syntax.specs.declared.expression.Expr.{Expr}
use Rattle.sim_syntax.specs.declared.expression.Expr.TheVariants as expr
use Rattle.sim_syntax.specs.declared.expression.SumTerm.{SumTerm, out-SumTerm}
use Rattle.chain_forms.specs.Lowered.{sum}
use Rattle.index_notation.specs.Parts.{is_plain}

by_sign : (minus b : Bool) (x y : Expr) → not minus ≡ b → (if minus then x else y) ≡ (if b then y else x)
by_sign true b x y is = ap (λ c. if c then y else x) is
by_sign false b x y is = ap (λ c. if c then y else x) is

pub not_plain : (line : ℕ) (terms : List SumTerm) → is_plain terms ≡ false → expr.Sum line terms ≡ sum line terms
unfolding sum
not_plain line [] not_one = refl
not_plain line (t ∷ []) minus = sym (by_sign (out-SumTerm t).minus false (expr.Sum line (t ∷ [])) (out-SumTerm t).value minus)
not_plain line (t ∷ u ∷ terms) not_one = refl

pub plain : (line : ℕ) (terms : List SumTerm) (term : SumTerm) → is_plain terms ≡ true → slice_get terms 0 ≡ Some term → (out-SumTerm term).value ≡ sum line terms
unfolding sum
plain line [] term one is = let none : None ≡ Some term = is in cc none
plain line (t ∷ []) term one is =
    let first : Some t ≡ Some term = is in
    let same : t ≡ term = cc in
    ap (λ u. (out-SumTerm u).value) (sym same)
    ∙ sym (by_sign (out-SumTerm t).minus true (expr.Sum line (t ∷ [])) (out-SumTerm t).value one)
plain line (t ∷ u ∷ terms) term one is = let two : false ≡ true = one in cc two
