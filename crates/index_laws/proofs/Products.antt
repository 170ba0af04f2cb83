-- Expressions that have a value wherever they have a type: products, transposes and scalar products of such.
use Rattle.std.proofs.Common.{◌≡◌, ℕ, suc, Bool, true, false, List, [], ◌∷◌, ◌++◌, map, Option, Some, None, Result, Ok, refl, sym, ap, ◌∙◌, subst}
use Rattle.vocabulary.specs.Answers.{◌>>=◌, fold_result}
use Rattle.ring_words.specs.Word.{mul}
use Rattle.sim_syntax.specs.declared.expression.Expr as tree
use Rattle.sim_syntax.specs.declared.expression.Expr.TheVariants as expr
use Rattle.type_rules.specs.declared.types.NodeType.{NodeType}
use Rattle.typed_tree.specs.declared.environment.Environment.{Environment}
use Rattle.typed_tree.specs.declared.expression.Node.{Node}
use Rattle.typed_tree.specs.declared.expression.TypedExpr.{TypedExpr}
use Rattle.typed_tree.specs.declared.expression.TypedFactor.{TypedFactor, roll-TypedFactor}
use Rattle.typed_tree.specs.declared.expression.TypedForm.TheVariants as form
use Rattle.typed_tree.specs.Steps.{at_line}
use Rattle.typed_tree.specs.Expressions as typed
use Rattle.typed_tree.specs.Expressions.{SignedStep, Chain, chained, expression, numbered, node, product_node, times_rule, type_of, unary, binary}
use Rattle.value_algebra.specs.declared.value.Value.{Value}
use Rattle.value_algebra.specs.Value.{word_of, each, both, times, transposed, dot}
use Rattle.value_algebra.specs.Value as algebra
use Rattle.value_laws.specs.Laws.{EntryLaws}
use Rattle.algebra_meaning.specs.Expression as meant
use Rattle.algebra_meaning.specs.Expression.{Meant, Operand, Scope, meaning, multiplied, last_value, with_factor, chain, transposed_part, scalar_product}
use Rattle.chain_forms.specs.Lowering.{factor}
use Rattle.expression_forms.specs.Meanings.{MeaningForms, at_node, factor_operand}
use Rattle.expression_forms.specs.Typings.{TypingForms, factor_step}
use Rattle.index_laws.specs.Fits.{Fits}
use Rattle.index_laws.proofs.Answers.{same_Ok, and_then, at_line_Ok}
use Rattle.index_laws.proofs.Rules as rules
use Rattle.index_laws.proofs.Rules.{Ranked, Gives}

-- a typed expression of a rank, with a value of its type's size
pub record IsSound (scope : Scope) (rank : ℕ) (t : TypedExpr) (v : Value) : Type 0 where
  pub meant : meaning scope t ≡ Ok v
  pub ranked : Ranked rank (type_of t)
  pub fits : Fits scope.sets (type_of t) v

-- an expression that is so wherever it has a type, and then a fact holds
abbrev pub Sound : Environment → Scope → ℕ → tree.Expr → Value → Type 0 → Type 0
Sound env scope rank e v fact = (next : ℕ) (done : TypedExpr × ℕ) → expression env e next ≡ Ok done → IsSound scope rank done.0 v × fact

-- what two factors give, by their ranks and that of their product
pub data Combines : Bool → ℕ → ℕ → ℕ → Type 0 where
  scaling : (rank : ℕ) → Combines false 0 rank rank
  applying : Combines false 2 1 1
  multiplying : Combines false 2 2 2
  joining : Combines true 1 1 1

abbrev pub combined : {flag : Bool} {r s q : ℕ} → Combines flag r s q → Value → Value → Value
combined (Combines.scaling rank) v w = each (mul (word_of v)) w
combined Combines.applying v w = algebra.product v w
combined Combines.multiplying v w = algebra.product v w
combined Combines.joining v w = both mul v w

-- how their sizes agree
abbrev pub Agree : {flag : Bool} {r s q : ℕ} → Combines flag r s q → Value → Value → Type 0
Agree (Combines.scaling rank) v w = Unit {0}
Agree Combines.applying v w = v.columns ≡ w.rows
Agree Combines.multiplying v w = v.columns ≡ w.rows
Agree Combines.joining v w = v.rows ≡ w.rows

-- factors after one, as they are multiplied from left to right
pub data Factors (env : Environment) (scope : Scope) (flag : Bool) : ℕ → Value → List tree.Expr → ℕ → Value → Type 1 where
  ended : (r : ℕ) (v : Value) → Factors env scope flag r v [] r v
  another : (r s q n : ℕ) (v w u : Value) (e : tree.Expr) (es : List tree.Expr) (fact : Type 0) (c : Combines flag r s q)
      → Sound env scope s e w fact → Factors env scope flag q (combined c v w) es n u → Factors env scope flag r v (e ∷ es) n u

abbrev pub Facts : {env : Environment} {scope : Scope} {flag : Bool} {r n : ℕ} {v u : Value} {es : List tree.Expr} → Factors env scope flag r v es n u → Type 0
Facts (Factors.ended r v) = Unit {0}
Facts (Factors.another r s q n v w u e es fact c sound rest) = fact × Agree c v w × Facts rest

-- ---- folds

pub fold_append : {A B E : Type 0} (step : A → B → Result A E) (start middle : A) (xs ys : List B) → fold_result step start xs ≡ Ok middle
    → fold_result step start (xs ++ ys) ≡ fold_result step middle ys
fold_append step start middle [] ys is = ap (λ m. fold_result step m ys) (same_Ok start middle is)
fold_append step start middle (x ∷ xs) ys is =
    let one = and_then (step start x) (λ next. fold_result step next xs) middle is in
    ap (λ r. r >>= λ next. fold_result step next (xs ++ ys)) one.1 ∙ fold_append step one.0 middle xs ys one.2

pub map_append : {A B : Type 0} (f : A → B) (xs ys : List A) → map f (xs ++ ys) ≡ map f xs ++ map f ys
map_append f [] ys = refl
map_append f (x ∷ xs) ys = ap (λ l. f x ∷ l) (map_append f xs ys)

map_map : {A B C : Type 0} (f : B → C) (g : A → B) (xs : List A) → map f (map g xs) ≡ map (λ x. f (g x)) xs
map_map f g [] = refl
map_map f g (x ∷ xs) = ap (λ l. f (g x) ∷ l) (map_map f g xs)

pub product_unfolds : (line next : ℕ) (steps : List SignedStep) → typed.product line steps next ≡ (fold_result (typed.with_factor line) ([], None, next) steps >>= chained line form.Product)
unfolding typed.product
product_unfolds line next steps = refl

pub product_means : (factors : List Operand) → meant.product factors ≡ (chain factors >>= λ d. Ok (last_value d))
unfolding meant.product
product_means factors = refl

-- what is known after factors
record After (scope : Scope) (n : ℕ) (u : Value) (end : Chain TypedFactor) (facts : Type 0) : Type 0 where
  last : Node
  is : end.1 ≡ Some last
  ranked : Ranked n last.value_type
  fits : Fits scope.sets last.value_type u
  meant : chain (map (factor_operand scope) end.0) ≡ Ok (Some (last.value_type, u))
  holds : facts

module _ (typing : TypingForms) (meanings : MeaningForms) (entries : EntryLaws) (env : Environment) (scope : Scope) where
  step_of : Bool → tree.Expr → SignedStep
  step_of flag e = (flag, expression env e)

  combines : (flag : Bool) (r s q : ℕ) (c : Combines flag r s q) (t u rho : NodeType) (v w : Value) → Ranked r t → Fits scope.sets t v → Ranked s u → Fits scope.sets u w
      → times_rule flag t u ≡ Ok rho → Gives scope.sets q rho (combined c v w) × (multiplied (Some (t, v)) flag u w ≡ combined c v w) × Agree c v w
  combines flag r s q (Combines.scaling rank) t u rho v w first fits second other is =
      let given = rules.scaled entries scope.sets rank t u rho v w first second other is in (given.0, given.1, tt)
  combines flag r s q Combines.applying t u rho v w first fits second other is = rules.applied entries scope.sets t u rho v w first fits second other is
  combines flag r s q Combines.multiplying t u rho v w first fits second other is = rules.multiplied entries scope.sets t u rho v w first fits second other is
  combines flag r s q Combines.joining t u rho v w first fits second other is =
      let given = rules.joined entries scope.sets t u rho v w first fits second other is in (given.0, refl, given.1)

  folded : (line : ℕ) (flag : Bool) (r n : ℕ) (v u : Value) (es : List tree.Expr) (f : Factors env scope flag r v es n u) (fs : List TypedFactor) (left : Node) (next : ℕ) (end : Chain TypedFactor)
      → fold_result (typed.with_factor line) (fs, Some left, next) (map (λ e. (flag, expression env e)) es) ≡ Ok end
      → Ranked r left.value_type → Fits scope.sets left.value_type v → chain (map (factor_operand scope) fs) ≡ Ok (Some (left.value_type, v))
      → After scope n u end (Facts f)
  unfolding product_node
  folded line flag r n v u es (Factors.ended r' v') fs left next end is ranked fits so_far =
      subst (λ e. After scope n u e (Unit {0})) (same_Ok (fs, Some left, next) end is)
      (record { last = left; is = refl; ranked = ranked; fits = fits; meant = so_far; holds = tt })
  folded line flag r n v u all (Factors.another r' s q n' v' w u' e es fact c sound rest) fs left next end is ranked fits so_far =
      let step = and_then (typed.with_factor line (fs, Some left, next) (flag, expression env e)) (λ st. fold_result (typed.with_factor line) st (map (λ e. (flag, expression env e)) es)) end is in
      let value = and_then (expression env e next)
      (λ v. product_node line (Some left) flag v.0 v.1 >>= λ n. Ok (fs ++ roll-TypedFactor (record { node = n.0; entrywise = flag; value = v.0 }) ∷ [], Some n.0, n.1)) step.0 step.1 in
      let at = and_then (product_node line (Some left) flag value.0.0 value.0.1)
      (λ n. Ok (fs ++ roll-TypedFactor (record { node = n.0; entrywise = flag; value = value.0.0 }) ∷ [], Some n.0, n.1)) step.0 value.2 in
      let rule = times_rule flag left.value_type (type_of value.0.0) in
      let typed_at = and_then (at_line line rule) (λ type. Ok (node value.0.1 line type, suc value.0.1)) at.0 at.1 in
      let here = sound next value.0 value.1 in
      let given = combines flag r' s q c left.value_type (type_of value.0.0) typed_at.0 v' w ranked fits here.0.ranked here.0.fits (at_line_Ok line rule typed_at.0 typed_at.1) in
      let number : Node = node value.0.1 line typed_at.0 in
      let new : TypedFactor = roll-TypedFactor (record { node = number; entrywise = flag; value = value.0.0 }) in
      let state : (fs ++ new ∷ [], Some number, suc value.0.1) ≡ step.0 =
      ap (λ n. (fs ++ roll-TypedFactor (record { node = n.0; entrywise = flag; value = value.0.0 }) ∷ [], Some n.0, n.1)) (same_Ok (number, suc value.0.1) at.0 typed_at.2)
      ∙ same_Ok (fs ++ roll-TypedFactor (record { node = at.0.0; entrywise = flag; value = value.0.0 }) ∷ [], Some at.0.0, at.0.1) step.0 at.2 in
      let meant_here : chain (map (factor_operand scope) (fs ++ new ∷ [])) ≡ Ok (Some (typed_at.0, combined c v' w)) =
      ap chain (map_append (factor_operand scope) fs (new ∷ []))
      ∙ fold_append with_factor None (Some (left.value_type, v')) (map (factor_operand scope) fs) (factor_operand scope new ∷ []) so_far
      ∙ ap (λ m. (m >>= λ x. Ok (Some (typed_at.0, multiplied (Some (left.value_type, v')) flag (type_of value.0.0) x))) >>= λ next. Ok next) here.0.meant
      ∙ ap (λ o. Ok (Some (typed_at.0, o))) given.1 in
      let after = folded line flag q n (combined c v' w) u es rest (fs ++ new ∷ []) number (suc value.0.1) end
      (ap (λ st. fold_result (typed.with_factor line) st (map (λ e. (flag, expression env e)) es)) state ∙ step.2) given.0.ranked given.0.fits meant_here in
      record { last = after.last; is = after.is; ranked = after.ranked; fits = after.fits; meant = after.meant; holds = (here.1, given.2, after.holds) }

  -- a product of several factors
  pub product_sound : (line : ℕ) (flag : Bool) (r n : ℕ) (e : tree.Expr) (es : List tree.Expr) (v u : Value) (fact : Type 0)
      → Sound env scope r e v fact → (f : Factors env scope flag r v es n u) → Sound env scope n (expr.Product line (factor line false e ∷ map (factor line flag) es)) u (fact × Facts f)
  unfolding product_node
  product_sound line flag r n e es v u fact sound f next done is =
      let steps : List SignedStep = map (λ e. (flag, expression env e)) es in
      let all : fold_result (typed.with_factor line) ([], None, next) ((false, expression env e) ∷ steps) >>= chained line form.Product ≡ Ok done =
      ap (λ l. fold_result (typed.with_factor line) ([], None, next) ((false, expression env e) ∷ l) >>= chained line form.Product) (sym (map_map (factor_step env) (factor line flag) es))
      ∙ sym (product_unfolds line next (map (factor_step env) (factor line false e ∷ map (factor line flag) es)))
      ∙ ap (λ s. s next) (sym (typing.product_is env line (factor line false e ∷ map (factor line flag) es))) ∙ is in
      let parts = and_then (fold_result (typed.with_factor line) ([], None, next) ((false, expression env e) ∷ steps)) (chained line form.Product) done all in
      let first = and_then (typed.with_factor line ([], None, next) (false, expression env e)) (λ st. fold_result (typed.with_factor line) st steps) parts.0 parts.1 in
      let one = and_then (expression env e next) (λ v. product_node line None false v.0 v.1 >>= λ n. Ok (roll-TypedFactor (record { node = n.0; entrywise = false; value = v.0 }) ∷ [], Some n.0, n.1)) first.0 first.1 in
      let here = sound next one.0 one.1 in
      let new : TypedFactor = roll-TypedFactor (record { node = one.0.0.node; entrywise = false; value = one.0.0 }) in
      let after = folded line flag r n v u es f (new ∷ []) one.0.0.node one.0.1 parts.0
      (ap (λ st. fold_result (typed.with_factor line) st steps) (same_Ok (new ∷ [], Some one.0.0.node, one.0.1) first.0 one.2) ∙ first.2)
      here.0.ranked here.0.fits (ap (λ m. (m >>= λ x. Ok (Some (type_of one.0.0, x))) >>= λ next. Ok next) here.0.meant) in
      let ended : chained line form.Product (parts.0.0, Some after.last, parts.0.2) ≡ Ok done = ap (λ l. chained line form.Product (parts.0.0, l, parts.0.2)) (sym after.is) ∙ parts.2 in
      let whole : (at_node after.last (form.Product parts.0.0), parts.0.2) ≡ done = same_Ok (at_node after.last (form.Product parts.0.0), parts.0.2) done ended in
      subst (λ d. IsSound scope n d.0 u × (fact × Facts f)) whole (
        record {
          meant = meanings.product_is scope after.last parts.0.0 ∙ product_of parts.0.0 (Some (after.last.value_type, u)) after.meant;
          ranked = after.ranked;
          fits = after.fits;
        },
        (here.1, after.holds),
      )
    where
      product_of : (fs : List TypedFactor) (so_far : Option (NodeType × Value)) → chain (map (factor_operand scope) fs) ≡ Ok so_far → meant.product (map (factor_operand scope) fs) ≡ Ok (last_value so_far)
      product_of fs so_far is = product_means (map (factor_operand scope) fs) ∙ ap (λ m. m >>= λ d. Ok (last_value d)) is
