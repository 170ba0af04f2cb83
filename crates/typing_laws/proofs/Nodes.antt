-- What the definition of an expression's type answers of each form, where it answers a value.
use Rattle.std.proofs.Common.{◌≡◌, ℕ, Bool, true, false, List, map, nat_lt, if◌then◌else◌, Option, Some, None, Result, Ok, Err, refl, sym, ap, ◌∙◌}
use Rattle.vocabulary.specs.Answers.{◌>>=◌}
use Rattle.sim_syntax.specs.declared.expression.Expr as tree
use Rattle.sim_syntax.specs.declared.expression.Expr.TheVariants as expr
use Rattle.sim_syntax.specs.declared.expression.Expr.TheOpen.{Expr-F}
use Rattle.sim_syntax.specs.declared.expression.Expr.TheFolds.{fold-SumTerm, fold-ProductFactor, fold-Row, fold-roll-Expr, fold_out-SumTerm, fold_out-ProductFactor, fold_out-Row}
use Rattle.sim_syntax.specs.declared.expression.Row.{Row}
use Rattle.sim_syntax.specs.declared.expression.SumTerm.{SumTerm}
use Rattle.sim_syntax.specs.declared.expression.ProductFactor.{ProductFactor}
use Rattle.type_rules.specs.Rules.{literal_rule, transposed_rule, rescale_rule, quot_rule, isqrt_rule, dot_rule}
use Rattle.type_rules.specs.declared.types.NodeType.{NodeType}
use Rattle.type_rules.specs.declared.types.TypeKind.{TypeKind}
use Rattle.type_rules.specs.declared.types.TypeKind.TheVariants as kind
use Rattle.vocabulary.specs.declared.limits.TheConstants.{MOST_FIELD_SCALE}
use Rattle.typed_tree.specs.declared.expression.TypedExpr.{TypedExpr}
use Rattle.typed_tree.specs.declared.expression.TypedForm.{TypedForm}
use Rattle.typed_tree.specs.declared.expression.TypedForm.TheVariants as form
use Rattle.typed_tree.specs.declared.expression.TypedRow.{TypedRow, roll-TypedRow}
use Rattle.typed_tree.specs.declared.environment.Environment.{Environment}
use Rattle.typed_tree.specs.Names.{Name}
use Rattle.typed_tree.specs.Literals.{decimals_of, literal_word, whole}
use Rattle.typed_tree.specs.Steps.{Step, at_line, several}
use Rattle.typed_tree.specs.Expressions.{SignedStep, unary, binary, numbered, number, reference, block_of_rows, sum, product, expression, expression_node, factor_step, row_step, term_step, type_of, word_or_zero}
use Rattle.typing_laws.proofs.Steps.{same_Ok, and_then, then_is, at_line_Ok}

-- ---- each form of the tree

-- a term, a factor and a row as steps
abbrev pub term_of : Environment → SumTerm → SignedStep
term_of env = fold-SumTerm (Step ℕ TypedExpr) SignedStep (Step ℕ TypedRow) SignedStep (expression_node env) factor_step row_step term_step

abbrev pub factor_of : Environment → ProductFactor → SignedStep
factor_of env = fold-ProductFactor (Step ℕ TypedExpr) SignedStep (Step ℕ TypedRow) SignedStep (expression_node env) factor_step row_step term_step

abbrev pub row_of : Environment → Row → Step ℕ TypedRow
row_of env = fold-Row (Step ℕ TypedExpr) SignedStep (Step ℕ TypedRow) SignedStep (expression_node env) factor_step row_step term_step

pub term_is : (env : Environment) (t : SumTerm) → term_of env t ≡ (t.minus, expression env t.value)
term_is env t = fold_out-SumTerm (Step ℕ TypedExpr) SignedStep (Step ℕ TypedRow) SignedStep (expression_node env) factor_step row_step term_step t

pub factor_is : (env : Environment) (f : ProductFactor) → factor_of env f ≡ (f.entrywise, expression env f.value)
factor_is env f = fold_out-ProductFactor (Step ℕ TypedExpr) SignedStep (Step ℕ TypedRow) SignedStep (expression_node env) factor_step row_step term_step f

pub row_is : (env : Environment) (r : Row) (next : ℕ)
    → row_of env r next ≡ (several (map (expression env) r.entries) next >>= λ es. Ok (roll-TypedRow (record { entries = es.0 }), es.1))
row_is env r next =
    ap (λ step. step next) (fold_out-Row (Step ℕ TypedExpr) SignedStep (Step ℕ TypedRow) SignedStep (expression_node env) factor_step row_step term_step r)

module _ (env : Environment) where
  rolled : (x : Expr-F tree.Expr ProductFactor Row SumTerm)
      → expression env (tree.roll-Expr x)
      ≡ expression_node env (tree.map-Expr tree.Expr ProductFactor Row SumTerm (Step ℕ TypedExpr) SignedStep (Step ℕ TypedRow) SignedStep
      (expression env) (factor_of env) (row_of env) (term_of env) x)
  rolled x = fold-roll-Expr (Step ℕ TypedExpr) SignedStep (Step ℕ TypedRow) SignedStep (expression_node env) factor_step row_step term_step x

  pub number_is : (line : ℕ) (digits : List ℕ) → expression env (expr.Number line digits) ≡ number line digits
  unfolding expression_node
  number_is line digits = ap (expression env) (sym (expr.rolls-Number line digits)) ∙ rolled (Expr-F.Number line digits)

  pub reference_is : (line : ℕ) (name : Name) (args : List tree.Expr) (field : Option Name) (field_args : List tree.Expr) (rank : Option ℕ)
      → expression env (expr.Ref line name args field field_args rank)
      ≡ reference env line name (map (expression env) args) field (map (expression env) field_args) rank
  unfolding expression_node
  reference_is line name args field field_args rank =
      ap (expression env) (sym (expr.rolls-Ref line name args field field_args rank)) ∙ rolled (Expr-F.Ref line name args field field_args rank)

  pub block_is : (line : ℕ) (rows : List Row) → expression env (expr.Block line rows) ≡ block_of_rows env.level line (map (row_of env) rows)
  unfolding expression_node
  block_is line rows = ap (expression env) (sym (expr.rolls-Block line rows)) ∙ rolled (Expr-F.Block line rows)

  pub sum_is : (line : ℕ) (terms : List SumTerm) → expression env (expr.Sum line terms) ≡ sum line (map (term_of env) terms)
  unfolding expression_node
  sum_is line terms = ap (expression env) (sym (expr.rolls-Sum line terms)) ∙ rolled (Expr-F.Sum line terms)

  pub product_is : (line : ℕ) (factors : List ProductFactor) → expression env (expr.Product line factors) ≡ product line (map (factor_of env) factors)
  unfolding expression_node
  product_is line factors = ap (expression env) (sym (expr.rolls-Product line factors)) ∙ rolled (Expr-F.Product line factors)

  pub transposed_is : (line : ℕ) (value : tree.Expr) → expression env (expr.Transposed line value) ≡ unary transposed_rule form.Transposed line (expression env value)
  unfolding expression_node
  transposed_is line value = ap (expression env) (sym (expr.rolls-Transposed line value)) ∙ rolled (Expr-F.Transposed line value)

  pub rescale_is : (line : ℕ) (value : tree.Expr) (scale : List ℕ)
      → expression env (expr.Rescale line value scale) ≡ unary (λ type. rescale_rule type (whole scale)) form.Rescale line (expression env value)
  unfolding expression_node
  rescale_is line value scale = ap (expression env) (sym (expr.rolls-Rescale line value scale)) ∙ rolled (Expr-F.Rescale line value scale)

  pub quot_is : (line : ℕ) (dividend divisor : tree.Expr) (scale : List ℕ)
      → expression env (expr.Quot line dividend divisor scale)
      ≡ binary (λ left right. quot_rule left right (whole scale)) form.Quot line (expression env dividend) (expression env divisor)
  unfolding expression_node
  quot_is line dividend divisor scale =
      ap (expression env) (sym (expr.rolls-Quot line dividend divisor scale)) ∙ rolled (Expr-F.Quot line dividend divisor scale)

  pub isqrt_is : (line : ℕ) (value : tree.Expr) (scale : List ℕ)
      → expression env (expr.Isqrt line value scale) ≡ unary (λ type. isqrt_rule type (whole scale)) form.Isqrt line (expression env value)
  unfolding expression_node
  isqrt_is line value scale = ap (expression env) (sym (expr.rolls-Isqrt line value scale)) ∙ rolled (Expr-F.Isqrt line value scale)

  pub dot_is : (line : ℕ) (left right : tree.Expr)
      → expression env (expr.Dot line left right) ≡ binary dot_rule form.Dot line (expression env left) (expression env right)
  unfolding expression_node
  dot_is line left right = ap (expression env) (sym (expr.rolls-Dot line left right)) ∙ rolled (Expr-F.Dot line left right)

-- ---- one part, and two

pub unary_more : (rule : NodeType → Result NodeType TypeKind) (make : TypedExpr → TypedForm) (line from : ℕ) (value : Step ℕ TypedExpr) (v : TypedExpr × ℕ) (type : NodeType)
    → value from ≡ Ok v → rule (type_of v.0) ≡ Ok type → unary rule make line value from ≡ Ok (numbered v.1 line type (make v.0))
unfolding unary
unary_more rule make line from value v type here typed =
    then_is (value from) (λ w. at_line line (rule (type_of w.0)) >>= λ t. Ok (numbered w.1 line t (make w.0))) v _ here
    (ap (λ r. at_line line r >>= λ t. Ok (numbered v.1 line t (make v.0))) typed)

pub unary_split : (rule : NodeType → Result NodeType TypeKind) (make : TypedExpr → TypedForm) (line from : ℕ) (value : Step ℕ TypedExpr) (done : TypedExpr × ℕ)
    → unary rule make line value from ≡ Ok done
    → (v : TypedExpr × ℕ) × (type : NodeType) × (value from ≡ Ok v) × (rule (type_of v.0) ≡ Ok type) × (numbered v.1 line type (make v.0) ≡ done)
unfolding unary
unary_split rule make line from value done is =
    let v = and_then (value from) (λ w. at_line line (rule (type_of w.0)) >>= λ t. Ok (numbered w.1 line t (make w.0))) done is in
    let t = and_then (at_line line (rule (type_of v.0.0))) (λ t. Ok (numbered v.0.1 line t (make v.0.0))) done v.2 in
    (v.0, t.0, v.1, at_line_Ok line (rule (type_of v.0.0)) t.0 t.1, same_Ok (numbered v.0.1 line t.0 (make v.0.0)) done t.2)

pub binary_more : (rule : NodeType → NodeType → Result NodeType TypeKind) (make : TypedExpr → TypedExpr → TypedForm) (line from : ℕ) (left right : Step ℕ TypedExpr)
    (l r : TypedExpr × ℕ) (type : NodeType) → left from ≡ Ok l → right l.1 ≡ Ok r → rule (type_of l.0) (type_of r.0) ≡ Ok type
    → binary rule make line left right from ≡ Ok (numbered r.1 line type (make l.0 r.0))
unfolding binary
binary_more rule make line from left right l r type first second typed =
    then_is (left from) (λ a. right a.1 >>= λ b. at_line line (rule (type_of a.0) (type_of b.0)) >>= λ t. Ok (numbered b.1 line t (make a.0 b.0))) l _ first
    (then_is (right l.1) (λ b. at_line line (rule (type_of l.0) (type_of b.0)) >>= λ t. Ok (numbered b.1 line t (make l.0 b.0))) r _ second
    (ap (λ o. at_line line o >>= λ t. Ok (numbered r.1 line t (make l.0 r.0))) typed))

pub binary_split : (rule : NodeType → NodeType → Result NodeType TypeKind) (make : TypedExpr → TypedExpr → TypedForm) (line from : ℕ) (left right : Step ℕ TypedExpr)
    (done : TypedExpr × ℕ) → binary rule make line left right from ≡ Ok done
    → (l : TypedExpr × ℕ) × (r : TypedExpr × ℕ) × (type : NodeType) × (left from ≡ Ok l) × (right l.1 ≡ Ok r)
    × (rule (type_of l.0) (type_of r.0) ≡ Ok type) × (numbered r.1 line type (make l.0 r.0) ≡ done)
unfolding binary
binary_split rule make line from left right done is =
    let l = and_then (left from) (λ a. right a.1 >>= λ b. at_line line (rule (type_of a.0) (type_of b.0)) >>= λ t. Ok (numbered b.1 line t (make a.0 b.0))) done is in
    let r = and_then (right l.0.1) (λ b. at_line line (rule (type_of l.0.0) (type_of b.0)) >>= λ t. Ok (numbered b.1 line t (make l.0.0 b.0))) done l.2 in
    let t = and_then (at_line line (rule (type_of l.0.0) (type_of r.0.0))) (λ t. Ok (numbered r.0.1 line t (make l.0.0 r.0.0))) done r.2 in
    (l.0, r.0, t.0, l.1, r.1, at_line_Ok line (rule (type_of l.0.0) (type_of r.0.0)) t.0 t.1, same_Ok (numbered r.0.1 line t.0 (make l.0.0 r.0.0)) done t.2)

-- ---- numbers

pub number_more : (line : ℕ) (digits : List ℕ) (word : ℕ) (type : NodeType) (from : ℕ) → literal_word digits ≡ Some word
    → literal_rule (decimals_of digits) (Some word) ≡ Ok type → number line digits from ≡ Ok (numbered from line type (form.Number word))
unfolding number
number_more line digits word type from states typed =
    ap (λ o. at_line line (literal_rule (decimals_of digits) o) >>= λ t. Ok (numbered from line t (form.Number (word_or_zero o)))) states
    ∙ ap (λ r. at_line line r >>= λ t. Ok (numbered from line t (form.Number word))) typed

no_word : (scale : ℕ) (type : NodeType) → literal_rule scale None ≡ Ok type → ⊥
unfolding literal_rule
no_word scale type is = by_test (nat_lt MOST_FIELD_SCALE scale) is
  where
    by_test : (b : Bool) → (if b then Err kind.Scale else Err kind.TooLarge) ≡ Ok type → ⊥
    by_test true answers = cc
    by_test false answers = cc

pub number_split : (line : ℕ) (digits : List ℕ) (from : ℕ) (done : TypedExpr × ℕ) → number line digits from ≡ Ok done
    → (word : ℕ) × (type : NodeType) × (literal_word digits ≡ Some word) × (literal_rule (decimals_of digits) (Some word) ≡ Ok type)
    × (numbered from line type (form.Number word) ≡ done)
unfolding number
number_split line digits from done is = by_word (literal_word digits) refl is
  where
    by_word : (o : Option ℕ) → literal_word digits ≡ o
        → (at_line line (literal_rule (decimals_of digits) o) >>= λ t. Ok (numbered from line t (form.Number (word_or_zero o)))) ≡ Ok done
        → (word : ℕ) × (type : NodeType) × (literal_word digits ≡ Some word) × (literal_rule (decimals_of digits) (Some word) ≡ Ok type)
        × (numbered from line type (form.Number word) ≡ done)
    by_word None states answers =
        let t = and_then (at_line line (literal_rule (decimals_of digits) None)) (λ t. Ok (numbered from line t (form.Number 0))) done answers in
        absurd (no_word (decimals_of digits) t.0 (at_line_Ok line (literal_rule (decimals_of digits) None) t.0 t.1))
    by_word (Some word) states answers =
        let t = and_then (at_line line (literal_rule (decimals_of digits) (Some word))) (λ t. Ok (numbered from line t (form.Number word))) done answers in
        (word, t.0, states, at_line_Ok line (literal_rule (decimals_of digits) (Some word)) t.0 t.1, same_Ok (numbered from line t.0 (form.Number word)) done t.2)
