-- Each typing of an expression is what the definition answers.
use Rattle.std.proofs.Common.{◌≡◌, ℕ, List, [], ◌∷◌, ◌++◌, map, Option, Some, None, Ok, refl, sym, ap, ◌∙◌, append_assoc}
use Rattle.std.proofs.lemmas.List.{append-nil}
use Rattle.vocabulary.specs.Answers.{◌>>=◌, fold_result}
use Rattle.sim_syntax.specs.declared.expression.Expr as tree
use Rattle.sim_syntax.specs.declared.expression.Row.{Row}
use Rattle.sim_syntax.specs.declared.expression.SumTerm.{SumTerm}
use Rattle.sim_syntax.specs.declared.expression.ProductFactor.{ProductFactor}
use Rattle.type_rules.specs.Rules.{rescale_rule, transposed_rule, quot_rule, isqrt_rule, dot_rule, block_rule}
use Rattle.type_rules.specs.declared.types.NodeType.{NodeType}
use Rattle.typed_tree.specs.declared.expression.Node.{Node}
use Rattle.typed_tree.specs.declared.expression.Referent.{Referent}
use Rattle.typed_tree.specs.declared.expression.Referent.TheVariants as referent
use Rattle.typed_tree.specs.declared.expression.TypedExpr.{TypedExpr}
use Rattle.typed_tree.specs.declared.expression.TypedForm.TheVariants as form
use Rattle.typed_tree.specs.declared.expression.TypedRow.{TypedRow, roll-TypedRow}
use Rattle.typed_tree.specs.declared.expression.TypedTerm.{TypedTerm, roll-TypedTerm}
use Rattle.typed_tree.specs.declared.expression.TypedFactor.{TypedFactor, roll-TypedFactor}
use Rattle.typed_tree.specs.declared.environment.Environment.{Environment}
use Rattle.typed_tree.specs.declared.environment.Level.{Level}
use Rattle.typed_tree.specs.declared.environment.Level.TheVariants.{Function}
use Rattle.typed_tree.specs.Literals.{whole}
use Rattle.typed_tree.specs.Names.{Name}
use Rattle.typed_tree.specs.Steps.{Step, at_line, several}
use Rattle.typed_tree.specs.Expressions.{SignedStep, numbered, reference, reference_rule, block_of_rows, block_at, row_types, sum, product, chained, with_term, with_factor, sum_node, product_node, expression}
use Rattle.typing_laws.specs.Expressions.{IsTyping, AreTypings, AreRowTypings, AreTermTypings, AreFactorTypings, IsSumNode, IsProductNode}
use Rattle.typing_laws.specs.Expressions.IsTyping.{number, reference as named, call, block, sum as summed, product as multiplied, transposed, rescale, quot, isqrt, dot}
use Rattle.typing_laws.specs.Expressions.AreTypings.{none, one_more}
use Rattle.typing_laws.specs.Expressions.AreRowTypings.{no_row, another_row}
use Rattle.typing_laws.specs.Expressions.AreTermTypings.{no_term, another_term}
use Rattle.typing_laws.specs.Expressions.AreFactorTypings.{no_factor, another_factor}
use Rattle.typing_laws.proofs.Steps.{then_is, several_more}
use Rattle.typing_laws.proofs.Nodes.{term_of, factor_of, row_of, term_is, factor_is, row_is, number_is, reference_is, block_is, sum_is, product_is, transposed_is, rescale_is, quot_is, isqrt_is, dot_is, unary_more, binary_more, number_more}
use Rattle.typing_laws.proofs.ReferenceFacts.{only_call, only_reference}
use Rattle.typing_laws.proofs.Chains.{sum_node_is, product_node_is}

-- what an expression answers, by the answer of its form
by_form : {e f : Step ℕ TypedExpr} (from : ℕ) (done : TypedExpr × ℕ) → e ≡ f → f from ≡ Ok done → e from ≡ Ok done
by_form from done form is = ap (λ s. s from) form ∙ is

reference_more : (env : Environment) (line : ℕ) (name : Name) (args : List (Step ℕ TypedExpr)) (field : Option Name) (field_args : List (Step ℕ TypedExpr)) (rank : Option ℕ)
    (from : ℕ) (a f : List TypedExpr × ℕ) (what : Referent × NodeType) → several args from ≡ Ok a → several field_args a.1 ≡ Ok f
    → reference_rule env name a.0 field f.0 rank ≡ Ok what
    → reference env line name args field field_args rank from ≡ Ok (numbered f.1 line what.1 (form.Ref what.0 a.0 f.0))
unfolding reference
reference_more env line name args field field_args rank from a f what first second stands =
    then_is (several args from) (λ b. several field_args b.1 >>= λ g. at_line line (reference_rule env name b.0 field g.0 rank) >>= λ w. Ok (numbered g.1 line w.1 (form.Ref w.0 b.0 g.0))) a _ first
    (then_is (several field_args a.1) (λ g. at_line line (reference_rule env name a.0 field g.0 rank) >>= λ w. Ok (numbered g.1 line w.1 (form.Ref w.0 a.0 g.0))) f _ second
    (ap (λ r. at_line line r >>= λ w. Ok (numbered f.1 line w.1 (form.Ref w.0 a.0 f.0))) stands))

block_more : (level : Level) (line : ℕ) (rows : List (Step ℕ TypedRow)) (from : ℕ) (rs : List TypedRow × ℕ) (type : NodeType)
    → several rows from ≡ Ok rs → level ≡ Function → block_rule (map row_types rs.0) ≡ Ok type
    → block_of_rows level line rows from ≡ Ok (numbered rs.1 line type (form.Block rs.0))
unfolding block_of_rows
block_more level line rows from rs type first function typed =
    then_is (several rows from) (λ r. at_line line (block_at level r.0) >>= λ t. Ok (numbered r.1 line t (form.Block r.0))) rs _ first
    (ap (λ r. at_line line r >>= λ t. Ok (numbered rs.1 line t (form.Block rs.0))) (ap (λ l. block_at l rs.0) function ∙ typed))

another_term_more : (env : Environment) (line : ℕ) (left : Option Node) (term : SumTerm) (terms : List SumTerm) (so_far : List TypedTerm) (from next : ℕ)
    (v : TypedExpr × ℕ) (up_to : Node) → expression env term.value from ≡ Ok v → IsSumNode line left term.minus v.0 v.1 up_to next
    → fold_result (with_term line) (so_far, left, from) (map (term_of env) (term ∷ terms))
    ≡ fold_result (with_term line) (so_far ++ roll-TypedTerm (record { node = up_to; minus = term.minus; value = v.0 }) ∷ [], Some up_to, next) (map (term_of env) terms)
another_term_more env line left term terms so_far from next v up_to typed is =
    let rest = λ (c : List TypedTerm × Option Node × ℕ). fold_result (with_term line) c (map (term_of env) terms) in
    ap (λ s. with_term line (so_far, left, from) s >>= rest) (term_is env term)
    ∙ ap (λ r. (r >>= λ w. sum_node line left term.minus w.0 w.1 >>= λ n. Ok (so_far ++ roll-TypedTerm (record { node = n.0; minus = term.minus; value = w.0 }) ∷ [], Some n.0, n.1)) >>= rest) typed
    ∙ ap (λ r. (r >>= λ n. Ok (so_far ++ roll-TypedTerm (record { node = n.0; minus = term.minus; value = v.0 }) ∷ [], Some n.0, n.1)) >>= rest)
    (sum_node_is line left term.minus v.0 v.1 up_to next is)

another_factor_more : (env : Environment) (line : ℕ) (left : Option Node) (factor : ProductFactor) (factors : List ProductFactor) (so_far : List TypedFactor) (from next : ℕ)
    (v : TypedExpr × ℕ) (up_to : Node) → expression env factor.value from ≡ Ok v → IsProductNode line left factor.entrywise v.0 v.1 up_to next
    → fold_result (with_factor line) (so_far, left, from) (map (factor_of env) (factor ∷ factors))
    ≡ fold_result (with_factor line) (so_far ++ roll-TypedFactor (record { node = up_to; entrywise = factor.entrywise; value = v.0 }) ∷ [], Some up_to, next) (map (factor_of env) factors)
another_factor_more env line left factor factors so_far from next v up_to typed is =
    let rest = λ (c : List TypedFactor × Option Node × ℕ). fold_result (with_factor line) c (map (factor_of env) factors) in
    ap (λ s. with_factor line (so_far, left, from) s >>= rest) (factor_is env factor)
    ∙ ap (λ r. (r >>= λ w. product_node line left factor.entrywise w.0 w.1 >>= λ n. Ok (so_far ++ roll-TypedFactor (record { node = n.0; entrywise = factor.entrywise; value = w.0 }) ∷ [], Some n.0, n.1)) >>= rest) typed
    ∙ ap (λ r. (r >>= λ n. Ok (so_far ++ roll-TypedFactor (record { node = n.0; entrywise = factor.entrywise; value = v.0 }) ∷ [], Some n.0, n.1)) >>= rest)
    (product_node_is line left factor.entrywise v.0 v.1 up_to next is)

sum_more : (line from : ℕ) (terms : List SignedStep) (ts : List TypedTerm) (last : Node) (to : ℕ)
    → fold_result (with_term line) ([], None, from) terms ≡ Ok (ts, Some last, to)
    → sum line terms from ≡ chained line form.Sum (ts, Some last, to)
unfolding sum
sum_more line from terms ts last to is = ap (λ r. r >>= chained line form.Sum) is

product_more : (line from : ℕ) (factors : List SignedStep) (fs : List TypedFactor) (last : Node) (to : ℕ)
    → fold_result (with_factor line) ([], None, from) factors ≡ Ok (fs, Some last, to)
    → product line factors from ≡ chained line form.Product (fs, Some last, to)
unfolding product
product_more line from factors fs last to is = ap (λ r. r >>= chained line form.Product) is

mutual
  pub only_expression : (env : Environment) (e : tree.Expr) (t : TypedExpr) (from to : ℕ) → IsTyping env e t from to → expression env e from ≡ Ok (t, to)
  only_expression env e t from to (number line digits word type from' states typed) =
      by_form from' _ (number_is env line digits) (number_more line digits word type from' states typed)
  only_expression env e t from to (named line name args field field_args rank as_typed fs_typed what view type from' middle to' first second stands ranked) =
      by_form from' _ (reference_is env line name args field field_args rank)
      (reference_more env line name (map (expression env) args) field (map (expression env) field_args) rank from' (as_typed, middle) (fs_typed, to') (what, type)
      (only_expressions env args as_typed from' middle first) (only_expressions env field_args fs_typed middle to' second)
      (only_reference env name as_typed field fs_typed rank what view type stands ranked))
  only_expression env e t from to (call line name args rank as_typed host type from' to' first means arguments ranked) =
      by_form from' _ (reference_is env line name args None [] rank)
      (reference_more env line name (map (expression env) args) None [] rank from' (as_typed, to') ([], to') (referent.Host host.number, type)
      (only_expressions env args as_typed from' to' first) refl (only_call env name as_typed rank host type means arguments ranked))
  only_expression env e t from to (block line rows rs type from' to' typed function rule) =
      by_form from' _ (block_is env line rows) (block_more env.level line (map (row_of env) rows) from' (rs, to') type (only_rows env rows rs from' to' typed) function rule)
  only_expression env e t from to (summed line terms ts last from' to' typed) =
      by_form from' _ (sum_is env line terms) (sum_more line from' (map (term_of env) terms) ts last to' (only_terms env line None terms ts (Some last) from' to' typed []))
  only_expression env e t from to (multiplied line factors fs last from' to' typed) =
      by_form from' _ (product_is env line factors)
      (product_more line from' (map (factor_of env) factors) fs last to' (only_factors env line None factors fs (Some last) from' to' typed []))
  only_expression env e t from to (transposed line value v type from' to' typed rule) =
      by_form from' _ (transposed_is env line value) (unary_more transposed_rule form.Transposed line from' (expression env value) (v, to') type (only_expression env value v from' to' typed) rule)
  only_expression env e t from to (rescale line value scale v type from' to' typed rule) =
      by_form from' _ (rescale_is env line value scale)
      (unary_more (λ ty. rescale_rule ty (whole scale)) form.Rescale line from' (expression env value) (v, to') type (only_expression env value v from' to' typed) rule)
  only_expression env e t from to (quot line dividend divisor scale l r type from' middle to' first second rule) =
      by_form from' _ (quot_is env line dividend divisor scale)
      (binary_more (λ a b. quot_rule a b (whole scale)) form.Quot line from' (expression env dividend) (expression env divisor) (l, middle) (r, to') type
      (only_expression env dividend l from' middle first) (only_expression env divisor r middle to' second) rule)
  only_expression env e t from to (isqrt line value scale v type from' to' typed rule) =
      by_form from' _ (isqrt_is env line value scale)
      (unary_more (λ ty. isqrt_rule ty (whole scale)) form.Isqrt line from' (expression env value) (v, to') type (only_expression env value v from' to' typed) rule)
  only_expression env e t from to (dot line left right l r type from' middle to' first second rule) =
      by_form from' _ (dot_is env line left right)
      (binary_more dot_rule form.Dot line from' (expression env left) (expression env right) (l, middle) (r, to') type
      (only_expression env left l from' middle first) (only_expression env right r middle to' second) rule)

  pub only_expressions : (env : Environment) (es : List tree.Expr) (ts : List TypedExpr) (from to : ℕ) → AreTypings env es ts from to
      → several (map (expression env) es) from ≡ Ok (ts, to)
  only_expressions env es ts from to (none from') = refl
  only_expressions env es ts from to (one_more e es' t ts' from' middle to' here next) =
      several_more (expression env e) (map (expression env) es') from' (t, middle) (ts', to')
      (only_expression env e t from' middle here) (only_expressions env es' ts' middle to' next)

  only_rows : (env : Environment) (rows : List Row) (rs : List TypedRow) (from to : ℕ) → AreRowTypings env rows rs from to
      → several (map (row_of env) rows) from ≡ Ok (rs, to)
  only_rows env rows rs from to (no_row from') = refl
  only_rows env rows rs from to (another_row row rows' ts rs' from' middle to' here next) =
      several_more (row_of env row) (map (row_of env) rows') from' (roll-TypedRow (record { entries = ts }), middle) (rs', to')
      (row_is env row from' ∙ ap (λ r. r >>= λ es. Ok (roll-TypedRow (record { entries = es.0 }), es.1)) (only_expressions env row.entries ts from' middle here))
      (only_rows env rows' rs' middle to' next)

  only_terms : (env : Environment) (line : ℕ) (left : Option Node) (terms : List SumTerm) (ts : List TypedTerm) (last : Option Node) (from to : ℕ)
      → AreTermTypings env line left terms ts last from to → (so_far : List TypedTerm)
      → fold_result (with_term line) (so_far, left, from) (map (term_of env) terms) ≡ Ok (so_far ++ ts, last, to)
  only_terms env line left terms ts last from to (no_term line' left' from') so_far = ap (λ l. Ok (l, left', from')) (sym (append-nil so_far))
  only_terms env line left terms ts last from to (another_term line' left' last' term terms' v up_to ts' from' middle next to' here node more) so_far =
      let this = roll-TypedTerm (record { node = up_to; minus = term.minus; value = v }) in
      another_term_more env line' left' term terms' so_far from' next (v, middle) up_to (only_expression env term.value v from' middle here) node
      ∙ only_terms env line' (Some up_to) terms' ts' last' next to' more (so_far ++ this ∷ [])
      ∙ ap (λ l. Ok (l, last', to')) (append_assoc so_far (this ∷ []) ts')

  only_factors : (env : Environment) (line : ℕ) (left : Option Node) (factors : List ProductFactor) (fs : List TypedFactor) (last : Option Node) (from to : ℕ)
      → AreFactorTypings env line left factors fs last from to → (so_far : List TypedFactor)
      → fold_result (with_factor line) (so_far, left, from) (map (factor_of env) factors) ≡ Ok (so_far ++ fs, last, to)
  only_factors env line left factors fs last from to (no_factor line' left' from') so_far = ap (λ l. Ok (l, left', from')) (sym (append-nil so_far))
  only_factors env line left factors fs last from to (another_factor line' left' last' factor factors' v up_to fs' from' middle next to' here node more) so_far =
      let this = roll-TypedFactor (record { node = up_to; entrywise = factor.entrywise; value = v }) in
      another_factor_more env line' left' factor factors' so_far from' next (v, middle) up_to (only_expression env factor.value v from' middle here) node
      ∙ only_factors env line' (Some up_to) factors' fs' last' next to' more (so_far ++ this ∷ [])
      ∙ ap (λ l. Ok (l, last', to')) (append_assoc so_far (this ∷ []) fs')
