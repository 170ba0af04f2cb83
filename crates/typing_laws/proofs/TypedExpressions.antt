-- What the definition answers of an expression is a typing of it.
use Rattle.std.proofs.Common.{◌≡◌, ◌⊎◌, inl, inr, ℕ, suc, List, [], ◌∷◌, ◌++◌, map, Option, Some, None, Ok, refl, sym, ap, subst, ◌∙◌, append_assoc}
use Rattle.std.proofs.lemmas.List.{append-nil}
use Rattle.vocabulary.specs.Answers.{◌>>=◌, fold_result}
use Rattle.sim_syntax.specs.declared.expression.Expr as tree
use Rattle.sim_syntax.specs.declared.expression.Expr.TheVariants as expr
use Rattle.sim_syntax.specs.declared.expression.Expr.TheOpen.{Expr-F, Row-F, SumTerm-F, ProductFactor-F}
use Rattle.sim_syntax.specs.declared.expression.Expr.TheFolds.{ind-Expr}
use Rattle.sim_syntax.specs.declared.expression.Row.{Row, roll-Row, out-roll-Row}
use Rattle.sim_syntax.specs.declared.expression.SumTerm.{SumTerm, roll-SumTerm, out-roll-SumTerm}
use Rattle.sim_syntax.specs.declared.expression.ProductFactor.{ProductFactor, roll-ProductFactor, out-roll-ProductFactor}
use Rattle.type_rules.specs.Rules.{rescale_rule, transposed_rule, quot_rule, isqrt_rule, dot_rule, block_rule}
use Rattle.type_rules.specs.declared.types.NodeType.{NodeType}
use Rattle.typed_tree.specs.declared.expression.Node.{Node}
use Rattle.typed_tree.specs.declared.expression.Referent.{Referent}
use Rattle.typed_tree.specs.declared.expression.TypedExpr.{TypedExpr}
use Rattle.typed_tree.specs.declared.expression.TypedForm.TheVariants as form
use Rattle.typed_tree.specs.declared.expression.TypedRow.{TypedRow, roll-TypedRow}
use Rattle.typed_tree.specs.declared.expression.TypedTerm.{TypedTerm, roll-TypedTerm}
use Rattle.typed_tree.specs.declared.expression.TypedFactor.{TypedFactor, roll-TypedFactor}
use Rattle.typed_tree.specs.declared.environment.Environment.{Environment}
use Rattle.typed_tree.specs.declared.environment.Level.{Level}
use Rattle.typed_tree.specs.declared.environment.Level.TheVariants.{Function, Main}
use Rattle.typed_tree.specs.Literals.{whole}
use Rattle.typed_tree.specs.Names.{Name}
use Rattle.typed_tree.specs.Steps.{Step, at_line, several}
use Rattle.typed_tree.specs.Expressions.{SignedStep, Chain, numbered, reference, reference_rule, block_of_rows, block_at, row_types, sum, product, chained, with_term, with_factor, sum_node, product_node, expression}
use Rattle.typing_laws.specs.Expressions.{IsTyping, AreTypings, AreRowTypings, AreTermTypings, AreFactorTypings, at_node, node_at}
use Rattle.typing_laws.specs.Expressions.AreTypings.{none, one_more}
use Rattle.typing_laws.specs.Expressions.AreRowTypings.{no_row, another_row}
use Rattle.typing_laws.specs.Expressions.AreTermTypings.{no_term, another_term}
use Rattle.typing_laws.specs.Expressions.AreFactorTypings.{no_factor, another_factor}
use Rattle.typing_laws.proofs.Steps.{same_Ok, and_then, at_line_Ok, several_split}
use Rattle.typing_laws.proofs.Nodes.{term_of, factor_of, row_of, term_is, factor_is, row_is, number_is, reference_is, block_is, sum_is, product_is, transposed_is, rescale_is, quot_is, isqrt_is, dot_is, unary_split, binary_split, number_split}
use Rattle.typing_laws.proofs.ReferenceFacts.{IsCall, Named, reference_stands}
use Rattle.typing_laws.proofs.Chains.{sum_node_split, product_node_split, chained_split}

-- what the definition answers of an expression is a typing of it
abbrev Sound : Environment → tree.Expr → Type 0
Sound env e = (from : ℕ) (done : TypedExpr × ℕ) → expression env e from ≡ Ok done → IsTyping env e done.0 from done.1

abbrev AreSound : Environment → List tree.Expr → Type 0
AreSound env es = (from : ℕ) (done : List TypedExpr × ℕ) → several (map (expression env) es) from ≡ Ok done → AreTypings env es done.0 from done.1

-- parts of which that is known
abbrev E : Environment → Type 0
E env = (e : tree.Expr) × Sound env e

abbrev F : Environment → Type 0
F env = (f : ProductFactor) × Sound env f.value

abbrev R : Environment → Type 0
R env = (r : Row) × AreSound env r.entries

abbrev T : Environment → Type 0
T env = (t : SumTerm) × Sound env t.value

-- ---- lists

are_sound : (env : Environment) (es : List (E env)) → AreSound env (map (λ e. e.0) es)
are_sound env [] from done is = subst (λ d. AreTypings env [] d.0 from d.1) (same_Ok ([], from) done is) (none from)
are_sound env (e ∷ es) from done is =
    let rest = map (λ x. x.0) es in
    let s = several_split (expression env e.0) (map (expression env) rest) from done is in
    subst (λ d. AreTypings env (e.0 ∷ rest) d.0 from d.1) s.4
    (one_more e.0 rest s.0.0 s.1.0 from s.0.1 s.1.1 (e.1 from s.0 s.2) (are_sound env es s.0.1 s.1 s.3))

rows_sound : (env : Environment) (rows : List (R env)) (from : ℕ) (done : List TypedRow × ℕ)
    → several (map (row_of env) (map (λ r. r.0) rows)) from ≡ Ok done → AreRowTypings env (map (λ r. r.0) rows) done.0 from done.1
rows_sound env [] from done is = subst (λ d. AreRowTypings env [] d.0 from d.1) (same_Ok ([], from) done is) (no_row from)
rows_sound env (row ∷ rows) from done is =
    let rest = map (λ x. x.0) rows in
    let s = several_split (row_of env row.0) (map (row_of env) rest) from done is in
    let es = and_then (several (map (expression env) row.0.entries) from) (λ es. Ok (roll-TypedRow (record { entries = es.0 }), es.1)) s.0
    (sym (row_is env row.0 from) ∙ s.2) in
    let here = same_Ok (roll-TypedRow (record { entries = es.0.0 }), es.0.1) s.0 es.2 in
    let others = rows_sound env rows s.0.1 s.1 s.3 in
    subst (λ d. AreRowTypings env (row.0 ∷ rest) d.0 from d.1) s.4
    (subst (λ d. AreRowTypings env (row.0 ∷ rest) (d.0 ∷ s.1.0) from s.1.1) here
    (another_row row.0 rest es.0.0 s.1.0 from es.0.1 s.1.1 (row.1 from es.0 es.1) (subst (λ n. AreRowTypings env rest s.1.0 n s.1.1) (sym (ap (λ d. d.1) here)) others)))

-- ---- sums and products

term_split : (env : Environment) (line : ℕ) (left : Option Node) (term : SumTerm) (terms : List SignedStep) (so_far : List TypedTerm) (from : ℕ) (done : Chain TypedTerm)
    → fold_result (with_term line) (so_far, left, from) (term_of env term ∷ terms) ≡ Ok done
    → (v : TypedExpr × ℕ) × (n : Node × ℕ) × (expression env term.value from ≡ Ok v) × (sum_node line left term.minus v.0 v.1 ≡ Ok n)
    × (fold_result (with_term line) (so_far ++ roll-TypedTerm (record { node = n.0; minus = term.minus; value = v.0 }) ∷ [], Some n.0, n.1) terms ≡ Ok done)
term_split env line left term terms so_far from done is =
    let made : TypedExpr × ℕ → Node × ℕ → Chain TypedTerm = λ v n. (so_far ++ roll-TypedTerm (record { node = n.0; minus = term.minus; value = v.0 }) ∷ [], Some n.0, n.1) in
    let first = and_then (with_term line (so_far, left, from) (term_of env term)) (λ c. fold_result (with_term line) c terms) done is in
    let v = and_then (expression env term.value from) (λ v. sum_node line left term.minus v.0 v.1 >>= λ n. Ok (made v n)) first.0
    (ap (with_term line (so_far, left, from)) (sym (term_is env term)) ∙ first.1) in
    let n = and_then (sum_node line left term.minus v.0.0 v.0.1) (λ n. Ok (made v.0 n)) first.0 v.2 in
    (v.0, n.0, v.1, n.1, ap (λ c. fold_result (with_term line) c terms) (same_Ok (made v.0 n.0) first.0 n.2) ∙ first.2)

terms_sound : (env : Environment) (line : ℕ) (terms : List (T env)) (so_far : List TypedTerm) (left : Option Node) (from : ℕ) (done : Chain TypedTerm)
    → fold_result (with_term line) (so_far, left, from) (map (term_of env) (map (λ t. t.0) terms)) ≡ Ok done
    → (ts : List TypedTerm) × (so_far ++ ts ≡ done.0) × AreTermTypings env line left (map (λ t. t.0) terms) ts done.1 from done.2
terms_sound env line [] so_far left from done is =
    let same = same_Ok (so_far, left, from) done is in
    ([], append-nil so_far ∙ ap (λ d. d.0) same, subst (λ d. AreTermTypings env line left [] [] d.1 from d.2) same (no_term line left from))
terms_sound env line (term ∷ terms) so_far left from done is =
    let rest = map (λ t. t.0) terms in
    let s = term_split env line left term.0 (map (term_of env) rest) so_far from done is in
    let this = roll-TypedTerm (record { node = s.1.0; minus = term.0.minus; value = s.0.0 }) in
    let more = terms_sound env line terms (so_far ++ this ∷ []) (Some s.1.0) s.1.1 done s.4 in (
      this ∷ more.0,
      sym (append_assoc so_far (this ∷ []) more.0) ∙ more.1,
      another_term line left done.1 term.0 rest s.0.0 s.1.0 more.0 from s.0.1 s.1.1 done.2 (term.1 from s.0 s.2) (sum_node_split line left term.0.minus s.0.0 s.0.1 s.1 s.3) more.2,
    )

factor_split : (env : Environment) (line : ℕ) (left : Option Node) (factor : ProductFactor) (factors : List SignedStep) (so_far : List TypedFactor) (from : ℕ) (done : Chain TypedFactor)
    → fold_result (with_factor line) (so_far, left, from) (factor_of env factor ∷ factors) ≡ Ok done
    → (v : TypedExpr × ℕ) × (n : Node × ℕ) × (expression env factor.value from ≡ Ok v) × (product_node line left factor.entrywise v.0 v.1 ≡ Ok n)
    × (fold_result (with_factor line) (so_far ++ roll-TypedFactor (record { node = n.0; entrywise = factor.entrywise; value = v.0 }) ∷ [], Some n.0, n.1) factors ≡ Ok done)
factor_split env line left factor factors so_far from done is =
    let made : TypedExpr × ℕ → Node × ℕ → Chain TypedFactor = λ v n. (so_far ++ roll-TypedFactor (record { node = n.0; entrywise = factor.entrywise; value = v.0 }) ∷ [], Some n.0, n.1) in
    let first = and_then (with_factor line (so_far, left, from) (factor_of env factor)) (λ c. fold_result (with_factor line) c factors) done is in
    let v = and_then (expression env factor.value from) (λ v. product_node line left factor.entrywise v.0 v.1 >>= λ n. Ok (made v n)) first.0
    (ap (with_factor line (so_far, left, from)) (sym (factor_is env factor)) ∙ first.1) in
    let n = and_then (product_node line left factor.entrywise v.0.0 v.0.1) (λ n. Ok (made v.0 n)) first.0 v.2 in
    (v.0, n.0, v.1, n.1, ap (λ c. fold_result (with_factor line) c factors) (same_Ok (made v.0 n.0) first.0 n.2) ∙ first.2)

factors_sound : (env : Environment) (line : ℕ) (factors : List (F env)) (so_far : List TypedFactor) (left : Option Node) (from : ℕ) (done : Chain TypedFactor)
    → fold_result (with_factor line) (so_far, left, from) (map (factor_of env) (map (λ f. f.0) factors)) ≡ Ok done
    → (fs : List TypedFactor) × (so_far ++ fs ≡ done.0) × AreFactorTypings env line left (map (λ f. f.0) factors) fs done.1 from done.2
factors_sound env line [] so_far left from done is =
    let same = same_Ok (so_far, left, from) done is in
    ([], append-nil so_far ∙ ap (λ d. d.0) same, subst (λ d. AreFactorTypings env line left [] [] d.1 from d.2) same (no_factor line left from))
factors_sound env line (factor ∷ factors) so_far left from done is =
    let rest = map (λ f. f.0) factors in
    let s = factor_split env line left factor.0 (map (factor_of env) rest) so_far from done is in
    let this = roll-TypedFactor (record { node = s.1.0; entrywise = factor.0.entrywise; value = s.0.0 }) in
    let more = factors_sound env line factors (so_far ++ this ∷ []) (Some s.1.0) s.1.1 done s.4 in (
      this ∷ more.0,
      sym (append_assoc so_far (this ∷ []) more.0) ∙ more.1,
      another_factor line left done.1 factor.0 rest s.0.0 s.1.0 more.0 from s.0.1 s.1.1 done.2 (factor.1 from s.0 s.2)
          (product_node_split line left factor.0.entrywise s.0.0 s.0.1 s.1 s.3) more.2,
    )

-- ---- forms

-- what the definition answers by a form
formed : {e f : Step ℕ TypedExpr} (from : ℕ) (done : TypedExpr × ℕ) → e ≡ f → e from ≡ Ok done → f from ≡ Ok done
formed from done form is = ap (λ s. s from) (sym form) ∙ is

number_sound : (env : Environment) (line : ℕ) (digits : List ℕ) → Sound env (expr.Number line digits)
number_sound env line digits from done is =
    let s = number_split line digits from done (formed from done (number_is env line digits) is) in
    subst (λ d. IsTyping env (expr.Number line digits) d.0 from d.1) s.4 (IsTyping.number line digits s.0 s.1 from s.2 s.3)

reference_split : (env : Environment) (line : ℕ) (name : Name) (args : List (Step ℕ TypedExpr)) (field : Option Name) (field_args : List (Step ℕ TypedExpr)) (rank : Option ℕ)
    (from : ℕ) (done : TypedExpr × ℕ) → reference env line name args field field_args rank from ≡ Ok done
    → (a : List TypedExpr × ℕ) × (f : List TypedExpr × ℕ) × (what : Referent × NodeType) × (several args from ≡ Ok a) × (several field_args a.1 ≡ Ok f)
    × (reference_rule env name a.0 field f.0 rank ≡ Ok what) × (numbered f.1 line what.1 (form.Ref what.0 a.0 f.0) ≡ done)
unfolding reference
reference_split env line name args field field_args rank from done is =
    let a = and_then (several args from) (λ b. several field_args b.1 >>= λ g. at_line line (reference_rule env name b.0 field g.0 rank)
    >>= λ w. Ok (numbered g.1 line w.1 (form.Ref w.0 b.0 g.0))) done is in
    let f = and_then (several field_args a.0.1) (λ g. at_line line (reference_rule env name a.0.0 field g.0 rank)
    >>= λ w. Ok (numbered g.1 line w.1 (form.Ref w.0 a.0.0 g.0))) done a.2 in
    let rule = reference_rule env name a.0.0 field f.0.0 rank in
    let w = and_then (at_line line rule) (λ w. Ok (numbered f.0.1 line w.1 (form.Ref w.0 a.0.0 f.0.0))) done f.2 in
    (a.0, f.0, w.0, a.1, f.1, at_line_Ok line rule w.0 w.1, same_Ok (numbered f.0.1 line w.0.1 (form.Ref w.0.0 a.0.0 f.0.0)) done w.2)

-- what has no typed expressions is empty
none_typed : (env : Environment) (es : List tree.Expr) (ts : List TypedExpr) (from to : ℕ) → AreTypings env es ts from to → ts ≡ [] → (es ≡ []) × (from ≡ to)
none_typed env es ts from to (none here) is = (refl, refl)
none_typed env es ts from to (one_more e rest t others here middle end first next) is = absurd (cc)

called_sound : (env : Environment) (line : ℕ) (name : Name) (args : List tree.Expr) (field : Option Name) (field_args : List tree.Expr) (rank : Option ℕ)
    (from middle to : ℕ) (as_typed fs_typed : List TypedExpr) (what : Referent × NodeType)
    → AreTypings env args as_typed from middle → AreTypings env field_args fs_typed middle to → IsCall env name as_typed field fs_typed rank what
    → IsTyping env (expr.Ref line name args field field_args rank) (at_node (node_at to line what.1) (form.Ref what.0 as_typed fs_typed)) from (suc to)
called_sound env line name args field field_args rank from middle to as_typed fs_typed what first second is =
    let nothing = none_typed env field_args fs_typed middle to second is.no_index in
    let made : TypedExpr = at_node (node_at to line what.1) (form.Ref what.0 as_typed []) in
    subst (λ f. IsTyping env (expr.Ref line name args f field_args rank) (at_node (node_at to line what.1) (form.Ref what.0 as_typed fs_typed)) from (suc to)) (sym is.no_field)
    (subst (λ fs. IsTyping env (expr.Ref line name args None field_args rank) (at_node (node_at to line what.1) (form.Ref what.0 as_typed fs)) from (suc to)) (sym is.no_index)
    (subst (λ es. IsTyping env (expr.Ref line name args None es rank) made from (suc to)) (sym nothing.0)
    (subst (λ w. IsTyping env (expr.Ref line name args None [] rank) (at_node (node_at to line what.1) (form.Ref w as_typed [])) from (suc to)) is.number
    (IsTyping.call line name args rank as_typed is.host what.1 from to (subst (λ n. AreTypings env args as_typed from n) nothing.1 first) is.means is.arguments is.is_ranked))))

reference_sound : (env : Environment) (line : ℕ) (name : Name) (args : List tree.Expr) (field : Option Name) (field_args : List tree.Expr) (rank : Option ℕ)
    → AreSound env args → AreSound env field_args → Sound env (expr.Ref line name args field field_args rank)
reference_sound env line name args field field_args rank first second from done is =
    let s = reference_split env line name (map (expression env) args) field (map (expression env) field_args) rank from done
    (formed from done (reference_is env line name args field field_args rank) is) in
    subst (λ d. IsTyping env (expr.Ref line name args field field_args rank) d.0 from d.1) s.6
    (by_name s.0 s.1 s.2 (first from s.0 s.3) (second s.0.1 s.1 s.4) (reference_stands env name s.0.0 field s.1.0 rank s.2 s.5))
  where
    by_name : (a f : List TypedExpr × ℕ) (what : Referent × NodeType) → AreTypings env args a.0 from a.1 → AreTypings env field_args f.0 a.1 f.1
        → Named env name a.0 field f.0 rank what ⊎ IsCall env name a.0 field f.0 rank what
        → IsTyping env (expr.Ref line name args field field_args rank) (numbered f.1 line what.1 (form.Ref what.0 a.0 f.0)).0 from (numbered f.1 line what.1 (form.Ref what.0 a.0 f.0)).1
    by_name a f what before after (inl r) = IsTyping.reference line name args field field_args rank a.0 f.0 what.0 r.0 what.1 from a.1 f.1 before after r.1 r.2
    by_name a f what before after (inr call) = called_sound env line name args field field_args rank from a.1 f.1 a.0 f.0 what before after call

in_function : (level : Level) (rows : List TypedRow) (type : NodeType) → block_at level rows ≡ Ok type → (level ≡ Function) × (block_rule (map row_types rows) ≡ Ok type)
in_function Function rows type is = (refl, is)
in_function Main rows type is = absurd (cc)

block_split : (level : Level) (line : ℕ) (rows : List (Step ℕ TypedRow)) (from : ℕ) (done : TypedExpr × ℕ) → block_of_rows level line rows from ≡ Ok done
    → (rs : List TypedRow × ℕ) × (type : NodeType) × (several rows from ≡ Ok rs) × (block_at level rs.0 ≡ Ok type) × (numbered rs.1 line type (form.Block rs.0) ≡ done)
unfolding block_of_rows
block_split level line rows from done is =
    let rs = and_then (several rows from) (λ r. at_line line (block_at level r.0) >>= λ t. Ok (numbered r.1 line t (form.Block r.0))) done is in
    let t = and_then (at_line line (block_at level rs.0.0)) (λ t. Ok (numbered rs.0.1 line t (form.Block rs.0.0))) done rs.2 in
    (rs.0, t.0, rs.1, at_line_Ok line (block_at level rs.0.0) t.0 t.1, same_Ok (numbered rs.0.1 line t.0 (form.Block rs.0.0)) done t.2)

block_sound : (env : Environment) (line : ℕ) (rows : List (R env)) → Sound env (expr.Block line (map (λ r. r.0) rows))
block_sound env line rows from done is =
    let plain = map (λ r. r.0) rows in
    let s = block_split env.level line (map (row_of env) plain) from done (formed from done (block_is env line plain) is) in
    let rule = in_function env.level s.0.0 s.1 s.3 in
    subst (λ d. IsTyping env (expr.Block line plain) d.0 from d.1) s.4
    (IsTyping.block line plain s.0.0 s.1 from s.0.1 (rows_sound env rows from s.0 s.2) rule.0 rule.1)

sum_split : (line from : ℕ) (terms : List SignedStep) (done : TypedExpr × ℕ) → sum line terms from ≡ Ok done
    → (chain : Chain TypedTerm) × (last : Node) × (fold_result (with_term line) ([], None, from) terms ≡ Ok chain) × (chain.1 ≡ Some last)
    × ((at_node last (form.Sum chain.0), chain.2) ≡ done)
unfolding sum
sum_split line from terms done is =
    let c = and_then (fold_result (with_term line) ([], None, from) terms) (chained line form.Sum) done is in
    let l = chained_split line form.Sum c.0 done c.2 in
    (c.0, l.0, c.1, l.1, l.2)

sum_sound : (env : Environment) (line : ℕ) (terms : List (T env)) → Sound env (expr.Sum line (map (λ t. t.0) terms))
sum_sound env line terms from done is =
    let plain = map (λ t. t.0) terms in
    let s = sum_split line from (map (term_of env) plain) done (formed from done (sum_is env line plain) is) in
    let ts = terms_sound env line terms [] None from s.0 s.2 in
    subst (λ d. IsTyping env (expr.Sum line plain) d.0 from d.1) s.4
    (subst (λ l. IsTyping env (expr.Sum line plain) (at_node s.1 (form.Sum l)) from s.0.2) ts.1
    (IsTyping.sum line plain ts.0 s.1 from s.0.2 (subst (λ n. AreTermTypings env line None plain ts.0 n from s.0.2) s.3 ts.2)))

product_split : (line from : ℕ) (factors : List SignedStep) (done : TypedExpr × ℕ) → product line factors from ≡ Ok done
    → (chain : Chain TypedFactor) × (last : Node) × (fold_result (with_factor line) ([], None, from) factors ≡ Ok chain) × (chain.1 ≡ Some last)
    × ((at_node last (form.Product chain.0), chain.2) ≡ done)
unfolding product
product_split line from factors done is =
    let c = and_then (fold_result (with_factor line) ([], None, from) factors) (chained line form.Product) done is in
    let l = chained_split line form.Product c.0 done c.2 in
    (c.0, l.0, c.1, l.1, l.2)

product_sound : (env : Environment) (line : ℕ) (factors : List (F env)) → Sound env (expr.Product line (map (λ f. f.0) factors))
product_sound env line factors from done is =
    let plain = map (λ f. f.0) factors in
    let s = product_split line from (map (factor_of env) plain) done (formed from done (product_is env line plain) is) in
    let fs = factors_sound env line factors [] None from s.0 s.2 in
    subst (λ d. IsTyping env (expr.Product line plain) d.0 from d.1) s.4
    (subst (λ l. IsTyping env (expr.Product line plain) (at_node s.1 (form.Product l)) from s.0.2) fs.1
    (IsTyping.product line plain fs.0 s.1 from s.0.2 (subst (λ n. AreFactorTypings env line None plain fs.0 n from s.0.2) s.3 fs.2)))

transposed_sound : (env : Environment) (line : ℕ) (value : tree.Expr) → Sound env value → Sound env (expr.Transposed line value)
transposed_sound env line value sound from done is =
    let s = unary_split transposed_rule form.Transposed line from (expression env value) done (formed from done (transposed_is env line value) is) in
    subst (λ d. IsTyping env (expr.Transposed line value) d.0 from d.1) s.4 (IsTyping.transposed line value s.0.0 s.1 from s.0.1 (sound from s.0 s.2) s.3)

rescale_sound : (env : Environment) (line : ℕ) (value : tree.Expr) (scale : List ℕ) → Sound env value → Sound env (expr.Rescale line value scale)
rescale_sound env line value scale sound from done is =
    let s = unary_split (λ t. rescale_rule t (whole scale)) form.Rescale line from (expression env value) done (formed from done (rescale_is env line value scale) is) in
    subst (λ d. IsTyping env (expr.Rescale line value scale) d.0 from d.1) s.4 (IsTyping.rescale line value scale s.0.0 s.1 from s.0.1 (sound from s.0 s.2) s.3)

isqrt_sound : (env : Environment) (line : ℕ) (value : tree.Expr) (scale : List ℕ) → Sound env value → Sound env (expr.Isqrt line value scale)
isqrt_sound env line value scale sound from done is =
    let s = unary_split (λ t. isqrt_rule t (whole scale)) form.Isqrt line from (expression env value) done (formed from done (isqrt_is env line value scale) is) in
    subst (λ d. IsTyping env (expr.Isqrt line value scale) d.0 from d.1) s.4 (IsTyping.isqrt line value scale s.0.0 s.1 from s.0.1 (sound from s.0 s.2) s.3)

quot_sound : (env : Environment) (line : ℕ) (dividend divisor : tree.Expr) (scale : List ℕ) → Sound env dividend → Sound env divisor
    → Sound env (expr.Quot line dividend divisor scale)
quot_sound env line dividend divisor scale first second from done is =
    let s = binary_split (λ l r. quot_rule l r (whole scale)) form.Quot line from (expression env dividend) (expression env divisor) done
    (formed from done (quot_is env line dividend divisor scale) is) in
    subst (λ d. IsTyping env (expr.Quot line dividend divisor scale) d.0 from d.1) s.6
    (IsTyping.quot line dividend divisor scale s.0.0 s.1.0 s.2 from s.0.1 s.1.1 (first from s.0 s.3) (second s.0.1 s.1 s.4) s.5)

dot_sound : (env : Environment) (line : ℕ) (left right : tree.Expr) → Sound env left → Sound env right → Sound env (expr.Dot line left right)
dot_sound env line left right first second from done is =
    let s = binary_split dot_rule form.Dot line from (expression env left) (expression env right) done (formed from done (dot_is env line left right) is) in
    subst (λ d. IsTyping env (expr.Dot line left right) d.0 from d.1) s.6
    (IsTyping.dot line left right s.0.0 s.1.0 s.2 from s.0.1 s.1.1 (first from s.0 s.3) (second s.0.1 s.1 s.4) s.5)

-- ---- trees

-- one node, without the facts
abbrev plain : (env : Environment) → Expr-F (E env) (F env) (R env) (T env) → Expr-F tree.Expr ProductFactor Row SumTerm
plain env y = tree.map-Expr (E env) (F env) (R env) (T env) tree.Expr ProductFactor Row SumTerm (λ e. e.0) (λ f. f.0) (λ r. r.0) (λ t. t.0) y

node_sound : (env : Environment) (y : Expr-F (E env) (F env) (R env) (T env)) → Sound env (tree.roll-Expr (plain env y))
node_sound env (Expr-F.Number line digits) = subst (Sound env) (sym (expr.rolls-Number line digits)) (number_sound env line digits)
node_sound env (Expr-F.Ref line name args field field_args rank) =
    let a = map (λ e. e.0) args in
    let f = map (λ e. e.0) field_args in
    subst (Sound env) (sym (expr.rolls-Ref line name a field f rank)) (reference_sound env line name a field f rank (are_sound env args) (are_sound env field_args))
node_sound env (Expr-F.Block line rows) = subst (Sound env) (sym (expr.rolls-Block line (map (λ r. r.0) rows))) (block_sound env line rows)
node_sound env (Expr-F.Sum line terms) = subst (Sound env) (sym (expr.rolls-Sum line (map (λ t. t.0) terms))) (sum_sound env line terms)
node_sound env (Expr-F.Product line factors) = subst (Sound env) (sym (expr.rolls-Product line (map (λ f. f.0) factors))) (product_sound env line factors)
node_sound env (Expr-F.Transposed line value) = subst (Sound env) (sym (expr.rolls-Transposed line value.0)) (transposed_sound env line value.0 value.1)
node_sound env (Expr-F.Rescale line value scale) = subst (Sound env) (sym (expr.rolls-Rescale line value.0 scale)) (rescale_sound env line value.0 scale value.1)
node_sound env (Expr-F.Quot line dividend divisor scale) =
    subst (Sound env) (sym (expr.rolls-Quot line dividend.0 divisor.0 scale)) (quot_sound env line dividend.0 divisor.0 scale dividend.1 divisor.1)
node_sound env (Expr-F.Isqrt line value scale) = subst (Sound env) (sym (expr.rolls-Isqrt line value.0 scale)) (isqrt_sound env line value.0 scale value.1)
node_sound env (Expr-F.Dot line left right) = subst (Sound env) (sym (expr.rolls-Dot line left.0 right.0)) (dot_sound env line left.0 right.0 left.1 right.1)

factor_sound : (env : Environment) (y : ProductFactor-F (E env) (F env) (R env) (T env))
    → Sound env (roll-ProductFactor (record { line = y.line; entrywise = y.entrywise; value = y.value.0 })).value
factor_sound env y =
    subst (Sound env) (sym (ap (λ z. z.value) (out-roll-ProductFactor (record { line = y.line; entrywise = y.entrywise; value = y.value.0 })))) y.value.1

term_sound : (env : Environment) (y : SumTerm-F (E env) (F env) (R env) (T env))
    → Sound env (roll-SumTerm (record { line = y.line; minus = y.minus; value = y.value.0 })).value
term_sound env y =
    subst (Sound env) (sym (ap (λ z. z.value) (out-roll-SumTerm (record { line = y.line; minus = y.minus; value = y.value.0 })))) y.value.1

row_sound : (env : Environment) (y : Row-F (E env) (F env) (R env) (T env))
    → AreSound env (roll-Row (record { line = y.line; entries = map (λ e. e.0) y.entries })).entries
row_sound env y =
    subst (AreSound env) (sym (ap (λ z. z.entries) (out-roll-Row (record { line = y.line; entries = map (λ e. e.0) y.entries })))) (are_sound env y.entries)

pub expression_typed : (env : Environment) (e : tree.Expr) → Sound env e
expression_typed env = ind-Expr
    (λ e. Sound env e) (λ f. Sound env f.value) (λ r. AreSound env r.entries) (λ t. Sound env t.value)
    (λ x y is. subst (λ z. Sound env (tree.roll-Expr z)) is (node_sound env y))
    (λ x y is. subst (λ z. Sound env (roll-ProductFactor z).value) is (factor_sound env y))
    (λ x y is. subst (λ z. AreSound env (roll-Row z).entries) is (row_sound env y))
    (λ x y is. subst (λ z. Sound env (roll-SumTerm z).value) is (term_sound env y))

pub expressions_typed : (env : Environment) (es : List tree.Expr) → AreSound env es
expressions_typed env [] from done is = subst (λ d. AreTypings env [] d.0 from d.1) (same_Ok ([], from) done is) (none from)
expressions_typed env (e ∷ es) from done is =
    let s = several_split (expression env e) (map (expression env) es) from done is in
    subst (λ d. AreTypings env (e ∷ es) d.0 from d.1) s.4
    (one_more e es s.0.0 s.1.0 from s.0.1 s.1.1 (expression_typed env e from s.0 s.2) (expressions_typed env es s.0.1 s.1 s.3))
