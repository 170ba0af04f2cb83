-- What the definition answers of each form of a function's statements that holds no others.
use Rattle.std.proofs.Common.{◌≡◌, ℕ, if◌then◌else◌, List, [], ◌∷◌, Option, Some, None, Ok, refl, ap, subst, ◌∙◌}
use Rattle.std.specs.Option.{is_some}
use Rattle.vocabulary.specs.Answers.{◌>>=◌}
use Rattle.sim_syntax.specs.declared.expression.Expr as tree
use Rattle.sim_syntax.specs.declared.condition.Cond.{Cond}
use Rattle.sim_syntax.specs.declared.statement.Stmt.TheVariants as stmt
use Rattle.sim_syntax.specs.declared.statement.Right.{Right}
use Rattle.sim_syntax.specs.declared.statement.Right.TheVariants as right
use Rattle.sim_syntax.specs.declared.statement.Target.{Target}
use Rattle.type_rules.specs.Rules.{same_rule}
use Rattle.type_rules.specs.declared.types.NodeType.{NodeType}
use Rattle.type_rules.specs.declared.types.TypeKind.TheVariants as kind
use Rattle.typed_tree.specs.declared.expression.TypedExpr.{TypedExpr}
use Rattle.typed_tree.specs.declared.condition.TypedCond.{TypedCond}
use Rattle.typed_tree.specs.declared.function.FunctionStmt.{FunctionStmt}
use Rattle.typed_tree.specs.declared.function.FunctionStmt.TheVariants as made
use Rattle.typed_tree.specs.declared.environment.Walk.{Walk}
use Rattle.typed_tree.specs.declared.names.Meaning.{Meaning}
use Rattle.typed_tree.specs.declared.names.Meaning.TheVariants as meaning
use Rattle.typed_tree.specs.Names.{Name, meaning_of}
use Rattle.typed_tree.specs.Steps.{at_line}
use Rattle.typed_tree.specs.Expressions.{type_of}
use Rattle.typed_tree.specs.Walking.{counted, with_nodes, naming_local}
use Rattle.typed_tree.specs.Functions.{new_name, local_var, local_target, assigned_local, local_assign, assertion}
use Rattle.typing_laws.specs.References.{Means}
use Rattle.typing_laws.specs.Expressions.{IsTyping}
use Rattle.typing_laws.specs.Conditions.{IsConditionTyping}
use Rattle.typing_laws.specs.Scopes.{IsNew, HasRoom, past}
use Rattle.typing_laws.specs.FunctionStatements.{IsStatementTyping}
use Rattle.typing_laws.proofs.Steps.{same_Ok, and_then}
use Rattle.typing_laws.proofs.ScopeFacts.{counted_and, counted_then, at_line_then, at_line_and, value_then, value_and, cond_then, cond_and}

-- ---- variables

none_new : (o : Option Meaning) → (if is_some o then Some kind.Twice else None) ≡ None → o ≡ None
none_new None is = refl
none_new (Some m) is = absurd (cc)

new_none : (o : Option Meaning) → o ≡ None → (if is_some o then Some kind.Twice else None) ≡ None
new_none o is = ap (λ m. if is_some m then Some kind.Twice else None) is

pub variable_typed : (line : ℕ) (names : List Name) (r : Right) (walk : Walk) (done : FunctionStmt × Walk)
    → local_var line names r walk ≡ Ok done → IsStatementTyping (stmt.Var line names r) done.0 walk done.1
unfolding local_var
variable_typed line (name ∷ []) (right.Value e) walk done is =
    let last : Walk → TypedExpr → FunctionStmt × Walk = λ after v. (made.Var line after.locals v, naming_local after name (meaning.Local after.locals (type_of v))) in
    let v = value_then e walk (λ v. counted line (new_name v.1 name) v.1 >>= λ after. Ok (last after v.0)) done is in
    let after = with_nodes walk v.0.1 in
    let c = counted_then line (new_name after name) after (λ a. Ok (last a v.0.0)) done v.2 in
    subst (λ d. IsStatementTyping (stmt.Var line (name ∷ []) (right.Value e)) d.0 walk d.1) (same_Ok (last (past after) v.0.0) done c.2)
    (IsStatementTyping.variable line name e v.0.0 walk v.0.1 v.1 (none_new (meaning_of walk.environment.names name) c.0) c.1)
variable_typed line names r walk done is = absurd (cc)

pub only_variable : (line : ℕ) (name : Name) (e : tree.Expr) (v : TypedExpr) (walk : Walk) (to : ℕ)
    → IsTyping walk.environment e v walk.nodes to → IsNew walk name → HasRoom walk
    → local_var line (name ∷ []) (right.Value e) walk
    ≡ Ok (made.Var line walk.locals v, naming_local (past (with_nodes walk to)) name (meaning.Local walk.locals (type_of v)))
unfolding local_var
only_variable line name e v walk to typed new few =
    let last : Walk → TypedExpr → FunctionStmt × Walk = λ after v. (made.Var line after.locals v, naming_local after name (meaning.Local after.locals (type_of v))) in
    value_and e walk (λ v. counted line (new_name v.1 name) v.1 >>= λ after. Ok (last after v.0)) v to _ typed
    (counted_and line (new_name (with_nodes walk to) name) (with_nodes walk to) (λ a. Ok (last a v)) _ (new_none (meaning_of walk.environment.names name) new) few refl)

-- ---- assignments

target_split : (m : Option Meaning) (t : ℕ × NodeType) → local_target m ≡ Ok t → m ≡ Some (meaning.Local t.0 t.1)
unfolding local_target
target_split (Some (meaning.Local local type)) t is = ap (λ d. Some (meaning.Local d.0 d.1)) (same_Ok (local, type) t is)
target_split (Some (meaning.Parameter local scale)) t is = absurd (cc)
target_split (Some (meaning.Own element)) t is = absurd (cc)
target_split (Some (meaning.Ends element count)) t is = absurd (cc)
target_split (Some (meaning.Result result type)) t is = absurd (cc)
target_split (Some (meaning.Turn local range)) t is = absurd (cc)
target_split other t is = absurd (cc)

assigned_split : (m : Option Meaning) (type : NodeType) (local : ℕ) → assigned_local m type ≡ Ok local
    → (t : NodeType) × (same : NodeType) × (m ≡ Some (meaning.Local local t)) × (same_rule t type ≡ Ok same)
unfolding assigned_local
assigned_split m type local is =
    let t = and_then (local_target m) (λ t. same_rule t.1 type >>= λ same. Ok t.0) local is in
    let s = and_then (same_rule t.0.1 type) (λ same. Ok t.0.0) local t.2 in
    (t.0.1, s.0, target_split m t.0 t.1 ∙ ap (λ l. Some (meaning.Local l t.0.1)) (same_Ok t.0.0 local s.2), s.1)

only_assigned : (m : Option Meaning) (type t same : NodeType) (local : ℕ) → m ≡ Some (meaning.Local local t) → same_rule t type ≡ Ok same
    → assigned_local m type ≡ Ok local
unfolding assigned_local local_target
only_assigned m type t same local means rule =
    ap (λ o. local_target o >>= λ w. same_rule w.1 type >>= λ s. Ok w.0) means ∙ ap (λ r. r >>= λ s. Ok local) rule

abbrev target_at : ℕ → Name → Option Name → Target
target_at own name field = record { line = own; name = name; field = field }

assignment_at : (line own : ℕ) (name : Name) (field : Option Name) (e : tree.Expr) (walk : Walk) (done : FunctionStmt × Walk)
    → local_assign line (target_at own name field ∷ []) (right.Value e) walk ≡ Ok done
    → IsStatementTyping (stmt.Assign line (target_at own name field ∷ []) (right.Value e)) done.0 walk done.1
unfolding local_assign
assignment_at line own name (Some field) e walk done is = absurd (cc)
assignment_at line own name None e walk done is =
    let v = value_then e walk (λ v. at_line line (assigned_local (meaning_of v.1.environment.names name) (type_of v.0)) >>= λ local. counted line None v.1
    >>= λ after. Ok (made.Assign line local v.0, after)) done is in
    let after = with_nodes walk v.0.1 in
    let l = at_line_then line (assigned_local (meaning_of walk.environment.names name) (type_of v.0.0)) (λ local. counted line None after >>= λ a. Ok (made.Assign line local v.0.0, a)) done v.2 in
    let a = assigned_split (meaning_of walk.environment.names name) (type_of v.0.0) l.0 l.1 in
    let c = counted_then line None after (λ a. Ok (made.Assign line l.0 v.0.0, a)) done l.2 in
    subst (λ d. IsStatementTyping (stmt.Assign line (target_at own name None ∷ []) (right.Value e)) d.0 walk d.1) (same_Ok (made.Assign line l.0 v.0.0, past after) done c.2)
    (IsStatementTyping.assignment line (target_at own name None) e v.0.0 l.0 a.0 a.1 walk v.0.1 v.1 refl a.2 a.3 c.1)

pub assignment_typed : (line : ℕ) (targets : List Target) (r : Right) (walk : Walk) (done : FunctionStmt × Walk)
    → local_assign line targets r walk ≡ Ok done → IsStatementTyping (stmt.Assign line targets r) done.0 walk done.1
unfolding local_assign
assignment_typed line (target ∷ []) (right.Value e) walk done is = assignment_at line target.line target.name target.field e walk done is
assignment_typed line targets r walk done is = absurd (cc)

pub only_assignment : (line : ℕ) (target : Target) (e : tree.Expr) (v : TypedExpr) (local : ℕ) (type same : NodeType) (walk : Walk) (to : ℕ)
    → IsTyping walk.environment e v walk.nodes to → target.field ≡ None → Means walk.environment target.name (meaning.Local local type)
    → same_rule type (type_of v) ≡ Ok same → HasRoom walk
    → local_assign line (target ∷ []) (right.Value e) walk ≡ Ok (made.Assign line local v, past (with_nodes walk to))
unfolding local_assign
only_assignment line target e v local type same walk to typed plain means rule few =
    ap (λ f. local_assign line (target_at target.line target.name f ∷ []) (right.Value e) walk) plain
    ∙ value_and e walk (λ v. at_line line (assigned_local (meaning_of v.1.environment.names target.name) (type_of v.0)) >>= λ local. counted line None v.1
    >>= λ after. Ok (made.Assign line local v.0, after)) v to _ typed
    (at_line_and line (assigned_local (meaning_of walk.environment.names target.name) (type_of v)) (λ l. counted line None (with_nodes walk to) >>= λ a. Ok (made.Assign line l v, a)) local _
    (only_assigned (meaning_of walk.environment.names target.name) (type_of v) type same local means rule)
    (counted_and line None (with_nodes walk to) (λ a. Ok (made.Assign line local v, a)) _ refl few refl))

-- ---- assertions

pub assertion_typed : (line : ℕ) (c : Cond) (walk : Walk) (done : FunctionStmt × Walk)
    → assertion line c walk ≡ Ok done → IsStatementTyping (stmt.Assert line c) done.0 walk done.1
unfolding assertion
assertion_typed line c walk done is =
    let t = cond_then c walk (λ t. counted line None t.1 >>= λ after. Ok (made.Assert line t.0, after)) done is in
    let after = with_nodes walk t.0.1 in
    let k = counted_then line None after (λ a. Ok (made.Assert line t.0.0, a)) done t.2 in
    subst (λ d. IsStatementTyping (stmt.Assert line c) d.0 walk d.1) (same_Ok (made.Assert line t.0.0, past after) done k.2)
    (IsStatementTyping.assertion line c t.0.0 walk t.0.1 t.1 k.1)

pub only_assertion : (line : ℕ) (c : Cond) (t : TypedCond) (walk : Walk) (to : ℕ) → IsConditionTyping walk.environment c t walk.nodes to → HasRoom walk
    → assertion line c walk ≡ Ok (made.Assert line t, past (with_nodes walk to))
unfolding assertion
only_assertion line c t walk to typed few =
    cond_and c walk (λ t. counted line None t.1 >>= λ after. Ok (made.Assert line t.0, after)) t to _ typed
    (counted_and line None (with_nodes walk to) (λ a. Ok (made.Assert line t, a)) _ refl few refl)
