-- What the definition answers of each form of the main procedure's statements.
use Rattle.std.proofs.Common.{◌≡◌, ℕ, ◌==◌, Bool, true, false, not, ◌&&◌, List, [], ◌∷◌, length, map, None, Ok, refl, ap, subst, ◌∙◌}
use Rattle.std.specs.List.{range_with_len}
use Rattle.std.proofs.lemmas.Bool.{eqb-true, eq-eqb, not-false, not_from_true}
use Rattle.vocabulary.specs.Answers.{◌>>=◌, all_ok}
use Rattle.sim_syntax.specs.declared.expression.Expr as tree
use Rattle.sim_syntax.specs.declared.condition.Cond.{Cond}
use Rattle.sim_syntax.specs.declared.statement.Stmt.TheVariants as stmt
use Rattle.sim_syntax.specs.declared.statement.Right.{Right}
use Rattle.sim_syntax.specs.declared.statement.Target.{Target}
use Rattle.type_rules.specs.Types.{is_scalar, scale_of}
use Rattle.type_rules.specs.Rules.{earlier}
use Rattle.type_rules.specs.declared.types.BlockShape.TheVariants.{Number}
use Rattle.type_rules.specs.declared.types.NodeType.{NodeType}
use Rattle.type_rules.specs.declared.types.NodeType.TheVariants.{Local}
use Rattle.type_rules.specs.declared.types.TypeKind.{TypeKind}
use Rattle.type_rules.specs.declared.types.TypeKind.TheVariants as kind
use Rattle.typed_tree.specs.declared.expression.TypedExpr.{TypedExpr}
use Rattle.typed_tree.specs.declared.condition.TypedCond.{TypedCond}
use Rattle.typed_tree.specs.declared.main_procedure.MainStmt.{MainStmt}
use Rattle.typed_tree.specs.declared.main_procedure.MainStmt.TheVariants as made
use Rattle.typed_tree.specs.declared.main_procedure.RightSide.{RightSide}
use Rattle.typed_tree.specs.declared.main_procedure.TypedRight.{TypedRight}
use Rattle.typed_tree.specs.declared.main_procedure.TypedTarget.{TypedTarget}
use Rattle.typed_tree.specs.declared.environment.Walk.{Walk}
use Rattle.typed_tree.specs.declared.names.Meaning.TheVariants as meaning
use Rattle.typed_tree.specs.Names.{Known, Name, meaning_of}
use Rattle.typed_tree.specs.Steps.{Step, several}
use Rattle.typed_tree.specs.Expressions.{type_of}
use Rattle.typed_tree.specs.Walking.{value, counted, inside, scoped, with_nodes, naming_local, is_visible}
use Rattle.typed_tree.specs.MainProcedure.{are_new, names_fault, with_variables, main_var, aim_of, targets_fault, all_targets, main_assign, main_while, turns_rule, with_counter, main_for, main_choice, main_assertion}
use Rattle.typing_laws.specs.Expressions.{IsTyping}
use Rattle.typing_laws.specs.Conditions.{IsConditionTyping}
use Rattle.typing_laws.specs.Scopes.{IsNew, HasRoom, past, leaving}
use Rattle.typing_laws.specs.MainStatements.{IsRightTyping, AreDeclared, AreTargets, IsMainTyping}
use Rattle.typing_laws.proofs.Steps.{same_Ok, and_then, then_is}
use Rattle.typing_laws.proofs.NoFault.{none_first, first_none, none_earlier}
use Rattle.typing_laws.proofs.ScopeFacts.{Extends, known_not, counted_and, counted_then, at_line_then, at_line_and, value_and, cond_then, cond_and, inside_and}
use Rattle.typing_laws.proofs.MapFacts.{both_true, scalar_is}
use Rattle.typing_laws.proofs.RightFacts.{right_then, right_and}
use Rattle.typing_laws.proofs.NewNames.{declared_typed, only_declared, same_first}
use Rattle.typing_laws.proofs.TargetFacts.{targets_typed, only_targets}

-- ---- new variables

abbrev count_test : List Name → ℕ → List (TypeKind × Bool)
count_test names values = (kind.Shape, not (length names == values)) ∷ []

none_names : (known : Known) (names : List Name) (values : ℕ) → names_fault known names values ≡ None → (are_new known [] names ≡ true) × (length names ≡ values)
unfolding names_fault
none_names known names values is =
    let a = none_first kind.Twice (not (are_new known [] names)) (count_test names values) is in
    let b = none_first kind.Shape (not (length names == values)) [] a.1 in
    (not-false (are_new known [] names) a.0, eqb-true (length names) values (not-false (length names == values) b.0))

names_none : (known : Known) (names : List Name) (values : ℕ) → are_new known [] names ≡ true → length names ≡ values → names_fault known names values ≡ None
unfolding names_fault
names_none known names values new count =
    first_none kind.Twice (not (are_new known [] names)) (count_test names values) (not_from_true (are_new known [] names) new)
    (first_none kind.Shape (not (length names == values)) [] (not_from_true (length names == values) (eq-eqb (length names) values count)) refl)

pub variables_typed : (line : ℕ) (names : List Name) (r : Right) (walk : Walk) (done : MainStmt × Walk)
    → main_var line names r walk ≡ Ok done → IsMainTyping (stmt.Var line names r) done.0 walk done.1
unfolding main_var
variables_typed line names r walk done is =
    let last : RightSide → Walk → MainStmt × Walk =
    λ s after. (made.Var line (range_with_len (length after.environment.declarations.variables) (length names)) s.typed, with_variables after names s.types) in
    let s = right_then r walk (λ r. counted line (earlier r.0.fault (names_fault r.1.environment.names names (length r.0.types))) r.1 >>= λ after. Ok (last r.0 after)) done is in
    let after = with_nodes walk s.1 in
    let c = counted_then line (earlier s.0.fault (names_fault walk.environment.names names (length s.0.types))) after (λ a. Ok (last s.0 a)) done s.3 in
    let faults = none_earlier s.0.fault (names_fault walk.environment.names names (length s.0.types)) c.0 in
    let n = none_names walk.environment.names names (length s.0.types) faults.1 in
    subst (λ d. IsMainTyping (stmt.Var line names r) d.0 walk d.1) (same_Ok (last s.0 (past after)) done c.2)
    (IsMainTyping.variables line names r s.0.typed s.0.types (range_with_len (length walk.environment.declarations.variables) (length names)) walk s.1
    (with_variables (past after) names s.0.types) (s.2 faults.0) c.1
    (declared_typed names s.0.types walk.environment.names [] (past after) (same_first walk.environment.names) n.0 n.1))

pub only_variables : (line : ℕ) (names : List Name) (r : Right) (side : TypedRight) (types : List NodeType) (numbers : List ℕ) (walk : Walk) (to : ℕ) (after : Walk)
    → IsRightTyping walk.environment r side types walk.nodes to → HasRoom walk → AreDeclared names types numbers (past (with_nodes walk to)) after
    → main_var line names r walk ≡ Ok (made.Var line numbers side, after)
unfolding main_var
only_variables line names r side types numbers walk to after typed room declared =
    let last : RightSide → Walk → MainStmt × Walk =
    λ s a. (made.Var line (range_with_len (length a.environment.declarations.variables) (length names)) s.typed, with_variables a names s.types) in
    let d = only_declared names types numbers (past (with_nodes walk to)) after declared walk.environment.names [] (same_first walk.environment.names) in
    right_and r walk (λ r. counted line (earlier r.0.fault (names_fault r.1.environment.names names (length r.0.types))) r.1 >>= λ after. Ok (last r.0 after)) side types to _ typed
    (counted_and line (names_fault walk.environment.names names (length types)) (with_nodes walk to) (λ a. Ok (last (record { typed = side; types = types; fault = None }) a)) _
    (names_none walk.environment.names names (length types) d.new d.count) room
    (λ i. Ok (made.Var line (d.numbered i) side, d.after_is i)))

-- ---- assignments

pub assignment_typed : (line : ℕ) (targets : List Target) (r : Right) (walk : Walk) (done : MainStmt × Walk)
    → main_assign line targets r walk ≡ Ok done → IsMainTyping (stmt.Assign line targets r) done.0 walk done.1
unfolding main_assign
assignment_typed line targets r walk done is =
    let s = right_then r walk (λ r. counted line (targets_fault r.0.fault (map (aim_of r.1.environment) targets) r.0.types) r.1
    >>= λ after. all_targets line (map (aim_of r.1.environment) targets) >>= λ aimed. Ok (made.Assign line aimed r.0.typed, after)) done is in
    let after = with_nodes walk s.1 in
    let aims = map (aim_of walk.environment) targets in
    let c = counted_then line (targets_fault s.0.fault aims s.0.types) after
    (λ a. all_targets line aims >>= λ aimed. Ok (made.Assign line aimed s.0.typed, a)) done s.3 in
    let a = and_then (all_targets line aims) (λ aimed. Ok (made.Assign line aimed s.0.typed, past after)) done c.2 in
    let l = at_line_then line (all_ok aims) (λ found. Ok (map (λ aim. aim.0) found)) a.0 a.1 in
    let t = targets_typed walk.environment targets s.0.types s.0.fault l.0 c.0 l.1 in
    subst (λ d. IsMainTyping (stmt.Assign line targets r) d.0 walk d.1)
    (ap (λ us. (made.Assign line us s.0.typed, past after)) (same_Ok (map (λ aim. aim.0) l.0) a.0 l.2) ∙ same_Ok (made.Assign line a.0 s.0.typed, past after) done a.2)
    (IsMainTyping.assignment line targets r s.0.typed s.0.types (map (λ aim. aim.0) l.0) walk s.1 (s.2 t.0) t.1 c.1)

pub only_assignment : (line : ℕ) (targets : List Target) (r : Right) (side : TypedRight) (types : List NodeType) (us : List TypedTarget) (walk : Walk) (to : ℕ)
    → IsRightTyping walk.environment r side types walk.nodes to → AreTargets walk.environment targets types us → HasRoom walk
    → main_assign line targets r walk ≡ Ok (made.Assign line us side, past (with_nodes walk to))
unfolding main_assign
only_assignment line targets r side types us walk to typed are room =
    let aims = map (aim_of walk.environment) targets in
    let a = only_targets walk.environment targets types us are in
    right_and r walk (λ r. counted line (targets_fault r.0.fault (map (aim_of r.1.environment) targets) r.0.types) r.1
    >>= λ after. all_targets line (map (aim_of r.1.environment) targets) >>= λ aimed. Ok (made.Assign line aimed r.0.typed, after)) side types to _ typed
    (counted_and line (targets_fault None aims types) (with_nodes walk to)
    (λ x. all_targets line aims >>= λ aimed. Ok (made.Assign line aimed side, x)) _ (a.faultless None refl) room
    (then_is (all_targets line aims) (λ aimed. Ok (made.Assign line aimed side, past (with_nodes walk to))) us _
    (at_line_and line (all_ok aims) (λ found. Ok (map (λ aim. aim.0) found)) a.found _ a.all (ap (λ l. Ok l) a.targets)) refl))

-- ---- bounds

abbrev scale_test : NodeType → NodeType → List (TypeKind × Bool)
scale_test from to = (kind.Scale, not ((scale_of from == 0) && (scale_of to == 0))) ∷ []

abbrev shape_test : NodeType → NodeType → List (TypeKind × Bool)
shape_test from to = (kind.Shape, not (is_scalar from && is_scalar to)) ∷ scale_test from to

pub none_turns : (taken : Bool) (from to : NodeType) → turns_rule taken from to ≡ None → (taken ≡ false) × (from ≡ Local Number 0) × (to ≡ Local Number 0)
unfolding turns_rule
none_turns taken from to is =
    let a = none_first kind.Twice taken (shape_test from to) is in
    let b = none_first kind.Shape (not (is_scalar from && is_scalar to)) (scale_test from to) a.1 in
    let c = none_first kind.Scale (not ((scale_of from == 0) && (scale_of to == 0))) [] b.1 in
    let scalars = both_true (is_scalar from) (is_scalar to) (not-false (is_scalar from && is_scalar to) b.0) in
    let scales = both_true (scale_of from == 0) (scale_of to == 0) (not-false ((scale_of from == 0) && (scale_of to == 0)) c.0) in
    (a.0, scalar_is from scalars.0 ∙ ap (Local Number) (eqb-true (scale_of from) 0 scales.0), scalar_is to scalars.1 ∙ ap (Local Number) (eqb-true (scale_of to) 0 scales.1))

turns_none : (taken : Bool) (from to : NodeType) → taken ≡ false → from ≡ Local Number 0 → to ≡ Local Number 0 → turns_rule taken from to ≡ None
unfolding turns_rule
turns_none taken from to new from_is to_is =
    ap (λ t. turns_rule taken t to) from_is ∙ ap (turns_rule taken (Local Number 0)) to_is
    ∙ first_none kind.Twice taken (shape_test (Local Number 0) (Local Number 0)) new refl

-- ---- loops and choices, by what their lists answer

pub only_while : (line : ℕ) (c : Cond) (body : List (Step Walk MainStmt)) (tested : TypedCond) (done : List MainStmt) (walk : Walk) (to : ℕ) (inner : Walk)
    → IsConditionTyping walk.environment c tested walk.nodes to → several body (with_nodes walk to) ≡ Ok (done, inner) → Extends (with_nodes walk to) inner → HasRoom inner
    → main_while line c body walk ≡ Ok (made.While line tested done, past (leaving walk inner))
unfolding main_while
only_while line c body tested done walk to inner typed is extends room =
    cond_and c walk (λ t. scoped body t.1 >>= λ d. counted line None d.1 >>= λ a. Ok (made.While line t.0 d.0, a)) tested to _ typed
    (inside_and (λ w. w) body (with_nodes walk to) (λ d. counted line None d.1 >>= λ a. Ok (made.While line tested d.0, a)) (done, inner) _ is extends
    (counted_and line None (leaving walk inner) (λ a. Ok (made.While line tested done, a)) _ refl room refl))

pub only_for : (line : ℕ) (name : Name) (from to : tree.Expr) (f t : TypedExpr) (body : List (Step Walk MainStmt)) (done : List MainStmt) (walk : Walk) (middle end : ℕ) (inner : Walk)
    → IsTyping walk.environment from f walk.nodes middle → IsTyping walk.environment to t middle end
    → type_of f ≡ Local Number 0 → type_of t ≡ Local Number 0 → IsNew walk name
    → several body (naming_local (with_nodes walk end) name (meaning.Counter walk.locals)) ≡ Ok (done, inner) → Extends (with_nodes walk end) inner → HasRoom inner
    → main_for line name from to body walk ≡ Ok (made.For line walk.locals f t done, past (leaving walk inner))
unfolding main_for
only_for line name from to f t body done walk middle end inner first second f_is t_is new is extends room =
    value_and from walk (λ f. value to f.1 >>= λ t. inside (with_counter name) body t.1
    >>= λ d. counted line (turns_rule (is_visible t.1 name) (type_of f.0) (type_of t.0)) d.1 >>= λ a. Ok (made.For line t.1.locals f.0 t.0 d.0, a)) f middle _ first
    (value_and to (with_nodes walk middle) (λ t. inside (with_counter name) body t.1
    >>= λ d. counted line (turns_rule (is_visible t.1 name) (type_of f) (type_of t.0)) d.1 >>= λ a. Ok (made.For line t.1.locals f t.0 d.0, a)) t end _ second
    (inside_and (with_counter name) body (with_nodes walk end)
    (λ d. counted line (turns_rule (is_visible walk name) (type_of f) (type_of t)) d.1 >>= λ a. Ok (made.For line walk.locals f t d.0, a)) (done, inner) _ is extends
    (counted_and line (turns_rule (is_visible walk name) (type_of f) (type_of t)) (leaving walk inner) (λ a. Ok (made.For line walk.locals f t done, a)) _
    (turns_none (is_visible walk name) (type_of f) (type_of t) (known_not (meaning_of walk.environment.names name) new) f_is t_is) room refl)))

pub only_choice : (line : ℕ) (c : Cond) (body otherwise : List (Step Walk MainStmt)) (tested : TypedCond) (done other : List MainStmt) (walk : Walk) (to : ℕ) (first second : Walk)
    → IsConditionTyping walk.environment c tested walk.nodes to → several body (with_nodes walk to) ≡ Ok (done, first) → Extends (with_nodes walk to) first
    → several otherwise (leaving walk first) ≡ Ok (other, second) → Extends (leaving walk first) second → HasRoom second
    → main_choice line c body otherwise walk ≡ Ok (made.If line tested done other, past (leaving walk second))
unfolding main_choice
only_choice line c body otherwise tested done other walk to first second typed one one_extends two two_extends room =
    cond_and c walk (λ t. scoped body t.1 >>= λ d. scoped otherwise d.1 >>= λ o. counted line None o.1 >>= λ a. Ok (made.If line t.0 d.0 o.0, a)) tested to _ typed
    (inside_and (λ w. w) body (with_nodes walk to) (λ d. scoped otherwise d.1 >>= λ o. counted line None o.1 >>= λ a. Ok (made.If line tested d.0 o.0, a)) (done, first) _ one one_extends
    (inside_and (λ w. w) otherwise (leaving walk first) (λ o. counted line None o.1 >>= λ a. Ok (made.If line tested done o.0, a)) (other, second) _ two two_extends
    (counted_and line None (leaving walk second) (λ a. Ok (made.If line tested done other, a)) _ refl room refl)))

-- ---- assertions

pub assertion_typed : (line : ℕ) (c : Cond) (walk : Walk) (done : MainStmt × Walk) → main_assertion line c walk ≡ Ok done → IsMainTyping (stmt.Assert line c) done.0 walk done.1
unfolding main_assertion
assertion_typed line c walk done is =
    let t = cond_then c walk (λ t. counted line None t.1 >>= λ after. Ok (made.Assert line t.0, after)) done is in
    let after = with_nodes walk t.0.1 in
    let k = counted_then line None after (λ a. Ok (made.Assert line t.0.0, a)) done t.2 in
    subst (λ d. IsMainTyping (stmt.Assert line c) d.0 walk d.1) (same_Ok (made.Assert line t.0.0, past after) done k.2)
    (IsMainTyping.assertion line c t.0.0 walk t.0.1 t.1 k.1)

pub only_assertion : (line : ℕ) (c : Cond) (t : TypedCond) (walk : Walk) (to : ℕ) → IsConditionTyping walk.environment c t walk.nodes to → HasRoom walk
    → main_assertion line c walk ≡ Ok (made.Assert line t, past (with_nodes walk to))
unfolding main_assertion
only_assertion line c t walk to typed room =
    cond_and c walk (λ t. counted line None t.1 >>= λ after. Ok (made.Assert line t.0, after)) t to _ typed
    (counted_and line None (with_nodes walk to) (λ a. Ok (made.Assert line t, a)) _ refl room refl)
