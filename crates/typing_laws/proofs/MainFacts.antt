-- Statements of the main procedure: what the definition answers is a typing, and each typing is what it answers.
use Rattle.std.proofs.Common.{◌≡◌, ℕ, List, [], ◌∷◌, map, None, Ok, refl, sym, ap, subst, ◌∙◌}
use Rattle.std.proofs.lemmas.List.{append-nil}
use Rattle.vocabulary.specs.Answers.{◌>>=◌}
use Rattle.sim_syntax.specs.declared.expression.Expr as tree
use Rattle.sim_syntax.specs.declared.condition.Cond.{Cond}
use Rattle.sim_syntax.specs.declared.statement.Stmt as statement_tree
use Rattle.sim_syntax.specs.declared.statement.Stmt.{Stmt}
use Rattle.sim_syntax.specs.declared.statement.Stmt.TheVariants as stmt
use Rattle.sim_syntax.specs.declared.statement.Stmt.TheOpen.{Stmt-F}
use Rattle.sim_syntax.specs.declared.statement.Stmt.TheFolds.{fold-roll-Stmt, ind-Stmt}
use Rattle.sim_syntax.specs.declared.statement.Place.{Place}
use Rattle.sim_syntax.specs.declared.statement.Right.{Right}
use Rattle.sim_syntax.specs.declared.statement.Target.{Target}
use Rattle.typed_tree.specs.declared.main_procedure.MainStmt.{MainStmt}
use Rattle.typed_tree.specs.declared.main_procedure.MainStmt.TheVariants as made
use Rattle.typed_tree.specs.declared.environment.Walk.{Walk}
use Rattle.typed_tree.specs.declared.names.Meaning.TheVariants as meaning
use Rattle.typed_tree.specs.Names.{Name, meaning_of}
use Rattle.typed_tree.specs.Steps.{Step, several}
use Rattle.typed_tree.specs.Expressions.{type_of}
use Rattle.typed_tree.specs.Walking.{value, cond, counted, ended, inside, scoped, misplaced, with_nodes, naming_local, is_visible}
use Rattle.typed_tree.specs.MainProcedure.{main_var, main_assign, main_while, turns_rule, with_counter, main_for, main_choice, main_assertion, main_node, main_statement, main_statements}
use Rattle.typing_laws.specs.Scopes.{IsNew, past, leaving}
use Rattle.typing_laws.specs.MainStatements.{IsMainTyping, AreMainTypings, IsMainBodyTyping}
use Rattle.typing_laws.proofs.Steps.{same_Ok, several_more, several_split}
use Rattle.typing_laws.proofs.ScopeFacts.{Extends, stays, extends_on, ended_is, new_goes_last, not_known, counted_then, value_then, cond_then, inside_then, inside_more, inside_split}
use Rattle.typing_laws.proofs.NewNames.{declared_extends}
use Rattle.typing_laws.proofs.MainForms.{variables_typed, only_variables, assignment_typed, only_assignment, none_turns, only_while, only_for, only_choice, assertion_typed, only_assertion}

-- ---- the names stay

counter_extends : (walk : Walk) (name : Name) → IsNew walk name → Extends walk (naming_local walk name (meaning.Counter walk.locals))
counter_extends walk name new =
    let m = meaning.Counter walk.locals in
    record { more = (name, m) ∷ []; names = new_goes_last walk.environment.names name m new; level = refl }

statement_extends : (s : Stmt) (t : MainStmt) (before after : Walk) → IsMainTyping s t before after → Extends before after
statement_extends s t before after (IsMainTyping.variables line names r side types numbers walk to end typed room declared) =
    let found = declared_extends names types numbers (past (with_nodes walk to)) end declared in
    record { more = found.more; names = found.names; level = found.level }
statement_extends s t before after (IsMainTyping.assignment line targets r side types us walk to typed are room) =
    record { more = []; names = sym (append-nil walk.environment.names); level = refl }
statement_extends s t before after (IsMainTyping.repetition line cond body tested done walk to inner typed one room) =
    record { more = []; names = sym (append-nil walk.environment.names); level = refl }
statement_extends s t before after (IsMainTyping.loop line name from to body f u done walk middle end inner first second f_is u_is new typed room) =
    record { more = []; names = sym (append-nil walk.environment.names); level = refl }
statement_extends s t before after (IsMainTyping.choice line cond body otherwise tested done other walk to first second typed one two room) =
    record { more = []; names = sym (append-nil walk.environment.names); level = refl }
statement_extends s t before after (IsMainTyping.assertion line cond tested walk to typed room) =
    record { more = []; names = sym (append-nil walk.environment.names); level = refl }

statements_extend : (body : List Stmt) (done : List MainStmt) (before after : Walk) → AreMainTypings body done before after → Extends before after
statements_extend body done before after (AreMainTypings.none walk) = stays walk
statements_extend body done before after (AreMainTypings.one_more s rest t more walk between end here next) =
    extends_on walk between end (statement_extends s t walk between here) (statements_extend rest more between end next)

-- ---- each form of the tree

rolled : (x : Stmt-F Stmt) → main_statement (statement_tree.roll-Stmt x) ≡ main_node (statement_tree.map-Stmt Stmt (Step Walk MainStmt) main_statement x)
rolled x = fold-roll-Stmt (Step Walk MainStmt) main_node x

var_is : (line : ℕ) (names : List Name) (r : Right) → main_statement (stmt.Var line names r) ≡ main_var line names r
unfolding main_node
var_is line names r = ap main_statement (sym (stmt.rolls-Var line names r)) ∙ rolled (Stmt-F.Var line names r)

assign_is : (line : ℕ) (targets : List Target) (r : Right) → main_statement (stmt.Assign line targets r) ≡ main_assign line targets r
unfolding main_node
assign_is line targets r = ap main_statement (sym (stmt.rolls-Assign line targets r)) ∙ rolled (Stmt-F.Assign line targets r)

write_is : (line : ℕ) (name : Name) (places : List Place) (e : tree.Expr) → main_statement (stmt.Write line name places e) ≡ misplaced line
unfolding main_node
write_is line name places e = ap main_statement (sym (stmt.rolls-Write line name places e)) ∙ rolled (Stmt-F.Write line name places e)

constant_loop_is : (line : ℕ) (name : Name) (from to : List ℕ) (body : List Stmt) → main_statement (stmt.ConstFor line name from to body) ≡ misplaced line
unfolding main_node
constant_loop_is line name from to body = ap main_statement (sym (stmt.rolls-ConstFor line name from to body)) ∙ rolled (Stmt-F.ConstFor line name from to body)

for_is : (line : ℕ) (name : Name) (from to : tree.Expr) (body : List Stmt)
    → main_statement (stmt.For line name from to body) ≡ main_for line name from to (map main_statement body)
unfolding main_node
for_is line name from to body = ap main_statement (sym (stmt.rolls-For line name from to body)) ∙ rolled (Stmt-F.For line name from to body)

while_is : (line : ℕ) (c : Cond) (body : List Stmt) → main_statement (stmt.While line c body) ≡ main_while line c (map main_statement body)
unfolding main_node
while_is line c body = ap main_statement (sym (stmt.rolls-While line c body)) ∙ rolled (Stmt-F.While line c body)

choice_is : (line : ℕ) (c : Cond) (body otherwise : List Stmt)
    → main_statement (stmt.If line c body otherwise) ≡ main_choice line c (map main_statement body) (map main_statement otherwise)
unfolding main_node
choice_is line c body otherwise = ap main_statement (sym (stmt.rolls-If line c body otherwise)) ∙ rolled (Stmt-F.If line c body otherwise)

assertion_is : (line : ℕ) (c : Cond) → main_statement (stmt.Assert line c) ≡ main_assertion line c
unfolding main_node
assertion_is line c = ap main_statement (sym (stmt.rolls-Assert line c)) ∙ rolled (Stmt-F.Assert line c)

-- ---- each typing is what the definition answers

by_form : {s f : Step Walk MainStmt} (walk : Walk) (done : MainStmt × Walk) → s ≡ f → f walk ≡ Ok done → s walk ≡ Ok done
by_form walk done form is = ap (λ s. s walk) form ∙ is

mutual
  only_statement : (s : Stmt) (t : MainStmt) (before after : Walk) → IsMainTyping s t before after → main_statement s before ≡ Ok (t, after)
  only_statement s t before after (IsMainTyping.variables line names r side types numbers walk to end typed room declared) =
      by_form walk _ (var_is line names r) (only_variables line names r side types numbers walk to end typed room declared)
  only_statement s t before after (IsMainTyping.assignment line targets r side types us walk to typed are room) =
      by_form walk _ (assign_is line targets r) (only_assignment line targets r side types us walk to typed are room)
  only_statement s t before after (IsMainTyping.repetition line c body tested done walk to inner typed one room) =
      by_form walk _ (while_is line c body)
      (only_while line c (map main_statement body) tested done walk to inner typed (only_list body done (with_nodes walk to) inner one)
      (statements_extend body done (with_nodes walk to) inner one) room)
  only_statement s t before after (IsMainTyping.loop line name from to body f u done walk middle end inner first second f_is u_is new typed room) =
      let named = naming_local (with_nodes walk end) name (meaning.Counter walk.locals) in
      by_form walk _ (for_is line name from to body)
      (only_for line name from to f u (map main_statement body) done walk middle end inner first second f_is u_is new (only_list body done named inner typed)
      (extends_on (with_nodes walk end) named inner (counter_extends (with_nodes walk end) name new) (statements_extend body done named inner typed)) room)
  only_statement s t before after (IsMainTyping.choice line c body otherwise tested done other walk to first second typed one two room) =
      by_form walk _ (choice_is line c body otherwise)
      (only_choice line c (map main_statement body) (map main_statement otherwise) tested done other walk to first second typed
      (only_list body done (with_nodes walk to) first one) (statements_extend body done (with_nodes walk to) first one)
      (only_list otherwise other (leaving walk first) second two) (statements_extend otherwise other (leaving walk first) second two) room)
  only_statement s t before after (IsMainTyping.assertion line c tested walk to typed room) =
      by_form walk _ (assertion_is line c) (only_assertion line c tested walk to typed room)

  only_list : (body : List Stmt) (done : List MainStmt) (before after : Walk) → AreMainTypings body done before after
      → several (map main_statement body) before ≡ Ok (done, after)
  only_list body done before after (AreMainTypings.none walk) = refl
  only_list body done before after (AreMainTypings.one_more s rest t more walk between end here next) =
      several_more (main_statement s) (map main_statement rest) walk (t, between) (more, end) (only_statement s t walk between here) (only_list rest more between end next)

-- ---- what the definition answers is a typing

abbrev Sound : Stmt → Type 0
Sound s = (walk : Walk) (done : MainStmt × Walk) → main_statement s walk ≡ Ok done → IsMainTyping s done.0 walk done.1

abbrev AreSound : List Stmt → Type 0
AreSound body = (walk : Walk) (done : List MainStmt × Walk) → several (map main_statement body) walk ≡ Ok done → AreMainTypings body done.0 walk done.1

formed : {s f : Step Walk MainStmt} (walk : Walk) (done : MainStmt × Walk) → s ≡ f → s walk ≡ Ok done → f walk ≡ Ok done
formed walk done form is = ap (λ s. s walk) (sym form) ∙ is

are_sound : (body : List ((s : Stmt) × Sound s)) → AreSound (map (λ s. s.0) body)
are_sound [] walk done is = subst (λ d. AreMainTypings [] d.0 walk d.1) (same_Ok ([], walk) done is) (AreMainTypings.none walk)
are_sound (s ∷ body) walk done is =
    let rest = map (λ x. x.0) body in
    let p = several_split (main_statement s.0) (map main_statement rest) walk done is in
    subst (λ d. AreMainTypings (s.0 ∷ rest) d.0 walk d.1) p.4
    (AreMainTypings.one_more s.0 rest p.0.0 p.1.0 walk p.0.1 p.1.1 (s.1 walk p.0 p.2) (are_sound body p.0.1 p.1 p.3))

while_sound : (line : ℕ) (c : Cond) (body : List Stmt) → AreSound body → Sound (stmt.While line c body)
unfolding main_while
while_sound line c body one walk done is =
    let steps = map main_statement body in
    let t = cond_then c walk (λ t. scoped steps t.1 >>= λ d. counted line None d.1 >>= λ a. Ok (made.While line t.0 d.0, a)) done
    (formed walk done (while_is line c body) is) in
    let tested = with_nodes walk t.0.1 in
    let d = inside_then (λ w. w) steps tested (λ d. counted line None d.1 >>= λ a. Ok (made.While line t.0.0 d.0, a)) done t.2 in
    let inner = one tested d.0 d.1 in
    let left = ended_is tested d.0.1 (statements_extend body d.0.0 tested d.0.1 inner) in
    let k = counted_then line None (ended tested d.0.1) (λ a. Ok (made.While line t.0.0 d.0.0, a)) done d.2 in
    subst (λ e. IsMainTyping (stmt.While line c body) e.0 walk e.1)
    (ap (λ w. (made.While line t.0.0 d.0.0, past w)) (sym left) ∙ same_Ok (made.While line t.0.0 d.0.0, past (ended tested d.0.1)) done k.2)
    (IsMainTyping.repetition line c body t.0.0 d.0.0 walk t.0.1 d.0.1 t.1 inner k.1)

for_sound : (line : ℕ) (name : Name) (from to : tree.Expr) (body : List Stmt) → AreSound body → Sound (stmt.For line name from to body)
unfolding main_for
for_sound line name from to body sound walk done is =
    let steps = map main_statement body in
    let f = value_then from walk (λ f. value to f.1 >>= λ t. inside (with_counter name) steps t.1
    >>= λ d. counted line (turns_rule (is_visible t.1 name) (type_of f.0) (type_of t.0)) d.1 >>= λ a. Ok (made.For line t.1.locals f.0 t.0 d.0, a)) done
    (formed walk done (for_is line name from to body) is) in
    let t = value_then to (with_nodes walk f.0.1) (λ t. inside (with_counter name) steps t.1
    >>= λ d. counted line (turns_rule (is_visible t.1 name) (type_of f.0.0) (type_of t.0)) d.1 >>= λ a. Ok (made.For line t.1.locals f.0.0 t.0 d.0, a)) done f.2 in
    let bounds = turns_rule (is_visible walk name) (type_of f.0.0) (type_of t.0.0) in
    let here = with_nodes walk t.0.1 in
    let d = inside_then (with_counter name) steps here (λ d. counted line bounds d.1 >>= λ a. Ok (made.For line walk.locals f.0.0 t.0.0 d.0, a)) done t.2 in
    let k = counted_then line bounds (ended here d.0.1) (λ a. Ok (made.For line walk.locals f.0.0 t.0.0 d.0.0, a)) done d.2 in
    let b = none_turns (is_visible walk name) (type_of f.0.0) (type_of t.0.0) k.0 in
    let new = not_known (meaning_of walk.environment.names name) b.0 in
    let named = naming_local here name (meaning.Counter walk.locals) in
    let inner = sound named d.0 d.1 in
    let left = ended_is here d.0.1 (extends_on here named d.0.1 (counter_extends here name new) (statements_extend body d.0.0 named d.0.1 inner)) in
    subst (λ e. IsMainTyping (stmt.For line name from to body) e.0 walk e.1)
    (ap (λ w. (made.For line walk.locals f.0.0 t.0.0 d.0.0, past w)) (sym left) ∙ same_Ok (made.For line walk.locals f.0.0 t.0.0 d.0.0, past (ended here d.0.1)) done k.2)
    (IsMainTyping.loop line name from to body f.0.0 t.0.0 d.0.0 walk f.0.1 t.0.1 d.0.1 f.1 t.1 b.1 b.2 new inner k.1)

choice_sound : (line : ℕ) (c : Cond) (body otherwise : List Stmt) → AreSound body → AreSound otherwise → Sound (stmt.If line c body otherwise)
unfolding main_choice
choice_sound line c body otherwise one two walk done is =
    let steps = map main_statement body in
    let others = map main_statement otherwise in
    let t = cond_then c walk (λ t. scoped steps t.1 >>= λ d. scoped others d.1 >>= λ o. counted line None o.1 >>= λ a. Ok (made.If line t.0 d.0 o.0, a)) done
    (formed walk done (choice_is line c body otherwise) is) in
    let tested = with_nodes walk t.0.1 in
    let d = inside_then (λ w. w) steps tested (λ d. scoped others d.1 >>= λ o. counted line None o.1 >>= λ a. Ok (made.If line t.0.0 d.0 o.0, a)) done t.2 in
    let first = one tested d.0 d.1 in
    let first_left = ended_is tested d.0.1 (statements_extend body d.0.0 tested d.0.1 first) in
    let o = inside_then (λ w. w) others (leaving walk d.0.1) (λ o. counted line None o.1 >>= λ a. Ok (made.If line t.0.0 d.0.0 o.0, a)) done
    (sym (ap (λ w. scoped others w >>= λ o. counted line None o.1 >>= λ a. Ok (made.If line t.0.0 d.0.0 o.0, a)) first_left) ∙ d.2) in
    let second = two (leaving walk d.0.1) o.0 o.1 in
    let second_left = ended_is (leaving walk d.0.1) o.0.1 (statements_extend otherwise o.0.0 (leaving walk d.0.1) o.0.1 second) in
    let k = counted_then line None (ended (leaving walk d.0.1) o.0.1) (λ a. Ok (made.If line t.0.0 d.0.0 o.0.0, a)) done o.2 in
    subst (λ e. IsMainTyping (stmt.If line c body otherwise) e.0 walk e.1)
    (ap (λ w. (made.If line t.0.0 d.0.0 o.0.0, past w)) (sym second_left)
    ∙ same_Ok (made.If line t.0.0 d.0.0 o.0.0, past (ended (leaving walk d.0.1) o.0.1)) done k.2)
    (IsMainTyping.choice line c body otherwise t.0.0 d.0.0 o.0.0 walk t.0.1 d.0.1 o.0.1 t.1 first second k.1)

nowhere : (line : ℕ) (walk : Walk) (done : MainStmt × Walk) → misplaced line walk ≡ Ok done → ⊥
nowhere line walk done is = cc

abbrev S : Type 0
S = (s : Stmt) × Sound s

abbrev plain : Stmt-F S → Stmt-F Stmt
plain y = statement_tree.map-Stmt S Stmt (λ s. s.0) y

node_sound : (y : Stmt-F S) → Sound (statement_tree.roll-Stmt (plain y))
node_sound (Stmt-F.Var line names r) = subst Sound (sym (stmt.rolls-Var line names r))
    (λ walk done is. variables_typed line names r walk done (formed walk done (var_is line names r) is))
node_sound (Stmt-F.Assign line targets r) = subst Sound (sym (stmt.rolls-Assign line targets r))
    (λ walk done is. assignment_typed line targets r walk done (formed walk done (assign_is line targets r) is))
node_sound (Stmt-F.Write line name places e) = subst Sound (sym (stmt.rolls-Write line name places e))
    (λ walk done is. absurd (nowhere line walk done (formed walk done (write_is line name places e) is)))
node_sound (Stmt-F.ConstFor line name from to body) = subst Sound (sym (stmt.rolls-ConstFor line name from to (map (λ s. s.0) body)))
    (λ walk done is. absurd (nowhere line walk done (formed walk done (constant_loop_is line name from to (map (λ s. s.0) body)) is)))
node_sound (Stmt-F.For line name from to body) = subst Sound (sym (stmt.rolls-For line name from to (map (λ s. s.0) body)))
    (for_sound line name from to (map (λ s. s.0) body) (are_sound body))
node_sound (Stmt-F.While line c body) = subst Sound (sym (stmt.rolls-While line c (map (λ s. s.0) body)))
    (while_sound line c (map (λ s. s.0) body) (are_sound body))
node_sound (Stmt-F.If line c body otherwise) = subst Sound (sym (stmt.rolls-If line c (map (λ s. s.0) body) (map (λ s. s.0) otherwise)))
    (choice_sound line c (map (λ s. s.0) body) (map (λ s. s.0) otherwise) (are_sound body) (are_sound otherwise))
node_sound (Stmt-F.Assert line c) = subst Sound (sym (stmt.rolls-Assert line c))
    (λ walk done is. assertion_typed line c walk done (formed walk done (assertion_is line c) is))

statement_typed : (s : Stmt) → Sound s
statement_typed = ind-Stmt Sound (λ x y is. subst (λ z. Sound (statement_tree.roll-Stmt z)) is (node_sound y))

list_typed : (body : List Stmt) → AreSound body
list_typed [] walk done is = subst (λ d. AreMainTypings [] d.0 walk d.1) (same_Ok ([], walk) done is) (AreMainTypings.none walk)
list_typed (s ∷ body) walk done is =
    let p = several_split (main_statement s) (map main_statement body) walk done is in
    subst (λ d. AreMainTypings (s ∷ body) d.0 walk d.1) p.4
    (AreMainTypings.one_more s body p.0.0 p.1.0 walk p.0.1 p.1.1 (statement_typed s walk p.0 p.2) (list_typed body p.0.1 p.1 p.3))

-- ---- bodies

pub main_typed : (body : List Stmt) (walk : Walk) (done : List MainStmt × Walk) → main_statements body walk ≡ Ok done → IsMainBodyTyping body done.0 walk done.1
main_typed body walk done is =
    let s = inside_split (λ w. w) (map main_statement body) walk done is in
    let inner = list_typed body walk s.0 s.1 in
    subst (λ d. IsMainBodyTyping body d.0 walk d.1) (ap (λ w. (s.0.0, w)) (sym (ended_is walk s.0.1 (statements_extend body s.0.0 walk s.0.1 inner))) ∙ s.2)
    (IsMainBodyTyping.body body s.0.0 walk s.0.1 inner)

pub only_main : (body : List Stmt) (done : List MainStmt) (before after : Walk) → IsMainBodyTyping body done before after → main_statements body before ≡ Ok (done, after)
only_main body done before after (IsMainBodyTyping.body b d walk inner typed) =
    inside_more (λ w. w) (map main_statement b) walk (d, inner) (only_list b d walk inner typed) (statements_extend b d walk inner typed)
