-- Statements of functions: what the definition answers is a typing, and each typing is what it answers.
use Rattle.std.proofs.Common.{◌≡◌, ℕ, ◌-◌, ◌<◌, ◌≤◌, List, [], ◌∷◌, map, Option, Some, None, Ok, refl, sym, ap, subst, ◌∙◌}
use Rattle.std.proofs.lemmas.List.{append-nil}
use Rattle.vocabulary.specs.Answers.{◌>>=◌}
use Rattle.vocabulary.specs.declared.limits.TheConstants.{MOST_LOOP_BOUND}
use Rattle.sim_syntax.specs.declared.expression.Expr as tree
use Rattle.sim_syntax.specs.declared.condition.Cond.{Cond}
use Rattle.sim_syntax.specs.declared.statement.Stmt as statement_tree
use Rattle.sim_syntax.specs.declared.statement.Stmt.{Stmt}
use Rattle.sim_syntax.specs.declared.statement.Stmt.TheVariants as stmt
use Rattle.sim_syntax.specs.declared.statement.Stmt.TheOpen.{Stmt-F}
use Rattle.sim_syntax.specs.declared.statement.Stmt.TheFolds.{fold-roll-Stmt, ind-Stmt}
use Rattle.sim_syntax.specs.declared.statement.Place.{Place}
use Rattle.sim_syntax.specs.declared.statement.Right.{Right}
use Rattle.sim_syntax.specs.declared.statement.Right.TheVariants as right
use Rattle.sim_syntax.specs.declared.statement.Target.{Target}
use Rattle.type_rules.specs.Rules.{or_zero}
use Rattle.type_rules.specs.declared.types.IndexRange.TheVariants as range
use Rattle.typed_tree.specs.declared.condition.TypedCond.{TypedCond}
use Rattle.typed_tree.specs.declared.function.FunctionStmt.{FunctionStmt}
use Rattle.typed_tree.specs.declared.function.FunctionStmt.TheVariants as made
use Rattle.typed_tree.specs.declared.environment.Walk.{Walk}
use Rattle.typed_tree.specs.declared.names.Meaning.{Meaning}
use Rattle.typed_tree.specs.declared.names.Meaning.TheVariants as meaning
use Rattle.typed_tree.specs.Names.{Name, meaning_of}
use Rattle.typed_tree.specs.Literals.{whole}
use Rattle.typed_tree.specs.Steps.{Step, several}
use Rattle.typed_tree.specs.Expressions.{type_of}
use Rattle.typed_tree.specs.Walking.{cond, counted, ended, scoped, misplaced, with_nodes, naming_local, is_visible}
use Rattle.typed_tree.specs.Functions.{local_var, local_assign, write, loop, choice, assertion, turns_of, bounds_rule, with_turn, statement_node, statement, statements}
use Rattle.typing_laws.specs.Conditions.{IsConditionTyping}
use Rattle.typing_laws.specs.Scopes.{IsNew, HasRoom, past, leaving}
use Rattle.typing_laws.specs.FunctionStatements.{IsStatementTyping, AreStatementTypings, IsBodyTyping}
use Rattle.typing_laws.proofs.Steps.{same_Ok, several_more, several_split}
use Rattle.typing_laws.proofs.NoFault.{none_bounds, bounds_none, turns_are}
use Rattle.typing_laws.proofs.ScopeFacts.{Extends, stays, extends_on, ended_is, new_goes_last, not_known, known_not, counted_and, counted_then, cond_then, cond_and, inside_and, inside_then, inside_more, inside_split}
use Rattle.typing_laws.proofs.FunctionForms.{variable_typed, only_variable, assignment_typed, only_assignment, assertion_typed, only_assertion}
use Rattle.typing_laws.proofs.WriteForms.{write_typed, only_write}

-- ---- the names stay

naming_extends : (walk : Walk) (name : Name) (what : Meaning) → IsNew walk name → Extends walk (naming_local walk name what)
naming_extends walk name what new = record { more = (name, what) ∷ []; names = new_goes_last walk.environment.names name what new; level = refl }

statement_extends : (s : Stmt) (t : FunctionStmt) (before after : Walk) → IsStatementTyping s t before after → Extends before after
statement_extends s t before after (IsStatementTyping.variable line name e v walk to typed new few) =
    let m = meaning.Local walk.locals (type_of v) in
    record { more = (name, m) ∷ []; names = new_goes_last walk.environment.names name m new; level = refl }
statement_extends s t before after (IsStatementTyping.assignment line target e v local type same walk to typed plain means rule few) =
    record { more = []; names = sym (append-nil walk.environment.names); level = refl }
statement_extends s t before after (IsStatementTyping.write line name places e v result type block same written walk to typed means matched has rule few) =
    record { more = []; names = sym (append-nil walk.environment.names); level = refl }
statement_extends s t before after (IsStatementTyping.loop line name from_digits to_digits from to body done walk inner from_is to_is below few new typed room) =
    record { more = []; names = sym (append-nil walk.environment.names); level = refl }
statement_extends s t before after (IsStatementTyping.choice line cond body otherwise tested done other walk to first second typed one two room) =
    record { more = []; names = sym (append-nil walk.environment.names); level = refl }
statement_extends s t before after (IsStatementTyping.assertion line cond tested walk to typed room) =
    record { more = []; names = sym (append-nil walk.environment.names); level = refl }

statements_extend : (body : List Stmt) (done : List FunctionStmt) (before after : Walk) → AreStatementTypings body done before after → Extends before after
statements_extend body done before after (AreStatementTypings.none walk) = stays walk
statements_extend body done before after (AreStatementTypings.one_more s rest t more walk between end here next) =
    extends_on walk between end (statement_extends s t walk between here) (statements_extend rest more between end next)

-- ---- each form of the tree

rolled : (x : Stmt-F Stmt) → statement (statement_tree.roll-Stmt x) ≡ statement_node (statement_tree.map-Stmt Stmt (Step Walk FunctionStmt) statement x)
rolled x = fold-roll-Stmt (Step Walk FunctionStmt) statement_node x

var_is : (line : ℕ) (names : List Name) (r : Right) → statement (stmt.Var line names r) ≡ local_var line names r
unfolding statement_node
var_is line names r = ap statement (sym (stmt.rolls-Var line names r)) ∙ rolled (Stmt-F.Var line names r)

assign_is : (line : ℕ) (targets : List Target) (r : Right) → statement (stmt.Assign line targets r) ≡ local_assign line targets r
unfolding statement_node
assign_is line targets r = ap statement (sym (stmt.rolls-Assign line targets r)) ∙ rolled (Stmt-F.Assign line targets r)

write_is : (line : ℕ) (name : Name) (places : List Place) (e : tree.Expr) → statement (stmt.Write line name places e) ≡ write line name places e
unfolding statement_node
write_is line name places e = ap statement (sym (stmt.rolls-Write line name places e)) ∙ rolled (Stmt-F.Write line name places e)

loop_is : (line : ℕ) (name : Name) (from to : List ℕ) (body : List Stmt)
    → statement (stmt.ConstFor line name from to body) ≡ loop line name (whole from) (whole to) (map statement body)
unfolding statement_node
loop_is line name from to body = ap statement (sym (stmt.rolls-ConstFor line name from to body)) ∙ rolled (Stmt-F.ConstFor line name from to body)

choice_is : (line : ℕ) (c : Cond) (body otherwise : List Stmt) → statement (stmt.If line c body otherwise) ≡ choice line c (map statement body) (map statement otherwise)
unfolding statement_node
choice_is line c body otherwise = ap statement (sym (stmt.rolls-If line c body otherwise)) ∙ rolled (Stmt-F.If line c body otherwise)

assertion_is : (line : ℕ) (c : Cond) → statement (stmt.Assert line c) ≡ assertion line c
unfolding statement_node
assertion_is line c = ap statement (sym (stmt.rolls-Assert line c)) ∙ rolled (Stmt-F.Assert line c)

for_is : (line : ℕ) (name : Name) (from to : tree.Expr) (body : List Stmt) → statement (stmt.For line name from to body) ≡ misplaced line
unfolding statement_node
for_is line name from to body = ap statement (sym (stmt.rolls-For line name from to body)) ∙ rolled (Stmt-F.For line name from to body)

while_is : (line : ℕ) (c : Cond) (body : List Stmt) → statement (stmt.While line c body) ≡ misplaced line
unfolding statement_node
while_is line c body = ap statement (sym (stmt.rolls-While line c body)) ∙ rolled (Stmt-F.While line c body)

-- ---- each typing is what the definition answers

by_form : {s f : Step Walk FunctionStmt} (walk : Walk) (done : FunctionStmt × Walk) → s ≡ f → f walk ≡ Ok done → s walk ≡ Ok done
by_form walk done form is = ap (λ s. s walk) form ∙ is

only_loop : (line : ℕ) (name : Name) (from to : Option ℕ) (f t : ℕ) (body : List (Step Walk FunctionStmt)) (done : List FunctionStmt) (walk inner : Walk)
    → from ≡ Some f → to ≡ Some t → f < t → t ≤ MOST_LOOP_BOUND → IsNew walk name
    → several body (naming_local walk name (meaning.Turn walk.locals (range.UpTo (t - 1)))) ≡ Ok (done, inner) → Extends walk inner → HasRoom inner
    → loop line name from to body walk ≡ Ok (made.Loop line walk.locals f t done, past (leaving walk inner))
unfolding loop
only_loop line name from to f t body done walk inner from_is to_is below few new is extends room =
    let values : turns_of from to ≡ range.UpTo (t - 1) = ap (λ o. turns_of o to) from_is ∙ ap (turns_of (Some f)) to_is ∙ turns_are f t below in
    inside_and (with_turn name (turns_of from to)) body walk
    (λ d. counted line (bounds_rule (is_visible walk name) from to) d.1 >>= λ a. Ok (made.Loop line walk.locals (or_zero from) (or_zero to) d.0, a)) (done, inner) _
    (ap (λ r. several body (with_turn name r walk)) values ∙ is) extends
    (counted_and line (bounds_rule (is_visible walk name) from to) (leaving walk inner) (λ a. Ok (made.Loop line walk.locals (or_zero from) (or_zero to) done, a)) _
    (bounds_none (is_visible walk name) from to f t (known_not (meaning_of walk.environment.names name) new) from_is to_is below few) room
    (ap (λ o. Ok (made.Loop line walk.locals (or_zero o) (or_zero to) done, past (leaving walk inner))) from_is
    ∙ ap (λ o. Ok (made.Loop line walk.locals f (or_zero o) done, past (leaving walk inner))) to_is))

only_choice : (line : ℕ) (c : Cond) (body otherwise : List (Step Walk FunctionStmt)) (tested : TypedCond) (done other : List FunctionStmt) (walk : Walk) (to : ℕ) (first second : Walk)
    → IsConditionTyping walk.environment c tested walk.nodes to → several body (with_nodes walk to) ≡ Ok (done, first) → Extends (with_nodes walk to) first
    → several otherwise (leaving walk first) ≡ Ok (other, second) → Extends (leaving walk first) second → HasRoom second
    → choice line c body otherwise walk ≡ Ok (made.If line tested done other, past (leaving walk second))
unfolding choice
only_choice line c body otherwise tested done other walk to first second typed one one_extends two two_extends room =
    cond_and c walk (λ t. scoped body t.1 >>= λ d. scoped otherwise d.1 >>= λ o. counted line None o.1 >>= λ a. Ok (made.If line t.0 d.0 o.0, a)) tested to _ typed
    (inside_and (λ w. w) body (with_nodes walk to) (λ d. scoped otherwise d.1 >>= λ o. counted line None o.1 >>= λ a. Ok (made.If line tested d.0 o.0, a)) (done, first) _ one one_extends
    (inside_and (λ w. w) otherwise (leaving walk first) (λ o. counted line None o.1 >>= λ a. Ok (made.If line tested done o.0, a)) (other, second) _ two two_extends
    (counted_and line None (leaving walk second) (λ a. Ok (made.If line tested done other, a)) _ refl room refl)))

mutual
  only_statement : (s : Stmt) (t : FunctionStmt) (before after : Walk) → IsStatementTyping s t before after → statement s before ≡ Ok (t, after)
  only_statement s t before after (IsStatementTyping.variable line name e v walk to typed new few) =
      by_form walk _ (var_is line (name ∷ []) (right.Value e)) (only_variable line name e v walk to typed new few)
  only_statement s t before after (IsStatementTyping.assignment line target e v local type same walk to typed plain means rule few) =
      by_form walk _ (assign_is line (target ∷ []) (right.Value e)) (only_assignment line target e v local type same walk to typed plain means rule few)
  only_statement s t before after (IsStatementTyping.write line name places e v result type block same written walk to typed means matched has rule few) =
      by_form walk _ (write_is line name places e) (only_write line name places e v result type block same written walk to typed means matched has rule few)
  only_statement s t before after (IsStatementTyping.loop line name from_digits to_digits from to body done walk inner from_is to_is below few new typed room) =
      let named = naming_local walk name (meaning.Turn walk.locals (range.UpTo (to - 1))) in
      by_form walk _ (loop_is line name from_digits to_digits body)
      (only_loop line name (whole from_digits) (whole to_digits) from to (map statement body) done walk inner from_is to_is below few new
      (only_list body done named inner typed)
      (extends_on walk named inner (naming_extends walk name (meaning.Turn walk.locals (range.UpTo (to - 1))) new) (statements_extend body done named inner typed)) room)
  only_statement s t before after (IsStatementTyping.choice line c body otherwise tested done other walk to first second typed one two room) =
      by_form walk _ (choice_is line c body otherwise)
      (only_choice line c (map statement body) (map statement otherwise) tested done other walk to first second typed
      (only_list body done (with_nodes walk to) first one) (statements_extend body done (with_nodes walk to) first one)
      (only_list otherwise other (leaving walk first) second two) (statements_extend otherwise other (leaving walk first) second two) room)
  only_statement s t before after (IsStatementTyping.assertion line c tested walk to typed room) =
      by_form walk _ (assertion_is line c) (only_assertion line c tested walk to typed room)

  only_list : (body : List Stmt) (done : List FunctionStmt) (before after : Walk) → AreStatementTypings body done before after
      → several (map statement body) before ≡ Ok (done, after)
  only_list body done before after (AreStatementTypings.none walk) = refl
  only_list body done before after (AreStatementTypings.one_more s rest t more walk between end here next) =
      several_more (statement s) (map statement rest) walk (t, between) (more, end) (only_statement s t walk between here) (only_list rest more between end next)

-- ---- what the definition answers is a typing

abbrev Sound : Stmt → Type 0
Sound s = (walk : Walk) (done : FunctionStmt × Walk) → statement s walk ≡ Ok done → IsStatementTyping s done.0 walk done.1

abbrev AreSound : List Stmt → Type 0
AreSound body = (walk : Walk) (done : List FunctionStmt × Walk) → several (map statement body) walk ≡ Ok done → AreStatementTypings body done.0 walk done.1

formed : {s f : Step Walk FunctionStmt} (walk : Walk) (done : FunctionStmt × Walk) → s ≡ f → s walk ≡ Ok done → f walk ≡ Ok done
formed walk done form is = ap (λ s. s walk) (sym form) ∙ is

are_sound : (body : List ((s : Stmt) × Sound s)) → AreSound (map (λ s. s.0) body)
are_sound [] walk done is = subst (λ d. AreStatementTypings [] d.0 walk d.1) (same_Ok ([], walk) done is) (AreStatementTypings.none walk)
are_sound (s ∷ body) walk done is =
    let rest = map (λ x. x.0) body in
    let p = several_split (statement s.0) (map statement rest) walk done is in
    subst (λ d. AreStatementTypings (s.0 ∷ rest) d.0 walk d.1) p.4
    (AreStatementTypings.one_more s.0 rest p.0.0 p.1.0 walk p.0.1 p.1.1 (s.1 walk p.0 p.2) (are_sound body p.0.1 p.1 p.3))

loop_sound : (line : ℕ) (name : Name) (from to : List ℕ) (body : List Stmt) → AreSound body → Sound (stmt.ConstFor line name from to body)
unfolding loop
loop_sound line name from to body sound walk done is =
    let f = whole from in
    let t = whole to in
    let steps = map statement body in
    let d = inside_then (with_turn name (turns_of f t)) steps walk
    (λ d. counted line (bounds_rule (is_visible walk name) f t) d.1 >>= λ a. Ok (made.Loop line walk.locals (or_zero f) (or_zero t) d.0, a)) done
    (formed walk done (loop_is line name from to body) is) in
    let c = counted_then line (bounds_rule (is_visible walk name) f t) (ended walk d.0.1) (λ a. Ok (made.Loop line walk.locals (or_zero f) (or_zero t) d.0.0, a)) done d.2 in
    let b = none_bounds (is_visible walk name) f t c.0 in
    let new = not_known (meaning_of walk.environment.names name) b.2 in
    let values : turns_of f t ≡ range.UpTo (b.1 - 1) = ap (λ o. turns_of o t) b.3 ∙ ap (turns_of (Some b.0)) b.4 ∙ turns_are b.0 b.1 b.5 in
    let named = naming_local walk name (meaning.Turn walk.locals (range.UpTo (b.1 - 1))) in
    let inner = sound named d.0 (sym (ap (λ r. several steps (with_turn name r walk)) values) ∙ d.1) in
    let left = ended_is walk d.0.1 (extends_on walk named d.0.1 (naming_extends walk name (meaning.Turn walk.locals (range.UpTo (b.1 - 1))) new) (statements_extend body d.0.0 named d.0.1 inner)) in
    subst (λ e. IsStatementTyping (stmt.ConstFor line name from to body) e.0 walk e.1)
    (ap (λ w. (made.Loop line walk.locals b.0 b.1 d.0.0, past w)) (sym left)
    ∙ ap (λ o. (made.Loop line walk.locals (or_zero o) b.1 d.0.0, past (ended walk d.0.1))) (sym b.3)
    ∙ ap (λ o. (made.Loop line walk.locals (or_zero f) (or_zero o) d.0.0, past (ended walk d.0.1))) (sym b.4)
    ∙ same_Ok (made.Loop line walk.locals (or_zero f) (or_zero t) d.0.0, past (ended walk d.0.1)) done c.2)
    (IsStatementTyping.loop line name from to b.0 b.1 body d.0.0 walk d.0.1 b.3 b.4 b.5 b.6 new inner c.1)

choice_sound : (line : ℕ) (c : Cond) (body otherwise : List Stmt) → AreSound body → AreSound otherwise → Sound (stmt.If line c body otherwise)
unfolding choice
choice_sound line c body otherwise one two walk done is =
    let steps = map statement body in
    let others = map statement otherwise in
    let t = cond_then c walk (λ t. scoped steps t.1 >>= λ d. scoped others d.1 >>= λ o. counted line None o.1 >>= λ a. Ok (made.If line t.0 d.0 o.0, a)) done
    (formed walk done (choice_is line c body otherwise) is) in
    let tested = with_nodes walk t.0.1 in
    let d = inside_then (λ w. w) steps tested (λ d. scoped others d.1 >>= λ o. counted line None o.1 >>= λ a. Ok (made.If line t.0.0 d.0 o.0, a)) done t.2 in
    let first = one tested d.0 d.1 in
    let first_left = ended_is tested d.0.1 (statements_extend body d.0.0 tested d.0.1 first) in
    let o = inside_then (λ w. w) others (leaving walk d.0.1) (λ o. counted line None o.1 >>= λ a. Ok (made.If line t.0.0 d.0.0 o.0, a)) done
    (sym (ap (λ w. scoped others w >>= λ o. counted line None o.1 >>= λ a. Ok (made.If line t.0.0 d.0.0 o.0, a)) first_left) ∙ d.2) in
    let second = two (leaving walk d.0.1) o.0 o.1 in
    let second_left = ended_is (leaving walk d.0.1) o.0.1 (statements_extend otherwise o.0.0 (leaving walk d.0.1) o.0.1 second) in
    let k = counted_then line None (ended (leaving walk d.0.1) o.0.1) (λ a. Ok (made.If line t.0.0 d.0.0 o.0.0, a)) done o.2 in
    subst (λ e. IsStatementTyping (stmt.If line c body otherwise) e.0 walk e.1)
    (ap (λ w. (made.If line t.0.0 d.0.0 o.0.0, past w)) (sym second_left)
    ∙ same_Ok (made.If line t.0.0 d.0.0 o.0.0, past (ended (leaving walk d.0.1) o.0.1)) done k.2)
    (IsStatementTyping.choice line c body otherwise t.0.0 d.0.0 o.0.0 walk t.0.1 d.0.1 o.0.1 t.1 first second k.1)

nowhere : (line : ℕ) (walk : Walk) (done : FunctionStmt × Walk) → misplaced line walk ≡ Ok done → ⊥
nowhere line walk done is = cc

abbrev S : Type 0
S = (s : Stmt) × Sound s

abbrev plain : Stmt-F S → Stmt-F Stmt
plain y = statement_tree.map-Stmt S Stmt (λ s. s.0) y

node_sound : (y : Stmt-F S) → Sound (statement_tree.roll-Stmt (plain y))
node_sound (Stmt-F.Var line names r) = subst Sound (sym (stmt.rolls-Var line names r))
    (λ walk done is. variable_typed line names r walk done (formed walk done (var_is line names r) is))
node_sound (Stmt-F.Assign line targets r) = subst Sound (sym (stmt.rolls-Assign line targets r))
    (λ walk done is. assignment_typed line targets r walk done (formed walk done (assign_is line targets r) is))
node_sound (Stmt-F.Write line name places e) = subst Sound (sym (stmt.rolls-Write line name places e))
    (λ walk done is. write_typed line name places e walk done (formed walk done (write_is line name places e) is))
node_sound (Stmt-F.ConstFor line name from to body) = subst Sound (sym (stmt.rolls-ConstFor line name from to (map (λ s. s.0) body)))
    (loop_sound line name from to (map (λ s. s.0) body) (are_sound body))
node_sound (Stmt-F.For line name from to body) = subst Sound (sym (stmt.rolls-For line name from to (map (λ s. s.0) body)))
    (λ walk done is. absurd (nowhere line walk done (formed walk done (for_is line name from to (map (λ s. s.0) body)) is)))
node_sound (Stmt-F.While line c body) = subst Sound (sym (stmt.rolls-While line c (map (λ s. s.0) body)))
    (λ walk done is. absurd (nowhere line walk done (formed walk done (while_is line c (map (λ s. s.0) body)) is)))
node_sound (Stmt-F.If line c body otherwise) = subst Sound (sym (stmt.rolls-If line c (map (λ s. s.0) body) (map (λ s. s.0) otherwise)))
    (choice_sound line c (map (λ s. s.0) body) (map (λ s. s.0) otherwise) (are_sound body) (are_sound otherwise))
node_sound (Stmt-F.Assert line c) = subst Sound (sym (stmt.rolls-Assert line c))
    (λ walk done is. assertion_typed line c walk done (formed walk done (assertion_is line c) is))

statement_typed : (s : Stmt) → Sound s
statement_typed = ind-Stmt Sound (λ x y is. subst (λ z. Sound (statement_tree.roll-Stmt z)) is (node_sound y))

list_typed : (body : List Stmt) → AreSound body
list_typed [] walk done is = subst (λ d. AreStatementTypings [] d.0 walk d.1) (same_Ok ([], walk) done is) (AreStatementTypings.none walk)
list_typed (s ∷ body) walk done is =
    let p = several_split (statement s) (map statement body) walk done is in
    subst (λ d. AreStatementTypings (s ∷ body) d.0 walk d.1) p.4
    (AreStatementTypings.one_more s body p.0.0 p.1.0 walk p.0.1 p.1.1 (statement_typed s walk p.0 p.2) (list_typed body p.0.1 p.1 p.3))

-- ---- bodies

pub body_typed : (body : List Stmt) (walk : Walk) (done : List FunctionStmt × Walk) → statements body walk ≡ Ok done → IsBodyTyping body done.0 walk done.1
body_typed body walk done is =
    let s = inside_split (λ w. w) (map statement body) walk done is in
    let inner = list_typed body walk s.0 s.1 in
    subst (λ d. IsBodyTyping body d.0 walk d.1) (ap (λ w. (s.0.0, w)) (sym (ended_is walk s.0.1 (statements_extend body s.0.0 walk s.0.1 inner))) ∙ s.2)
    (IsBodyTyping.body body s.0.0 walk s.0.1 inner)

pub only_body : (body : List Stmt) (done : List FunctionStmt) (before after : Walk) → IsBodyTyping body done before after → statements body before ≡ Ok (done, after)
only_body body done before after (IsBodyTyping.body b d walk inner typed) =
    inside_more (λ w. w) (map statement b) walk (d, inner) (only_list b d walk inner typed) (statements_extend b d walk inner typed)
