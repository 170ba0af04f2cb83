-- No index expression is left in a lowered program.
use Rattle.std.proofs.Common.{◌≡◌, ℕ, Bool, false, ◌||◌, List, [], ◌∷◌, map, Result, Ok, Err, refl, sym, ap, ◌∙◌, subst}
use Rattle.std.specs.List.{list_any}
use Rattle.vocabulary.specs.Answers.{◌>>=◌, all_ok}
use Rattle.sim_syntax.specs.Indices.{is_index_expression, any_true, in_node, in_statement, in_statements, in_declaration, has_index_expression}
use Rattle.sim_syntax.specs.declared.declaration.Decl.{Decl}
use Rattle.sim_syntax.specs.declared.declaration.Decl.TheVariants as decl
use Rattle.sim_syntax.specs.declared.program.Program.{Program}
use Rattle.sim_syntax.specs.declared.statement.Right.{Right}
use Rattle.sim_syntax.specs.declared.statement.Right.TheVariants as right
use Rattle.sim_syntax.specs.declared.statement.Stmt as tree
use Rattle.sim_syntax.specs.declared.statement.Stmt.{Stmt}
use Rattle.sim_syntax.specs.declared.statement.Stmt.TheVariants as stmt
use Rattle.sim_syntax.specs.declared.statement.Stmt.TheOpen.{Stmt-F}
use Rattle.sim_syntax.specs.declared.statement.Stmt.TheFolds.{fold-roll-Stmt, ind-Stmt}
use Rattle.sim_syntax.specs.declared.statement.Target.{Target}
use Rattle.chain_forms.specs.Laws.{LeavesNoIndex}
use Rattle.chain_forms.specs.Lowered.{lowered_ix, lowered_right, lowered_node, lowered_statement, lowered_statements, lowered_declaration, lowered}

-- ---- answers

bind_ok : {A B E : Type 0} (r : Result A E) (f : A → Result B E) (z : B) → (r >>= f) ≡ Ok z → (x : A) × ((r ≡ Ok x) × (f x ≡ Ok z))
bind_ok (Ok x) f z is = (x, (refl, is))
bind_ok (Err e) f z is = cc is

abbrev ok_or : {A : Type 0} (E : Type 0) → A → Result A E
ok_or E x = Ok x

ok_is : {A E : Type 0} (x y : A) → ok_or E x ≡ Ok y → x ≡ y
ok_is x y is = cc is

-- the values of a list come from its items one by one
one_by_one : {A B : Type 0} (f : A → Result B ℕ) (test : B → Bool) (xs : List ((x : A) × ((y : B) → f x ≡ Ok y → test y ≡ false))) (ys : List B)
    → all_ok (map f (map (λ x. x.0) xs)) ≡ Ok ys → list_any test ys ≡ false
one_by_one {A} {B} f test [] ys is = subst (λ l. list_any test l ≡ false) (ok_is [] ys is) refl
one_by_one {A} {B} f test (x ∷ xs) ys is =
    let first = bind_ok (f x.0) (λ y. all_ok (map f (map (λ x. x.0) xs)) >>= λ values. Ok (y ∷ values)) ys is in
    let others = bind_ok (all_ok (map f (map (λ x. x.0) xs))) (λ values. Ok (first.0 ∷ values)) ys first.1.1 in
    subst (λ l. list_any test l ≡ false) (ok_is (first.0 ∷ others.0) ys others.1.1)
    (ap (λ b. b || list_any test others.0) (x.1 first.0 first.1.0) ∙ one_by_one f test xs others.0 others.1.0)

-- ---- statements

any_of : (xs : List Stmt) → any_true (map in_statement xs) ≡ list_any in_statement xs
any_of [] = refl
any_of (x ∷ xs) = ap (λ b. in_statement x || b) (any_of xs)

rolled : (x : Stmt-F Stmt) → in_statement (tree.roll-Stmt x) ≡ in_node (tree.map-Stmt Stmt Bool in_statement x)
rolled x = fold-roll-Stmt Bool in_node x

right_left : (e after : Right) → lowered_right e ≡ Ok after → is_index_expression after ≡ false
unfolding lowered_right
right_left (right.Ix line free terms) after is =
    let value = bind_ok (lowered_ix free line terms) (λ e. Ok (right.Value e)) after is in
    subst (λ r. is_index_expression r ≡ false) (ok_is (right.Value value.0) after value.1.1) refl
right_left (right.Map line func args set) after is = subst (λ r. is_index_expression r ≡ false) (ok_is (right.Map line func args set) after is) refl
right_left (right.Value e) after is = subst (λ r. is_index_expression r ≡ false) (ok_is (right.Value e) after is) refl

abbrev Leaves : Stmt → Type 0
Leaves s = (after : Stmt) → lowered_statement s ≡ Ok after → in_statement after ≡ false

abbrev S : Type 0
S = (s : Stmt) × Leaves s

abbrev plain : Stmt-F S → Stmt-F Stmt
plain y = tree.map-Stmt S Stmt (λ s. s.0) y

abbrev LeavesNode : Stmt-F S → Type 0
LeavesNode y = (after : Stmt) → lowered_node (tree.map-Stmt Stmt (Result Stmt ℕ) lowered_statement (plain y)) ≡ Ok after → in_statement after ≡ false

abbrev bodies : List S → Result (List Stmt) ℕ
bodies body = all_ok (map lowered_statement (map (λ s. s.0) body))

body_left : (body : List S) (after : List Stmt) → bodies body ≡ Ok after → any_true (map in_statement after) ≡ false
body_left body after is = any_of after ∙ one_by_one lowered_statement in_statement body after is

var_left : (line : ℕ) (names : List (List ℕ)) (e : Right) → is_index_expression e ≡ false → in_statement (stmt.Var line names e) ≡ false
var_left line names e none = ap in_statement (sym (stmt.rolls-Var line names e)) ∙ rolled (Stmt-F.Var line names e) ∙ none

assign_left : (line : ℕ) (targets : List Target) (e : Right) → is_index_expression e ≡ false → in_statement (stmt.Assign line targets e) ≡ false
assign_left line targets e none = ap in_statement (sym (stmt.rolls-Assign line targets e)) ∙ rolled (Stmt-F.Assign line targets e) ∙ none

by_result : (after made : Stmt) → ok_or ℕ made ≡ Ok after → in_statement made ≡ false → in_statement after ≡ false
by_result after made is none = subst (λ s. in_statement s ≡ false) (ok_is made after is) none

node_left : (y : Stmt-F S) → LeavesNode y
unfolding lowered_node
node_left (Stmt-F.Var line names e) after is =
    let value = bind_ok (lowered_right e) (λ e. Ok (stmt.Var line names e)) after is in
    by_result after (stmt.Var line names value.0) value.1.1 (var_left line names value.0 (right_left e value.0 value.1.0))
node_left (Stmt-F.Assign line targets e) after is =
    let value = bind_ok (lowered_right e) (λ e. Ok (stmt.Assign line targets e)) after is in
    by_result after (stmt.Assign line targets value.0) value.1.1 (assign_left line targets value.0 (right_left e value.0 value.1.0))
node_left (Stmt-F.Write line result places value) after is =
    by_result after (stmt.Write line result places value) is
    (ap in_statement (sym (stmt.rolls-Write line result places value)) ∙ rolled (Stmt-F.Write line result places value))
node_left (Stmt-F.ConstFor line name from to body) after is =
    let value = bind_ok (bodies body) (λ body. Ok (stmt.ConstFor line name from to body)) after is in
    by_result after (stmt.ConstFor line name from to value.0) value.1.1
    (ap in_statement (sym (stmt.rolls-ConstFor line name from to value.0)) ∙ rolled (Stmt-F.ConstFor line name from to value.0) ∙ body_left body value.0 value.1.0)
node_left (Stmt-F.For line name from to body) after is =
    let value = bind_ok (bodies body) (λ body. Ok (stmt.For line name from to body)) after is in
    by_result after (stmt.For line name from to value.0) value.1.1
    (ap in_statement (sym (stmt.rolls-For line name from to value.0)) ∙ rolled (Stmt-F.For line name from to value.0) ∙ body_left body value.0 value.1.0)
node_left (Stmt-F.While line cond body) after is =
    let value = bind_ok (bodies body) (λ body. Ok (stmt.While line cond body)) after is in
    by_result after (stmt.While line cond value.0) value.1.1
    (ap in_statement (sym (stmt.rolls-While line cond value.0)) ∙ rolled (Stmt-F.While line cond value.0) ∙ body_left body value.0 value.1.0)
node_left (Stmt-F.If line cond body otherwise) after is =
    let yes' = bind_ok (bodies body) (λ body. bodies otherwise >>= λ otherwise. Ok (stmt.If line cond body otherwise)) after is in
    let no' = bind_ok (bodies otherwise) (λ otherwise. Ok (stmt.If line cond yes'.0 otherwise)) after yes'.1.1 in
    by_result after (stmt.If line cond yes'.0 no'.0) no'.1.1
    (ap in_statement (sym (stmt.rolls-If line cond yes'.0 no'.0)) ∙ rolled (Stmt-F.If line cond yes'.0 no'.0)
    ∙ ap (λ b. b || any_true (map in_statement no'.0)) (body_left body yes'.0 yes'.1.0) ∙ body_left otherwise no'.0 no'.1.0)
node_left (Stmt-F.Assert line cond) after is =
    by_result after (stmt.Assert line cond) is (ap in_statement (sym (stmt.rolls-Assert line cond)) ∙ rolled (Stmt-F.Assert line cond))

at_roll : (y : Stmt-F S) → Leaves (tree.roll-Stmt (plain y))
at_roll y after is = node_left y after (sym (fold-roll-Stmt (Result Stmt ℕ) lowered_node (plain y)) ∙ is)

statement_left : (s : Stmt) → Leaves s
statement_left = ind-Stmt Leaves (λ x y is. subst (λ z. Leaves (tree.roll-Stmt z)) is (at_roll y))

with_claims : List Stmt → List S
with_claims [] = []
with_claims (s ∷ statements) = (s, statement_left s) ∷ with_claims statements

same_statements : (statements : List Stmt) → map (λ s. s.0) (with_claims statements) ≡ statements
unfolding with_claims
same_statements [] = refl
same_statements (s ∷ statements) = ap (λ rest. s ∷ rest) (same_statements statements)

statements_left : (statements after : List Stmt) → lowered_statements statements ≡ Ok after → in_statements after ≡ false
unfolding lowered_statements
statements_left statements after is =
    body_left (with_claims statements) after (ap (λ l. all_ok (map lowered_statement l)) (same_statements statements) ∙ is)

-- ---- programs

declaration_left : (d after : Decl) → lowered_declaration d ≡ Ok after → in_declaration after ≡ false
unfolding lowered_declaration
declaration_left (decl.Func line name params results body) after is =
    let value = bind_ok (lowered_statements body) (λ body. Ok (decl.Func line name params results body)) after is in
    subst (λ d. in_declaration d ≡ false) (ok_is (decl.Func line name params results value.0) after value.1.1) (statements_left body value.0 value.1.0)
declaration_left (decl.Element line name fields) after is = subst (λ d. in_declaration d ≡ false) (ok_is (decl.Element line name fields) after is) refl
declaration_left (decl.Set line name element ends) after is = subst (λ d. in_declaration d ≡ false) (ok_is (decl.Set line name element ends) after is) refl
declaration_left (decl.Host line name args result) after is = subst (λ d. in_declaration d ≡ false) (ok_is (decl.Host line name args result) after is) refl

abbrev D : Type 0
D = (d : Decl) × ((after : Decl) → lowered_declaration d ≡ Ok after → in_declaration after ≡ false)

declared : List Decl → List D
declared [] = []
declared (d ∷ decls) = (d, declaration_left d) ∷ declared decls

same_declarations : (decls : List Decl) → map (λ d. d.0) (declared decls) ≡ decls
unfolding declared
same_declarations [] = refl
same_declarations (d ∷ decls) = ap (λ rest. d ∷ rest) (same_declarations decls)

pub none_left : LeavesNoIndex
unfolding lowered
none_left program after is =
    let decls = bind_ok (all_ok (map lowered_declaration program.decls))
    (λ decls. lowered_statements program.body >>= λ body. Ok (record { line = program.line; decls = decls; body = body })) after is in
    let body = bind_ok (lowered_statements program.body) (λ body. Ok (record { line = program.line; decls = decls.0; body = body })) after decls.1.1 in
    let made : Program = record { line = program.line; decls = decls.0; body = body.0 } in
    subst (λ p. has_index_expression p ≡ false) (ok_is made after body.1.1)
    (ap (λ b. b || in_statements body.0)
    (one_by_one lowered_declaration in_declaration (declared program.decls) decls.0
    (ap (λ l. all_ok (map lowered_declaration l)) (same_declarations program.decls) ∙ decls.1.0))
    ∙ statements_left program.body body.0 body.1.0)
