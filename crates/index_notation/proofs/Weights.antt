-- How much there is of statements: more of each than of those inside it.
use Rattle.std.proofs.Common.{◌≡◌, ℕ, suc, ◌+◌, ◌<◌, ◌≤◌, List, [], ◌∷◌, ◌++◌, map, reverse, refl, ap, ◌∙◌, arith}
use Rattle.std.proofs.lemmas.List.{reverse-append}
use Rattle.sim_syntax.specs.declared.statement.Stmt.{Stmt}
use Rattle.sim_syntax.specs.declared.statement.Stmt.TheOpen.{Stmt-F}
use Rattle.sim_syntax.specs.declared.statement.Stmt.TheFolds.{fold-Stmt}

abbrev pub sum_of : List ℕ → ℕ
sum_of [] = 0
sum_of (n ∷ ns) = suc n + sum_of ns

abbrev pub node_weight : Stmt-F ℕ → ℕ
node_weight (Stmt-F.Var line names e) = 0
node_weight (Stmt-F.Assign line targets e) = 0
node_weight (Stmt-F.Write line result places value) = 0
node_weight (Stmt-F.ConstFor line name from to body) = suc (sum_of body)
node_weight (Stmt-F.For line name from to body) = suc (sum_of body)
node_weight (Stmt-F.While line cond body) = suc (sum_of body)
node_weight (Stmt-F.If line cond body otherwise) = suc (sum_of body + sum_of otherwise)
node_weight (Stmt-F.Assert line cond) = 0

abbrev pub weight : Stmt → ℕ
weight = fold-Stmt ℕ node_weight

unfoldable pub weights : List Stmt → ℕ
weights statements = sum_of (map weight statements)

append_weights : (xs ys : List Stmt) → weights (xs ++ ys) ≡ weights xs + weights ys
unfolding weights
append_weights [] ys = omega arith
append_weights (x ∷ xs) ys = let rest = append_weights xs ys in let r : sum_of (map weight (xs ++ ys)) ≡ sum_of (map weight xs) + sum_of (map weight ys) = rest in omega arith

one_weight : (x : Stmt) → weights (x ∷ []) ≡ suc (weight x)
unfolding weights
one_weight x = omega arith

pub reversed_weight : (xs ys : List Stmt) → ys ≡ reverse xs → weights ys ≤ weights xs
reversed_weight [] ys is = let e : weights ys ≡ weights [] = ap weights is in omega arith
reversed_weight (x ∷ xs) ys is =
    let e : weights ys ≡ weights (reverse xs ++ x ∷ []) = ap weights is ∙ ap weights (reverse-append (x ∷ []) xs) in
    let f = append_weights (reverse xs) (x ∷ []) in
    let g = reversed_weight xs (reverse xs) refl in
    let h = append_weights (x ∷ []) xs in
    omega arith

-- an item that is taken, and the others
pub taken_weight : (left new : List Stmt) (x : Stmt) (most : ℕ) → left ≡ new ++ x ∷ [] → weights left ≤ most → weight x < most
taken_weight left new x most is within =
    let e : weights left ≡ weights (new ++ x ∷ []) = ap weights is in
    let f = append_weights new (x ∷ []) in let g = one_weight x in omega arith

pub left_weight : (left new : List Stmt) (x : Stmt) (most : ℕ) → left ≡ new ++ x ∷ [] → weights left ≤ most → weights new ≤ most
left_weight left new x most is within =
    let e : weights left ≡ weights (new ++ x ∷ []) = ap weights is in
    let f = append_weights new (x ∷ []) in let g = one_weight x in omega arith
