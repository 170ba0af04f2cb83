-- Costs up to the limit, of sums and products.
use Rattle.std.proofs.Common.{◌≡◌, ℕ, zero, suc, ◌+◌, ◌*◌, ◌<◌, ◌≤◌, min, Bool, true, false, List, [], ◌∷◌, map, length, drop, get_or, Option, Some, None, inl, inr, sym, ap, ◌∙◌, refl, arith}
use Rattle.std.proofs.Math.Nat.{zero-mul, suc-mul, mul_comm}
use Rattle.std.specs.List.{sum_by}
use Rattle.std.proofs.lemmas.List.{drop_more, drop_all}
use Rattle.std.proofs.lemmas.List.Sums.{sum_by-cons}
use Rattle.std.proofs.lemmas.Bool.Decides.{leb_tells}
use Rattle.vocabulary.specs.declared.limits.TheConstants.{MOST_FUNCTION_COST}
use Rattle.type_rules.specs.declared.types.NodeType.{NodeType}
use Rattle.typed_tree.specs.declared.expression.TypedForm.TheFolds as folds
use Rattle.typed_tree.specs.declared.expression.TypedExpr.{TypedExpr}
use Rattle.typed_tree.specs.declared.expression.TypedRow.{TypedRow, out-TypedRow}
use Rattle.typed_tree.specs.declared.expression.TypedTerm.{TypedTerm}
use Rattle.typed_tree.specs.declared.expression.TypedFactor.{TypedFactor}
use Rattle.typed_tree.specs.Cost.{Costed, CostedPart, cost_of_all, terms_cost, factors_cost, more_factors_cost, entries_of, form_cost, expression_costed, factor_costed, row_cost, term_costed}
use Rattle.typed_measures.specs.Costs as costs
use Rattle.typed_measures.specs.Costs.{terms_from, factors_from, sum_node, product_node}
use Rattle.typed_measures.specs.Limited.{limited}

pub sum_limited : (r a b m n : ℕ) → r ≡ limited (a + b) → a ≡ limited m → b ≡ limited n → r ≡ limited (m + n)
unfolding limited
sum_limited r a b m n is left right = omega arith

pub more_limited : (r a m : ℕ) → r ≡ limited (suc a) → a ≡ limited m → r ≡ limited (suc m)
unfolding limited
more_limited r a m is one = omega arith

-- a limited cost that counts several times
pub repeated_limited : (r a c m : ℕ) → r ≡ limited (c * a) → a ≡ limited m → r ≡ limited (c * m)
unfolding limited
repeated_limited r a zero m is part = is ∙ ap (λ n. min n (suc MOST_FUNCTION_COST)) (zero-mul a ∙ sym (zero-mul m))
repeated_limited r a (suc k) m is part =
    let here : suc k * a ≡ k * a + a = suc-mul k a in
    let there : suc k * m ≡ k * m + m = suc-mul k m in
    elim (leb_tells m (suc MOST_FUNCTION_COST)) as (λ _. r ≡ limited (suc k * m)) [
      | inl small ↦
          let same : a ≡ m = omega arith in
          is ∙ ap (λ n. limited (suc k * n)) same
      | inr large ↦ omega arith
    ]

pub scaled_limited : (r a c m : ℕ) → r ≡ limited (a * c) → a ≡ limited m → r ≡ limited (m * c)
scaled_limited r a c m is part =
    repeated_limited r a c m (is ∙ ap limited (mul_comm a c)) part ∙ ap limited (mul_comm c m)

part_limited : (total next part value rest whole : ℕ) → next ≡ limited (total + part) → part ≡ limited value
    → limited (total + (value + rest)) ≡ whole → limited (next + rest) ≡ whole
unfolding limited
part_limited total next part value rest whole is one before = omega arith

-- another part of a sum that goes down a list
pub part_more : {A : Type 0} (before after : List A → ℕ) (xs : List A) (i : ℕ) (x : A) (value total next part whole : ℕ)
    → ((rest : List A) → before (x ∷ rest) ≡ value + after rest) → i < length xs → x ≡ get_or xs i x
    → next ≡ limited (total + part) → part ≡ limited value → limited (total + before (drop i xs)) ≡ whole → limited (next + after (drop (i + 1) xs)) ≡ whole
part_more before after xs i x value total next part whole splits below here is one so_far =
    let rest = drop (i + 1) xs in
    let split : before (drop i xs) ≡ value + after rest = ap before (drop_more xs i x below ∙ ap (λ y. y ∷ rest) (sym here)) ∙ splits rest in
    part_limited total next part value (after rest) whole is one (sym (ap (λ all. limited (total + all)) split) ∙ so_far)

-- no part is left of a sum
pub part_none : {A : Type 0} (before : List A → ℕ) (xs : List A) (i total whole : ℕ) → before [] ≡ 0 → length xs ≤ i
    → total ≤ suc MOST_FUNCTION_COST → limited (total + before (drop i xs)) ≡ whole → total ≡ whole
unfolding limited
part_none before xs i total whole none past small so_far =
    let last : before (drop i xs) ≡ 0 = ap before (drop_all i xs past) ∙ none in
    omega arith

pub within_limit : (r n : ℕ) → r ≡ limited n → r ≤ suc MOST_FUNCTION_COST
unfolding limited
within_limit r n is = omega arith

-- a sum of what was mapped
pub mapped_sum : {A : Type 0} (f : A → ℕ) (xs : List A) → sum_by (λ cost. cost) (map f xs) ≡ sum_by f xs
mapped_sum f [] = refl
mapped_sum f (x ∷ xs) =
    sum_by-cons (λ cost. cost) (f x) (map f xs) ∙ ap (λ rest. f x + rest) (mapped_sum f xs) ∙ sym (sum_by-cons f x xs)

-- ---- terms and factors

other_term : CostedPart → ℕ
other_term part = part.value.cost + entries_of part.node.value_type

other_terms : (parts : List CostedPart) → terms_from false parts ≡ sum_by other_term parts
unfolding other_term
other_terms [] = refl
other_terms (part ∷ parts) = ap (λ rest. other_term part + rest) (other_terms parts) ∙ sym (sum_by-cons other_term part parts)

pub all_terms : (parts : List CostedPart) → terms_from true parts ≡ terms_cost parts
unfolding other_term
all_terms [] = refl
all_terms (part ∷ parts) = let rest = other_terms parts in ap (λ n. part.value.cost + sum_node true part.sign part.node.value_type + n) rest

other_factors : (left : NodeType) (parts : List CostedPart) → factors_from (Some left) parts ≡ more_factors_cost left parts
other_factors left [] = refl
other_factors left (part ∷ parts) =
    ap (λ rest. part.value.cost + product_node (Some left) part.sign part.value.type part.node.value_type + rest) (other_factors part.node.value_type parts)

pub all_factors : (parts : List CostedPart) → factors_from None parts ≡ factors_cost parts
all_factors [] = refl
all_factors (part ∷ parts) = let rest = other_factors part.node.value_type parts in omega arith

-- a term, as it stands in the tree
pub term_splits : (is_first : Bool) (t : TypedTerm) (rest : List TypedTerm)
    → terms_from is_first (map costs.term (t ∷ rest)) ≡ costs.term_cost is_first t + terms_from false (map costs.term rest)
term_splits is_first t rest =
    ap (λ (part : CostedPart). terms_from is_first (part ∷ map costs.term rest)) (folds.fold_out-TypedTerm (NodeType → ℕ) Costed CostedPart ℕ CostedPart form_cost expression_costed factor_costed row_cost term_costed t)

-- an expression's type, as it stands in the tree
expression_type : (e : TypedExpr) → (costs.expression e).type ≡ e.node.value_type
expression_type e = ap (λ (c : Costed). c.type) (folds.fold_out-TypedExpr (NodeType → ℕ) Costed CostedPart ℕ CostedPart form_cost expression_costed factor_costed row_cost term_costed e)

-- a factor, as it stands in the tree
pub factor_splits : (left : Option NodeType) (f : TypedFactor) (rest : List TypedFactor)
    → factors_from left (map costs.factor (f ∷ rest)) ≡ costs.factor_cost left f + factors_from (Some f.node.value_type) (map costs.factor rest)
factor_splits left f rest =
    ap (λ (part : CostedPart). factors_from left (part ∷ map costs.factor rest)) (folds.fold_out-TypedFactor (NodeType → ℕ) Costed CostedPart ℕ CostedPart form_cost expression_costed factor_costed row_cost term_costed f)
    ∙ ap (λ (right : NodeType). (costs.expression f.value).cost + product_node left f.entrywise right f.node.value_type + factors_from (Some f.node.value_type) (map costs.factor rest)) (expression_type f.value)

-- a row, as it stands in the tree
pub row_splits : (row : TypedRow) (rest : List TypedRow)
    → sum_by (λ cost. cost) (map costs.row (row ∷ rest)) ≡ cost_of_all (map costs.expression (out-TypedRow row).entries) + sum_by (λ cost. cost) (map costs.row rest)
row_splits row rest =
    sum_by-cons (λ cost. cost) (costs.row row) (map costs.row rest)
    ∙ ap (λ n. n + sum_by (λ cost. cost) (map costs.row rest)) (folds.fold_out-TypedRow (NodeType → ℕ) Costed CostedPart ℕ CostedPart form_cost expression_costed factor_costed row_cost term_costed row)
