-- Lists to which something is appended.
use Rattle.std.proofs.Common.{◌≡◌, ℕ, ◌+◌, ◌<◌, ◌≤◌, Bool, true, false, List, [], ◌∷◌, ◌++◌, append-nil, append_assoc, map, length, drop, get_or, refl, sym, ap, ◌∙◌}
use Rattle.std.proofs.lemmas.List.{drop_more, drop_all}
use Rattle.type_rules.specs.declared.types.NodeType.{NodeType}
use Rattle.typed_tree.specs.declared.expression.TypedForm.TheFolds as folds
use Rattle.typed_tree.specs.declared.expression.TypedRow.{TypedRow, out-TypedRow}
use Rattle.typed_tree.specs.declared.expression.TypedTerm.{TypedTerm}
use Rattle.typed_tree.specs.declared.expression.TypedFactor.{TypedFactor}
use Rattle.typed_tree.specs.Nodes.{Nodes, PartNodes, joined, sum_nodes, product_nodes, form_nodes, expression_form, factor_part, row_entries, term_part, nodes_of, nodes_of_row, nodes_of_term, nodes_of_factor}
use Rattle.typed_measures.specs.Longer.{Longer}
use Rattle.typed_measures.specs.Parts as parts

pub longer_none : {A : Type 0} (a : List A) → Longer a a []
longer_none a = record { is = sym (append-nil a) }

pub longer_twice : {A : Type 0} (a b c p q : List A) → Longer a b p → Longer b c q → Longer a c (p ++ q)
longer_twice a b c p q h k = record { is = k.is ∙ ap (λ t. t ++ q) h.is ∙ append_assoc a p q }

-- another part of what goes down a list
pub part_more : {A B : Type 0} (before after : List A → List B) (xs : List A) (i : ℕ) (x : A) (part first now next whole : List B)
    → ((rest : List A) → before (x ∷ rest) ≡ part ++ after rest) → i < length xs → x ≡ get_or xs i x → Longer now next part
    → first ++ whole ≡ now ++ before (drop i xs) → first ++ whole ≡ next ++ after (drop (i + 1) xs)
part_more before after xs i x part first now next whole splits below here grown so_far =
    let rest = drop (i + 1) xs in
    let split : before (drop i xs) ≡ part ++ after rest = ap before (drop_more xs i x below ∙ ap (λ y. y ∷ rest) (sym here)) ∙ splits rest in
    so_far ∙ ap (λ t. now ++ t) split ∙ sym (append_assoc now part (after rest)) ∙ sym (ap (λ t. t ++ after rest) grown.is)

-- no part is left
pub part_none : {A B : Type 0} (before : List A → List B) (xs : List A) (i : ℕ) (first now whole : List B)
    → before [] ≡ [] → length xs ≤ i → first ++ whole ≡ now ++ before (drop i xs) → Longer first now whole
part_none before xs i first now whole none past so_far =
    record { is = sym (so_far ∙ ap (λ t. now ++ t) (ap before (drop_all i xs past) ∙ none) ∙ append-nil now) }

pub longer_program : {A : Type 0} (a b p q : List A) → Longer [] a p → Longer a b q → b ≡ p ++ q
longer_program a b p q h k = k.is ∙ ap (λ t. t ++ q) h.is

-- ---- rows, terms and factors, as they stand in the tree

pub row_splits : (row : TypedRow) (rest : List TypedRow) → joined (map nodes_of_row (row ∷ rest)) ≡ joined (map nodes_of (out-TypedRow row).entries) ++ joined (map nodes_of_row rest)
row_splits row rest =
    ap (λ (part : Nodes). part ++ joined (map nodes_of_row rest)) (folds.fold_out-TypedRow (NodeType → Nodes) Nodes PartNodes Nodes PartNodes form_nodes expression_form factor_part row_entries term_part row)

pub term_splits : (is_first : Bool) (t : TypedTerm) (rest : List TypedTerm)
    → sum_nodes is_first (map nodes_of_term (t ∷ rest)) ≡ parts.term is_first t ++ sum_nodes false (map nodes_of_term rest)
term_splits is_first t rest =
    ap (λ (part : PartNodes). sum_nodes is_first (part ∷ map nodes_of_term rest)) (folds.fold_out-TypedTerm (NodeType → Nodes) Nodes PartNodes Nodes PartNodes form_nodes expression_form factor_part row_entries term_part t)
    ∙ same is_first
  where
    same : (b : Bool) → sum_nodes b (term_part (record { node = t.node; minus = t.minus; value = nodes_of t.value }) ∷ map nodes_of_term rest) ≡ parts.term b t ++ sum_nodes false (map nodes_of_term rest)
    same true = refl
    same false = refl

pub factor_splits : (is_first : Bool) (f : TypedFactor) (rest : List TypedFactor)
    → product_nodes is_first (map nodes_of_factor (f ∷ rest)) ≡ parts.factor is_first f ++ product_nodes false (map nodes_of_factor rest)
factor_splits is_first f rest =
    ap (λ (part : PartNodes). product_nodes is_first (part ∷ map nodes_of_factor rest)) (folds.fold_out-TypedFactor (NodeType → Nodes) Nodes PartNodes Nodes PartNodes form_nodes expression_form factor_part row_entries term_part f)
    ∙ same is_first
  where
    same : (b : Bool) → product_nodes b (factor_part (record { node = f.node; entrywise = f.entrywise; value = nodes_of f.value }) ∷ map nodes_of_factor rest) ≡ parts.factor b f ++ product_nodes false (map nodes_of_factor rest)
    same true = refl
    same false = refl
