-- Reserved names, position after position.
use Rattle.std.proofs.Common.{◌≡◌, ℕ, ◌+◌, Bool, true, false, ◌||◌, [], ◌∷◌, ◌++◌, refl, ap, ◌∙◌, arith}
use Rattle.std.specs.List.{list_any, range_with_len}
use Rattle.std.specs.Str.{bytes_eq}
use Rattle.std.proofs.lemmas.List.{map-id}
use Rattle.std.proofs.lemmas.List.Folds.{list_any-append}
use Rattle.std.proofs.lemmas.List.FromFn.{map-range_with_len_more}
use Rattle.typed_tree.specs.Names.{Name}
use Rattle.typed_tree.specs.Declarations.{endpoint_column}
use Rattle.declaration_types.specs.Reserved.{is_reserved_below}

-- the next number
range_more : (n : ℕ) → range_with_len 0 (n + 1) ≡ range_with_len 0 n ++ n ∷ []
range_more n = simp map-id at (map-range_with_len_more (λ (x : ℕ). x) 0 n n (omega arith))

regrouped : (a b c : Bool) → (a || (b || (c || false))) ≡ ((a || b) || c)
regrouped true b c = refl
regrouped false true c = refl
regrouped false false true = refl
regrouped false false false = refl

-- another position
pub reserved_more : (name : Name) (n : ℕ) → is_reserved_below (n + 1) name ≡ (is_reserved_below n name || bytes_eq name (endpoint_column n))
reserved_more name n =
    let column : ℕ → Bool = λ position. bytes_eq name (endpoint_column position) in
    let first = bytes_eq name (107 ∷ 101 ∷ 121 ∷ []) in
    ap (λ positions. first || list_any column positions) (range_more n) ∙ ap (λ b. first || b) (list_any-append column (range_with_len 0 n) (n ∷ []))
    ∙ regrouped first (list_any column (range_with_len 0 n)) (column n)
