-- What several columns that are replaced leave of a set.
use Rattle.std.proofs.Common.{◌≡◌, ◌≢◌, ◌⊎◌, ℕ, zero, suc, ◌+◌, ◌<◌, ◌≤◌, List, [], ◌∷◌, length, map, get_or, set, refl, sym, ap, subst, ◌∙◌, inl, inr, arith}
use Rattle.std.specs.List.{range_with_len}
use Rattle.std.proofs.lemmas.List.{get_or-set_other, get_or-set_same, length-set}
use Rattle.std.proofs.lemmas.List.FromFn.{get_or-map-range_with_len, length-map-range_with_len}
use Rattle.hypergraph.specs.SetValue.{SetValue, column_at, with_column}
use Rattle.hypergraph.specs.Sets.{empty_set, set_at}
use Rattle.typed_tree.specs.declared.program.TypedField.{TypedField}
use Rattle.value_algebra.specs.Fields.{column_words, first_column, with_columns, with_field}
use Rattle.write_back.specs.Assigned.{IsAssigned, width}

-- all but the columns stays
record Keeps (before after : SetValue) : Type 0 where
  pub as_many : length after.columns ≡ length before.columns
  pub count : after.count ≡ before.count
  pub over : after.over ≡ before.over
  pub arity : after.arity ≡ before.arity
  pub endpoints : after.endpoints ≡ before.endpoints

keeps : (s : SetValue) (first : ℕ) (columns : List (List ℕ)) → Keeps s (with_columns s first columns)
keeps s first [] = record { as_many = refl; count = refl; over = refl; arity = refl; endpoints = refl }
keeps s first (words ∷ columns) =
    let rest = keeps (with_column s first words) (first + 1) columns in
    record {
      as_many = rest.as_many ∙ length-set s.columns first words;
      count = rest.count;
      over = rest.over;
      arity = rest.arity;
      endpoints = rest.endpoints;
    }

-- a column before or after those that are replaced
others_stay : (s : SetValue) (first : ℕ) (columns : List (List ℕ)) (column : ℕ) → (column < first) ⊎ (first + length columns ≤ column)
    → column_at (with_columns s first columns) column ≡ column_at s column
others_stay s first [] column apart = refl
others_stay s first (words ∷ columns) column apart =
    others_stay (with_column s first words) (first + 1) columns column (further apart)
    ∙ get_or-set_other s.columns first column words [] (different apart)
  where
    further : (column < first) ⊎ (first + suc (length columns) ≤ column) → (column < first + 1) ⊎ (first + 1 + length columns ≤ column)
    further (inl below) = inl (omega arith)
    further (inr above) = inr (omega arith)

    different : (column < first) ⊎ (first + suc (length columns) ≤ column) → column ≢ first
    different (inl below) = λ same. omega arith
    different (inr above) = λ same. omega arith

-- one of those that are replaced
replaced : (s : SetValue) (first : ℕ) (columns : List (List ℕ)) (i : ℕ) → i < length columns → first + i < length s.columns
    → column_at (with_columns s first columns) (first + i) ≡ get_or columns i []
replaced s first [] i within there = absurd (omega arith)
replaced s first (words ∷ columns) zero within there =
    let here : first < length s.columns = omega arith in
    let at : first + 0 ≡ first = omega arith in
    ap (column_at (with_columns (with_column s first words) (first + 1) columns)) at
    ∙ others_stay (with_column s first words) (first + 1) columns first (inl (omega arith))
    ∙ get_or-set_same s.columns first words [] here
replaced s first (words ∷ columns) (suc i) within there =
    let next = with_column s first words in
    let many : length next.columns ≡ length s.columns = length-set s.columns first words in
    let at : first + suc i ≡ first + 1 + i = omega arith in
    ap (column_at (with_columns next (first + 1) columns)) at
    ∙ replaced next (first + 1) columns i (omega arith) (omega (arith, many))

field_assigned : (fields : List TypedField) (before : SetValue) (field : ℕ) (words : List ℕ) → IsAssigned fields field words before (with_field fields before field words)
unfolding with_field
field_assigned fields before field words =
    let size = width fields field in
    let first = first_column fields field in
    let column : ℕ → List ℕ = column_words before.count size words in
    let columns = map column (range_with_len 0 size) in
    let many : length columns ≡ size = length-map-range_with_len column 0 size in
    let kept = keeps before first columns in
    record {
      entries = λ entry within there.
          replaced before first columns entry (omega (arith, many)) there ∙ get_or-map-range_with_len column 0 size entry entry [] within (omega arith);
      others = λ c apart. others_stay before first columns c (subst (λ n. (c < first) ⊎ (first + n ≤ c)) (sym many) apart);
      as_many = kept.as_many;
      count = kept.count;
      over = kept.over;
      arity = kept.arity;
      endpoints = kept.endpoints;
    }

-- the set of the number is so, where it is there
pub is_assigned : (sets after : List SetValue) (number : ℕ) (fields : List TypedField) (field : ℕ) (words : List ℕ) → number < length sets
    → after ≡ set sets number (with_field fields (set_at sets number) field words) → IsAssigned fields field words (set_at sets number) (set_at after number)
is_assigned sets after number fields field words there is =
    subst (IsAssigned fields field words (set_at sets number))
    (sym (ap (λ s. set_at s number) is ∙ get_or-set_same sets number (with_field fields (set_at sets number) field words) empty_set there))
    (field_assigned fields (set_at sets number) field words)
