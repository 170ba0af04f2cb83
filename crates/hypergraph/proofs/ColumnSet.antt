-- Sets after a change of one column.
use Rattle.std.proofs.Common.{◌≡◌, ◌<◌, ℕ, List, Option, None, Some, length, refl, ◌∙◌, inl, inr}
use Rattle.std.specs.Prelude.{slice_set, IfSome}
use Rattle.std.proofs.lemmas.Bool.{cases_eq}
use Rattle.std.proofs.lemmas.List.{get_or-set_same, get_or-set_other, length-set}
use Rattle.std.proofs.lemmas.List.Elements.{All-set}
use Rattle.hypergraph.specs.SetValue.{SetValue, IsSetData, EndpointsBelow, with_column}
use Rattle.hypergraph.specs.Sets.{AreSets, IsSetAmong, set_at, empty_set, count_over, endpoint_bound}

-- two sets that differ in their columns alone
record SameEnds (a b : SetValue) : Type 0 where
  count : b.count ≡ a.count
  over : b.over ≡ a.over
  arity : b.arity ≡ a.arity
  endpoints : b.endpoints ≡ a.endpoints

-- a set in position of one that differs from it in its columns alone
same-set_at : (sets : List SetValue) (number : ℕ) (set : SetValue) → number < length sets → SameEnds (set_at sets number) set → (n : ℕ) → SameEnds (set_at sets n) (set_at (slice_set sets number set) n)
same-set_at sets number set in' same n = elim (cases_eq n number) [
  | inl e ↦ rw (e, get_or-set_same sets number set empty_set in') same
  | inr ne ↦ rw (get_or-set_other sets number n set empty_set ne) (record { count = refl; over = refl; arity = refl; endpoints = refl })
]

-- a set in position of another, among sets
is_set-set_at : (sets : List SetValue) (number : ℕ) (set : SetValue) → number < length sets → IsSetData set → (n : ℕ) → IsSetData (set_at sets n) → IsSetData (set_at (slice_set sets number set) n)
is_set-set_at sets number set in' is_set n before = elim (cases_eq n number) [
  | inl e ↦ rw (e, get_or-set_same sets number set empty_set in') is_set
  | inr ne ↦ rw (get_or-set_other sets number n set empty_set ne) before
]

-- a set still lies over an earlier vertex set
earlier-same : (sets sets' : List SetValue) (number : ℕ) (over : Option ℕ) → ((n : ℕ) → SameEnds (set_at sets n) (set_at sets' n)) → IfSome over (λ o. (o < number) × ((set_at sets o).arity ≡ 0)) → IfSome over (λ o. (o < number) × ((set_at sets' o).arity ≡ 0))
earlier-same sets sets' number None same earlier = tt
earlier-same sets sets' number (Some o) same earlier = (earlier.0, (same o).arity ∙ earlier.1)

count_over-same : (sets sets' : List SetValue) (over : Option ℕ) → ((n : ℕ) → SameEnds (set_at sets n) (set_at sets' n)) → count_over sets' over ≡ count_over sets over
count_over-same sets sets' None same = refl
count_over-same sets sets' (Some o) same = (same o).count

-- endpoints stay below a bound
below-same : (a b : SetValue) (bound : ℕ) → SameEnds a b → EndpointsBelow a bound → EndpointsBelow b bound
below-same a b bound same below element position element_in position_in =
    rw (same.endpoints, same.arity) (below element position (rw same.count at element_in) (rw same.arity at position_in))

fits-same : (sets sets' : List SetValue) (number : ℕ) → ((n : ℕ) → SameEnds (set_at sets n) (set_at sets' n)) → IsSetData (set_at sets' number) → IsSetAmong sets number → IsSetAmong sets' number
fits-same sets sets' number same is_set fits = record {
  is_set = is_set;
  over_earlier = rw (same number).over (earlier-same sets sets' number (set_at sets number).over same fits.over_earlier);
  endpoints_below =
      let bound : endpoint_bound sets' number ≡ endpoint_bound sets number = rw (same number).over (count_over-same sets sets' (set_at sets number).over same) in
      rw bound (below-same (set_at sets number) (set_at sets' number) (endpoint_bound sets number) (same number) fits.endpoints_below);
}

-- with as many words in a column, a set is a set
is_set-with_column : (set : SetValue) (column : ℕ) (words : List ℕ) → length words ≡ set.count → IsSetData set → IsSetData (with_column set column words)
is_set-with_column set column words as_many is_set = record {
  few_elements = is_set.few_elements;
  few_endpoints = is_set.few_endpoints;
  few_columns = rw length-set is_set.few_columns;
  over_none = is_set.over_none;
  endpoints = is_set.endpoints;
  one_word_each = All-set (λ w. length w ≡ set.count) set.columns column words as_many is_set.one_word_each;
}

-- with as many words in a column of one set, they are sets
pub are_sets-with_column : (sets : List SetValue) (number column : ℕ) (words : List ℕ) → number < length sets → length words ≡ (set_at sets number).count → AreSets sets → AreSets (slice_set sets number (with_column (set_at sets number) column words))
are_sets-with_column sets number column words in' as_many sets_are =
    let changed = with_column (set_at sets number) column words in
    let same = same-set_at sets number changed in' (record { count = refl; over = refl; arity = refl; endpoints = refl }) in
    let is_set = is_set-with_column (set_at sets number) column words as_many (sets_are.each number in').is_set in
    record {
      few = rw length-set sets_are.few;
      each = λ n within.
          let fits = sets_are.each n (rw length-set at within) in
          fits-same sets (slice_set sets number changed) n same (is_set-set_at sets number changed in' is_set n fits.is_set) fits;
    }
