-- How the elements of rows gather in endpoints and columns.
use Rattle.std.proofs.Common.{subst, ◌≡◌, ◌≤◌, ◌<◌, ◌+◌, ℕ, zero, suc, List, [], ◌∷◌, ◌++◌, length, map, get_or, replicate, Ok, refl, sym, ap, ◌∙◌, arith, length-append, append-nil}
use Rattle.std.specs.Prelude.{slice_index}
use Rattle.std.proofs.Common.{inl, inr}
use Rattle.std.specs.List.{All, enumerate_from, flat_map, range_with_len}
use Rattle.std.proofs.lemmas.Grind.{flat_map-append}
use Rattle.std.proofs.lemmas.List.{map-append, same_lists}
use Rattle.std.proofs.lemmas.List.FromFn.{get_or-map-range_with_len, length-map-range_with_len}
use Rattle.vocabulary.specs.declared.limits.TheConstants.{MOST_ELEMENTS}
use Rattle.set_tables.specs.ReadingSteps.{AreOf, Fails, with_row}
use Rattle.set_tables.specs.Records.{AreShort}
use Rattle.set_tables.specs.Table.{Element, columns_of, element_of, elements_from}
use Rattle.set_tables.specs.declared.faults.TableFault.{TableFault}
use Rattle.set_tables.specs.declared.schema.Schema.{Schema}
use Rattle.set_tables.proofs.Bound.{Continues, another, ends, fails, starts}
use Rattle.set_tables.proofs.ElementsRead.{length-with_row, row-is, with_row-at}

-- a column's word at an element
abbrev word_in : ℕ → Element → ℕ
word_in k e = slice_index e.words k

-- columns without words
empty-columns : (a n : ℕ) → replicate n [] ≡ map (λ k. map (word_in k) []) (range_with_len a n)
empty-columns a zero = refl
empty-columns a (suc n) = ap (λ (xs : List (List ℕ)). [] ∷ xs) (empty-columns (a + 1) n)

-- another element in each column
columns-push : (n : ℕ) (elements : List Element) (e : Element) → length e.words ≡ n → with_row (columns_of n elements) e.words ≡ columns_of n (elements ++ e ∷ [])
columns-push n elements e m =
    let size : length (columns_of n elements) ≡ n = length-map-range_with_len (λ k. map (word_in k) elements) 0 n in
    let size' : length (columns_of n (elements ++ e ∷ [])) ≡ n = length-map-range_with_len (λ k. map (word_in k) (elements ++ e ∷ [])) 0 n in
    let same : length e.words ≡ length (columns_of n elements) = omega arith in
    same_lists _ _ (length-with_row (columns_of n elements) e.words same ∙ size ∙ sym size') (λ k d l.
    let in' : k < length (columns_of n elements) = omega (arith, length-with_row (columns_of n elements) e.words same) in
    let below : k < n = omega arith in
    let zero-on : 0 + k ≡ k = omega arith in
    with_row-at (columns_of n elements) e.words k d in' same
    ∙ ap (λ (xs : List ℕ). xs ++ get_or e.words k 0 ∷ []) (get_or-map-range_with_len (λ k. map (word_in k) elements) 0 n k k [] below zero-on)
    ∙ sym (map-append (word_in k) elements (e ∷ []))
    ∙ sym (get_or-map-range_with_len (λ k. map (word_in k) (elements ++ e ∷ [])) 0 n k k d below zero-on))

-- so many rows were read, and the lists are the endpoints and the columns of their elements
pub record HasRead (schema : Schema) (bound : ℕ) (rows left : List (List (List ℕ))) (count : ℕ) (endpoints : List ℕ) (columns : List (List ℕ)) : Type 0 where
  pub elements : List Element
  pub known : Continues (elements_from schema bound 1 rows) (elements_from schema bound (count + 1) left) elements
  pub counted : count ≡ length elements
  pub few : count ≤ MOST_ELEMENTS
  pub endpoints_are : endpoints ≡ flat_map (λ e. e.endpoints) elements
  pub columns_are : columns ≡ columns_of (length schema.columns) elements

pub read-start : (schema : Schema) (bound : ℕ) (rows : List (List (List ℕ))) (endpoints : List ℕ) (columns : List (List ℕ)) → endpoints ≡ [] → columns ≡ replicate (length schema.columns) []
    → HasRead schema bound rows rows 0 endpoints columns
read-start schema bound rows endpoints columns no-endpoints no-words = record {
  elements = [];
  known = starts (elements_from schema bound 1 rows);
  counted = refl;
  few = omega arith;
  endpoints_are = no-endpoints;
  columns_are = no-words ∙ empty-columns 0 (length schema.columns);
}

-- there are as many columns as the schema has
pub read-width : (schema : Schema) (bound : ℕ) (rows left : List (List (List ℕ))) (count : ℕ) (endpoints : List ℕ) (columns : List (List ℕ)) → HasRead schema bound rows left count endpoints columns
    → length columns ≡ length schema.columns
read-width schema bound rows left count endpoints columns h = rw h.columns_are (length-map-range_with_len (λ k. map (word_in k) h.elements) 0 (length schema.columns))

-- the next row states an element
pub read-step : (schema : Schema) (bound : ℕ) (rows left left' : List (List (List ℕ))) (row : List (List ℕ)) (count : ℕ) (endpoints endpoints' : List ℕ) (columns columns' : List (List ℕ)) (e : Element)
    → HasRead schema bound rows left count endpoints columns → left ≡ row ∷ left' → element_of schema bound (count + 1) row ≡ Ok e
    → endpoints' ≡ endpoints ++ e.endpoints → columns' ≡ with_row columns e.words → HasRead schema bound rows left' (count + 1) endpoints' columns'
unfolding elements_from
read-step schema bound rows left left' row count endpoints endpoints' columns columns' e h first is more-endpoints more-words =
    let facts = row-is schema bound (count + 1) row e is in
    record {
      elements = h.elements ++ e ∷ [];
      known =
          another (elements_from schema bound 1 rows) e (map (λ p. element_of schema bound p.0 p.1) (enumerate_from (count + 1 + 1) left')) h.elements
          (rw (first, is) at h.known);
      counted = sym (length-append h.elements (e ∷ []) ∙ ap (λ n. n + 1) (sym h.counted));
      few = facts.few;
      endpoints_are =
          more-endpoints ∙ ap (λ (xs : List ℕ). xs ++ e.endpoints) h.endpoints_are
          ∙ ap (λ (xs : List ℕ). flat_map (λ (x : Element). x.endpoints) h.elements ++ xs) (sym (append-nil e.endpoints))
          ∙ sym (flat_map-append (λ (x : Element). x.endpoints) h.elements (e ∷ []));
      columns_are = more-words ∙ rw h.columns_are (columns-push (length schema.columns) h.elements e facts.many_words);
    }

-- the next row has a fault
pub read-fail : (schema : Schema) (bound : ℕ) (rows left left' : List (List (List ℕ))) (row : List (List ℕ)) (count : ℕ) (endpoints : List ℕ) (columns : List (List ℕ)) (fault : TableFault)
    → HasRead schema bound rows left count endpoints columns → left ≡ row ∷ left' → Fails (element_of schema bound (count + 1) row) fault → Fails (elements_from schema bound 1 rows) fault
unfolding elements_from
read-fail schema bound rows left left' row count endpoints columns fault h first (inl memory) = inl memory
read-fail schema bound rows left left' row count endpoints columns fault h first (inr is) =
    inr (fails (elements_from schema bound 1 rows) fault (map (λ p. element_of schema bound p.0 p.1) (enumerate_from (count + 1 + 1) left')) h.elements (rw (first, is) at h.known))

-- no row is left
pub read-end : (schema : Schema) (bound : ℕ) (rows left : List (List (List ℕ))) (count : ℕ) (endpoints : List ℕ) (columns : List (List ℕ)) → HasRead schema bound rows left count endpoints columns → left ≡ []
    → AreOf (length schema.columns) (elements_from schema bound 1 rows) endpoints columns count
unfolding elements_from
read-end schema bound rows left count endpoints columns h none = record {
  elements = h.elements;
  stated = ends (elements_from schema bound 1 rows) h.elements (rw none at h.known);
  counted = h.counted;
  few = h.few;
  endpoints_are = h.endpoints_are;
  columns_are = h.columns_are;
}

-- the first record is short, and the others are
pub first-short : (left left' : List (List (List ℕ))) (row : List (List ℕ)) → left ≡ row ∷ left' → All AreShort left → AreShort row
first-short left left' row e h k d l = let h' = subst (λ (rows : List (List (List ℕ))). All AreShort rows) e h in h' 0 row (omega arith) k d l

pub others-short : (left left' : List (List (List ℕ))) (row : List (List ℕ)) → left ≡ row ∷ left' → All AreShort left → All AreShort left'
others-short left left' row e h k d l = let h' = subst (λ (rows : List (List (List ℕ))). All AreShort rows) e h in h' (suc k) d (omega arith)
