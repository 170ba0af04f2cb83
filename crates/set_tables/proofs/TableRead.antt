-- How the records of a table's bytes are its set.
use Rattle.std.proofs.Common.{◌≡◌, ◌≤◌, ◌<◌, ◌+◌, ◌*◌, ◌↔◌, ℕ, suc, List, [], ◌∷◌, length, map, get_or, Option, Ok, Err, refl, sym, ap, ◌∙◌, arith, length-append}
use Rattle.std.proofs.Common.{inl, inr}
use Rattle.std.specs.Prelude.{IsNone, slice_index}
use Rattle.std.specs.List.{All, enumerate_from, flat_map}
use Rattle.std.proofs.lemmas.List.{length-map}
use Rattle.std.proofs.lemmas.List.FromFn.{get_or-map-range_with_len, length-map-range_with_len}
use Rattle.std.proofs.lemmas.List.Elements.{All-append}
use Rattle.std.proofs.lemmas.Nat.{mul-add-lt}
use Rattle.vocabulary.specs.Answers.{◌>>=◌, Answers}
use Rattle.vocabulary.specs.declared.limits.TheConstants.{MOST_COLUMNS}
use Rattle.hypergraph.specs.SetValue.{EndpointsBelow, IsSetData, SetValue, set_of}
use Rattle.csv.specs.Reading.{default_config, records, strip_bom}
use Rattle.set_tables.proofs.Bound.{bound-ok, each-value, ok}
use Rattle.set_tables.proofs.ElementsRead.{row-is}
use Rattle.set_tables.specs.ReadingSteps.{AreOf, Fails}
use Rattle.set_tables.specs.Schema.{Fits, IsSchema}
use Rattle.set_tables.specs.Table.{Element, element_of, elements_from, elements_of, header_of, set_of_elements, set_stated, table_set}
use Rattle.set_tables.specs.declared.faults.TableFault.{TableFault}
use Rattle.set_tables.specs.declared.faults.TableFault.TheVariants.{Memory, NoHeader}
use Rattle.set_tables.specs.declared.schema.Schema.{Schema}

-- ---- the answer by the records

-- no record, a first one that is no header, and a fault of a row
pub no-records : (schema : Schema) (over : Option ℕ) (bound : ℕ) (left : List (List (List ℕ))) → left ≡ [] → set_stated schema over bound left ≡ Err NoHeader
unfolding elements_of
no-records schema over bound left none = rw none refl

pub no-header : (schema : Schema) (over : Option ℕ) (bound : ℕ) (left rows : List (List (List ℕ))) (header : List (List ℕ)) (fault : TableFault) → left ≡ header ∷ rows
    → header_of schema header ≡ Err fault → set_stated schema over bound left ≡ Err fault
unfolding elements_of
no-header schema over bound left rows header fault first other = rw (first, other) refl

pub rows-fail : (schema : Schema) (over : Option ℕ) (bound : ℕ) (left rows : List (List (List ℕ))) (header : List (List ℕ)) (fault : TableFault) → left ≡ header ∷ rows
    → header_of schema header ≡ Ok tt → Fails (elements_from schema bound 1 rows) fault → Answers Memory (set_stated schema over bound left) (Err fault)
unfolding elements_of
rows-fail schema over bound left rows header fault first same (inl memory) = inl memory
rows-fail schema over bound left rows header fault first same (inr known) = inr (rw (first, same, known) refl)

-- the header and all rows are good
pub all-good : (schema : Schema) (over : Option ℕ) (bound : ℕ) (left rows : List (List (List ℕ))) (header : List (List ℕ)) (count : ℕ) (endpoints : List ℕ) (columns : List (List ℕ))
    → left ≡ header ∷ rows → header_of schema header ≡ Ok tt → AreOf (length schema.columns) (elements_from schema bound 1 rows) endpoints columns count
    → set_stated schema over bound left ≡ Ok (set_of count over schema.arity endpoints columns)
unfolding elements_of
all-good schema over bound left rows header count endpoints columns first same are =
    rw (first, same, are.stated, ← are.counted, ← are.endpoints_are, ← are.columns_are) refl

-- ---- what the set is

-- the endpoints of elements that each have so many
record AreEndpoints (arity bound count : ℕ) (endpoints : List ℕ) : Type 0 where
  many : length endpoints ≡ count * arity
  below : All (λ endpoint. endpoint < bound) endpoints

endpoints-of-all : (arity bound : ℕ) (elements : List Element) → All (λ e. length e.endpoints ≡ arity) elements → All (λ e. All (λ endpoint. endpoint < bound) e.endpoints) elements
    → AreEndpoints arity bound (length elements) (flat_map (λ e. e.endpoints) elements)
endpoints-of-all arity bound [] many below = record { many = omega arith; below = λ k d l. absurd (omega arith) }
endpoints-of-all arity bound (e ∷ elements) many below =
    let others = endpoints-of-all arity bound elements (λ k d l. many (suc k) d (omega arith)) (λ k d l. below (suc k) d (omega arith)) in
    let front : length e.endpoints ≡ arity = many 0 e (omega arith) in
    let rest = flat_map (λ (x : Element). x.endpoints) elements in
    record {
      many = length-append e.endpoints rest ∙ omega (arith, others.many);
      below = All-append (λ endpoint. endpoint < bound) e.endpoints rest (below 0 e (omega arith)) others.below;
    }

from-rows : (schema : Schema) (bound : ℕ) (rows : List (List (List ℕ))) (elements : List Element) → elements_from schema bound 1 rows ≡ Ok elements
    → AreEndpoints schema.arity bound (length elements) (flat_map (λ e. e.endpoints) elements)
unfolding elements_from
from-rows schema bound rows elements stated =
    endpoints-of-all schema.arity bound elements
    (each-value (λ e. length e.endpoints ≡ schema.arity) (λ p. element_of schema bound p.0 p.1)
    (λ p e is. (row-is schema bound p.0 p.1 e is).many_endpoints) (enumerate_from 1 rows) elements stated)
    (each-value (λ e. All (λ endpoint. endpoint < bound) e.endpoints) (λ p. element_of schema bound p.0 p.1)
    (λ p e is. (row-is schema bound p.0 p.1 e is).below) (enumerate_from 1 rows) elements stated)

-- the set of elements that rows state
pub record IsMade (schema : Schema) (over : Option ℕ) (bound : ℕ) (set : SetValue) : Type 0 where
  pub fits : Fits schema set
  pub over_is : set.over ≡ over
  pub endpoints_below : EndpointsBelow set bound

made : (schema : Schema) (over : Option ℕ) (bound : ℕ) (rows : List (List (List ℕ))) (elements : List Element) → elements_from schema bound 1 rows ≡ Ok elements
    → IsMade schema over bound (set_of_elements schema over elements)
made schema over bound rows elements stated =
    let are = from-rows schema bound rows elements stated in
    record {
      fits = record {
        same_arity = refl;
        as_many = length-map-range_with_len (λ k. map (λ e. slice_index e.words k) elements) 0 (length schema.columns);
      };
      over_is = refl;
      endpoints_below = λ element position in' within.
          are.below (element * schema.arity + position) 0 (omega (arith, are.many, mul-add-lt element schema.arity position (length elements) in' within));
    }

stated-made : (schema : Schema) (over : Option ℕ) (bound : ℕ) (left : List (List (List ℕ))) (set : SetValue) → set_stated schema over bound left ≡ Ok set → IsMade schema over bound set
unfolding elements_of
stated-made schema over bound [] set e = cc e
stated-made schema over bound (header ∷ rows) set e =
    let rows_then = λ (u : Unit {0}). elements_from schema bound 1 rows in
    let (elements, first, made') = bound-ok (header_of schema header >>= rows_then) (λ (elements : List Element). ok TableFault (set_of_elements schema over elements)) set e in
    let (u, header', stated) = bound-ok (header_of schema header) rows_then elements first in
    let same : set_of_elements schema over elements ≡ set = cc made' in
    rw (← same) (made schema over bound rows elements stated)

pub table-made : (schema : Schema) (over : Option ℕ) (bound : ℕ) (bytes : List ℕ) (set : SetValue) → table_set schema over bound bytes ≡ Ok set → IsMade schema over bound set
unfolding table_set
table-made schema over bound bytes set e = stated-made schema over bound (records default_config (strip_bom bytes)) set e

-- the parts that were gathered are a set
pub gathered-set : (schema : Schema) (over : Option ℕ) (bound : ℕ) (rows : List (List (List ℕ))) (count : ℕ) (endpoints : List ℕ) (columns : List (List ℕ))
    → IsSchema schema → schema.arity + length schema.columns ≤ MOST_COLUMNS → (IsNone over ↔ (schema.arity ≡ 0))
    → AreOf (length schema.columns) (elements_from schema bound 1 rows) endpoints columns count → IsSetData (set_of count over schema.arity endpoints columns)
gathered-set schema over bound rows count endpoints columns readable few none are =
    let made' = from-rows schema bound rows are.elements are.stated in
    let n = length schema.columns in
    let column : ℕ → List ℕ = λ k. map (λ (e : Element). slice_index e.words k) are.elements in
    let many : length columns ≡ n = ap length are.columns_are ∙ length-map-range_with_len column 0 n in
    record {
      few_elements = are.few;
      few_endpoints = readable.few_endpoints;
      few_columns = omega arith;
      over_none = none;
      endpoints = ap length are.endpoints_are ∙ made'.many ∙ ap (λ m. m * schema.arity) (sym are.counted);
      one_word_each = λ k d l.
          let below : k < n = omega arith in
          let zero-on : 0 + k ≡ k = omega arith in
          ap (λ (xs : List (List ℕ)). length (get_or xs k d)) are.columns_are
          ∙ ap length (get_or-map-range_with_len column 0 n k k d below zero-on)
          ∙ length-map are.elements (λ (e : Element). slice_index e.words k) ∙ sym are.counted;
    }
