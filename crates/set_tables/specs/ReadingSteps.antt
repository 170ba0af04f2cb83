-- What the steps of reading a table do to the endpoints and the columns that are gathered. Only private contracts cite
-- these words.
use Rattle.std.specs.Prelude.{◌≡◌, ◌≤◌, ◌⊎◌, ℕ, List, [], ◌∷◌, ◌++◌, length, map, Result, Ok, Err}
use Rattle.std.specs.List.{flat_map, zip}
use Rattle.vocabulary.specs.declared.limits.TheConstants.{MOST_ELEMENTS}
use Rattle.set_tables.specs.Table.{Element, columns_of}
use Rattle.set_tables.specs.declared.faults.TableFault.{TableFault}
use Rattle.set_tables.specs.declared.faults.TableFault.TheVariants.{Memory}

-- columns with another word each
abbrev pub with_row : List (List ℕ) → List ℕ → List (List ℕ)
with_row columns words = map (λ p. p.0 ++ p.1 ∷ []) (zip columns words)

-- a step ended in a fault: the known one, unless memory ran out
abbrev pub Fails : {A : Type 0} → Result A TableFault → TableFault → Type 0
Fails known fault = (fault ≡ Memory) ⊎ (known ≡ Err fault)

-- the endpoints grow by the known ones
abbrev pub AddsEndpoints : Result (List ℕ) TableFault → List ℕ → List ℕ → Result (Unit {0}) TableFault → Type 0
AddsEndpoints known old new (Ok _) = (more : List ℕ) × (known ≡ Ok more) × (new ≡ old ++ more)
AddsEndpoints known old new (Err fault) = Fails known fault

-- the columns grow by the known words, one each
abbrev pub AddsWords : Result (List ℕ) TableFault → List (List ℕ) → List (List ℕ) → Result (Unit {0}) TableFault → Type 0
AddsWords known old new (Ok _) = (words : List ℕ) × (known ≡ Ok words) × (new ≡ with_row old words)
AddsWords known old new (Err fault) = Fails known fault

-- endpoints and columns grow by the known element
abbrev pub AddsElement : Result Element TableFault → List ℕ → List ℕ → List (List ℕ) → List (List ℕ) → Result (Unit {0}) TableFault → Type 0
AddsElement known endpoints endpoints' columns columns' (Ok _) =
    (e : Element) × (known ≡ Ok e) × (endpoints' ≡ endpoints ++ e.endpoints) × (columns' ≡ with_row columns e.words)
AddsElement known endpoints endpoints' columns columns' (Err fault) = Fails known fault

-- there are so many known elements, at most as many as there may be, and these are their endpoints and their columns
pub record AreOf (width : ℕ) (known : Result (List Element) TableFault) (endpoints : List ℕ) (columns : List (List ℕ)) (count : ℕ) : Type 0 where
  pub elements : List Element
  pub stated : known ≡ Ok elements
  pub counted : count ≡ length elements
  pub few : count ≤ MOST_ELEMENTS
  pub endpoints_are : endpoints ≡ flat_map (λ e. e.endpoints) elements
  pub columns_are : columns ≡ columns_of width elements

-- the endpoints and the columns are those of the known elements
abbrev pub Gathers : ℕ → Result (List Element) TableFault → List ℕ → List (List ℕ) → Result ℕ TableFault → Type 0
Gathers width known endpoints columns (Ok count) = AreOf width known endpoints columns count
Gathers width known endpoints columns (Err fault) = Fails known fault
