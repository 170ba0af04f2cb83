-- A set as contracts see it, and the conditions that it has to meet by itself.
use Rattle.std.specs.Prelude.{◌≡◌, ◌<◌, ◌≤◌, ◌*◌, ◌+◌, ◌↔◌, ℕ, List, [], length, All, Option, IsNone, slice_index, slice_index_or, slice_set}
use Rattle.vocabulary.specs.declared.limits.TheConstants.{MOST_COLUMNS, MOST_ELEMENTS, MOST_ENDPOINTS}

pub record SetValue : Type 0 where
  -- how many elements it has
  pub count : ℕ
  -- the number of the set that its endpoints lie in; none for a vertex set
  pub over : Option ℕ
  -- how many endpoints each element has; 0 for a vertex set
  pub arity : ℕ
  -- the endpoints, element after element, each element's by their positions
  pub endpoints : List ℕ
  -- the columns, each with one word per element
  pub columns : List (List ℕ)

-- the set of these parts
abbrev pub set_of : ℕ → Option ℕ → ℕ → List ℕ → List (List ℕ) → SetValue
set_of count over arity endpoints columns =
    record { count = count; over = over; arity = arity; endpoints = endpoints; columns = columns }

-- the endpoint at a position of an element
abbrev pub endpoint_at : SetValue → ℕ → ℕ → ℕ
endpoint_at set element position = slice_index set.endpoints (element * set.arity + position)

-- the words of a column
abbrev pub column_at : SetValue → ℕ → List ℕ
column_at set column = slice_index_or set.columns column []

-- the set with other words in one of its columns
abbrev pub with_column : SetValue → ℕ → List ℕ → SetValue
with_column set column words = record set { columns = slice_set set.columns column words }

-- every endpoint is below the bound
abbrev pub EndpointsBelow : SetValue → ℕ → Type 0
EndpointsBelow set bound =
    (element position : ℕ) → element < set.count → position < set.arity → endpoint_at set element position < bound

-- the parts of a set fit each other and the limits
pub record IsSetData (set : SetValue) : Type 0 where
  pub few_elements : set.count ≤ MOST_ELEMENTS
  pub few_endpoints : set.arity ≤ MOST_ENDPOINTS
  pub few_columns : length set.columns ≤ MOST_COLUMNS
  pub over_none : IsNone set.over ↔ (set.arity ≡ 0)
  pub endpoints : length set.endpoints ≡ set.count * set.arity
  pub one_word_each : All (λ words. length words ≡ set.count) set.columns
