-- Which elements have a vertex among their endpoints.
use Rattle.std.specs.Prelude.{ℕ, Bool, ◌==◌, List, filter}
use Rattle.std.specs.List.{list_any, range_with_len}
use Rattle.hypergraph.specs.SetValue.{SetValue, endpoint_at}

-- whether some position of the element is the vertex
unfoldable pub has_endpoint : SetValue → ℕ → ℕ → Bool
has_endpoint set vertex element =
    list_any (λ position. endpoint_at set element position == vertex) (range_with_len 0 set.arity)

-- those of the set's elements that have the vertex at some position
abbrev pub incident_elements : SetValue → ℕ → List ℕ
incident_elements set vertex = filter (has_endpoint set vertex) (range_with_len 0 set.count)
