-- The sets of a made job: points that lie by a rule, and twice as many springs between them.
use Rattle.std.specs.Prelude.{ℕ, ◌+◌, ◌*◌, ◌%◌, List, [], ◌∷◌, None, Some, map}
use Rattle.std.specs.List.{flat_map, range_with_len}
use Rattle.hypergraph.specs.SetValue.{SetValue, set_of}

-- where point i lies
unfoldable pub position : ℕ → ℕ → ℕ
position seed i = (i * i + seed) % 1000

-- the force on a point before the run
unfoldable pub force : ℕ → ℕ
force i = 0

-- the points that spring j joins
unfoldable pub joined : ℕ → ℕ → ℕ → List ℕ
joined seed n j = j % n ∷ (7 * j + seed) % n ∷ []

-- how stiff spring j is
unfoldable pub strength : ℕ → ℕ
strength j = j % 97 + 1

-- the endpoints of all springs
unfoldable pub endpoints : ℕ → ℕ → List ℕ
endpoints seed n = flat_map (joined seed n) (range_with_len 0 (2 * n))

-- the set of n points, with the columns x and f
abbrev pub points : ℕ → ℕ → SetValue
points seed n = set_of n None 0 [] (map (position seed) (range_with_len 0 n) ∷ map force (range_with_len 0 n) ∷ [])

-- the set of 2 * n springs over the points, with the column k
abbrev pub springs : ℕ → ℕ → SetValue
springs seed n = set_of (2 * n) (Some 0) 2 (endpoints seed n) (map strength (range_with_len 0 (2 * n)) ∷ [])

abbrev pub made_sets : ℕ → ℕ → List SetValue
made_sets seed n = points seed n ∷ springs seed n ∷ []
