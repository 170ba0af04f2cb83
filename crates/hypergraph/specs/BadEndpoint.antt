-- Which endpoint is the first that is no element of the set in which it lies.
use Rattle.std.specs.Prelude.{◌≡◌, ◌<◌, ◌≤◌, ◌⊎◌, ℕ, List, length, slice_index}
use Rattle.hypergraph.specs.SetValue.{SetValue, endpoint_at}
use Rattle.hypergraph.specs.Sets.{set_at, endpoint_bound}
use Rattle.hypergraph.specs.declared.errors.BadEndpoint.{BadEndpoint}

-- the index is that of the first number that isn't below the bound
pub record IsFirstNotBelow (numbers : List ℕ) (bound index : ℕ) : Type 0 where
  pub within : index < length numbers
  pub not_below : bound ≤ slice_index numbers index
  pub below_before : (k : ℕ) → k < index → slice_index numbers k < bound

-- the endpoint at the position isn't below the bound
pub record IsBadIn (set : SetValue) (bound element position : ℕ) : Type 0 where
  pub element_in : element < set.count
  pub position_in : position < set.arity
  pub not_below : bound ≤ endpoint_at set element position

-- one position stands before another of the same set: by element, then by position
abbrev pub IsBeforeIn : ℕ → ℕ → ℕ → ℕ → Type 0
IsBeforeIn element position element' position' = (element < element') ⊎ ((element ≡ element') × (position < position'))

-- the position is that of the first endpoint of the set that isn't below the bound
pub record IsFirstBadIn (set : SetValue) (bound element position : ℕ) : Type 0 where
  pub is_bad : IsBadIn set bound element position
  pub none_before : (element' position' : ℕ) → IsBadIn set bound element' position' → ¬ IsBeforeIn element' position' element position

-- the endpoint is one of these sets, and isn't below the count of the set that it lies in
pub record IsBad (sets : List SetValue) (end : BadEndpoint) : Type 0 where
  pub set_in : end.set < length sets
  pub bad : IsBadIn (set_at sets end.set) (endpoint_bound sets end.set) end.element end.place

-- one endpoint stands before another: by set, then by element, then by position
abbrev pub IsBefore : BadEndpoint → BadEndpoint → Type 0
IsBefore a b = (a.set < b.set) ⊎ ((a.set ≡ b.set) × IsBeforeIn a.element a.place b.element b.place)

-- the endpoint is bad, and none before it is
pub record IsFirstBad (sets : List SetValue) (end : BadEndpoint) : Type 0 where
  pub is_bad : IsBad sets end
  pub none_before : (earlier : BadEndpoint) → IsBad sets earlier → ¬ IsBefore earlier end
