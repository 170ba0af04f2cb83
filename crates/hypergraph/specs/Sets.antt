-- Several sets, each with its endpoints in an earlier one.
use Rattle.std.specs.Prelude.{◌≡◌, ◌<◌, ◌≤◌, ℕ, List, [], length, Option, None, Some, IfSome, slice_index_or}
use Rattle.vocabulary.specs.declared.limits.TheConstants.{MOST_SETS}
use Rattle.hypergraph.specs.SetValue.{SetValue, IsSetData, EndpointsBelow, set_of}

abbrev pub empty_set : SetValue
empty_set = set_of 0 None 0 [] []

-- the set of a number; the empty one where there is none
abbrev pub set_at : List SetValue → ℕ → SetValue
set_at sets number = slice_index_or sets number empty_set

-- how many elements the set has in which endpoints lie; 0 where there are no endpoints
abbrev pub count_over : List SetValue → Option ℕ → ℕ
count_over sets None = 0
count_over sets (Some over) = (set_at sets over).count

-- how many elements a set's endpoints choose from: each has to be below this number
abbrev pub endpoint_bound : List SetValue → ℕ → ℕ
endpoint_bound sets number = count_over sets (set_at sets number).over

-- the set of that number has its endpoints, if any, in an earlier vertex set
abbrev pub LiesOverEarlier : List SetValue → ℕ → Type 0
LiesOverEarlier sets number =
    IfSome (set_at sets number).over (λ over. (over < number) × ((set_at sets over).arity ≡ 0))

-- so has each set
abbrev pub AllLieOverEarlier : List SetValue → Type 0
AllLieOverEarlier sets = (number : ℕ) → number < length sets → LiesOverEarlier sets number

-- the set of that number is a set, its endpoints lie in an earlier vertex set, and each is an element there
pub record IsSetAmong (sets : List SetValue) (number : ℕ) : Type 0 where
  pub is_set : IsSetData (set_at sets number)
  pub over_earlier : LiesOverEarlier sets number
  pub endpoints_below : EndpointsBelow (set_at sets number) (endpoint_bound sets number)

-- what every value of type `Sets` is
pub record AreSets (sets : List SetValue) : Type 0 where
  pub few : length sets ≤ MOST_SETS
  pub each : (number : ℕ) → number < length sets → IsSetAmong sets number
