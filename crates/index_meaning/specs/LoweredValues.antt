-- The value of what a term is lowered to, by an ordering of its factors and by what its atoms stand for.
use Rattle.std.specs.Prelude.{ℕ, not, List, [], ◌∷◌, ◌++◌, map, slice_get, if◌then◌else◌}
use Rattle.std.specs.List.{filter}
use Rattle.std.specs.Option.{option_map_or}
use Rattle.ring_words.specs.Word.{mul}
use Rattle.sim_syntax.specs.declared.statement.IxAtom.{IxAtom}
use Rattle.chain_forms.specs.declared.chain.Chain.{Chain}
use Rattle.chain_forms.specs.declared.chain.Chain.TheVariants as chain
use Rattle.chain_forms.specs.declared.chain.Link.{Link}
use Rattle.chain_forms.specs.Atoms.{indices_of, is_factor}
use Rattle.value_algebra.specs.declared.value.Value.{Value}
use Rattle.value_algebra.specs.Value.{number, word_of, each, both, product, transposed, dot}

-- the value of the atom at a position
abbrev pub value_at : (IxAtom → Value) → List IxAtom → ℕ → Value
value_at value atoms position = option_map_or value (slice_get atoms position) (number 0)

-- a factor as it is used: against its order it is transposed
abbrev pub used_value : (IxAtom → Value) → List IxAtom → Link → Value
used_value value atoms l = if l.against then transposed (value_at value atoms l.factor) else value_at value atoms l.factor

abbrev pub used_values : (IxAtom → Value) → List IxAtom → List Link → List Value
used_values value atoms links = map (used_value value atoms) links

-- the product of each value and the product of all after it
abbrev pub nested_value : List Value → Value
nested_value [] = number 1
nested_value (v ∷ []) = v
nested_value (v ∷ w ∷ values) = product v (nested_value (w ∷ values))

-- products from left to right, of matrices, entry by entry, and of scalars with what comes last
abbrev pub product_from : Value → List Value → Value
product_from v [] = v
product_from v (w ∷ values) = product_from (product v w) values

abbrev pub entrywise_from : Value → List Value → Value
entrywise_from v [] = v
entrywise_from v (w ∷ values) = entrywise_from (both mul v w) values

abbrev pub scaled_from : Value → List Value → Value
scaled_from v [] = v
scaled_from v (w ∷ values) = scaled_from (each (mul (word_of v)) w) values

abbrev pub group_value : (IxAtom → Value) → List IxAtom → List Link → Value
group_value value atoms group = nested_value (used_values value atoms group)

-- what a chain makes, if it has factors
abbrev pub chain_values : (IxAtom → Value) → List IxAtom → Chain → List Value
chain_values value atoms chain.Empty = []
chain_values value atoms (chain.Between first rest) = dot (used_value value atoms first) (group_value value atoms rest) ∷ []
chain_values value atoms (chain.Groups []) = []
chain_values value atoms (chain.Groups (group ∷ groups)) = entrywise_from (group_value value atoms group) (map (group_value value atoms) groups) ∷ []
chain_values value atoms (chain.Matrices []) = []
chain_values value atoms (chain.Matrices (l ∷ links)) = product_from (used_value value atoms l) (used_values value atoms links) ∷ []

abbrev pub scalar_values : (IxAtom → Value) → List IxAtom → List Value
scalar_values value atoms = map value (filter (λ a. not (is_factor (indices_of a))) atoms)

abbrev pub product_of_all : List Value → Value
product_of_all [] = number 1
product_of_all (v ∷ values) = scaled_from v values

unfoldable pub term_value : (IxAtom → Value) → List IxAtom → Chain → Value
term_value value atoms ordering = product_of_all (scalar_values value atoms ++ chain_values value atoms ordering)
