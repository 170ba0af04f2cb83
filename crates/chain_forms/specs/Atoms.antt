-- The atoms of an index term, and the indices that stand in them.
use Rattle.std.specs.Prelude.{ℕ, Bool, true, false, List, [], ◌∷◌, slice_get, sum_by}
use Rattle.std.specs.List.{list_any}
use Rattle.std.specs.Option.{option_map_or}
use Rattle.std.specs.Str.{bytes_eq}
use Rattle.sim_syntax.specs.declared.statement.IxAtom.{IxAtom}
use Rattle.sim_syntax.specs.declared.statement.IxAtom.TheVariants as atom

abbrev pub Name : Type 0
Name = List ℕ

abbrev pub indices_of : IxAtom → List Name
indices_of (atom.Number line number) = []
indices_of (atom.Named line name field indices) = indices

-- the indices of the atom at a position; past the end there are none
abbrev pub indices_at : List IxAtom → ℕ → List Name
indices_at atoms position = option_map_or indices_of (slice_get atoms position) []

-- an atom with indices is a factor; numbers and references without an index are scalars
abbrev pub is_factor : List Name → Bool
is_factor [] = false
is_factor (i ∷ indices) = true

-- whether a name is among some
abbrev pub is_among : Name → List Name → Bool
is_among i names = list_any (bytes_eq i) names

abbrev pub one_if : Bool → ℕ
one_if true = 1
one_if false = 0

-- how many atoms have an index
unfoldable pub atoms_with : Name → List IxAtom → ℕ
atoms_with i atoms = sum_by (λ a. one_if (is_among i (indices_of a))) atoms
