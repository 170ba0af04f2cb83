-- What a term is lowered to by an ordering of its factors. Numbers and references have their atom's line, and so has what is
-- transposed; all else that is made of a term has one line, that of its first atom.
use Rattle.std.specs.Prelude.{ℕ, Bool, true, false, not, List, [], ◌∷◌, ◌++◌, map, slice_get, Option, Some, None}
use Rattle.std.specs.List.{filter, flat_map}
use Rattle.sim_syntax.specs.declared.expression.Expr.{Expr}
use Rattle.sim_syntax.specs.declared.expression.Expr.TheVariants as expr
use Rattle.sim_syntax.specs.declared.expression.ProductFactor.{ProductFactor, roll-ProductFactor}
use Rattle.sim_syntax.specs.declared.statement.IxAtom.{IxAtom}
use Rattle.sim_syntax.specs.declared.statement.IxAtom.TheVariants as atom
use Rattle.chain_forms.specs.declared.chain.Chain.{Chain}
use Rattle.chain_forms.specs.declared.chain.Chain.TheVariants as chain
use Rattle.chain_forms.specs.declared.chain.Link.{Link}
use Rattle.chain_forms.specs.Atoms.{Name, indices_of, is_factor}

-- ---- atoms

abbrev pub line_of : IxAtom → ℕ
line_of (atom.Number line number) = line
line_of (atom.Named line name field indices) = line

-- the number of a reference's indices, of which there are at most two
abbrev pub rank_of : List Name → ℕ
rank_of [] = 0
rank_of (i ∷ []) = 1
rank_of (i ∷ j ∷ more) = 2

-- a number, or a reference that keeps the number of its indices
abbrev pub made : IxAtom → Expr
made (atom.Number line number) = expr.Number line number
made (atom.Named line name field indices) = expr.Ref line name [] field [] (Some (rank_of indices))

-- a matrix that is used against its order is transposed
abbrev pub turned : Bool → IxAtom → Expr
turned false a = made a
turned true a = expr.Transposed (line_of a) (made a)

-- the factors of links, in their order
abbrev pub used_at : Link → Option IxAtom → List Expr
used_at l None = []
used_at l (Some a) = turned l.against a ∷ []

unfoldable pub used : List IxAtom → List Link → List Expr
used atoms links = flat_map (λ l. used_at l (slice_get atoms l.factor)) links

-- the numbers and scalars of a term, in the order of the text
unfoldable pub scalars : List IxAtom → List Expr
scalars atoms = map made (filter (λ a. not (is_factor (indices_of a))) atoms)

-- ---- products

abbrev pub factor : ℕ → Bool → Expr → ProductFactor
factor line entrywise value = roll-ProductFactor (record { line = line; entrywise = entrywise; value = value })

-- the factors of a product, of which those after the first are all multiplied entry by entry, or none of them
abbrev pub factors_of : ℕ → Bool → List Expr → List ProductFactor
factors_of line entrywise [] = []
factors_of line entrywise (e ∷ others) = factor line false e ∷ map (factor line entrywise) others

-- a product of one factor is that factor
unfoldable pub product : ℕ → Bool → List Expr → Expr
product line entrywise (e ∷ []) = e
product line entrywise factors = expr.Product line (factors_of line entrywise factors)

-- the product of each factor and the product of all after it
unfoldable pub nested : ℕ → List Expr → Expr
nested line [] = product line false []
nested line (e ∷ []) = e
nested line (e ∷ f ∷ factors) = product line false (e ∷ nested line (f ∷ factors) ∷ [])

-- the scalar product of the first factor and the nested product of the others
unfoldable pub dot : ℕ → List Expr → Expr
dot line [] = product line false []
dot line (e ∷ factors) = expr.Dot line e (nested line factors)

-- ---- terms

abbrev pub group_product : ℕ → List IxAtom → List Link → Expr
group_product line atoms group = nested line (used atoms group)

-- the one factor that a term's chain makes, where it has one
unfoldable pub chained : ℕ → List IxAtom → Chain → List Expr
chained line atoms chain.Empty = []
chained line atoms (chain.Between first rest) = dot line (used atoms (first ∷ rest)) ∷ []
chained line atoms (chain.Groups groups) = product line true (map (group_product line atoms) groups) ∷ []
chained line atoms (chain.Matrices links) = product line false (used atoms links) ∷ []

-- the product of a term's scalars and of that factor
unfoldable pub lowered_by : Chain → ℕ → List IxAtom → Expr
lowered_by ordering line atoms = product line false (scalars atoms ++ chained line atoms ordering)
