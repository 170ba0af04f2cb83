-- The types of values: which forms, sets and scales they have.
use Rattle.std.specs.Prelude.{ℕ, Bool, true, false, ◌&&◌, ◌==◌}
use Rattle.type_rules.specs.declared.types.BlockShape.{BlockShape}
use Rattle.type_rules.specs.declared.types.BlockShape.TheVariants.{Number, Vector, Matrix}
use Rattle.type_rules.specs.declared.types.NodeType.{NodeType}
use Rattle.type_rules.specs.declared.types.NodeType.TheVariants.{Local, SystemVector, SystemMatrix}

-- two blocks have one shape
abbrev pub is_same_block : BlockShape → BlockShape → Bool
is_same_block Number Number = true
is_same_block (Vector m) (Vector n) = m == n
is_same_block (Matrix m n) (Matrix k l) = (m == k) && (n == l)
is_same_block left right = false

-- two values are of one view, and their blocks have one shape
abbrev pub is_same_form : NodeType → NodeType → Bool
is_same_form (Local a s) (Local b t) = is_same_block a b
is_same_form (SystemVector m a s) (SystemVector n b t) = is_same_block a b
is_same_form (SystemMatrix m k a s) (SystemMatrix n l b t) = is_same_block a b
is_same_form left right = false

-- two values of one form are over the same sets
abbrev pub is_over_the_same : NodeType → NodeType → Bool
is_over_the_same (SystemVector m a s) (SystemVector n b t) = m == n
is_over_the_same (SystemMatrix m k a s) (SystemMatrix n l b t) = (m == n) && (k == l)
is_over_the_same left right = true

-- a value is one number
abbrev pub is_scalar : NodeType → Bool
is_scalar (Local Number scale) = true
is_scalar type = false

-- the number of a value's decimals
abbrev pub scale_of : NodeType → ℕ
scale_of (Local block scale) = scale
scale_of (SystemVector set block scale) = scale
scale_of (SystemMatrix rows columns block scale) = scale

-- the type at another scale
abbrev pub with_scale : NodeType → ℕ → NodeType
with_scale (Local block scale) other = Local block other
with_scale (SystemVector set block scale) other = SystemVector set block other
with_scale (SystemMatrix rows columns block scale) other = SystemMatrix rows columns block other
