-- One rule for each form of expression: from the types of its parts to its own, or the first kind of fault that applies.
use Rattle.std.specs.Prelude.{ℕ, zero, suc, ◌+◌, ◌-◌, ◌==◌, nat_lt, min, length, Bool, true, false, not, ◌&&◌, ◌||◌, if◌then◌else◌, List, [], ◌∷◌, Option, Some, None, Result, Ok, Err}
use Rattle.std.specs.List.{list_all, list_any, zip}
use Rattle.vocabulary.specs.declared.limits.TheConstants.{MOST_SCALE, MOST_SCALE_CHANGE, MOST_FIELD_SCALE, MOST_SIDE}
use Rattle.type_rules.specs.declared.types.BlockShape.{BlockShape}
use Rattle.type_rules.specs.declared.types.BlockShape.TheVariants.{Number, Vector, Matrix}
use Rattle.type_rules.specs.declared.types.NodeType.{NodeType}
use Rattle.type_rules.specs.declared.types.NodeType.TheVariants.{Local, SystemVector, SystemMatrix}
use Rattle.type_rules.specs.declared.types.IndexRange.{IndexRange}
use Rattle.type_rules.specs.declared.types.IndexRange.TheVariants.{NotConstant, UpTo}
use Rattle.type_rules.specs.declared.types.TypeKind.{TypeKind}
use Rattle.type_rules.specs.declared.types.TypeKind.TheVariants as kind
use Rattle.type_rules.specs.Types.{is_same_block, is_same_form, is_over_the_same, is_scalar, scale_of, with_scale}

-- the first of the kinds of fault whose test applies, else the type
abbrev pub judged : {A : Type 0} → List (TypeKind × Bool) → A → Result A TypeKind
judged [] type = Ok type
judged (fault ∷ others) type = if fault.1 then Err fault.0 else judged others type

-- the first of the kinds of fault whose test applies, if there is one
abbrev pub first_kind : List (TypeKind × Bool) → Option TypeKind
first_kind [] = None
first_kind (fault ∷ others) = if fault.1 then Some fault.0 else first_kind others

-- the same of what may fit no rule
abbrev pub judged_form : List (TypeKind × Bool) → Option NodeType → Result NodeType TypeKind
judged_form faults None = Err kind.Shape
judged_form faults (Some type) = judged faults type

-- ---- equal types

-- both sides of a sum, of an assignment and of a written block: the forms, the sets and the scales agree
unfoldable pub same_rule : NodeType → NodeType → Result NodeType TypeKind
same_rule left right =
    judged ((kind.Shape, not (is_same_form left right)) ∷ (kind.Set, not (is_over_the_same left right)) ∷ (kind.Scale, not (scale_of left == scale_of right)) ∷ []) left

-- both sides of a comparison: numbers of one scale
unfoldable pub comparison_rule : NodeType → NodeType → Result (Unit {0}) TypeKind
comparison_rule left right = judged ((kind.Shape, not (is_scalar left && is_scalar right)) ∷ (kind.Scale, not (scale_of left == scale_of right)) ∷ []) tt

-- ---- products

-- a matrix times a vector, or times a matrix
abbrev pub block_product : BlockShape → BlockShape → Option BlockShape
block_product (Matrix m n) (Vector k) = if n == k then Some (Vector m) else None
block_product (Matrix m n) (Matrix k l) = if n == k then Some (Matrix m l) else None
block_product left right = None

-- a block of a system matrix times one of a system vector, and times one of a system matrix
abbrev pub matrix_vector_block : BlockShape → BlockShape → Option BlockShape
matrix_vector_block Number Number = Some Number
matrix_vector_block left (Vector n) = block_product left (Vector n)
matrix_vector_block left right = None

abbrev pub matrix_matrix_block : BlockShape → BlockShape → Option BlockShape
matrix_matrix_block Number Number = Some Number
matrix_matrix_block left (Matrix m n) = block_product left (Matrix m n)
matrix_matrix_block left right = None

abbrev pub local_of : ℕ → Option BlockShape → Option NodeType
local_of scale None = None
local_of scale (Some block) = Some (Local block scale)

abbrev pub vector_of : ℕ → ℕ → Option BlockShape → Option NodeType
vector_of set scale None = None
vector_of set scale (Some block) = Some (SystemVector set block scale)

abbrev pub matrix_of : ℕ → ℕ → ℕ → Option BlockShape → Option NodeType
matrix_of rows columns scale None = None
matrix_of rows columns scale (Some block) = Some (SystemMatrix rows columns block scale)

-- the type of a product of two values that are no numbers, at a scale
abbrev pub proper_product : ℕ → NodeType → NodeType → Option NodeType
proper_product scale (Local a s) (Local b t) = local_of scale (block_product a b)
proper_product scale (SystemMatrix rows columns a s) (SystemVector set b t) = vector_of rows scale (matrix_vector_block a b)
proper_product scale (SystemMatrix rows columns a s) (SystemMatrix inner others b t) = matrix_of rows others scale (matrix_matrix_block a b)
proper_product scale left right = None

-- the type of a product: a number times anything, or matrices and vectors
abbrev pub product_form : ℕ → NodeType → NodeType → Option NodeType
product_form scale left right =
    if is_scalar left then Some (with_scale right scale)
    else if is_scalar right then Some (with_scale left scale)
    else proper_product scale left right

-- the sets over which a product sums are one
abbrev pub is_inner_the_same : NodeType → NodeType → Bool
is_inner_the_same (SystemMatrix rows columns a s) (SystemVector set b t) = columns == set
is_inner_the_same (SystemMatrix rows columns a s) (SystemMatrix inner others b t) = columns == inner
is_inner_the_same left right = true

-- the scale of a product; one past the largest is cut down to the first that is
abbrev pub scales_added : NodeType → NodeType → ℕ
scales_added left right = min (scale_of left + scale_of right) (MOST_SCALE + 1)

unfoldable pub product_rule : NodeType → NodeType → Result NodeType TypeKind
product_rule left right =
    judged_form ((kind.Set, not (is_inner_the_same left right)) ∷ (kind.Scale, nat_lt MOST_SCALE (scales_added left right)) ∷ []) (product_form (scales_added left right) left right)

-- two vectors of one shape: of a function, or over sets
abbrev pub are_vectors : NodeType → NodeType → Bool
are_vectors (Local (Vector m) s) (Local (Vector n) t) = m == n
are_vectors (SystemVector m a s) (SystemVector n b t) = is_same_block a b
are_vectors left right = false

-- why two vectors have no product entry by entry
abbrev pub vector_faults : NodeType → NodeType → List (TypeKind × Bool)
vector_faults left right =
    (kind.Shape, not (are_vectors left right)) ∷ (kind.Set, not (is_over_the_same left right)) ∷ (kind.Scale, nat_lt MOST_SCALE (scales_added left right)) ∷ []

unfoldable pub entrywise_rule : NodeType → NodeType → Result NodeType TypeKind
entrywise_rule left right = judged (vector_faults left right) (with_scale left (scales_added left right))

unfoldable pub dot_rule : NodeType → NodeType → Result NodeType TypeKind
dot_rule left right = judged (vector_faults left right) (Local Number (scales_added left right))

-- ---- scales

-- what has to be there isn't
abbrev pub is_missing : Option ℕ → Bool
is_missing None = true
is_missing (Some number) = false

-- a literal number: its scale, and its word, where that is below 2^63
unfoldable pub literal_rule : ℕ → Option ℕ → Result NodeType TypeKind
literal_rule scale word = judged ((kind.Scale, nat_lt MOST_FIELD_SCALE scale) ∷ (kind.TooLarge, is_missing word) ∷ []) (Local Number scale)

-- how far two scales are apart
abbrev pub apart : ℕ → ℕ → ℕ
apart scale other = (scale - other) + (other - scale)

-- a scale that a value may be brought to
abbrev pub is_scale_for : NodeType → ℕ → Bool
is_scale_for type scale = not (nat_lt MOST_SCALE scale) && not (nat_lt MOST_SCALE_CHANGE (apart (scale_of type) scale))

-- a value at another scale, which is written as a whole number
unfoldable pub rescale_rule : NodeType → Option ℕ → Result NodeType TypeKind
rescale_rule type None = Err kind.NotConstant
rescale_rule type (Some scale) = judged ((kind.Scale, not (is_scale_for type scale)) ∷ []) (with_scale type scale)

-- a scale at which a result is computed from a whole number with `more` decimals than `fewer`
abbrev pub is_exponent : ℕ → ℕ → Bool
is_exponent more fewer = not (nat_lt more fewer) && not (nat_lt MOST_SCALE_CHANGE (more - fewer))

-- the quotient of two numbers at a scale, which is written as a whole number
unfoldable pub quot_rule : NodeType → NodeType → Option ℕ → Result NodeType TypeKind
quot_rule left right None = Err kind.NotConstant
quot_rule left right (Some scale) =
    judged ((kind.Shape, not (is_scalar left && is_scalar right))
    ∷ (kind.Scale, nat_lt MOST_SCALE scale || not (is_exponent (scale + scale_of right) (scale_of left))) ∷ []) (Local Number scale)

-- the square root of a number at a scale, which is written as a whole number
unfoldable pub isqrt_rule : NodeType → Option ℕ → Result NodeType TypeKind
isqrt_rule type None = Err kind.NotConstant
isqrt_rule type (Some scale) =
    judged ((kind.Shape, not (is_scalar type)) ∷ (kind.Scale, nat_lt MOST_SCALE scale || not (is_exponent (scale + scale) (scale_of type))) ∷ []) (Local Number scale)

-- ---- blocks

-- the block with its rows as columns
abbrev pub transposed_block : BlockShape → BlockShape
transposed_block Number = Number
transposed_block (Vector n) = Vector n
transposed_block (Matrix m n) = Matrix n m

-- a matrix with its rows as columns, in its blocks too
unfoldable pub transposed_rule : NodeType → Result NodeType TypeKind
transposed_rule (Local (Matrix m n) scale) = Ok (Local (Matrix n m) scale)
transposed_rule (SystemMatrix rows columns block scale) = Ok (SystemMatrix columns rows (transposed_block block) scale)
transposed_rule type = Err kind.Shape

-- the block that is written as so many rows of so many entries: one row is a vector
abbrev pub block_of : ℕ → ℕ → BlockShape
block_of zero width = Number
block_of (suc zero) width = Vector width
block_of (suc (suc others)) width = Matrix (suc (suc others)) width

-- the scale of the first entry
abbrev pub first_scale_of : List NodeType → ℕ
first_scale_of [] = 0
first_scale_of (entry ∷ entries) = scale_of entry

abbrev pub first_scale : List (List NodeType) → ℕ
first_scale [] = 0
first_scale (row ∷ rows) = first_scale_of row

-- how many entries the first row has
abbrev pub first_width : List (List NodeType) → ℕ
first_width [] = 0
first_width (row ∷ rows) = length row

-- the entries are numbers, as many in each row
unfoldable pub is_block : List (List NodeType) → Bool
is_block rows = list_all (list_all is_scalar) rows && list_all (λ row. length row == first_width rows) rows

-- the entries have one scale
unfoldable pub has_one_scale : List (List NodeType) → Bool
has_one_scale rows = list_all (list_all (λ entry. scale_of entry == first_scale rows)) rows

-- a side passes its limit
unfoldable pub is_too_large : List (List NodeType) → Bool
is_too_large rows = nat_lt MOST_SIDE (length rows) || nat_lt MOST_SIDE (first_width rows)

-- a block that is written as rows of entries
unfoldable pub block_rule : List (List NodeType) → Result NodeType TypeKind
block_rule rows =
    judged ((kind.Shape, not (is_block rows)) ∷ (kind.Scale, not (has_one_scale rows)) ∷ (kind.TooLarge, is_too_large rows) ∷ [])
    (Local (block_of (length rows) (first_width rows)) (first_scale rows))

-- ---- entries and references

-- an index is neither a whole number nor a constant loop's variable
abbrev pub is_unknown : IndexRange → Bool
is_unknown NotConstant = true
is_unknown index = false

-- an index has a value that is none below the side
abbrev pub is_outside : ℕ → IndexRange → Bool
is_outside side (UpTo most) = not (nat_lt most side)
is_outside side index = false

-- one index for each side of a vector or a matrix
abbrev pub is_entry : NodeType → List IndexRange → Bool
is_entry (Local (Vector n) scale) (i ∷ []) = true
is_entry (Local (Matrix m n) scale) (i ∷ j ∷ []) = true
is_entry type indices = false

abbrev pub is_entry_outside : NodeType → List IndexRange → Bool
is_entry_outside (Local (Vector n) scale) (i ∷ []) = is_outside n i
is_entry_outside (Local (Matrix m n) scale) (i ∷ j ∷ []) = is_outside m i || is_outside n j
is_entry_outside type indices = false

abbrev pub is_empty : List IndexRange → Bool
is_empty [] = true
is_empty (i ∷ indices) = false

-- the whole value, or one of its entries
abbrev pub is_part : NodeType → List IndexRange → Bool
is_part type indices = is_empty indices || is_entry type indices

abbrev pub part_of : NodeType → List IndexRange → NodeType
part_of type indices = if is_empty indices then type else Local Number (scale_of type)

-- of so many endpoints one is named; what is no field of an endpoint names none
abbrev pub is_endpoint : Option ℕ → List IndexRange → Bool
is_endpoint (Some count) (place ∷ []) = true
is_endpoint (Some count) places = false
is_endpoint None places = is_empty places

abbrev pub is_endpoint_outside : Option ℕ → List IndexRange → Bool
is_endpoint_outside (Some count) places = list_any (is_outside count) places
is_endpoint_outside None places = false

-- a value of a function, or an entry of it; of one out of so many endpoints, or of none
unfoldable pub part_rule : Option ℕ → NodeType → List IndexRange → List IndexRange → Result NodeType TypeKind
part_rule endpoints type places indices =
    judged ((kind.NotConstant, list_any is_unknown places || list_any is_unknown indices)
    ∷ (kind.Shape, not (is_endpoint endpoints places && is_part type indices))
    ∷ (kind.TooLarge, is_endpoint_outside endpoints places || is_entry_outside type indices) ∷ [])
    (part_of type indices)

-- a value has so many indices as its view: none for a number, one over a set, two over a pair of sets
abbrev pub has_rank : NodeType → ℕ → Bool
has_rank (Local block scale) rank = is_scalar (Local block scale) && (rank == 0)
has_rank (SystemVector set block scale) rank = rank == 1
has_rank (SystemMatrix rows columns block scale) rank = rank == 2

-- a reference with so many indices
unfoldable pub rank_rule : NodeType → ℕ → Result NodeType TypeKind
rank_rule type rank = judged ((kind.Shape, not (has_rank type rank)) ∷ []) type

-- ---- calls

-- the arguments are numbers, as many as there are scales
abbrev pub are_numbers : List ℕ → List NodeType → Bool
are_numbers scales args = (length args == length scales) && list_all is_scalar args

-- the arguments have these scales
abbrev pub have_scales : List ℕ → List NodeType → Bool
have_scales scales args = list_all (λ pair. pair.0 == scale_of pair.1) (zip scales args)

-- a call with numbers of these scales, which gives a number of that scale
unfoldable pub call_rule : List ℕ → ℕ → List NodeType → Result NodeType TypeKind
call_rule scales scale args =
    judged ((kind.Shape, not (are_numbers scales args)) ∷ (kind.Scale, not (have_scales scales args)) ∷ []) (Local Number scale)

-- ---- declarations

-- a side of a block isn't at least 1, or is over the limit
abbrev pub is_no_side : Option ℕ → Bool
is_no_side None = false
is_no_side (Some side) = (side == 0) || nat_lt MOST_SIDE side

-- a scale over a limit
abbrev pub is_scale_past : ℕ → Option ℕ → Bool
is_scale_past most None = false
is_scale_past most (Some scale) = nat_lt most scale

abbrev pub or_zero : Option ℕ → ℕ
or_zero None = 0
or_zero (Some number) = number

-- the block of no side, of one or of two
abbrev pub block_of_sides : List (Option ℕ) → BlockShape
block_of_sides (side ∷ []) = Vector (or_zero side)
block_of_sides (rows ∷ columns ∷ []) = Matrix (or_zero rows) (or_zero columns)
block_of_sides sides = Number

-- a block that is declared, with its sides and its scale, which are written as whole numbers
unfoldable pub declared_rule : ℕ → List (Option ℕ) → Option ℕ → Result NodeType TypeKind
declared_rule most sides scale =
    judged ((kind.NotConstant, is_missing scale || list_any is_missing sides) ∷ (kind.Scale, is_scale_past most scale) ∷ (kind.TooLarge, list_any is_no_side sides) ∷ [])
    (Local (block_of_sides sides) (or_zero scale))

-- ---- several parts of one node

-- the place of a kind in their order
abbrev pub rank : TypeKind → ℕ
rank kind.Unknown = 0
rank kind.Twice = 1
rank kind.NotConstant = 2
rank kind.NotAPlace = 3
rank kind.Shape = 4
rank kind.Set = 5
rank kind.Scale = 6
rank kind.TooLarge = 7

-- the kind of a fault, if there is one
abbrev pub kind_of : {A : Type 0} → Result A TypeKind → Option TypeKind
kind_of (Ok value) = None
kind_of (Err fault) = Some fault

-- of the kinds that apply to two parts, the first in their order
abbrev pub earlier : Option TypeKind → Option TypeKind → Option TypeKind
earlier None other = other
earlier (Some fault) None = Some fault
earlier (Some fault) (Some other) = if nat_lt (rank other) (rank fault) then Some other else Some fault
