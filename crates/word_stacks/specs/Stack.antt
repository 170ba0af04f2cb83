-- Values whose words stand on a stack.
use Rattle.std.specs.Prelude.{◌≡◌, ℕ, ◌≤◌, ◌++◌, ◌-◌, List, length, map, take, drop, slice_range, Result, Ok, Err}
use Rattle.std.specs.List.{zip}
use Rattle.ring_words.specs.Word.{add, sub, mul, neg}
use Rattle.ring_words.specs.declared.trap.TrapKind.{TrapKind}
use Rattle.value_algebra.specs.declared.value.Value.{Value}
use Rattle.value_algebra.specs.Scales.{rescaled_word}
use Rattle.value_algebra.specs.Value.{number}
use Rattle.algebra_meaning.specs.Expression.{Meant}
use Rattle.algebra_meaning.specs.declared.stopped.Stopped.{Stopped}
use Rattle.algebra_meaning.specs.declared.stopped.Stopped.TheVariants.{By}
use Rattle.word_stacks.specs.declared.operand.Size.{Size}
use Rattle.word_stacks.specs.declared.operand.Pair.{Pair}
use Rattle.word_stacks.specs.declared.operand.Operand.{Operand}
use Rattle.word_stacks.specs.declared.operand.Operand.TheVariants as operand
use Rattle.word_stacks.specs.declared.slices.Change.{Change}
use Rattle.word_stacks.specs.declared.slices.Change.TheVariants as change
use Rattle.word_stacks.specs.declared.slices.Join.{Join}
use Rattle.word_stacks.specs.declared.slices.Join.TheVariants as join

-- the value of a size with these words
abbrev pub sized : Size → List ℕ → Value
sized size words = record { rows = size.rows; columns = size.columns; words = words }

-- the value of an operand, whose words, if it isn't a number, are those that stand above others
abbrev pub value_of : Operand → List ℕ → Value
value_of (operand.Number word) above = number word
value_of (operand.Pushed size) above = sized size above

-- what becomes of a word
abbrev pub changed : Change → ℕ → ℕ
changed change.Negated = neg
changed (change.Scaled factor) = mul factor
changed (change.Rescaled from to) = rescaled_word from to

-- what is made of two words
abbrev pub joined : Join → ℕ → ℕ → ℕ
joined join.Sum = add
joined join.Difference = sub
joined join.Product = mul

-- what a call that leaves a value on a stack answers of a meaning
abbrev pub Leaves : Meant → Result Operand (Stopped TrapKind) → List ℕ → Type 0
Leaves known (Ok operand) above = known ≡ Ok (value_of operand above)
Leaves known (Err stopped) above = (kind : TrapKind) → stopped ≡ By kind → known ≡ Err kind

-- what one that appends a value's words to a stack answers of it
abbrev pub Appends : Meant → Result Size (Stopped TrapKind) → List ℕ → Type 0
Appends known (Ok size) above = known ≡ Ok (sized size above)
Appends known (Err stopped) above = (kind : TrapKind) → stopped ≡ By kind → known ≡ Err kind

-- ---- two values on a stack

abbrev pub left_in : Pair → List ℕ → Value
left_in pair stack = sized pair.left (slice_range stack pair.base pair.middle)

abbrev pub right_in : Pair → List ℕ → Value
right_in pair stack = sized pair.right (slice_range stack pair.middle pair.top)

-- the words of both are on the stack
pub record IsIn (pair : Pair) (stack : List ℕ) : Type 0 where
  pub left : pair.base ≤ pair.middle
  pub right : pair.middle ≤ pair.top
  pub within : pair.top ≤ length stack

-- what is made of the words between two indices and those above, index by index
abbrev pub joined_words : Join → ℕ → ℕ → List ℕ → List ℕ
joined_words join base middle stack = map (λ pair. joined join pair.0 pair.1) (zip (slice_range stack base middle) (drop middle stack))

-- it stands in place of the first of the words between the two indices
abbrev pub joined_within : Join → ℕ → ℕ → List ℕ → List ℕ
joined_within join base middle stack =
    (take base stack ++ (joined_words join base middle stack ++ drop (length stack - middle) (slice_range stack base middle))) ++ drop middle stack
