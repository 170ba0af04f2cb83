-- Sums, products and blocks so far, whose words stand on a stack.
use Rattle.std.specs.Prelude.{◌≡◌, ℕ, Bool, List, map, Option, None, Some, Result, Ok, Err}
use Rattle.vocabulary.specs.Answers.{◌>>=◌}
use Rattle.ring_words.specs.declared.trap.TrapKind.{TrapKind}
use Rattle.type_rules.specs.declared.types.NodeType.{NodeType}
use Rattle.value_algebra.specs.declared.value.Value.{Value}
use Rattle.algebra_meaning.specs.declared.stopped.Stopped.{Stopped}
use Rattle.algebra_meaning.specs.declared.stopped.Stopped.TheVariants.{By}
use Rattle.ring_words.specs.declared.trap.TrapKind.TheVariants.{DivisionByZero, NegativeRoot}
use Rattle.value_algebra.specs.Scales.{quotient, square_root}
use Rattle.value_algebra.specs.Value.{dot, word_of}
use Rattle.algebra_meaning.specs.Expression.{Meant, added, multiplied}
use Rattle.word_stacks.specs.declared.indices.Indices.{Indices}
use Rattle.word_stacks.specs.declared.operand.Operand.{Operand}
use Rattle.word_stacks.specs.References.{indices_of}
use Rattle.word_stacks.specs.Stack.{value_of}

-- a sum so far, none before its first term
abbrev pub total_of : Option Operand → List ℕ → Option Value
total_of None above = None
total_of (Some operand) above = Some (value_of operand above)

-- a product so far with its type, none before its first factor
abbrev pub product_of : Option (NodeType × Operand) → List ℕ → Option (NodeType × Value)
product_of None above = None
product_of (Some (type, operand)) above = Some (type, value_of operand above)

-- what a call that leaves such a sum on a stack answers of it
abbrev pub LeavesTotal : Result (Option Value) TrapKind → Result (Option Operand) (Stopped TrapKind) → List ℕ → Type 0
LeavesTotal known (Ok total) above = known ≡ Ok (total_of total above)
LeavesTotal known (Err stopped) above = (kind : TrapKind) → stopped ≡ By kind → known ≡ Err kind

abbrev pub LeavesProduct : Result (Option (NodeType × Value)) TrapKind → Result (Option (NodeType × Operand)) (Stopped TrapKind) → List ℕ → Type 0
LeavesProduct known (Ok product) above = known ≡ Ok (product_of product above)
LeavesProduct known (Err stopped) above = (kind : TrapKind) → stopped ≡ By kind → known ≡ Err kind

-- what one that pushes words answers of them
abbrev pub Pushes : Result (List ℕ) TrapKind → Result (Unit {0}) (Stopped TrapKind) → List ℕ → Type 0
Pushes known (Ok done) above = known ≡ Ok above
Pushes known (Err stopped) above = (kind : TrapKind) → stopped ≡ By kind → known ≡ Err kind

-- ---- what is made of a meaning

unfoldable pub indices_meant : Result (List Value) TrapKind → Result Indices TrapKind
indices_meant meant = meant >>= λ values. Ok (indices_of values)

unfoldable pub words_meant : Result (List Value) TrapKind → Result (List ℕ) TrapKind
words_meant meant = meant >>= λ values. Ok (map word_of values)

unfoldable pub added_meant : Option Value → Bool → Meant → Meant
added_meant total minus meant = meant >>= λ value. Ok (added total minus value)

unfoldable pub multiplied_meant : Option (NodeType × Value) → Bool → NodeType → Meant → Meant
multiplied_meant so_far entrywise type meant = meant >>= λ value. Ok (multiplied so_far entrywise type value)

unfoldable pub dot_with : Value → Meant → Meant
dot_with left meant = meant >>= λ right. Ok (dot left right)

-- ---- words, or traps

abbrev pub word_or : TrapKind → Option ℕ → Result ℕ TrapKind
word_or trap None = Err trap
word_or trap (Some word) = Ok word

unfoldable pub divided : ℕ → ℕ → ℕ → ℕ → ℕ → Result ℕ TrapKind
divided a from b by to = word_or DivisionByZero (quotient a from b by to)

unfoldable pub rooted : ℕ → ℕ → ℕ → Result ℕ TrapKind
rooted a from to = word_or NegativeRoot (square_root a from to)
