-- What names stand for, by the words of the indices after them.
use Rattle.std.specs.Prelude.{ℕ, List, [], ◌∷◌, Result, Ok}
use Rattle.vocabulary.specs.Answers.{◌>>=◌}
use Rattle.ring_words.specs.declared.trap.TrapKind.{TrapKind}
use Rattle.typed_tree.specs.declared.expression.Referent.{Referent}
use Rattle.typed_tree.specs.declared.expression.Referent.TheVariants as referent
use Rattle.value_algebra.specs.declared.value.Value.{Value}
use Rattle.value_algebra.specs.Value.{number, word_at, word_of}
use Rattle.algebra_meaning.specs.Expression.{Meant, Scope, end_field, own_field, set_field, value_at}
use Rattle.word_stacks.specs.declared.indices.Indices.{Indices}
use Rattle.word_stacks.specs.declared.indices.Indices.TheVariants.{Whole, One, Two}

-- the indices that these values are
abbrev pub indices_of : List Value → Indices
indices_of [] = Whole
indices_of (i ∷ []) = One (word_of i)
indices_of (i ∷ j ∷ values) = Two (word_of i) (word_of j)

-- indices, then another one
abbrev pub with_index : Indices → ℕ → Indices
with_index Whole index = One index
with_index (One row) index = Two row index
with_index (Two row column) index = Two row column

abbrev pub first_index : Indices → ℕ
first_index Whole = 0
first_index (One index) = index
first_index (Two row column) = row

-- the second of two; 0 where there are not two
abbrev pub second_index : Indices → ℕ
second_index Whole = 0
second_index (One index) = 0
second_index (Two row column) = column

-- a whole value, or one of its entries
abbrev pub part_at : Value → Indices → Value
part_at value Whole = value
part_at value (One row) = number (word_at value row 0)
part_at value (Two row column) = number (word_at value row column)

abbrev pub referred_at : Scope → Referent → Indices → Indices → Value
referred_at scope (referent.Variable variable) args indices = value_at scope.variables variable
referred_at scope (referent.Local local) args indices = part_at (value_at scope.locals local) args
referred_at scope (referent.Turn local range) args indices = value_at scope.locals local
referred_at scope (referent.Field set field) args indices = set_field scope set field
referred_at scope (referent.Own field) args indices = part_at (own_field scope scope.place field) indices
referred_at scope (referent.End field) args indices = part_at (end_field scope scope.place (first_index args) field) indices
referred_at scope (referent.Host host) args indices = number (scope.program.answer host (first_index args) (second_index args))

-- the first word of what an expression means
abbrev pub first_meant : Meant → Result ℕ TrapKind
first_meant meant = meant >>= λ value. Ok (word_of value)
