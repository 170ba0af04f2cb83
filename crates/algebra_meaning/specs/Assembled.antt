-- The system vectors and matrices that a map assembles.
use Rattle.std.specs.Prelude.{ℕ, suc, pos, ◌*◌, ◌==◌, ◌&&◌, if◌then◌else◌, List, [], ◌∷◌, ◌++◌, Option, Some, None, Result, Ok, Err}
use Rattle.std.specs.List.{flat_map, range_with_len, sum_by}
use Rattle.vocabulary.specs.Answers.{◌>>=◌, fold_result}
use Rattle.ring_words.specs.Word.{word}
use Rattle.ring_words.specs.declared.trap.TrapKind.{TrapKind}
use Rattle.hypergraph.specs.SetValue.{SetValue}
use Rattle.hypergraph.specs.Sets.{set_at}
use Rattle.type_rules.specs.declared.types.BlockShape.{BlockShape}
use Rattle.type_rules.specs.declared.types.BlockShape.TheVariants.{Number, Vector, Matrix}
use Rattle.typed_tree.specs.declared.function.ResultSide.{ResultSide}
use Rattle.typed_tree.specs.declared.function.TypedFunction.{TypedFunction}
use Rattle.typed_tree.specs.declared.function.TypedResult.{TypedResult}
use Rattle.value_algebra.specs.declared.value.Value.{Value}
use Rattle.algebra_meaning.specs.Linked.{LinkedProgram}
use Rattle.algebra_meaning.specs.declared.context.ElementContext.{ElementContext}
use Rattle.value_algebra.specs.Value.{row_by_row, word_at}
use Rattle.algebra_meaning.specs.declared.contribution.Contribution.{Contribution}
use Rattle.algebra_meaning.specs.declared.stopped.Trapped.{Trapped}
use Rattle.algebra_meaning.specs.Element.{contributions}

-- ---- sizes

-- the rows and the columns of a block; a vector is a column
abbrev pub height : BlockShape → ℕ
height Number = 1
height (Vector side) = side
height (Matrix rows columns) = rows

abbrev pub width : BlockShape → ℕ
width Number = 1
width (Vector side) = 1
width (Matrix rows columns) = columns

abbrev pub elements_of : List SetValue → Option ResultSide → ℕ
elements_of sets None = 1
elements_of sets (Some side) = (set_at sets side.set).count

-- ---- entries

-- what a contribution adds at a row and a column of elements, in a row and a column of the block: the entry of its block at its own
-- place, and nothing elsewhere
abbrev pub amount_at : ℕ → ℕ → ℕ → ℕ → ℕ → Contribution → ℕ
amount_at result row column r c contribution =
    if (contribution.result == result) && (contribution.row == row) && (contribution.column == column) then word_at contribution.block r c else 0

-- an entry of a result: the word of the sum of all that is contributed there
unfoldable pub entry : List Contribution → ℕ → ℕ → ℕ → ℕ → ℕ → ℕ
entry contributed result row column r c = word (pos (sum_by (amount_at result row column r c) contributed))

-- the entries of a row of a result: of a row of elements and of the block
abbrev pub row_entries : List Contribution → ℕ → ℕ → ℕ → ℕ → ℕ → List ℕ
row_entries contributed result columns wide row r = row_by_row columns wide (λ column c. entry contributed result row column r c)

-- a result assembled of contributions: element after element, each row of its blocks
unfoldable pub assembled : List SetValue → List Contribution → ℕ → TypedResult → Value
assembled sets contributed number result =
    let rows = (set_at sets result.rows.set).count in
    let columns = elements_of sets result.columns in
    record {
      rows = rows * height result.block;
      columns = columns * width result.block;
      words = flat_map (λ row. flat_map (row_entries contributed number columns (width result.block) row) (range_with_len 0 (height result.block)))
          (range_with_len 0 rows);
    }

abbrev pub all_assembled : List SetValue → List Contribution → ℕ → List TypedResult → List Value
all_assembled sets contributed number [] = []
all_assembled sets contributed number (result ∷ results) =
    assembled sets contributed number result ∷ all_assembled sets contributed (suc number) results

-- ---- maps

abbrev pub of_element : {A : Type 0} → ℕ → Result A TrapKind → Result A Trapped
of_element element (Ok value) = Ok value
of_element element (Err trap) = Err (record { element = element; kind = trap })

-- where a function runs at an element of a set
abbrev pub place_of : TypedFunction → ℕ → ℕ → ElementContext
place_of function set element = record { own = function.element; ends = function.endpoints; mapped = set; element = element }

abbrev pub contributions_at : LinkedProgram → List SetValue → ℕ → TypedFunction → List Value → ℕ → Result (List Contribution) TrapKind
contributions_at program sets set function args element =
    contributions (record { program = program; sets = sets; place = place_of function set element }) function args

-- contributions so far, and those of a next element
abbrev pub with_element : LinkedProgram → List SetValue → ℕ → TypedFunction → List Value → List Contribution → ℕ → Result (List Contribution) Trapped
with_element program sets set function args so_far element =
    of_element element (contributions_at program sets set function args element) >>= λ contributed. Ok (so_far ++ contributed)

-- what all elements of a set contribute, in their order, or the trap of the least element that traps
unfoldable pub all_contributions : LinkedProgram → List SetValue → ℕ → TypedFunction → List Value → Result (List Contribution) Trapped
all_contributions program sets set function args =
    fold_result (with_element program sets set function args) [] (range_with_len 0 (set_at sets set).count)

-- the results of a function that is mapped to a set
unfoldable pub mapped : LinkedProgram → List SetValue → ℕ → TypedFunction → List Value → Result (List Value) Trapped
mapped program sets set function args =
    all_contributions program sets set function args >>= λ contributed. Ok (all_assembled sets contributed 0 function.results)
