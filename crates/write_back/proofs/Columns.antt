-- The columns of fields: how many they are, and their scales.
use Rattle.std.proofs.Common.{◌≡◌, ℕ, suc, ◌+◌, ◌*◌, ◌≤◌, List, [], ◌∷◌, length, refl, sym, ap, ◌∙◌, arith, length-append}
use Rattle.std.specs.Prelude.{All}
use Rattle.std.specs.List.{flat_map, range_with_len}
use Rattle.std.proofs.Math.Nat.{add_comm, suc-mul, zero-mul}
use Rattle.std.proofs.lemmas.List.Concat.{flat_map-cons}
use Rattle.std.proofs.lemmas.List.Elements.{All-append, All-cons, All-map, All-nil}
use Rattle.std.proofs.lemmas.List.FromFn.{length-map-range_with_len, length-range_with_len}
use Rattle.std.proofs.lemmas.List.Sums.{sum_by-cons}
use Rattle.vocabulary.specs.declared.limits.TheConstants.{MOST_FIELD_SCALE}
use Rattle.type_rules.specs.declared.types.BlockShape.{BlockShape}
use Rattle.type_rules.specs.declared.types.BlockShape.TheVariants.{Number, Vector, Matrix}
use Rattle.typed_tree.specs.declared.program.TypedField.{TypedField}
use Rattle.typed_tree.specs.Cost.{entries_in}
use Rattle.typed_tree.specs.Declarations.{columns_of}
use Rattle.typed_tree.specs.Names.{Name}
use Rattle.set_tables.specs.declared.schema.Column.{Column}
use Rattle.write_back.specs.Schemas.{block_columns, column, entry_columns, entry_heading, field_columns}

-- ---- how many

-- lists of one length
same_length : {A : Type 0} (f : ℕ → List A) (size : ℕ) (xs : List ℕ) → ((x : ℕ) → length (f x) ≡ size) → length (flat_map f xs) ≡ length xs * size
same_length f size [] same = sym (zero-mul size)
same_length f size (x ∷ xs) same =
    ap length (flat_map-cons f x xs) ∙ length-append (f x) (flat_map f xs) ∙ ap (λ n. n + length (flat_map f xs)) (same x)
    ∙ ap (λ n. size + n) (same_length f size xs same) ∙ add_comm size (length xs * size) ∙ sym (suc-mul (length xs) size)

block_count : (scale : ℕ) (name : Name) (block : BlockShape) → length (block_columns scale name block) ≡ entries_in block
block_count scale name Number = refl
block_count scale name (Vector side) = length-map-range_with_len (λ index. column scale (entry_heading name index)) 0 side
block_count scale name (Matrix rows columns) =
    same_length (λ row. entry_columns scale (entry_heading name row) columns) columns (range_with_len 0 rows)
    (λ row. length-map-range_with_len (λ index. column scale (entry_heading (entry_heading name row) index)) 0 columns)
    ∙ ap (λ n. n * columns) (length-range_with_len 0 rows)

-- as many as the fields have columns
pub count_is : (fields : List TypedField) → length (flat_map field_columns fields) ≡ columns_of fields
count_is [] = refl
count_is (field ∷ fields) =
    ap length (flat_map-cons field_columns field fields) ∙ length-append (field_columns field) (flat_map field_columns fields)
    ∙ ap (λ n. n + length (flat_map field_columns fields)) (block_count field.scale field.name field.block) ∙ ap (λ n. entries_in field.block + n) (count_is fields)
    ∙ sym (sum_by-cons (λ f. entries_in f.block) field fields)

-- ---- scales

abbrev AreSmall : List Column → Type 0
AreSmall columns = All (λ c. c.scale ≤ MOST_FIELD_SCALE) columns

entries_small : (scale : ℕ) (name : Name) (count : ℕ) → scale ≤ MOST_FIELD_SCALE → AreSmall (entry_columns scale name count)
entries_small scale name count small =
    All-map (λ (c : Column). c.scale ≤ MOST_FIELD_SCALE) (λ index. column scale (entry_heading name index)) (range_with_len 0 count) (λ k d within. small)

rows_small : (scale : ℕ) (name : Name) (columns : ℕ) (rows : List ℕ) → scale ≤ MOST_FIELD_SCALE
    → AreSmall (flat_map (λ row. entry_columns scale (entry_heading name row) columns) rows)
rows_small scale name columns [] small = All-nil (λ (c : Column). c.scale ≤ MOST_FIELD_SCALE)
rows_small scale name columns (row ∷ rows) small =
    All-append (λ (c : Column). c.scale ≤ MOST_FIELD_SCALE) (entry_columns scale (entry_heading name row) columns) _
    (entries_small scale (entry_heading name row) columns small) (rows_small scale name columns rows small)

block_small : (scale : ℕ) (name : Name) (block : BlockShape) → scale ≤ MOST_FIELD_SCALE → AreSmall (block_columns scale name block)
block_small scale name Number small = All-cons (λ (c : Column). c.scale ≤ MOST_FIELD_SCALE) (column scale name) [] small (All-nil (λ (c : Column). c.scale ≤ MOST_FIELD_SCALE))
block_small scale name (Vector side) small = entries_small scale name side small
block_small scale name (Matrix rows columns) small = rows_small scale name columns (range_with_len 0 rows) small

-- within their limit where those of the fields are
pub scales_small : (fields : List TypedField) → All (λ field. field.scale ≤ MOST_FIELD_SCALE) fields → AreSmall (flat_map field_columns fields)
scales_small [] small = All-nil (λ (c : Column). c.scale ≤ MOST_FIELD_SCALE)
scales_small (field ∷ fields) small =
    All-append (λ (c : Column). c.scale ≤ MOST_FIELD_SCALE) (field_columns field) (flat_map field_columns fields)
    (block_small field.scale field.name field.block (first small)) (scales_small fields (rest small))
  where
    first : All (λ f. f.scale ≤ MOST_FIELD_SCALE) (field ∷ fields) → field.scale ≤ MOST_FIELD_SCALE
    first all = all 0 field (omega arith)

    rest : All (λ f. f.scale ≤ MOST_FIELD_SCALE) (field ∷ fields) → All (λ f. f.scale ≤ MOST_FIELD_SCALE) fields
    rest all = λ k d within. all (suc k) d (omega arith)
