-- Fields of sets and the results of maps have the sizes of their types; and sizes stay where sets change in words alone.
use Rattle.std.proofs.Common.{◌≡◌, ℕ, suc, ◌+◌, ◌*◌, List, [], ◌∷◌, map, Option, Some, None, refl, sym, ap, ◌∙◌, subst, arith}
use Rattle.std.specs.Prelude.{position, slice_get}
use Rattle.std.specs.List.{flat_map, range_with_len}
use Rattle.std.specs.Option.{option_and_then, option_map}
use Rattle.std.specs.Str.{bytes_eq}
use Rattle.std.proofs.lemmas.List.FromFn.{length-map-range_with_len}
use Rattle.std.proofs.Math.Nat.{mul_assoc}
use Rattle.hypergraph.specs.SetValue.{SetValue}
use Rattle.hypergraph.specs.Sets.{set_at}
use Rattle.type_rules.specs.declared.types.BlockShape.{BlockShape}
use Rattle.type_rules.specs.declared.types.BlockShape.TheVariants as block
use Rattle.type_rules.specs.declared.types.NodeType.{NodeType}
use Rattle.type_rules.specs.declared.types.NodeType.TheVariants as type
use Rattle.typed_tree.specs.declared.function.ResultSide.{ResultSide}
use Rattle.typed_tree.specs.declared.function.TypedResult.{TypedResult}
use Rattle.typed_tree.specs.declared.program.TypedField.{TypedField}
use Rattle.typed_tree.specs.Cost.{entries_in}
use Rattle.typed_tree.specs.Lookups.{field_type, find_field, over_set}
use Rattle.typed_tree.specs.MainProcedure.{result_type}
use Rattle.typed_tree.specs.Names.{Name}
use Rattle.typing_laws.specs.Declarations.{IsMatrixBlock, IsVectorBlock}
use Rattle.typing_laws.specs.Lists.{Each, Matched}
use Rattle.value_algebra.specs.declared.value.Value.{Value}
use Rattle.value_algebra.specs.Fields.{block_in, block_of, element_words, entry_of, field_over, first_column}
use Rattle.value_laws.specs.Laws.{IsWhole}
use Rattle.algebra_meaning.specs.Assembled.{all_assembled, assembled, elements_of, entry, height, row_entries, width}
use Rattle.algebra_meaning.specs.declared.contribution.Contribution.{Contribution}
use Rattle.index_laws.specs.Fits.{Fits, HasBlocks, columns_of, rows_of}
use Rattle.run_laws.specs.Shapes.{DifferInWords}
use Rattle.run_sizes.proofs.Lists.{same_Some, pieces_length}

-- ---- sets that differ in words

rows_same : (before after : List SetValue) (t : NodeType) → DifferInWords before after → rows_of before t ≡ rows_of after t
rows_same before after (type.Local b s) same = refl
rows_same before after (type.SystemVector set b s) same = ap (λ n. n * entries_in b) (sym (same.each set).count)
rows_same before after (type.SystemMatrix rows columns b s) same = ap (λ n. n * height b) (sym (same.each rows).count)

columns_same : (before after : List SetValue) (t : NodeType) → DifferInWords before after → columns_of before t ≡ columns_of after t
columns_same before after (type.Local b s) same = refl
columns_same before after (type.SystemVector set b s) same = refl
columns_same before after (type.SystemMatrix rows columns b s) same = ap (λ n. n * width b) (sym (same.each columns).count)

pub still_fits : (before after : List SetValue) (t : NodeType) (v : Value) → DifferInWords before after → Fits before t v → Fits after t v
still_fits before after t v same fits = record {
  whole = fits.whole;
  rows = fits.rows ∙ rows_same before after t same;
  columns = fits.columns ∙ columns_same before after t same;
  blocks = fits.blocks;
}

-- ---- fields

one_column : (n : ℕ) → n ≡ n * 1
one_column n = omega arith

over_fits : (fields : List TypedField) (sets : List SetValue) (set number : ℕ) (field : TypedField) → slice_get fields number ≡ Some field
    → Fits sets (type.SystemVector set field.block field.scale) (field_over fields (set_at sets set) number)
unfolding field_over
over_fits fields sets set number field at =
    let count = (set_at sets set).count in
    let size = entries_in (block_of fields number) in
    record {
      whole = pieces_length (element_words fields (set_at sets set) number) size count 0
          (λ element. length-map-range_with_len (λ component. entry_of (set_at sets set) element (first_column fields number + component)) 0 size)
          ∙ one_column (count * size);
      rows = ap (λ o. count * entries_in (block_in o)) at;
      columns = refl;
      blocks = tt;
    }

pub field_fits : (fields : List TypedField) (sets : List SetValue) (set number : ℕ) (name : Name) (f : NodeType) → find_field fields name ≡ Some (number, f)
    → Fits sets (over_set set f) (field_over fields (set_at sets set) number)
field_fits fields sets set number name f is = by_place (position (λ f. bytes_eq f.name name) fields) is
  where
    by_field : (k : ℕ) (o : Option TypedField) → slice_get fields k ≡ o → option_map {U = ℕ × NodeType} (λ field. (k, field_type field)) o ≡ Some (number, f)
        → Fits sets (over_set set f) (field_over fields (set_at sets set) number)
    by_field k None at answers = absurd (cc)
    by_field k (Some field) at answers =
        subst (λ p. Fits sets (over_set set p.1) (field_over fields (set_at sets set) p.0)) (same_Some (k, field_type field) (number, f) answers)
        (over_fits fields sets set k field at)

    by_place : (o : Option ℕ) → option_and_then {U = ℕ × NodeType} (λ number. option_map {U = ℕ × NodeType} (λ field. (number, field_type field)) (slice_get fields number)) o ≡ Some (number, f)
        → Fits sets (over_set set f) (field_over fields (set_at sets set) number)
    by_place None answers = absurd (cc)
    by_place (Some k) answers = by_field k (slice_get fields k) refl answers

-- ---- results of maps

-- the block of a result is one that may be declared
abbrev IsProperOver : Option ResultSide → BlockShape → Type 0
IsProperOver None b = IsVectorBlock b
IsProperOver (Some columns) b = IsMatrixBlock b

abbrev pub IsProper : TypedResult → Type 0
IsProper result = IsProperOver result.columns result.block

assembled_whole : (sets : List SetValue) (contributed : List Contribution) (number : ℕ) (result : TypedResult) → IsWhole (assembled sets contributed number result)
unfolding assembled
assembled_whole sets contributed number result =
    let rows = (set_at sets result.rows.set).count in
    let columns = elements_of sets result.columns in
    let tall = height result.block in
    let wide = width result.block in
    pieces_length (λ row. flat_map (row_entries contributed number columns wide row) (range_with_len 0 tall)) (tall * (columns * wide)) rows 0
    (λ row. pieces_length (row_entries contributed number columns wide row) (columns * wide) tall 0
    (λ r. pieces_length (λ column. map (λ c. entry contributed number row column r c) (range_with_len 0 wide)) wide columns 0
    (λ column. length-map-range_with_len (λ c. entry contributed number row column r c) 0 wide)))
    ∙ sym (mul_assoc rows tall (columns * wide))

tall_vector : (b : BlockShape) → IsVectorBlock b → height b ≡ entries_in b
tall_vector block.Number proper = refl
tall_vector (block.Vector n) proper = refl
tall_vector (block.Matrix m n) proper = absurd proper

wide_vector : (b : BlockShape) → IsVectorBlock b → 1 * width b ≡ 1
wide_vector block.Number proper = refl
wide_vector (block.Vector n) proper = refl
wide_vector (block.Matrix m n) proper = absurd proper

matrix_blocks : (rows columns : ℕ) (b : BlockShape) (scale : ℕ) → IsMatrixBlock b → HasBlocks (type.SystemMatrix rows columns b scale)
matrix_blocks rows columns block.Number scale proper = tt
matrix_blocks rows columns (block.Vector n) scale proper = absurd proper
matrix_blocks rows columns (block.Matrix m n) scale proper = tt

parts_fit : (sets : List SetValue) (contributed : List Contribution) (number : ℕ) (rows : ResultSide) (columns : Option ResultSide) (b : BlockShape) (scale : ℕ)
    → IsProperOver columns b
    → Fits sets (result_type (record { rows = rows; columns = columns; block = b; scale = scale }))
    (assembled sets contributed number (record { rows = rows; columns = columns; block = b; scale = scale }))
unfolding assembled
parts_fit sets contributed number rows None b scale proper = record {
  whole = assembled_whole sets contributed number (record { rows = rows; columns = None; block = b; scale = scale });
  rows = ap (λ n. (set_at sets rows.set).count * n) (tall_vector b proper);
  columns = wide_vector b proper;
  blocks = tt;
}
parts_fit sets contributed number rows (Some columns) b scale proper = record {
  whole = assembled_whole sets contributed number (record { rows = rows; columns = Some columns; block = b; scale = scale });
  rows = refl;
  columns = refl;
  blocks = matrix_blocks rows.set columns.set b scale proper;
}

pub results_fit : (sets : List SetValue) (contributed : List Contribution) (number : ℕ) (results : List TypedResult) → Each IsProper results
    → Matched (Fits sets) (map result_type results) (all_assembled sets contributed number results)
results_fit sets contributed number [] proper = Matched.none
results_fit sets contributed number (result ∷ results) proper =
    Matched.one_more (result_type result) (map result_type results) (assembled sets contributed number result) (all_assembled sets contributed (suc number) results)
    (parts_fit sets contributed number result.rows result.columns result.block result.scale proper.0)
    (results_fit sets contributed (suc number) results proper.1)
