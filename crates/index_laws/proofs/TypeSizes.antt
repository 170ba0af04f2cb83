-- What the rules of types say of sizes: what is computed of values that have the sizes of their types has that of its own.
use Rattle.std.proofs.Common.{◌≡◌, ℕ, ◌+◌, ◌*◌, Bool, true, false, List, [], ◌∷◌, Option, Some, None, Ok, refl, sym, ap, ◌∙◌, subst}
use Rattle.std.specs.Prelude.{◌==◌, ◌&&◌, ◌||◌, not, nat_lt, if◌then◌else◌}
use Rattle.std.proofs.lemmas.Bool.{true≢false}
use Rattle.vocabulary.specs.declared.limits.TheConstants.{MOST_SCALE}
use Rattle.ring_words.specs.Word.{mul}
use Rattle.hypergraph.specs.SetValue.{SetValue}
use Rattle.hypergraph.specs.Sets.{set_at}
use Rattle.type_rules.specs.Rules.{are_vectors, block_product, dot_rule, entrywise_rule, is_exponent, is_inner_the_same, is_scale_for, isqrt_rule, judged, local_of, matrix_matrix_block, matrix_of, matrix_vector_block, product_form, product_rule, proper_product, quot_rule, rescale_rule, scales_added, transposed_rule, vector_of}
use Rattle.type_rules.specs.Types.{is_over_the_same, is_same_form, is_scalar, scale_of, with_scale}
use Rattle.type_rules.specs.declared.types.BlockShape.{BlockShape}
use Rattle.type_rules.specs.declared.types.BlockShape.TheVariants as block
use Rattle.type_rules.specs.declared.types.NodeType.{NodeType}
use Rattle.type_rules.specs.declared.types.NodeType.TheVariants as type
use Rattle.type_rules.specs.declared.types.TypeKind.{TypeKind}
use Rattle.type_rules.specs.declared.types.TypeKind.TheVariants as kind
use Rattle.typed_tree.specs.Cost.{entries_in}
use Rattle.value_algebra.specs.declared.value.Value.{Value}
use Rattle.value_algebra.specs.Value.{number, word_of, each, both, product, times, transposed, dot}
use Rattle.value_laws.specs.Laws.{EntryLaws}
use Rattle.algebra_meaning.specs.Assembled.{height, width}
use Rattle.index_laws.specs.Fits.{Fits, HasBlocks}
use Rattle.index_laws.proofs.Added.{same_sized, tests_passed}
use Rattle.index_laws.proofs.Answers.{same_Ok, same_Some}
use Rattle.index_laws.proofs.Rules as rules
use Rattle.index_laws.proofs.Rules.{product_shape, transposed_shape}

-- ---- the blocks of products

vector_block : (a b c : BlockShape) → matrix_vector_block a b ≡ Some c → entries_in c ≡ height a
vector_block block.Number block.Number c is = ap entries_in (sym (same_Some block.Number c is))
vector_block block.Number (block.Vector n) c is = absurd (cc)
vector_block block.Number (block.Matrix m n) c is = absurd (cc)
vector_block (block.Vector m) block.Number c is = absurd (cc)
vector_block (block.Vector m) (block.Vector n) c is = absurd (cc)
vector_block (block.Vector m) (block.Matrix k n) c is = absurd (cc)
vector_block (block.Matrix m n) block.Number c is = absurd (cc)
vector_block (block.Matrix m n) (block.Vector k) c is = by_test (n == k) is
  where
    by_test : (b : Bool) → (if b then Some (block.Vector m) else None) ≡ Some c → entries_in c ≡ m
    by_test false answers = absurd (cc)
    by_test true answers = ap entries_in (sym (same_Some (block.Vector m) c answers))
vector_block (block.Matrix m n) (block.Matrix k l) c is = absurd (cc)

-- the block of a product has the rows of the one and the columns of the other
pub record OuterSides (a b c : BlockShape) : Type 0 where
  rows : height c ≡ height a
  columns : width c ≡ width b
  no_vector : (r e s : ℕ) → HasBlocks (type.SystemMatrix r e c s)

matrix_block : (a b c : BlockShape) → matrix_matrix_block a b ≡ Some c → OuterSides a b c
matrix_block block.Number block.Number c is =
    subst (OuterSides block.Number block.Number) (same_Some block.Number c is) (record { rows = refl; columns = refl; no_vector = λ r e s. tt })
matrix_block block.Number (block.Vector n) c is = absurd (cc)
matrix_block block.Number (block.Matrix m n) c is = absurd (cc)
matrix_block (block.Vector m) block.Number c is = absurd (cc)
matrix_block (block.Vector m) (block.Vector n) c is = absurd (cc)
matrix_block (block.Vector m) (block.Matrix k n) c is = absurd (cc)
matrix_block (block.Matrix m n) block.Number c is = absurd (cc)
matrix_block (block.Matrix m n) (block.Vector k) c is = absurd (cc)
matrix_block (block.Matrix m n) (block.Matrix k l) c is = by_test (n == k) is
  where
    by_test : (b : Bool) → (if b then Some (block.Matrix m l) else None) ≡ Some c → OuterSides (block.Matrix m n) (block.Matrix k l) c
    by_test false answers = absurd (cc)
    by_test true answers =
        subst (OuterSides (block.Matrix m n) (block.Matrix k l)) (same_Some (block.Matrix m l) c answers) (record { rows = refl; columns = refl; no_vector = λ r e s. tt })

local_block : (a b c : BlockShape) → block_product a b ≡ Some c → (height c ≡ height a) × (width c ≡ width b)
local_block block.Number block.Number c is = absurd (cc)
local_block block.Number (block.Vector n) c is = absurd (cc)
local_block block.Number (block.Matrix m n) c is = absurd (cc)
local_block (block.Vector m) block.Number c is = absurd (cc)
local_block (block.Vector m) (block.Vector n) c is = absurd (cc)
local_block (block.Vector m) (block.Matrix k n) c is = absurd (cc)
local_block (block.Matrix m n) block.Number c is = absurd (cc)
local_block (block.Matrix m n) (block.Vector k) c is = by_test (n == k) is
  where
    by_test : (b : Bool) → (if b then Some (block.Vector m) else None) ≡ Some c → (height c ≡ m) × (width c ≡ 1)
    by_test false answers = absurd (cc)
    by_test true answers = let same = same_Some (block.Vector m) c answers in (ap height (sym same), ap width (sym same))
local_block (block.Matrix m n) (block.Matrix k l) c is = by_test (n == k) is
  where
    by_test : (b : Bool) → (if b then Some (block.Matrix m l) else None) ≡ Some c → (height c ≡ m) × (width c ≡ l)
    by_test false answers = absurd (cc)
    by_test true answers = let same = same_Some (block.Matrix m l) c answers in (ap height (sym same), ap width (sym same))

local_parts : (scale : ℕ) (o : Option BlockShape) (rho : NodeType) → local_of scale o ≡ Some rho → (c : BlockShape) × (o ≡ Some c) × (type.Local c scale ≡ rho)
local_parts scale None rho is = absurd (cc)
local_parts scale (Some c) rho is = (c, refl, same_Some (type.Local c scale) rho is)

vector_parts : (set scale : ℕ) (o : Option BlockShape) (rho : NodeType) → vector_of set scale o ≡ Some rho
    → (c : BlockShape) × (o ≡ Some c) × (type.SystemVector set c scale ≡ rho)
vector_parts set scale None rho is = absurd (cc)
vector_parts set scale (Some c) rho is = (c, refl, same_Some (type.SystemVector set c scale) rho is)

matrix_parts : (r e scale : ℕ) (o : Option BlockShape) (rho : NodeType) → matrix_of r e scale o ≡ Some rho
    → (c : BlockShape) × (o ≡ Some c) × (type.SystemMatrix r e c scale ≡ rho)
matrix_parts r e scale None rho is = absurd (cc)
matrix_parts r e scale (Some c) rho is = (c, refl, same_Some (type.SystemMatrix r e c scale) rho is)

-- vectors of one shape are of one form
vectors_form : (t u : NodeType) → are_vectors t u ≡ true → is_same_form t u ≡ true
vectors_form (type.Local block.Number s) (type.Local b x) is = absurd (true≢false (sym is))
vectors_form (type.Local block.Number s) (type.SystemVector n b x) is = absurd (true≢false (sym is))
vectors_form (type.Local block.Number s) (type.SystemMatrix n l b x) is = absurd (true≢false (sym is))
vectors_form (type.Local (block.Vector m) s) (type.Local block.Number x) is = absurd (true≢false (sym is))
vectors_form (type.Local (block.Vector m) s) (type.Local (block.Vector n) x) is = is
vectors_form (type.Local (block.Vector m) s) (type.Local (block.Matrix k n) x) is = absurd (true≢false (sym is))
vectors_form (type.Local (block.Vector m) s) (type.SystemVector n b x) is = absurd (true≢false (sym is))
vectors_form (type.Local (block.Vector m) s) (type.SystemMatrix n l b x) is = absurd (true≢false (sym is))
vectors_form (type.Local (block.Matrix k m) s) (type.Local b x) is = absurd (true≢false (sym is))
vectors_form (type.Local (block.Matrix k m) s) (type.SystemVector n b x) is = absurd (true≢false (sym is))
vectors_form (type.Local (block.Matrix k m) s) (type.SystemMatrix n l b x) is = absurd (true≢false (sym is))
vectors_form (type.SystemVector m a s) (type.Local b x) is = absurd (true≢false (sym is))
vectors_form (type.SystemVector m a s) (type.SystemVector n b x) is = is
vectors_form (type.SystemVector m a s) (type.SystemMatrix n l b x) is = absurd (true≢false (sym is))
vectors_form (type.SystemMatrix m k a s) (type.Local b x) is = absurd (true≢false (sym is))
vectors_form (type.SystemMatrix m k a s) (type.SystemVector n b x) is = absurd (true≢false (sym is))
vectors_form (type.SystemMatrix m k a s) (type.SystemMatrix n l b x) is = absurd (true≢false (sym is))

-- one test that passed
test_passed : (fault : TypeKind) (x : Bool) (left rho : NodeType) → judged ((fault, x) ∷ []) left ≡ Ok rho → left ≡ rho
test_passed fault true left rho is = absurd (cc)
test_passed fault false left rho is = same_Ok left rho is

two_passed : (fault other : TypeKind) (x y : Bool) (left rho : NodeType) → judged ((fault, x) ∷ (other, y) ∷ []) left ≡ Ok rho → left ≡ rho
two_passed fault other true y left rho is = absurd (cc)
two_passed fault other false true left rho is = absurd (cc)
two_passed fault other false false left rho is = same_Ok left rho is

module _ (entries : EntryLaws) (sets : List SetValue) where
  pub number_fits : (scale word : ℕ) → Fits sets (type.Local block.Number scale) (number word)
  number_fits scale word = record { whole = refl; rows = refl; columns = refl; blocks = tt }

  -- ---- products

  proper_fits : (scale : ℕ) (t u rho : NodeType) (v w : Value) → proper_product scale t u ≡ Some rho → Fits sets t v → Fits sets u w → Fits sets rho (product v w)
  proper_fits scale (type.Local a s) (type.Local b x) rho v w is first second =
      let p = local_parts scale (block_product a b) rho is in
      let sides = local_block a b p.0 p.1 in
      let shape = product_shape v w in
      subst (λ o. Fits sets o (product v w)) p.2
      (record { whole = entries.product_whole v w; rows = shape.0 ∙ first.rows ∙ sym sides.0; columns = shape.1 ∙ second.columns ∙ sym sides.1; blocks = tt })
  proper_fits scale (type.Local a s) (type.SystemVector n b x) rho v w is first second = absurd (cc)
  proper_fits scale (type.Local a s) (type.SystemMatrix n l b x) rho v w is first second = absurd (cc)
  proper_fits scale (type.SystemVector m a s) (type.Local b x) rho v w is first second = absurd (cc)
  proper_fits scale (type.SystemVector m a s) (type.SystemVector n b x) rho v w is first second = absurd (cc)
  proper_fits scale (type.SystemVector m a s) (type.SystemMatrix n l b x) rho v w is first second = absurd (cc)
  proper_fits scale (type.SystemMatrix m k a s) (type.Local b x) rho v w is first second = absurd (cc)
  proper_fits scale (type.SystemMatrix m k a s) (type.SystemVector n b x) rho v w is first second =
      let p = vector_parts m scale (matrix_vector_block a b) rho is in
      let side = vector_block a b p.0 p.1 in
      let shape = product_shape v w in
      subst (λ o. Fits sets o (product v w)) p.2
      (record {
        whole = entries.product_whole v w;
        rows = shape.0 ∙ first.rows ∙ ap (λ n. (set_at sets m).count * n) (sym side);
        columns = shape.1 ∙ second.columns;
        blocks = tt;
      })
  proper_fits scale (type.SystemMatrix m k a s) (type.SystemMatrix n l b x) rho v w is first second =
      let p = matrix_parts m l scale (matrix_matrix_block a b) rho is in
      let sides = matrix_block a b p.0 p.1 in
      let shape = product_shape v w in
      subst (λ o. Fits sets o (product v w)) p.2
      (record {
        whole = entries.product_whole v w;
        rows = shape.0 ∙ first.rows ∙ ap (λ n. (set_at sets m).count * n) (sym sides.rows);
        columns = shape.1 ∙ second.columns ∙ ap (λ n. (set_at sets l).count * n) (sym sides.columns);
        blocks = sides.no_vector m l scale;
      })

  pub times_fits : (t u rho : NodeType) (v w : Value) → product_rule t u ≡ Ok rho → Fits sets t v → Fits sets u w → Fits sets rho (times t u v w)
  unfolding product_rule
  times_fits t u rho v w is first second =
      by_scalars (scales_added t u) (is_scalar t) (is_scalar u)
      (rules.both_passed entries sets kind.Set kind.Scale (not (is_inner_the_same t u)) (nat_lt MOST_SCALE (scales_added t u)) (product_form (scales_added t u) t u) rho is).1
    where
      by_scalars : (scale : ℕ) (b c : Bool) → (if b then Some (with_scale u scale) else if c then Some (with_scale t scale) else proper_product scale t u) ≡ Some rho
          → Fits sets rho (if b then each (mul (word_of v)) w else if c then each (mul (word_of w)) v else product v w)
      by_scalars scale true c answers =
          subst (λ o. Fits sets o (each (mul (word_of v)) w)) (same_Some (with_scale u scale) rho answers)
          (rules.with_scale_fits entries sets u scale (each (mul (word_of v)) w) (rules.each_fits entries sets u (mul (word_of v)) w second))
      by_scalars scale false true answers =
          subst (λ o. Fits sets o (each (mul (word_of w)) v)) (same_Some (with_scale t scale) rho answers)
          (rules.with_scale_fits entries sets t scale (each (mul (word_of w)) v) (rules.each_fits entries sets t (mul (word_of w)) v first))
      by_scalars scale false false answers = proper_fits scale t u rho v w answers first second

  pub entrywise_fits : (t u rho : NodeType) (v w : Value) → entrywise_rule t u ≡ Ok rho → Fits sets t v → Fits sets u w → Fits sets rho (both mul v w)
  unfolding entrywise_rule
  entrywise_fits t u rho v w is first second =
      let tests = tests_passed (are_vectors t u) (is_over_the_same t u) (nat_lt MOST_SCALE (scales_added t u)) (with_scale t (scales_added t u)) rho is in
      let sizes = same_sized sets t u (vectors_form t u tests.0) tests.1 in
      subst (λ o. Fits sets o (both mul v w)) tests.2
      (rules.with_scale_fits entries sets t (scales_added t u) (both mul v w)
      (record {
        whole = entries.both_whole mul v w first.whole second.whole (first.rows ∙ sizes.0 ∙ sym second.rows) (first.columns ∙ sizes.1 ∙ sym second.columns);
        rows = first.rows;
        columns = first.columns;
        blocks = first.blocks;
      }))

  pub dot_fits : (t u rho : NodeType) (v w : Value) → dot_rule t u ≡ Ok rho → Fits sets rho (dot v w)
  unfolding dot_rule dot
  dot_fits t u rho v w is =
      let tests = tests_passed (are_vectors t u) (is_over_the_same t u) (nat_lt MOST_SCALE (scales_added t u)) (type.Local block.Number (scales_added t u)) rho is in
      subst (λ o. Fits sets o (dot v w)) tests.2 (record { whole = refl; rows = refl; columns = refl; blocks = tt })

  -- ---- transposes, other scales, and numbers

  pub transposed_fits : (t rho : NodeType) (v : Value) → transposed_rule t ≡ Ok rho → Fits sets t v → Fits sets rho (transposed v)
  unfolding transposed_rule
  transposed_fits (type.Local block.Number s) rho v is first = absurd (cc)
  transposed_fits (type.Local (block.Vector n) s) rho v is first = absurd (cc)
  transposed_fits (type.Local (block.Matrix m n) s) rho v is first =
      subst (λ o. Fits sets o (transposed v)) (same_Ok (type.Local (block.Matrix n m) s) rho is)
      (record { whole = entries.transposed_whole v; rows = (transposed_shape v).0 ∙ first.columns; columns = (transposed_shape v).1 ∙ first.rows; blocks = tt })
  transposed_fits (type.SystemVector m a s) rho v is first = absurd (cc)
  transposed_fits (type.SystemMatrix m k a s) rho v is first = (rules.turned entries sets (type.SystemMatrix m k a s) rho v refl first is).fits

  pub rescaled_fits : (t rho : NodeType) (to : Option ℕ) (change : ℕ → ℕ) (v : Value) → rescale_rule t to ≡ Ok rho → Fits sets t v → Fits sets rho (each change v)
  unfolding rescale_rule
  rescaled_fits t rho None change v is first = absurd (cc)
  rescaled_fits t rho (Some scale) change v is first =
      subst (λ o. Fits sets o (each change v)) (test_passed kind.Scale (not (is_scale_for t scale)) (with_scale t scale) rho is)
      (rules.with_scale_fits entries sets t scale (each change v) (rules.each_fits entries sets t change v first))

  pub quotient_fits : (t u rho : NodeType) (to : Option ℕ) (word : ℕ) → quot_rule t u to ≡ Ok rho → Fits sets rho (number word)
  unfolding quot_rule
  quotient_fits t u rho None word is = absurd (cc)
  quotient_fits t u rho (Some scale) word is =
      subst (λ o. Fits sets o (number word)) (two_passed kind.Shape kind.Scale (not (is_scalar t && is_scalar u))
      (nat_lt MOST_SCALE scale || not (is_exponent (scale + scale_of u) (scale_of t))) (type.Local block.Number scale) rho is) (number_fits scale word)

  pub root_fits : (t rho : NodeType) (to : Option ℕ) (word : ℕ) → isqrt_rule t to ≡ Ok rho → Fits sets rho (number word)
  unfolding isqrt_rule
  root_fits t rho None word is = absurd (cc)
  root_fits t rho (Some scale) word is =
      subst (λ o. Fits sets o (number word)) (two_passed kind.Shape kind.Scale (not (is_scalar t))
      (nat_lt MOST_SCALE scale || not (is_exponent (scale + scale) (scale_of t))) (type.Local block.Number scale) rho is) (number_fits scale word)
