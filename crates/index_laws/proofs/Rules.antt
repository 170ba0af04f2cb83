-- What the rules of products say of the sizes of values.
use Rattle.std.proofs.Common.{◌≡◌, ℕ, ◌*◌, Bool, true, false, List, [], ◌∷◌, Option, Some, None, Result, Ok, Err, refl, sym, ap, ◌∙◌, subst}
use Rattle.std.specs.Prelude.{◌==◌, ◌&&◌, not, nat_lt, if◌then◌else◌}
use Rattle.std.proofs.lemmas.Bool.{not-false, true≢false}
use Rattle.std.proofs.lemmas.Bool.Decides.{Decides-eqb}
use Rattle.hypergraph.specs.SetValue.{SetValue}
use Rattle.hypergraph.specs.Sets.{set_at}
use Rattle.ring_words.specs.Word.{mul}
use Rattle.type_rules.specs.Rules.{product_rule, entrywise_rule, dot_rule, transposed_rule, judged_form, product_form, scales_added, is_inner_the_same, matrix_vector_block, matrix_matrix_block, vector_of, matrix_of, has_rank, are_vectors}
use Rattle.type_rules.specs.Types.{is_over_the_same, is_same_block, with_scale}
use Rattle.type_rules.specs.declared.types.BlockShape.{BlockShape}
use Rattle.type_rules.specs.declared.types.BlockShape.TheVariants as block
use Rattle.type_rules.specs.declared.types.NodeType.{NodeType}
use Rattle.type_rules.specs.declared.types.NodeType.TheVariants as type
use Rattle.type_rules.specs.declared.types.TypeKind.{TypeKind}
use Rattle.type_rules.specs.declared.types.TypeKind.TheVariants as kind
use Rattle.typed_tree.specs.Cost.{entries_in}
use Rattle.vocabulary.specs.declared.limits.TheConstants.{MOST_SCALE}
use Rattle.value_algebra.specs.declared.value.Value.{Value}
use Rattle.value_algebra.specs.Value.{word_of, each, both, product, times, transposed, dot}
use Rattle.value_laws.specs.Laws.{EntryLaws}
use Rattle.index_laws.specs.Fits.{Fits}
use Rattle.index_laws.proofs.Answers.{same_Ok, same_Some}

-- a type of so many indices: a number, over a set, over a pair of sets
abbrev pub Ranked : ℕ → NodeType → Type 0
Ranked rank t = has_rank t rank ≡ true

pub product_shape : (l r : Value) → ((product l r).rows ≡ l.rows) × ((product l r).columns ≡ r.columns)
unfolding product
product_shape l r = (refl, refl)

pub transposed_shape : (v : Value) → ((transposed v).rows ≡ v.columns) × ((transposed v).columns ≡ v.rows)
unfolding transposed
transposed_shape v = (refl, refl)

-- the columns of a matrix and the rows of what it is applied to are one
inner : (sets : List SetValue) (c d : ℕ) (a b : ℕ) → (c == d) ≡ true → a ≡ b → (set_at sets c).count * a ≡ (set_at sets d).count * b
inner sets c d a b same sides = ap (λ n. (set_at sets n).count * a) ((Decides-eqb c d).0 same) ∙ ap (λ n. (set_at sets d).count * n) sides

-- ---- the types of so many indices

false-true : {A : Type 0} → false ≡ true → A
false-true is = absurd (true≢false (sym is))

pub data IsNumber : NodeType → Type 0 where
  number : (scale : ℕ) → IsNumber (type.Local block.Number scale)

pub number_type : (t : NodeType) → Ranked 0 t → IsNumber t
number_type (type.Local block.Number scale) ranked = IsNumber.number scale
number_type (type.Local (block.Vector side) scale) ranked = false-true ranked
number_type (type.Local (block.Matrix m n) scale) ranked = false-true ranked
number_type (type.SystemVector set b scale) ranked = false-true ranked
number_type (type.SystemMatrix r c b scale) ranked = false-true ranked

pub data IsVector : NodeType → Type 0 where
  vector : (set : ℕ) (b : BlockShape) (scale : ℕ) → IsVector (type.SystemVector set b scale)

pub vector_type : (t : NodeType) → Ranked 1 t → IsVector t
vector_type (type.Local block.Number scale) ranked = false-true ranked
vector_type (type.Local (block.Vector side) scale) ranked = false-true ranked
vector_type (type.Local (block.Matrix m n) scale) ranked = false-true ranked
vector_type (type.SystemVector set b scale) ranked = IsVector.vector set b scale
vector_type (type.SystemMatrix r c b scale) ranked = false-true ranked

pub data IsMatrix : NodeType → Type 0 where
  matrix : (rows columns : ℕ) (b : BlockShape) (scale : ℕ) → IsMatrix (type.SystemMatrix rows columns b scale)

pub matrix_type : (t : NodeType) → Ranked 2 t → IsMatrix t
matrix_type (type.Local block.Number scale) ranked = false-true ranked
matrix_type (type.Local (block.Vector side) scale) ranked = false-true ranked
matrix_type (type.Local (block.Matrix m n) scale) ranked = false-true ranked
matrix_type (type.SystemVector set b scale) ranked = false-true ranked
matrix_type (type.SystemMatrix r c b scale) ranked = IsMatrix.matrix r c b scale

-- ---- products

-- what a product gives: a type of so many indices, whose size the value has
pub record Gives (sets : List SetValue) (rank : ℕ) (t : NodeType) (v : Value) : Type 0 where
  pub ranked : Ranked rank t
  pub fits : Fits sets t v

module _ (entries : EntryLaws) (sets : List SetValue) where
  applied_blocks : (r c set : ℕ) (a b : BlockShape) (scale s t : ℕ) (rho : NodeType) (v w : Value) → (c == set) ≡ true
      → vector_of r scale (matrix_vector_block a b) ≡ Some rho → Fits sets (type.SystemMatrix r c a s) v → Fits sets (type.SystemVector set b t) w
      → Gives sets 1 rho (product v w) × (v.columns ≡ w.rows)
  applied_blocks r c set block.Number block.Number scale s t rho v w same is first second =
      let shape = product_shape v w in (
        subst (λ o. Gives sets 1 o (product v w)) (same_Some (type.SystemVector r block.Number scale) rho is)
            (record { ranked = refl; fits = record { whole = entries.product_whole v w; rows = shape.0 ∙ first.rows; columns = shape.1 ∙ second.columns; blocks = tt } }),
        first.columns ∙ inner sets c set 1 1 same refl ∙ sym second.rows,
      )
  applied_blocks r c set block.Number (block.Vector n) scale s t rho v w same is first second = absurd (cc)
  applied_blocks r c set block.Number (block.Matrix m n) scale s t rho v w same is first second = absurd (cc)
  applied_blocks r c set (block.Vector m) block.Number scale s t rho v w same is first second = absurd (cc)
  applied_blocks r c set (block.Vector m) (block.Vector n) scale s t rho v w same is first second = absurd (cc)
  applied_blocks r c set (block.Vector m) (block.Matrix k n) scale s t rho v w same is first second = absurd (cc)
  applied_blocks r c set (block.Matrix m n) block.Number scale s t rho v w same is first second = absurd (cc)
  applied_blocks r c set (block.Matrix m n) (block.Vector k) scale s t rho v w same is first second = by_test (n == k) refl is
    where
      by_test : (b : Bool) → (n == k) ≡ b → vector_of r scale (if b then Some (block.Vector m) else None) ≡ Some rho → Gives sets 1 rho (product v w) × (v.columns ≡ w.rows)
      by_test false sides answers = absurd (cc)
      by_test true sides answers =
          let shape = product_shape v w in (
            subst (λ o. Gives sets 1 o (product v w)) (same_Some (type.SystemVector r (block.Vector m) scale) rho answers)
                (record { ranked = refl; fits = record { whole = entries.product_whole v w; rows = shape.0 ∙ first.rows; columns = shape.1 ∙ second.columns; blocks = tt } }),
            first.columns ∙ inner sets c set n k same ((Decides-eqb n k).0 sides) ∙ sym second.rows,
          )
  applied_blocks r c set (block.Matrix m n) (block.Matrix k l) scale s t rho v w same is first second = absurd (cc)

  multiplied_blocks : (r c d e : ℕ) (a b : BlockShape) (scale s t : ℕ) (rho : NodeType) (v w : Value) → (c == d) ≡ true
      → matrix_of r e scale (matrix_matrix_block a b) ≡ Some rho → Fits sets (type.SystemMatrix r c a s) v → Fits sets (type.SystemMatrix d e b t) w
      → Gives sets 2 rho (product v w) × (v.columns ≡ w.rows)
  multiplied_blocks r c d e block.Number block.Number scale s t rho v w same is first second =
      let shape = product_shape v w in (
        subst (λ o. Gives sets 2 o (product v w)) (same_Some (type.SystemMatrix r e block.Number scale) rho is)
            (record { ranked = refl; fits = record { whole = entries.product_whole v w; rows = shape.0 ∙ first.rows; columns = shape.1 ∙ second.columns; blocks = tt } }),
        first.columns ∙ inner sets c d 1 1 same refl ∙ sym second.rows,
      )
  multiplied_blocks r c d e block.Number (block.Vector n) scale s t rho v w same is first second = absurd (cc)
  multiplied_blocks r c d e block.Number (block.Matrix m n) scale s t rho v w same is first second = absurd (cc)
  multiplied_blocks r c d e (block.Vector m) block.Number scale s t rho v w same is first second = absurd (cc)
  multiplied_blocks r c d e (block.Vector m) (block.Vector n) scale s t rho v w same is first second = absurd (cc)
  multiplied_blocks r c d e (block.Vector m) (block.Matrix k n) scale s t rho v w same is first second = absurd (cc)
  multiplied_blocks r c d e (block.Matrix m n) block.Number scale s t rho v w same is first second = absurd (cc)
  multiplied_blocks r c d e (block.Matrix m n) (block.Vector k) scale s t rho v w same is first second = absurd (cc)
  multiplied_blocks r c d e (block.Matrix m n) (block.Matrix k l) scale s t rho v w same is first second = by_test (n == k) refl is
    where
      by_test : (b : Bool) → (n == k) ≡ b → matrix_of r e scale (if b then Some (block.Matrix m l) else None) ≡ Some rho → Gives sets 2 rho (product v w) × (v.columns ≡ w.rows)
      by_test false sides answers = absurd (cc)
      by_test true sides answers =
          let shape = product_shape v w in (
            subst (λ o. Gives sets 2 o (product v w)) (same_Some (type.SystemMatrix r e (block.Matrix m l) scale) rho answers)
                (record { ranked = refl; fits = record { whole = entries.product_whole v w; rows = shape.0 ∙ first.rows; columns = shape.1 ∙ second.columns; blocks = tt } }),
            first.columns ∙ inner sets c d n k same ((Decides-eqb n k).0 sides) ∙ sym second.rows,
          )

  -- a rule of products whose tests passed, with the form that it answers
  pub both_passed : (set_kind scale_kind : TypeKind) (x y : Bool) (form : Option NodeType) (rho : NodeType)
      → judged_form ((set_kind, x) ∷ (scale_kind, y) ∷ []) form ≡ Ok rho → (x ≡ false) × (form ≡ Some rho)
  both_passed set_kind scale_kind x y None rho is = absurd (cc)
  both_passed set_kind scale_kind true y (Some f) rho is = absurd (cc)
  both_passed set_kind scale_kind false true (Some f) rho is = absurd (cc)
  both_passed set_kind scale_kind false false (Some f) rho is = (refl, ap Some (same_Ok f rho is))

  pub applied : (t u rho : NodeType) (v w : Value) → Ranked 2 t → Fits sets t v → Ranked 1 u → Fits sets u w → product_rule t u ≡ Ok rho
      → Gives sets 1 rho (product v w) × (times t u v w ≡ product v w) × (v.columns ≡ w.rows)
  unfolding product_rule
  applied t u rho v w two first one second is = by_types t u (matrix_type t two) (vector_type u one) first second is
    where
      by_types : (t u : NodeType) → IsMatrix t → IsVector u → Fits sets t v → Fits sets u w
          → judged_form ((kind.Set, not (is_inner_the_same t u)) ∷ (kind.Scale, nat_lt MOST_SCALE (scales_added t u)) ∷ []) (product_form (scales_added t u) t u) ≡ Ok rho
          → Gives sets 1 rho (product v w) × (times t u v w ≡ product v w) × (v.columns ≡ w.rows)
      by_types t u (IsMatrix.matrix r c a s) (IsVector.vector set b x) first second is =
          let tests = both_passed kind.Set kind.Scale (not (c == set)) (nat_lt MOST_SCALE (scales_added (type.SystemMatrix r c a s) (type.SystemVector set b x)))
          (vector_of r (scales_added (type.SystemMatrix r c a s) (type.SystemVector set b x)) (matrix_vector_block a b)) rho is in
          let done = applied_blocks r c set a b (scales_added (type.SystemMatrix r c a s) (type.SystemVector set b x)) s x rho v w (not-false (c == set) tests.0) tests.1 first second in
          (done.0, refl, done.1)

  pub multiplied : (t u rho : NodeType) (v w : Value) → Ranked 2 t → Fits sets t v → Ranked 2 u → Fits sets u w → product_rule t u ≡ Ok rho
      → Gives sets 2 rho (product v w) × (times t u v w ≡ product v w) × (v.columns ≡ w.rows)
  unfolding product_rule
  multiplied t u rho v w two first also second is = by_types t u (matrix_type t two) (matrix_type u also) first second is
    where
      by_types : (t u : NodeType) → IsMatrix t → IsMatrix u → Fits sets t v → Fits sets u w
          → judged_form ((kind.Set, not (is_inner_the_same t u)) ∷ (kind.Scale, nat_lt MOST_SCALE (scales_added t u)) ∷ []) (product_form (scales_added t u) t u) ≡ Ok rho
          → Gives sets 2 rho (product v w) × (times t u v w ≡ product v w) × (v.columns ≡ w.rows)
      by_types t u (IsMatrix.matrix r c a s) (IsMatrix.matrix d e b x) first second is =
          let tests = both_passed kind.Set kind.Scale (not (c == d)) (nat_lt MOST_SCALE (scales_added (type.SystemMatrix r c a s) (type.SystemMatrix d e b x)))
          (matrix_of r e (scales_added (type.SystemMatrix r c a s) (type.SystemMatrix d e b x)) (matrix_matrix_block a b)) rho is in
          let done = multiplied_blocks r c d e a b (scales_added (type.SystemMatrix r c a s) (type.SystemMatrix d e b x)) s x rho v w (not-false (c == d) tests.0) tests.1 first second in
          (done.0, refl, done.1)

  -- ---- a number times anything

  with_scale_ranked : (rank : ℕ) (u : NodeType) (scale : ℕ) → Ranked rank u → Ranked rank (with_scale u scale)
  with_scale_ranked rank (type.Local block.Number s) scale ranked = ranked
  with_scale_ranked rank (type.Local (block.Vector n) s) scale ranked = ranked
  with_scale_ranked rank (type.Local (block.Matrix m n) s) scale ranked = ranked
  with_scale_ranked rank (type.SystemVector set b s) scale ranked = ranked
  with_scale_ranked rank (type.SystemMatrix r c b s) scale ranked = ranked

  pub with_scale_fits : (u : NodeType) (scale : ℕ) (w : Value) → Fits sets u w → Fits sets (with_scale u scale) w
  with_scale_fits (type.Local b s) scale w fits = record { whole = fits.whole; rows = fits.rows; columns = fits.columns; blocks = tt }
  with_scale_fits (type.SystemVector set b s) scale w fits = record { whole = fits.whole; rows = fits.rows; columns = fits.columns; blocks = tt }
  with_scale_fits (type.SystemMatrix r c block.Number s) scale w fits = record { whole = fits.whole; rows = fits.rows; columns = fits.columns; blocks = tt }
  with_scale_fits (type.SystemMatrix r c (block.Vector n) s) scale w fits = absurd fits.blocks
  with_scale_fits (type.SystemMatrix r c (block.Matrix m n) s) scale w fits = record { whole = fits.whole; rows = fits.rows; columns = fits.columns; blocks = tt }

  pub each_fits : (u : NodeType) (change : ℕ → ℕ) (w : Value) → Fits sets u w → Fits sets u (each change w)
  each_fits u change w fits = record { whole = entries.each_whole change w fits.whole; rows = fits.rows; columns = fits.columns; blocks = fits.blocks }

  pub scaled : (rank : ℕ) (t u rho : NodeType) (v w : Value) → Ranked 0 t → Ranked rank u → Fits sets u w → product_rule t u ≡ Ok rho
      → Gives sets rank rho (each (mul (word_of v)) w) × (times t u v w ≡ each (mul (word_of v)) w)
  unfolding product_rule
  scaled rank t u rho v w zero_is ranked second is = by_type t (number_type t zero_is) is
    where
      by_type : (t : NodeType) → IsNumber t
          → judged_form ((kind.Set, not (is_inner_the_same t u)) ∷ (kind.Scale, nat_lt MOST_SCALE (scales_added t u)) ∷ []) (product_form (scales_added t u) t u) ≡ Ok rho
          → Gives sets rank rho (each (mul (word_of v)) w) × (times t u v w ≡ each (mul (word_of v)) w)
      by_type t (IsNumber.number s) is =
          let added : ℕ = scales_added (type.Local block.Number s) u in
          let tests = both_passed kind.Set kind.Scale (not (is_inner_the_same (type.Local block.Number s) u)) (nat_lt MOST_SCALE added) (Some (with_scale u added)) rho is in (
            subst (λ o. Gives sets rank o (each (mul (word_of v)) w)) (same_Some (with_scale u added) rho tests.1)
                (record { ranked = with_scale_ranked rank u added ranked; fits = with_scale_fits u added (each (mul (word_of v)) w) (each_fits u (mul (word_of v)) w second) }),
            refl,
          )

  -- ---- two vectors of one shape

  same_entries : (a b : BlockShape) → is_same_block a b ≡ true → entries_in a ≡ entries_in b
  same_entries block.Number block.Number same = refl
  same_entries block.Number (block.Vector n) same = false-true same
  same_entries block.Number (block.Matrix m n) same = false-true same
  same_entries (block.Vector m) block.Number same = false-true same
  same_entries (block.Vector m) (block.Vector n) same = (Decides-eqb m n).0 same
  same_entries (block.Vector m) (block.Matrix k n) same = false-true same
  same_entries (block.Matrix m n) block.Number same = false-true same
  same_entries (block.Matrix m n) (block.Vector k) same = false-true same
  same_entries (block.Matrix m n) (block.Matrix k l) same =
      ap (λ x. x * n) ((Decides-eqb m k).0 (first_of_and (m == k) (n == l) same)) ∙ ap (λ x. k * x) ((Decides-eqb n l).0 (second_of_and (m == k) (n == l) same))
    where
      first_of_and : (x y : Bool) → (x && y) ≡ true → x ≡ true
      first_of_and true y both = refl
      first_of_and false y both = false-true both

      second_of_and : (x y : Bool) → (x && y) ≡ true → y ≡ true
      second_of_and true y both = both
      second_of_and false y both = false-true both

  -- why two vectors of one shape have as many rows
  vectors_alike : {A : Type 0} (a b rest : Bool) (result : Result A TypeKind) (done : A)
      → (if not a then Err kind.Shape else if not b then Err kind.Set else if rest then Err kind.Scale else result) ≡ Ok done → (a ≡ true) × (b ≡ true) × (result ≡ Ok done)
  vectors_alike false b rest result done is = absurd (cc)
  vectors_alike true false rest result done is = absurd (cc)
  vectors_alike true true true result done is = absurd (cc)
  vectors_alike true true false result done is = (refl, refl, is)

  rows_alike : (m n : ℕ) (a b : BlockShape) (s x : ℕ) (v w : Value) → is_same_block a b ≡ true → (m == n) ≡ true
      → Fits sets (type.SystemVector m a s) v → Fits sets (type.SystemVector n b x) w → v.rows ≡ w.rows
  rows_alike m n a b s x v w blocks over first second =
      first.rows ∙ inner sets m n (entries_in a) (entries_in b) over (same_entries a b blocks) ∙ sym second.rows

  pub joined : (t u rho : NodeType) (v w : Value) → Ranked 1 t → Fits sets t v → Ranked 1 u → Fits sets u w → entrywise_rule t u ≡ Ok rho
      → Gives sets 1 rho (both mul v w) × (v.rows ≡ w.rows)
  unfolding entrywise_rule
  joined t u rho v w one first also second is = by_types t u (vector_type t one) (vector_type u also) first second is
    where
      by_types : (t u : NodeType) → IsVector t → IsVector u → Fits sets t v → Fits sets u w
          → (if not (are_vectors t u) then Err kind.Shape else if not (is_over_the_same t u) then Err kind.Set else if nat_lt MOST_SCALE (scales_added t u) then Err kind.Scale
          else Ok (with_scale t (scales_added t u))) ≡ Ok rho
          → Gives sets 1 rho (both mul v w) × (v.rows ≡ w.rows)
      by_types t u (IsVector.vector m a s) (IsVector.vector n b x) first second is =
          let added : ℕ = scales_added (type.SystemVector m a s) (type.SystemVector n b x) in
          let alike = vectors_alike (is_same_block a b) (m == n) (nat_lt MOST_SCALE added) (Ok (type.SystemVector m a added)) rho is in
          let rows : v.rows ≡ w.rows = rows_alike m n a b s x v w alike.0 alike.1 first second in (
            subst (λ o. Gives sets 1 o (both mul v w)) (same_Ok (type.SystemVector m a added) rho alike.2)
                (record { ranked = refl; fits = record { whole = entries.both_whole mul v w first.whole second.whole rows (first.columns ∙ sym second.columns); rows = first.rows; columns = first.columns; blocks = tt } }),
            rows,
          )

  pub dotted : (t u rho : NodeType) (v w : Value) → Ranked 1 t → Fits sets t v → Ranked 1 u → Fits sets u w → dot_rule t u ≡ Ok rho
      → Gives sets 0 rho (dot v w) × (v.rows ≡ w.rows)
  unfolding dot_rule dot
  dotted t u rho v w one first also second is = by_types t u (vector_type t one) (vector_type u also) first second is
    where
      by_types : (t u : NodeType) → IsVector t → IsVector u → Fits sets t v → Fits sets u w
          → (if not (are_vectors t u) then Err kind.Shape else if not (is_over_the_same t u) then Err kind.Set else if nat_lt MOST_SCALE (scales_added t u) then Err kind.Scale
          else Ok (type.Local block.Number (scales_added t u))) ≡ Ok rho
          → Gives sets 0 rho (dot v w) × (v.rows ≡ w.rows)
      by_types t u (IsVector.vector m a s) (IsVector.vector n b x) first second is =
          let added : ℕ = scales_added (type.SystemVector m a s) (type.SystemVector n b x) in
          let alike = vectors_alike (is_same_block a b) (m == n) (nat_lt MOST_SCALE added) (Ok (type.Local block.Number added)) rho is in (
            subst (λ o. Gives sets 0 o (dot v w)) (same_Ok (type.Local block.Number added) rho alike.2)
                (record { ranked = refl; fits = record { whole = refl; rows = refl; columns = refl; blocks = tt } }),
            rows_alike m n a b s x v w alike.0 alike.1 first second,
          )

  -- ---- transposes

  pub turned : (t rho : NodeType) (v : Value) → Ranked 2 t → Fits sets t v → transposed_rule t ≡ Ok rho → Gives sets 2 rho (transposed v)
  unfolding transposed_rule
  turned t rho v two first is = by_type t (matrix_type t two) first is
    where
      by_type : (t : NodeType) → IsMatrix t → Fits sets t v → transposed_rule t ≡ Ok rho → Gives sets 2 rho (transposed v)
      by_type t (IsMatrix.matrix r c block.Number s) first is =
          subst (λ o. Gives sets 2 o (transposed v)) (same_Ok (type.SystemMatrix c r block.Number s) rho is)
          (record { ranked = refl; fits = record { whole = entries.transposed_whole v; rows = (transposed_shape v).0 ∙ first.columns; columns = (transposed_shape v).1 ∙ first.rows; blocks = tt } })
      by_type t (IsMatrix.matrix r c (block.Vector n) s) first is = absurd first.blocks
      by_type t (IsMatrix.matrix r c (block.Matrix m n) s) first is =
          subst (λ o. Gives sets 2 o (transposed v)) (same_Ok (type.SystemMatrix c r (block.Matrix n m) s) rho is)
          (record { ranked = refl; fits = record { whole = entries.transposed_whole v; rows = (transposed_shape v).0 ∙ first.columns; columns = (transposed_shape v).1 ∙ first.rows; blocks = tt } })
