-- Blocks that are declared, and rules of several parts: when none of the kinds of fault applies.
use Rattle.std.proofs.Common.{◌≡◌, ℕ, ◌==◌, ◌≤◌, Bool, true, false, ◌||◌, nat_lt, if◌then◌else◌, List, [], ◌∷◌, Option, Some, None, Result, Ok, Err, refl, sym, ap, ◌∙◌}
use Rattle.std.proofs.lemmas.Bool.{ltb-false, le-ltb, eqb-false, or_from, false_from_ne_true, eqb-true}
use Rattle.std.specs.List.{list_any}
use native.Mathlib.Omega.{arith}
use Rattle.vocabulary.specs.declared.limits.TheConstants.{MOST_SIDE}
use Rattle.sim_syntax.specs.declared.declaration.Local as block_tree
use Rattle.sim_syntax.specs.declared.declaration.Local.TheVariants as written
use Rattle.type_rules.specs.Rules.{judged, declared_rule, is_missing, is_no_side, is_scale_past, block_of_sides, or_zero, rank}
use Rattle.type_rules.specs.declared.types.BlockShape.{BlockShape}
use Rattle.type_rules.specs.declared.types.BlockShape.TheVariants.{Number, Vector, Matrix}
use Rattle.type_rules.specs.declared.types.NodeType.{NodeType}
use Rattle.type_rules.specs.declared.types.NodeType.TheVariants as type
use Rattle.type_rules.specs.declared.types.TypeKind.{TypeKind}
use Rattle.type_rules.specs.declared.types.TypeKind.TheVariants as kind
use Rattle.typed_tree.specs.Literals.{whole}
use Rattle.typed_tree.specs.Declarations.{unless, faultless, block_rule_up_to}
use Rattle.typing_laws.specs.Declarations.{IsBlock}
use Rattle.typing_laws.proofs.Steps.{same_Ok}
use Rattle.typing_laws.proofs.NoFault.{none_either}

-- ---- rules of several parts

pub judged_split : {A : Type 0} (k : TypeKind) (b : Bool) (others : List (TypeKind × Bool)) (x y : A) → judged ((k, b) ∷ others) x ≡ Ok y
    → (b ≡ false) × (judged others x ≡ Ok y)
judged_split k true others x y is = absurd (cc)
judged_split k false others x y is = (refl, is)

pub judged_more : {A : Type 0} (k : TypeKind) (b : Bool) (others : List (TypeKind × Bool)) (x : A) (r : Result A TypeKind) → b ≡ false → judged others x ≡ r
    → judged ((k, b) ∷ others) x ≡ r
judged_more k b others x r test next = ap (λ t. if t then Err k else judged others x) test ∙ next

pub unless_split : {A : Type 0} (fault : Option TypeKind) (rule : Result A TypeKind) (x : A) → unless fault rule ≡ Ok x → (fault ≡ None) × (rule ≡ Ok x)
unfolding unless
unless_split None rule x is = (refl, is)
unless_split (Some k) (Ok y) x is = absurd (cc)
unless_split {A} (Some k) (Err j) x is = absurd (by_test (nat_lt (rank j) (rank k)) is)
  where
    by_test : (t : Bool) → (if t then Err j else Err k) ≡ Ok x → ⊥
    by_test true answers = cc
    by_test false answers = cc

pub unless_more : {A : Type 0} (fault : Option TypeKind) (rule : Result A TypeKind) (x : A) → fault ≡ None → rule ≡ Ok x → unless fault rule ≡ Ok x
unfolding unless
unless_more fault rule x none is = ap (λ f. unless f rule) none ∙ is

pub faultless_split : (fault : Option TypeKind) (x : Unit {0}) → faultless fault ≡ Ok x → fault ≡ None
faultless_split None x is = refl
faultless_split (Some k) x is = absurd (cc)

-- ---- blocks

pub past_split : (most : ℕ) (scale : Option ℕ) → is_missing scale ≡ false → is_scale_past most scale ≡ false → (s : ℕ) × (scale ≡ Some s) × (s ≤ most)
past_split most None there few = absurd (cc)
past_split most (Some s) there few = (s, refl, ltb-false most s few)

pub size_split : (most n : ℕ) → ((n == 0) || nat_lt most n) ≡ false → (1 ≤ n) × (n ≤ most)
size_split most n is =
    let parts = none_either (n == 0) (nat_lt most n) is in
    (at_least n (eqb-false n 0 parts.0), ltb-false most n parts.1)
  where
    at_least : (k : ℕ) → (k ≡ 0 → ⊥) → 1 ≤ k
    at_least k positive = omega (arith, positive)

pub size_is : (most n : ℕ) → 1 ≤ n → n ≤ most → ((n == 0) || nat_lt most n) ≡ false
size_is most n positive few = or_from (n == 0) (nat_lt most n) (false_from_ne_true (n == 0) (λ zero. not_zero n (eqb-true n 0 zero) positive)) (le-ltb most n few)
  where
    not_zero : (k : ℕ) → k ≡ 0 → 1 ≤ k → ⊥
    not_zero k zero positive = omega arith

side_split : (side : Option ℕ) → is_missing side ≡ false → is_no_side side ≡ false → (n : ℕ) × (side ≡ Some n) × (1 ≤ n) × (n ≤ MOST_SIDE)
side_split None there few = absurd (cc)
side_split (Some n) there few = let sized = size_split MOST_SIDE n few in (n, refl, sized.0, sized.1)

side_is : (side : Option ℕ) (n : ℕ) → side ≡ Some n → 1 ≤ n → n ≤ MOST_SIDE → (is_missing side ≡ false) × (is_no_side side ≡ false)
side_is side n is positive few = (ap is_missing is, ap is_no_side is ∙ size_is MOST_SIDE n positive few)

pub declared_split : (most : ℕ) (sides : List (Option ℕ)) (scale : Option ℕ) (t : NodeType) → declared_rule most sides scale ≡ Ok t
    → (s : ℕ) × (scale ≡ Some s) × (s ≤ most) × (list_any is_missing sides ≡ false) × (list_any is_no_side sides ≡ false)
    × (type.Local (block_of_sides sides) (or_zero scale) ≡ t)
unfolding declared_rule
declared_split most sides scale t is =
    let of = type.Local (block_of_sides sides) (or_zero scale) in
    let a = judged_split kind.NotConstant (is_missing scale || list_any is_missing sides)
    ((kind.Scale, is_scale_past most scale) ∷ (kind.TooLarge, list_any is_no_side sides) ∷ []) of t is in
    let b = judged_split kind.Scale (is_scale_past most scale) ((kind.TooLarge, list_any is_no_side sides) ∷ []) of t a.1 in
    let c = judged_split kind.TooLarge (list_any is_no_side sides) [] of t b.1 in
    let there = none_either (is_missing scale) (list_any is_missing sides) a.0 in
    let s = past_split most scale there.0 b.0 in
    (s.0, s.1, s.2, there.1, c.0, same_Ok of t c.1)

pub declared_is : (most : ℕ) (sides : List (Option ℕ)) (scale : Option ℕ) (s : ℕ) → scale ≡ Some s → s ≤ most
    → list_any is_missing sides ≡ false → list_any is_no_side sides ≡ false → declared_rule most sides scale ≡ Ok (type.Local (block_of_sides sides) s)
unfolding declared_rule
declared_is most sides scale s is few there sized =
    let of = type.Local (block_of_sides sides) (or_zero scale) in
    judged_more kind.NotConstant (is_missing scale || list_any is_missing sides)
    ((kind.Scale, is_scale_past most scale) ∷ (kind.TooLarge, list_any is_no_side sides) ∷ []) of (Ok (type.Local (block_of_sides sides) s))
    (or_from (is_missing scale) (list_any is_missing sides) (ap is_missing is) there)
    (judged_more kind.Scale (is_scale_past most scale) ((kind.TooLarge, list_any is_no_side sides) ∷ []) of (Ok (type.Local (block_of_sides sides) s))
    (ap (is_scale_past most) is ∙ le-ltb most s few)
    (judged_more kind.TooLarge (list_any is_no_side sides) [] of (Ok (type.Local (block_of_sides sides) s)) sized
    (ap (λ o. Ok (type.Local (block_of_sides sides) (or_zero o))) is)))

pub record BlockOf (most : ℕ) (block : block_tree.Local) (t : NodeType) : Type 0 where
  pub shape : BlockShape
  pub scale : ℕ
  pub is_block : IsBlock most block shape scale
  pub same : type.Local shape scale ≡ t

pub block_typed : (most : ℕ) (block : block_tree.Local) (t : NodeType) → block_rule_up_to most block ≡ Ok t → BlockOf most block t
unfolding block_rule_up_to
block_typed most (written.Int line digits) t is =
    let d = declared_split most [] (whole digits) t is in
    record { shape = Number; scale = d.0; is_block = IsBlock.number_block line digits d.0 (d.1, d.2); same = ap (λ o. type.Local Number (or_zero o)) (sym d.1) ∙ d.5 }
block_typed most (written.Vector line side digits) t is =
    let d = declared_split most (whole side ∷ []) (whole digits) t is in
    let n = side_split (whole side) (none_either (is_missing (whole side)) false d.3).0 (none_either (is_no_side (whole side)) false d.4).0 in
    record {
      shape = Vector n.0;
      scale = d.0;
      is_block = IsBlock.vector_block line side digits n.0 d.0 (n.1, n.2, n.3) (d.1, d.2);
      same = ap (λ o. type.Local (Vector n.0) (or_zero o)) (sym d.1) ∙ ap (λ o. type.Local (Vector (or_zero o)) (or_zero (whole digits))) (sym n.1) ∙ d.5;
    }
block_typed most (written.Matrix line rows columns digits) t is =
    let d = declared_split most (whole rows ∷ whole columns ∷ []) (whole digits) t is in
    let there = none_either (is_missing (whole rows)) (list_any is_missing (whole columns ∷ [])) d.3 in
    let sized = none_either (is_no_side (whole rows)) (list_any is_no_side (whole columns ∷ [])) d.4 in
    let m = side_split (whole rows) there.0 sized.0 in
    let n = side_split (whole columns) (none_either (is_missing (whole columns)) false there.1).0 (none_either (is_no_side (whole columns)) false sized.1).0 in
    record {
      shape = Matrix m.0 n.0;
      scale = d.0;
      is_block = IsBlock.matrix_block line rows columns digits m.0 n.0 d.0 (m.1, m.2, m.3) (n.1, n.2, n.3) (d.1, d.2);
      same = ap (λ o. type.Local (Matrix m.0 n.0) (or_zero o)) (sym d.1)
          ∙ ap (λ o. type.Local (Matrix m.0 (or_zero o)) (or_zero (whole digits))) (sym n.1)
          ∙ ap (λ o. type.Local (Matrix (or_zero o) (or_zero (whole columns))) (or_zero (whole digits))) (sym m.1) ∙ d.5;
    }

pub only_block : (most : ℕ) (block : block_tree.Local) (shape : BlockShape) (scale : ℕ) → IsBlock most block shape scale
    → block_rule_up_to most block ≡ Ok (type.Local shape scale)
unfolding block_rule_up_to
only_block most block shape scale (IsBlock.number_block line digits s is) = declared_is most [] (whole digits) s is.0 is.1 refl refl
only_block most block shape scale (IsBlock.vector_block line side digits n s sized is) =
    let there = side_is (whole side) n sized.0 sized.1 sized.2 in
    declared_is most (whole side ∷ []) (whole digits) s is.0 is.1 (or_from (is_missing (whole side)) false there.0 refl) (or_from (is_no_side (whole side)) false there.1 refl)
    ∙ ap (λ o. Ok (type.Local (Vector (or_zero o)) s)) sized.0
only_block most block shape scale (IsBlock.matrix_block line rows columns digits m n s rows_are columns_are is) =
    let r = side_is (whole rows) m rows_are.0 rows_are.1 rows_are.2 in
    let c = side_is (whole columns) n columns_are.0 columns_are.1 columns_are.2 in
    declared_is most (whole rows ∷ whole columns ∷ []) (whole digits) s is.0 is.1
    (or_from (is_missing (whole rows)) (list_any is_missing (whole columns ∷ [])) r.0 (or_from (is_missing (whole columns)) false c.0 refl))
    (or_from (is_no_side (whole rows)) (list_any is_no_side (whole columns ∷ [])) r.1 (or_from (is_no_side (whole columns)) false c.1 refl))
    ∙ ap (λ o. Ok (type.Local (Matrix (or_zero o) (or_zero (whole columns))) s)) rows_are.0
    ∙ ap (λ o. Ok (type.Local (Matrix m (or_zero o)) s)) columns_are.0
