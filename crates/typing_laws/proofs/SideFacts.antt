-- Where a function writes its results: what the definition finds is what its body writes.
use Rattle.std.proofs.Common.{◌≡◌, ◌↔◌, ◌⊎◌, inl, inr, ℕ, suc, ◌==◌, Bool, true, false, ◌||◌, List, [], ◌∷◌, map, Option, Some, None, refl, sym, ap, subst, ◌∙◌}
use Rattle.std.proofs.lemmas.Bool.{eqb-true, eq-eqb}
use Rattle.std.specs.Prelude.{slice_get}
use Rattle.type_rules.specs.declared.types.BlockShape.{BlockShape}
use Rattle.type_rules.specs.declared.types.NodeType.{NodeType}
use Rattle.type_rules.specs.declared.types.NodeType.TheVariants.{SystemVector, SystemMatrix}
use Rattle.typed_tree.specs.declared.condition.TypedCond.{TypedCond}
use Rattle.typed_tree.specs.declared.expression.TypedExpr.{TypedExpr}
use Rattle.typed_tree.specs.declared.function.FunctionStmt as function_tree
use Rattle.typed_tree.specs.declared.function.FunctionStmt.{FunctionStmt}
use Rattle.typed_tree.specs.declared.function.FunctionStmt.TheVariants as made
use Rattle.typed_tree.specs.declared.function.FunctionStmt.TheOpen.{FunctionStmt-F}
use Rattle.typed_tree.specs.declared.function.FunctionStmt.TheFolds.{fold-FunctionStmt, fold-roll-FunctionStmt, ind-FunctionStmt}
use Rattle.typed_tree.specs.declared.function.PlaceIndex.{PlaceIndex}
use Rattle.typed_tree.specs.declared.function.ResultSide.{ResultSide}
use Rattle.typed_tree.specs.declared.function.TypedResult.{TypedResult}
use Rattle.typed_tree.specs.declared.function.WrittenPlace.{WrittenPlace}
use Rattle.typed_tree.specs.declared.function.WrittenPlace.TheVariants as place
use Rattle.typed_tree.specs.Declarations.{passes, is_written_node, is_written, is_element_place, is_endpoint_place, side, typed_result, typed_results}
use Rattle.typing_laws.specs.ResultSides.{Writes, SomeWrites, IsSide, IsTypedResult, AreTypedResults}
use Rattle.typing_laws.proofs.MapFacts.{both_true, true_both}

either_true : (a b : Bool) → (a || b) ≡ true → (a ≡ true) ⊎ (b ≡ true)
either_true true b is = inl refl
either_true false b is = inr is

true_first : (a b : Bool) → a ≡ true → (a || b) ≡ true
true_first a b is = ap (λ x. x || b) is

true_second : (a b : Bool) → b ≡ true → (a || b) ≡ true
true_second true b is = refl
true_second false b is = is

-- ---- what the definition looks for

abbrev written : ℕ → ℕ → (WrittenPlace → Bool) → FunctionStmt → Bool
written result position test = fold-FunctionStmt Bool (is_written_node result position test)

-- a place that passes the test
abbrev Finds : ℕ → ℕ → (WrittenPlace → Bool) → FunctionStmt → Type 0
Finds result position test s = written result position test s ≡ true → (p : WrittenPlace) × (test p ≡ true) × Writes result position p s

abbrev FindsIn : ℕ → ℕ → (WrittenPlace → Bool) → List FunctionStmt → Type 0
FindsIn result position test body = is_written result position test body ≡ true → (p : WrittenPlace) × (test p ≡ true) × SomeWrites result position p body

abbrev S : ℕ → ℕ → (WrittenPlace → Bool) → Type 0
S result position test = (s : FunctionStmt) × Finds result position test s

finds_in : (result position : ℕ) (test : WrittenPlace → Bool) (ys : List (S result position test)) → FindsIn result position test (map (λ y. y.0) ys)
finds_in result position test [] is = absurd (cc)
finds_in result position test (y ∷ ys) is =
    let rest = map (λ x. x.0) ys in
    elim (either_true (written result position test y.0) (is_written result position test rest) is) [
      | inl now ↦ (let f = y.1 now in (f.0, f.1, SomeWrites.first y.0 rest f.2))
      | inr then ↦ (let f = finds_in result position test ys then in (f.0, f.1, SomeWrites.later y.0 rest f.2))
    ]

passing : (test : WrittenPlace → Bool) (o : Option WrittenPlace) → passes test o ≡ true → (p : WrittenPlace) × (test p ≡ true) × (o ≡ Some p)
passing test None is = absurd (cc)
passing test (Some p) is = (p, is, refl)

abbrev plain : (result position : ℕ) (test : WrittenPlace → Bool) → FunctionStmt-F (S result position test) → FunctionStmt-F FunctionStmt
plain result position test y = function_tree.map-FunctionStmt (S result position test) FunctionStmt (λ s. s.0) y

rolled : (result position : ℕ) (test : WrittenPlace → Bool) (x : FunctionStmt-F FunctionStmt)
    → written result position test (function_tree.roll-FunctionStmt x)
    ≡ is_written_node result position test (function_tree.map-FunctionStmt FunctionStmt Bool (written result position test) x)
rolled result position test x = fold-roll-FunctionStmt Bool (is_written_node result position test) x

no_write : (b : Bool) → b ≡ false → b ≡ true → ⊥
no_write b false_is true_is = let e : true ≡ false = sym true_is ∙ false_is in cc

node_finds : (result position : ℕ) (test : WrittenPlace → Bool) (y : FunctionStmt-F (S result position test))
    → Finds result position test (function_tree.roll-FunctionStmt (plain result position test y))
node_finds result position test (FunctionStmt-F.Var line local value) is = absurd (no_write _ (rolled result position test (FunctionStmt-F.Var line local value)) is)
node_finds result position test (FunctionStmt-F.Assign line local value) is = absurd (no_write _ (rolled result position test (FunctionStmt-F.Assign line local value)) is)
node_finds result position test (FunctionStmt-F.Assert line cond) is = absurd (no_write _ (rolled result position test (FunctionStmt-F.Assert line cond)) is)
node_finds result position test (FunctionStmt-F.Write line r places value) is =
    let b = both_true (r == result) (passes test (slice_get places position)) (sym (rolled result position test (FunctionStmt-F.Write line r places value)) ∙ is) in
    let p = passing test (slice_get places position) b.1 in (
      p.0,
      p.1,
      subst (Writes result position p.0) (sym (made.rolls-Write line r places value))
          (subst (λ n. Writes result position p.0 (made.Write line n places value)) (sym (eqb-true r result b.0)) (Writes.here line places value p.2)),
    )
node_finds result position test (FunctionStmt-F.Loop line local from to body) is =
    let inner = map (λ s. s.0) body in
    let f = finds_in result position test body (sym (rolled result position test (FunctionStmt-F.Loop line local from to inner)) ∙ is) in
    (f.0, f.1, subst (Writes result position f.0) (sym (made.rolls-Loop line local from to inner)) (Writes.in_loop line local from to inner f.2))
node_finds result position test (FunctionStmt-F.If line cond body otherwise) is =
    let inner = map (λ s. s.0) body in
    let other = map (λ s. s.0) otherwise in
    elim (either_true (is_written result position test inner) (is_written result position test other) (sym (rolled result position test (FunctionStmt-F.If line cond inner other)) ∙ is)) [
      | inl now ↦ (let f = finds_in result position test body now in
          (f.0, f.1, subst (Writes result position f.0) (sym (made.rolls-If line cond inner other)) (Writes.in_body line cond inner other f.2)))
      | inr then ↦ (let f = finds_in result position test otherwise then in
          (f.0, f.1, subst (Writes result position f.0) (sym (made.rolls-If line cond inner other)) (Writes.in_otherwise line cond inner other f.2)))
    ]

statement_finds : (result position : ℕ) (test : WrittenPlace → Bool) (s : FunctionStmt) → Finds result position test s
statement_finds result position test =
    ind-FunctionStmt (Finds result position test) (λ x y is. subst (λ z. Finds result position test (function_tree.roll-FunctionStmt z)) is (node_finds result position test y))

body_finds : (result position : ℕ) (test : WrittenPlace → Bool) (body : List FunctionStmt) → FindsIn result position test body
body_finds result position test [] is = absurd (cc)
body_finds result position test (s ∷ body) is =
    elim (either_true (written result position test s) (is_written result position test body) is) [
      | inl now ↦ (let f = statement_finds result position test s now in (f.0, f.1, SomeWrites.first s body f.2))
      | inr then ↦ (let f = body_finds result position test body then in (f.0, f.1, SomeWrites.later s body f.2))
    ]

-- ---- what is written is found

abbrev by_form : ℕ → ℕ → (WrittenPlace → Bool) → FunctionStmt → FunctionStmt-F FunctionStmt → Type 0
by_form result position test s x =
    written result position test s ≡ is_written_node result position test (function_tree.map-FunctionStmt FunctionStmt Bool (written result position test) x)

write_is : (result position : ℕ) (test : WrittenPlace → Bool) (line r : ℕ) (places : List WrittenPlace) (value : TypedExpr)
    → by_form result position test (made.Write line r places value) (FunctionStmt-F.Write line r places value)
write_is result position test line r places value =
    ap (written result position test) (sym (made.rolls-Write line r places value)) ∙ rolled result position test (FunctionStmt-F.Write line r places value)

loop_is : (result position : ℕ) (test : WrittenPlace → Bool) (line local from to : ℕ) (body : List FunctionStmt)
    → by_form result position test (made.Loop line local from to body) (FunctionStmt-F.Loop line local from to body)
loop_is result position test line local from to body =
    ap (written result position test) (sym (made.rolls-Loop line local from to body)) ∙ rolled result position test (FunctionStmt-F.Loop line local from to body)

choice_is : (result position : ℕ) (test : WrittenPlace → Bool) (line : ℕ) (cond : TypedCond) (body otherwise : List FunctionStmt)
    → by_form result position test (made.If line cond body otherwise) (FunctionStmt-F.If line cond body otherwise)
choice_is result position test line cond body otherwise =
    ap (written result position test) (sym (made.rolls-If line cond body otherwise)) ∙ rolled result position test (FunctionStmt-F.If line cond body otherwise)

mutual
  found_written : (result position : ℕ) (at : WrittenPlace) (s : FunctionStmt) → Writes result position at s → (test : WrittenPlace → Bool) → test at ≡ true
      → written result position test s ≡ true
  found_written result position at s (Writes.here line places value is) test pass =
      write_is result position test line result places value
      ∙ true_both (result == result) (passes test (slice_get places position)) (eq-eqb result result refl) (ap (passes test) is ∙ pass)
  found_written result position at s (Writes.in_loop line local from to body some) test pass =
      loop_is result position test line local from to body ∙ found_in result position at body some test pass
  found_written result position at s (Writes.in_body line cond body otherwise some) test pass =
      choice_is result position test line cond body otherwise
      ∙ true_first (is_written result position test body) (is_written result position test otherwise) (found_in result position at body some test pass)
  found_written result position at s (Writes.in_otherwise line cond body otherwise some) test pass =
      choice_is result position test line cond body otherwise
      ∙ true_second (is_written result position test body) (is_written result position test otherwise) (found_in result position at otherwise some test pass)

  found_in : (result position : ℕ) (at : WrittenPlace) (body : List FunctionStmt) → SomeWrites result position at body → (test : WrittenPlace → Bool) → test at ≡ true
      → is_written result position test body ≡ true
  found_in result position at body (SomeWrites.first s rest now) test pass =
      true_first (written result position test s) (is_written result position test rest) (found_written result position at s now test pass)
  found_in result position at body (SomeWrites.later s rest some) test pass =
      true_second (written result position test s) (is_written result position test rest) (found_in result position at rest some test pass)

-- ---- sides

the_element : (p : WrittenPlace) → is_element_place p ≡ true → p ≡ place.Element
the_element place.Element is = refl
the_element (place.Endpoint at) is = absurd (cc)

an_endpoint : (p : WrittenPlace) → is_endpoint_place p ≡ true → (at : PlaceIndex) × (p ≡ place.Endpoint at)
an_endpoint place.Element is = absurd (cc)
an_endpoint (place.Endpoint at) is = (at, refl)

side_typed : (body : List FunctionStmt) (result position set : ℕ) → IsSide body result position set (side body result position set)
side_typed body result position set = record {
  set_is = refl;
  element = (
    (λ is. let f = body_finds result position is_element_place body is in subst (λ p. SomeWrites result position p body) (the_element f.0 f.1) f.2),
    (λ some. found_in result position place.Element body some is_element_place refl),
  );
  endpoint = (
    (λ is. let f = body_finds result position is_endpoint_place body is in let e = an_endpoint f.0 f.1 in (e.0, subst (λ p. SomeWrites result position p body) e.1 f.2)),
    (λ some. found_in result position (place.Endpoint some.0) body some.1 is_endpoint_place refl),
  );
}

same_test : {P : Type 0} (a b : Bool) → (a ≡ true) ↔ P → (b ≡ true) ↔ P → a ≡ b
same_test true b first second = sym (second.1 (first.0 refl))
same_test false true first second = first.1 (second.0 refl)
same_test false false first second = refl

only_side : (body : List FunctionStmt) (result position set : ℕ) (s : ResultSide) → IsSide body result position set s → side body result position set ≡ s
only_side body result position set s is =
    let own = side_typed body result position set in
    let element = same_test (is_written result position is_element_place body) s.at_element own.element is.element in
    let endpoint = same_test (is_written result position is_endpoint_place body) s.at_endpoint own.endpoint is.endpoint in
    λ i. record { set = sym is.set_is i; at_element = element i; at_endpoint = endpoint i }

-- ---- results

pub data IsSystem : NodeType → Type 0 where
  is_vector : (set : ℕ) (block : BlockShape) (scale : ℕ) → IsSystem (SystemVector set block scale)
  is_matrix : (rows columns : ℕ) (block : BlockShape) (scale : ℕ) → IsSystem (SystemMatrix rows columns block scale)

pub result_is : (body : List FunctionStmt) (number : ℕ) (type : NodeType) → IsSystem type → IsTypedResult body number type (typed_result body number type)
result_is body number type (IsSystem.is_vector set block scale) = IsTypedResult.over_set set block scale (side body number 0 set) (side_typed body number 0 set)
result_is body number type (IsSystem.is_matrix rows columns block scale) =
    IsTypedResult.over_sets rows columns block scale (side body number 0 rows) (side body number 1 columns) (side_typed body number 0 rows) (side_typed body number 1 columns)

only_result : (body : List FunctionStmt) (number : ℕ) (type : NodeType) (r : TypedResult) → IsTypedResult body number type r → typed_result body number type ≡ r
only_result body number type r (IsTypedResult.over_set set block scale rows is) =
    let same = only_side body number 0 set rows is in
    λ i. record { rows = same i; columns = None; block = block; scale = scale }
only_result body number type r (IsTypedResult.over_sets set other block scale rows columns is also) =
    let same = only_side body number 0 set rows is in
    let beside = only_side body number 1 other columns also in
    λ i. record { rows = same i; columns = Some (beside i); block = block; scale = scale }

pub only_typed_results : (body : List FunctionStmt) (number : ℕ) (types : List NodeType) (rs : List TypedResult) → AreTypedResults body number types rs
    → typed_results body number types ≡ rs
only_typed_results body number types rs (AreTypedResults.none n) = refl
only_typed_results body number types rs (AreTypedResults.one_more n type others r more here rest) =
    let first = only_result body n type r here in
    let later = only_typed_results body (suc n) others more rest in
    λ i. first i ∷ later i
