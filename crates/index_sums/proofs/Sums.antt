-- Sums over all values of indices.
use Rattle.std.proofs.Common.{◌≡◌, ℕ, ◌*◌, ◌%◌, Bool, true, false, List, [], ◌∷◌, ◌++◌, refl, sym, ap, ◌∙◌, inl, inr, arith}
use Rattle.std.specs.Prelude.{◌⊎◌, sum_by, if◌then◌else◌}
use Rattle.std.specs.List.{range_with_len}
use Rattle.std.specs.Str.{bytes_eq}
use Rattle.std.proofs.Math.Path.{fun_ext}
use Rattle.std.proofs.lemmas.Bool.{cases_Bool, true≢false}
use Rattle.std.proofs.lemmas.Slice.Eq.{bytes_eq-Decides}
use Rattle.vocabulary.specs.Sums.{SumLaws, DoubleSumLaws}
use Rattle.index_sums.specs.IndexSums.{Name, Values, with_index, over_all, IsReordered}
use Rattle.index_sums.specs.IndexSums.IsReordered.{nothing, moved}
use Rattle.index_sums.specs.Laws.{Lacks, LacksAll}

-- ---- one index after another

if_true : {A : Type 0} (b : Bool) (x y : A) → b ≡ true → (if b then x else y) ≡ x
if_true b x y holds = ap (λ c. if c then x else y) holds

if_false : {A : Type 0} (b : Bool) (x y : A) → b ≡ false → (if b then x else y) ≡ y
if_false b x y fails = ap (λ c. if c then x else y) fails

-- the later of two values of one index counts
again : (at : Values) (name : Name) (v w : ℕ) → with_index (with_index at name v) name w ≡ with_index at name w
again at name v w = fun_ext (λ other. by_case other (cases_Bool (bytes_eq name other)))
  where
    by_case : (other : Name) → (bytes_eq name other ≡ true) ⊎ (bytes_eq name other ≡ false) → with_index (with_index at name v) name w other ≡ with_index at name w other
    by_case other (inl same) = if_true (bytes_eq name other) w (with_index at name v other) same ∙ sym (if_true (bytes_eq name other) w (at other) same)
    by_case other (inr differs) =
        if_false (bytes_eq name other) w (with_index at name v other) differs ∙ if_false (bytes_eq name other) v (at other) differs
        ∙ sym (if_false (bytes_eq name other) w (at other) differs)

-- values of two different indices, in either order
pub either_order : (at : Values) (a b : Name) (v w : ℕ) → bytes_eq a b ≡ false → with_index (with_index at a v) b w ≡ with_index (with_index at b w) a v
either_order at a b v w differ = fun_ext (λ other. by_case other (cases_Bool (bytes_eq a other)) (cases_Bool (bytes_eq b other)))
  where
    by_case : (other : Name) → (bytes_eq a other ≡ true) ⊎ (bytes_eq a other ≡ false) → (bytes_eq b other ≡ true) ⊎ (bytes_eq b other ≡ false)
        → with_index (with_index at a v) b w other ≡ with_index (with_index at b w) a v other
    by_case other (inl first) (inl second) =
        let same : a ≡ b = (bytes_eq-Decides a other).0 first ∙ sym ((bytes_eq-Decides b other).0 second) in
        absurd (impossible (sym ((bytes_eq-Decides a b).1 same) ∙ differ))
      where
        impossible : true ≡ false → ⊥
        impossible p = true≢false p
    by_case other (inl first) (inr second) =
        if_false (bytes_eq b other) w (with_index at a v other) second ∙ if_true (bytes_eq a other) v (at other) first
        ∙ sym (if_true (bytes_eq a other) v (with_index at b w other) first)
    by_case other (inr first) (inl second) =
        if_true (bytes_eq b other) w (with_index at a v other) second ∙ sym (if_true (bytes_eq b other) w (at other) second)
        ∙ sym (if_false (bytes_eq a other) v (with_index at b w other) first)
    by_case other (inr first) (inr second) =
        if_false (bytes_eq b other) w (with_index at a v other) second ∙ if_false (bytes_eq a other) v (at other) first
        ∙ sym (if_false (bytes_eq b other) w (at other) second) ∙ sym (if_false (bytes_eq a other) v (with_index at b w other) first)

-- ---- sums

-- the numbers below the size of an index
abbrev below : (Name → ℕ) → Name → List ℕ
below size name = range_with_len 0 (size name)

same_term : {A : Type 0} (xs : List A) (f g : A → ℕ) → ((x : A) → f x ≡ g x) → sum_by f xs ≡ sum_by g xs
same_term xs f g same = ap (λ h. sum_by h xs) (fun_ext same)

same_sum : (size : Name → ℕ) (names : List Name) (f g : Values → ℕ) → ((v : Values) → f v ≡ g v) → (at : Values) → over_all size names f at ≡ over_all size names g at
same_sum size names f g same at = ap (λ h. over_all size names h at) (fun_ext same)

pub appended : (size : Name → ℕ) (names others : List Name) (term : Values → ℕ) (at : Values)
    → over_all size (names ++ others) term at ≡ over_all size names (over_all size others term) at
appended size [] others term at = refl
appended size (name ∷ names) others term at =
    same_term (below size name) (λ v. over_all size (names ++ others) term (with_index at name v)) (λ v. over_all size names (over_all size others term) (with_index at name v))
    (λ v. appended size names others term (with_index at name v))

pub lacking : (size : Name → ℕ) (names : List Name) (name : Name) (term : Values → ℕ) → Lacks name term → Lacks name (over_all size names term)
lacking size [] name term lacks at value = lacks at value
lacking size (other ∷ names) name term lacks at value =
    same_term (below size other) (λ w. over_all size names term (with_index (with_index at name value) other w)) (λ w. over_all size names term (with_index at other w))
    (λ w. by_case w (λ at w. lacking size names name term lacks at w) (cases_Bool (bytes_eq name other)))
  where
    by_case : (w : ℕ) → Lacks name (over_all size names term) → (bytes_eq name other ≡ true) ⊎ (bytes_eq name other ≡ false)
        → over_all size names term (with_index (with_index at name value) other w) ≡ over_all size names term (with_index at other w)
    by_case w inner (inl same) =
        let is : name ≡ other = (bytes_eq-Decides name other).0 same in
        ap (λ n. over_all size names term (with_index (with_index at n value) other w)) is ∙ ap (over_all size names term) (again at other value w)
    by_case w inner (inr differ) = ap (over_all size names term) (either_order at name other value w differ) ∙ inner (with_index at other w) value

module _ (sums : SumLaws ℕ) (double : DoubleSumLaws ℕ ℕ) where
  pub scaled : (size : Name → ℕ) (names : List Name) (factor term : Values → ℕ) (at : Values) → LacksAll names factor
      → over_all size names (λ v. factor v * term v) at ≡ factor at * over_all size names term at
  scaled size [] factor term at lacks = refl
  scaled size (name ∷ names) factor term at lacks =
      same_term (below size name) (λ v. over_all size names (λ w. factor w * term w) (with_index at name v)) (λ v. factor at * over_all size names term (with_index at name v))
      (λ v. scaled size names factor term (with_index at name v) lacks.1 ∙ ap (λ n. n * over_all size names term (with_index at name v)) (lacks.0 at v))
      ∙ sums.scaled (factor at) (λ v. over_all size names term (with_index at name v)) (below size name)

  all_lacking : (size : Name → ℕ) (names others : List Name) (term : Values → ℕ) → LacksAll others term → LacksAll others (over_all size names term)
  all_lacking size names [] term lacks = tt
  all_lacking size names (other ∷ others) term lacks = (lacking size names other term lacks.0, all_lacking size names others term lacks.1)

  swapped : (a b : ℕ) → a * b ≡ b * a
  swapped a b = grind (arith)

  pub separated : (size : Name → ℕ) (names others : List Name) (left right : Values → ℕ) (at : Values) → LacksAll others left → LacksAll names right
      → over_all size (names ++ others) (λ v. left v * right v) at ≡ over_all size names left at * over_all size others right at
  separated size names others left right at lacks_left lacks_right =
      appended size names others (λ v. left v * right v) at
      ∙ same_sum size names (over_all size others (λ v. left v * right v)) (λ v. over_all size others right v * left v)
      (λ v. scaled size others left right v lacks_left ∙ swapped (left v) (over_all size others right v)) at
      ∙ scaled size names (over_all size others right) left at (all_lacking size others names right lacks_right)
      ∙ swapped (over_all size others right at) (over_all size names left at)

  pub congruent : (m : ℕ) (size : Name → ℕ) (names : List Name) (term other : Values → ℕ) (at : Values) → ((v : Values) → term v % m ≡ other v % m)
      → over_all size names term at % m ≡ over_all size names other at % m
  congruent m size [] term other at same = same at
  congruent m size (name ∷ names) term other at same =
      sums.congruent m (λ v. over_all size names term (with_index at name v)) (λ v. over_all size names other (with_index at name v)) (below size name)
      (λ v. congruent m size names term other (with_index at name v) same)

  -- ---- the order of the indices

  -- two indices exchanged
  exchanged : (size : Name → ℕ) (a b : Name) (names : List Name) (term : Values → ℕ) (at : Values)
      → over_all size (a ∷ b ∷ names) term at ≡ over_all size (b ∷ a ∷ names) term at
  exchanged size a b names term at = by_case (cases_Bool (bytes_eq a b))
    where
      by_case : (bytes_eq a b ≡ true) ⊎ (bytes_eq a b ≡ false) → over_all size (a ∷ b ∷ names) term at ≡ over_all size (b ∷ a ∷ names) term at
      by_case (inl same) =
          let is : a ≡ b = (bytes_eq-Decides a b).0 same in
          ap (λ n. over_all size (n ∷ b ∷ names) term at) is ∙ ap (λ n. over_all size (b ∷ n ∷ names) term at) (sym is)
      by_case (inr differ) =
          double.exchanged (λ v w. over_all size names term (with_index (with_index at a v) b w)) (below size a) (below size b)
          ∙ same_term (below size b) (λ w. sum_by (λ v. over_all size names term (with_index (with_index at a v) b w)) (below size a))
          (λ w. sum_by (λ v. over_all size names term (with_index (with_index at b w) a v)) (below size a))
          (λ w. same_term (below size a) (λ v. over_all size names term (with_index (with_index at a v) b w)) (λ v. over_all size names term (with_index (with_index at b w) a v))
          (λ v. ap (over_all size names term) (either_order at a b v w differ)))

  -- an index taken out of the middle
  from_middle : (size : Name → ℕ) (name : Name) (before after : List Name) (term : Values → ℕ) (at : Values)
      → over_all size (before ++ name ∷ after) term at ≡ over_all size (name ∷ before ++ after) term at
  from_middle size name [] after term at = refl
  from_middle size name (other ∷ before) after term at =
      same_term (below size other) (λ v. over_all size (before ++ name ∷ after) term (with_index at other v)) (λ v. over_all size (name ∷ before ++ after) term (with_index at other v))
      (λ v. from_middle size name before after term (with_index at other v))
      ∙ exchanged size other name (before ++ after) term at

  pub any_order : (size : Name → ℕ) (names others : List Name) (term : Values → ℕ) (at : Values) → IsReordered names others
      → over_all size names term at ≡ over_all size others term at
  any_order size names others term at nothing = refl
  any_order size names others term at (moved name rest before after same) =
      same_term (below size name) (λ v. over_all size rest term (with_index at name v)) (λ v. over_all size (before ++ after) term (with_index at name v))
      (λ v. any_order size rest (before ++ after) term (with_index at name v) same)
      ∙ sym (from_middle size name before after term at)
