-- When none of the kinds of fault applies.
use Rattle.std.proofs.Common.{◌≡◌, ℕ, ◌-◌, ◌<◌, ◌≤◌, Bool, true, false, not, ◌||◌, nat_lt, if◌then◌else◌, List, [], ◌∷◌, Option, Some, None, Result, Ok, Err, refl, ap, ◌∙◌}
use Rattle.std.proofs.lemmas.Bool.{lt-ltb, ltb-true, ltb-false, le-ltb, not-false, not_from_true, or_from}
use Rattle.vocabulary.specs.declared.limits.TheConstants.{MOST_LOOP_BOUND}
use Rattle.type_rules.specs.Rules.{first_kind, kind_of, earlier, is_missing, or_zero, rank}
use Rattle.type_rules.specs.declared.types.IndexRange.TheVariants as range
use Rattle.type_rules.specs.declared.types.TypeKind.{TypeKind}
use Rattle.type_rules.specs.declared.types.TypeKind.TheVariants as kind
use Rattle.typed_tree.specs.Functions.{bounds_rule, turns_of}

pub none_first : (k : TypeKind) (b : Bool) (others : List (TypeKind × Bool)) → first_kind ((k, b) ∷ others) ≡ None → (b ≡ false) × (first_kind others ≡ None)
none_first k true others is = absurd (cc)
none_first k false others is = (refl, is)

pub first_none : (k : TypeKind) (b : Bool) (others : List (TypeKind × Bool)) → b ≡ false → first_kind others ≡ None → first_kind ((k, b) ∷ others) ≡ None
first_none k b others test rest = ap (λ t. if t then Some k else first_kind others) test ∙ rest

pub none_either : (a b : Bool) → (a || b) ≡ false → (a ≡ false) × (b ≡ false)
none_either false b is = (refl, is)
none_either true b is = absurd (cc)

pub none_earlier : (a b : Option TypeKind) → earlier a b ≡ None → (a ≡ None) × (b ≡ None)
none_earlier None b is = (refl, is)
none_earlier (Some k) None is = absurd (cc)
none_earlier (Some k) (Some j) is = absurd (by_test (nat_lt (rank j) (rank k)) is)
  where
    by_test : (t : Bool) → (if t then Some j else Some k) ≡ None → ⊥
    by_test true answers = cc
    by_test false answers = cc

pub earlier_none : (a b : Option TypeKind) → a ≡ None → b ≡ None → earlier a b ≡ None
earlier_none a b first second = ap (λ o. earlier o b) first ∙ second

pub none_kind : {A : Type 0} (r : Result A TypeKind) → kind_of r ≡ None → (a : A) × (r ≡ Ok a)
none_kind (Ok a) is = (a, refl)
none_kind (Err k) is = absurd (cc)

pub kind_none : {A : Type 0} (r : Result A TypeKind) (a : A) → r ≡ Ok a → kind_of r ≡ None
kind_none r a is = ap kind_of is

-- ---- bounds

there : (o : Option ℕ) → is_missing o ≡ false → (n : ℕ) × (o ≡ Some n)
there None is = absurd (cc)
there (Some n) is = (n, refl)

pub turns_are : (f t : ℕ) → f < t → turns_of (Some f) (Some t) ≡ range.UpTo (t - 1)
unfolding turns_of
turns_are f t below = ap (λ b. if b then range.UpTo (t - 1) else range.Never) (lt-ltb f t below)

abbrev past_bound : Option ℕ → Option ℕ → List (TypeKind × Bool)
past_bound from to = (kind.TooLarge, not (nat_lt (or_zero from) (or_zero to)) || nat_lt MOST_LOOP_BOUND (or_zero to)) ∷ []

abbrev past_names : Option ℕ → Option ℕ → List (TypeKind × Bool)
past_names from to = (kind.NotConstant, is_missing from || is_missing to) ∷ past_bound from to

missing : (bounds : List (TypeKind × Bool)) → first_kind ((kind.NotConstant, true) ∷ bounds) ≡ None → ⊥
missing bounds is = cc

pub none_bounds : (taken : Bool) (from to : Option ℕ) → bounds_rule taken from to ≡ None
    → (f : ℕ) × (t : ℕ) × (taken ≡ false) × (from ≡ Some f) × (to ≡ Some t) × (f < t) × (t ≤ MOST_LOOP_BOUND)
unfolding bounds_rule
none_bounds taken None to is = absurd (missing (past_bound None to) (none_first kind.Twice taken (past_names None to) is).1)
none_bounds taken (Some f) None is = absurd (missing (past_bound (Some f) None) (none_first kind.Twice taken (past_names (Some f) None) is).1)
none_bounds taken (Some f) (Some t) is =
    let a = none_first kind.Twice taken (past_names (Some f) (Some t)) is in
    let b = none_first kind.NotConstant false (past_bound (Some f) (Some t)) a.1 in
    let c = none_first kind.TooLarge (not (nat_lt f t) || nat_lt MOST_LOOP_BOUND t) [] b.1 in
    let d = none_either (not (nat_lt f t)) (nat_lt MOST_LOOP_BOUND t) c.0 in
    (f, t, a.0, refl, refl, ltb-true f t (not-false (nat_lt f t) d.0), ltb-false MOST_LOOP_BOUND t d.1)

pub bounds_none : (taken : Bool) (from to : Option ℕ) (f t : ℕ) → taken ≡ false → from ≡ Some f → to ≡ Some t → f < t → t ≤ MOST_LOOP_BOUND
    → bounds_rule taken from to ≡ None
unfolding bounds_rule
bounds_none taken from to f t new from_is to_is below few =
    ap (λ o. bounds_rule taken o to) from_is ∙ ap (λ o. bounds_rule taken (Some f) o) to_is
    ∙ first_none kind.Twice taken ((kind.NotConstant, false) ∷ (kind.TooLarge, not (nat_lt f t) || nat_lt MOST_LOOP_BOUND t) ∷ []) new
    (first_none kind.TooLarge (not (nat_lt f t) || nat_lt MOST_LOOP_BOUND t) []
    (or_from (not (nat_lt f t)) (nat_lt MOST_LOOP_BOUND t) (not_from_true (nat_lt f t) (lt-ltb f t below)) (le-ltb MOST_LOOP_BOUND t few)) refl)
