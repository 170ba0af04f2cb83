-- Tests of names, and answers that are there.
use Rattle.std.proofs.Common.{◌≡◌, Bool, true, false, ◌||◌, ◌&&◌, List, ◌∷◌, Option, Some, None, refl, ap}
use Rattle.std.specs.Prelude.{if◌then◌else◌, ◌⊎◌}
use Rattle.std.proofs.Common.{inl, inr}
use Rattle.std.specs.Option.{option_map, option_and_then}
use Rattle.std.specs.Str.{bytes_eq}
use Rattle.std.proofs.lemmas.Slice.Eq.{bytes_eq-Decides}
use Rattle.chain_forms.specs.Atoms.{Name, is_among}

-- ---- tests

pub not_true : (b : Bool) → (b ≡ true → ⊥) → b ≡ false
not_true true no' = absurd (no' refl)
not_true false no' = refl

pub true_or_false : (b : Bool) → (b ≡ true) ⊎ (b ≡ false)
true_or_false true = inl refl
true_or_false false = inr refl

pub both_true : (b c : Bool) → (b && c) ≡ true → (b ≡ true) × (c ≡ true)
both_true true c is = (refl, is)
both_true false c is = cc is

pub name_is : (i j : Name) → bytes_eq i j ≡ true → i ≡ j
name_is i j = (bytes_eq-Decides i j).0

pub same_name : (i j : Name) → i ≡ j → bytes_eq i j ≡ true
same_name i j = (bytes_eq-Decides i j).1

pub other_name : (i j : Name) → (i ≡ j → ⊥) → bytes_eq i j ≡ false
other_name i j differs = not_true (bytes_eq i j) (λ is. differs (name_is i j is))

pub first_among : (i : Name) (names : List Name) → is_among i (i ∷ names) ≡ true
first_among i names = ap (λ b. b || is_among i names) (same_name i i refl)

pub later_among : (i j : Name) (names : List Name) → is_among i names ≡ true → is_among i (j ∷ names) ≡ true
later_among i j names among = by_first (bytes_eq i j) among
  where
    by_first : (b : Bool) → is_among i names ≡ true → (b || is_among i names) ≡ true
    by_first true among = refl
    by_first false among = among

-- ---- answers

pub and_then_some : {A B : Type 0} (o : Option A) (f : A → Option B) (z : B) → option_and_then f o ≡ Some z → (x : A) × ((o ≡ Some x) × (f x ≡ Some z))
and_then_some None f z is = cc is
and_then_some (Some x) f z is = (x, (refl, is))

pub map_some : {A B : Type 0} (o : Option A) (f : A → B) (z : B) → option_map f o ≡ Some z → (x : A) × ((o ≡ Some x) × (f x ≡ z))
map_some None f z is = cc is
map_some (Some x) f z is = (x, (refl, cc is))

pub if_some : {A : Type 0} (b : Bool) (o : Option A) (z : A) → (if b then o else None) ≡ Some z → (b ≡ true) × (o ≡ Some z)
if_some true o z is = (refl, is)
if_some false o z is = cc is

pub if_not_some : {A : Type 0} (b : Bool) (o : Option A) (z : A) → (if b then None else o) ≡ Some z → (b ≡ false) × (o ≡ Some z)
if_not_some true o z is = cc is
if_not_some false o z is = (refl, is)

pub some_is : {A : Type 0} (x y : A) → Some x ≡ Some y → x ≡ y
some_is x y is = cc is
