-- How pieces that are appended one after the other make a text.
use Rattle.std.proofs.Common.{◌≡◌, ◌≤◌, ◌<◌, ◌+◌, ℕ, List, [], ◌∷◌, ◌++◌, length, take, get_or, sym, ap, ◌∙◌, arith, append_assoc, append-nil, length-append, subst, Vec, vec_len, vec_capacity}
use Rattle.std.specs.List.{flat_map}
use Rattle.std.proofs.lemmas.Grind.{flat_map-append}
use Rattle.std.proofs.lemmas.List.{take_all, take_more}
use Rattle.std.proofs.lemmas.List.Folds.{length-flat_map-take}
use Rattle.vocabulary.specs.Buffer.{Appends}

-- one piece after another
pub both : {Z : Type 0} (start between now : Vec ℕ Z) (first second : List ℕ) → Appends start between first → Appends between now second → Appends start now (first ++ second)
both start between now first second a b = record {
  items = b.items ∙ rw a.items (append_assoc start.items first second);
  len = b.len ∙ rw a.len (omega (arith, length-append first second));
  capacity = b.capacity ∙ a.capacity;
}

pub same-text : {Z : Type 0} (start now : Vec ℕ Z) (text text' : List ℕ) → text ≡ text' → Appends start now text → Appends start now text'
same-text {Z} start now text text' e a = subst (λ (bytes : List ℕ). Appends start now bytes) e a

-- three pieces
pub three : {Z : Type 0} (start one two now : Vec ℕ Z) (first second third whole : List ℕ) → whole ≡ first ++ (second ++ third)
    → Appends start one first → Appends one two second → Appends two now third → Appends start now whole
three start one two now first second third whole e a b c =
    same-text start now (first ++ (second ++ third)) whole (sym e) (both start one now first (second ++ third) a (both one two now second third b c))

length-three : (first second third whole : List ℕ) → whole ≡ first ++ (second ++ third) → length whole ≡ length first + (length second + length third)
length-three first second third whole e = ap length e ∙ length-append first (second ++ third) ∙ ap (λ n. length first + n) (length-append second third)

-- the capacity for each of them
pub capacity-first : {Z : Type 0} (start : Vec ℕ Z) (first second third whole : List ℕ) → whole ≡ first ++ (second ++ third) → vec_len start + length whole ≤ vec_capacity start
    → vec_len start + length first ≤ vec_capacity start
capacity-first start first second third whole e capacity = omega (arith, length-three first second third whole e)

pub capacity-second : {Z : Type 0} (start one : Vec ℕ Z) (first second third whole : List ℕ) → whole ≡ first ++ (second ++ third) → vec_len start + length whole ≤ vec_capacity start
    → Appends start one first → vec_len one + length second ≤ vec_capacity one
capacity-second start one first second third whole e capacity a = omega (arith, a.len, a.capacity, length-three first second third whole e)

pub capacity-third : {Z : Type 0} (start one two : Vec ℕ Z) (first second third whole : List ℕ) → whole ≡ first ++ (second ++ third) → vec_len start + length whole ≤ vec_capacity start
    → Appends start one first → Appends one two second → vec_len two + length third ≤ vec_capacity two
capacity-third start one two first second third whole e capacity a b = omega (arith, a.len, a.capacity, b.len, b.capacity, length-three first second third whole e)

-- a piece for each element of a list: another, the capacity for it, and all
pub each-step : {Z A : Type 0} (f : A → List ℕ) (xs : List A) (k : ℕ) (x : A) (start now new : Vec ℕ Z) → k < length xs → get_or xs k x ≡ x
    → Appends start now (flat_map f (take k xs)) → Appends now new (f x) → Appends start new (flat_map f (take (k + 1) xs))
each-step f xs k x start now new l is a b =
    same-text start new (flat_map f (take k xs) ++ f x) (flat_map f (take (k + 1) xs))
    (rw (take_more xs k x l, is, flat_map-append f (take k xs) (x ∷ [])) (ap (λ bytes. flat_map f (take k xs) ++ bytes) (sym (append-nil (f x)))))
    (both start now new (flat_map f (take k xs)) (f x) a b)

pub each-capacity : {Z A : Type 0} (f : A → List ℕ) (xs : List A) (k : ℕ) (x : A) (start now : Vec ℕ Z) → k < length xs → get_or xs k x ≡ x
    → vec_len start + length (flat_map f xs) ≤ vec_capacity start → Appends start now (flat_map f (take k xs)) → vec_len now + length (f x) ≤ vec_capacity now
each-capacity {Z} {A} f xs k x start now l is capacity a =
    let fits : length (flat_map f (take k xs)) + length (f x) ≤ length (flat_map f xs) =
    subst (λ (y : A). length (flat_map f (take k xs)) + length (f y) ≤ length (flat_map f xs)) is (length-flat_map-take f xs k x l) in
    omega (arith, a.len, a.capacity)

pub each-end : {Z A : Type 0} (f : A → List ℕ) (xs : List A) (k : ℕ) (start now : Vec ℕ Z) → length xs ≤ k → Appends start now (flat_map f (take k xs)) → Appends start now (flat_map f xs)
each-end f xs k start now l a = same-text start now (flat_map f (take k xs)) (flat_map f xs) (ap (flat_map f) (take_all k xs l)) a
