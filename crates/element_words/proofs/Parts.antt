-- What stood on a stack is there still.
use Rattle.std.proofs.Common.{◌≡◌, ℕ, zero, suc, ◌+◌, ◌-◌, ◌≤◌, List, [], ◌∷◌, ◌++◌, length, take, drop, sym, ap, ◌∙◌, arith, refl}
use Rattle.std.specs.Prelude.{min, slice_range}
use Rattle.std.proofs.lemmas.List.{drop-append-le, drop-take, length-take, length-take-le, take-append-drop}

take_within : {A : Type 0} (base middle : ℕ) (xs : List A) → base ≤ middle → take base (take middle xs) ≡ take base xs
take_within zero middle xs order = refl
take_within (suc base) zero xs order = absurd (omega arith)
take_within (suc base) (suc middle) [] order = refl
take_within (suc base) (suc middle) (x ∷ xs) order = ap (λ l. x ∷ l) (take_within base middle xs (omega arith))

-- of what is cut
cut_range : (xs : List ℕ) (base top : ℕ) → base ≤ top → drop base (take top xs) ≡ slice_range xs base top
cut_range xs base top order =
    let n : top ≡ base + (top - base) = omega arith in
    ap (λ m. drop base (take m xs)) n ∙ drop-take base (top - base) xs

pub room : (old new : List ℕ) → take (length old) new ≡ old → length old ≤ length new
room old new kept = let size : length (take (length old) new) ≡ min (length old) (length new) = length-take (length old) new in let same : length (take (length old) new) ≡ length old = ap length kept in omega arith

pub still_room : (base : ℕ) (old new : List ℕ) → base ≤ length old → take base new ≡ take base old → base ≤ length new
still_room base old new within kept =
    let size : length (take base new) ≡ min base (length new) = length-take base new in
    let same : length (take base new) ≡ length (take base old) = ap length kept in
    let before : length (take base old) ≡ base = length-take-le base old within in
    omega arith

pub below_kept : (base : ℕ) (old mid : List ℕ) → base ≤ length old → take (length old) mid ≡ old → take base mid ≡ take base old
below_kept base old mid within kept = sym (take_within base (length old) mid within) ∙ ap (take base) kept

pub kept_through : (old mid new : List ℕ) → take (length old) mid ≡ old → take (length mid) new ≡ mid → take (length old) new ≡ old
kept_through old mid new first second = below_kept (length old) mid new (room old mid first) second ∙ first

pub range_before : (before mid : List ℕ) (base middle : ℕ) → base ≤ middle → take middle mid ≡ before → slice_range mid base middle ≡ drop base before
range_before before mid base middle order kept = sym (cut_range mid base middle order) ∙ ap (drop base) kept

-- words that were pushed
pub grown_above : (before old more new : List ℕ) → take (length before) old ≡ before → new ≡ old ++ more → drop (length before) new ≡ drop (length before) old ++ more
grown_above before old more new kept pushes = ap (drop (length before)) pushes ∙ drop-append-le (length before) old more (room before old kept)

pub row_above : (before old new : List ℕ) → take (length before) old ≡ before → take (length old) new ≡ old
    → drop (length before) new ≡ drop (length before) old ++ drop (length old) new
row_above before old new kept more =
    grown_above before old (drop (length old) new) new kept (sym (take-append-drop (length old) new) ∙ ap (λ l. l ++ drop (length old) new) more)
