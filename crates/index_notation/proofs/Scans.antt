-- Loops over the atoms of a term.
use Rattle.std.proofs.Common.{◌≡◌, ℕ, zero, suc, ◌-◌, arith, ◌+◌, ◌<◌, ◌≤◌, Bool, true, false, List, ◌∷◌, length, drop, get_or, Option, Some, None, sym, ap, ◌∙◌}
use Rattle.std.specs.Prelude.{if◌then◌else◌, ◌&&◌, min}
use Rattle.std.specs.List.{list_all, range_with_len}
use Rattle.std.proofs.lemmas.List.{drop_more, drop_all}
use Rattle.sim_syntax.specs.declared.statement.IxAtom.{IxAtom}
use Rattle.chain_forms.specs.declared.chain.Link.{Link}
use Rattle.chain_forms.specs.ChainForm.{least}
use Rattle.chain_forms.specs.Atoms.{Name, indices_of}
use Rattle.chain_forms.specs.Following.{other_with, first_vector, is_vector}
use Rattle.index_notation.specs.Parts.{is_other_with}

-- the list from an item on
pub from_item : {A : Type 0} (xs : List A) (k : ℕ) (x : A) → k < length xs → x ≡ get_or xs k x → drop k xs ≡ x ∷ drop (k + 1) xs
from_item xs k x below here = drop_more xs k x below ∙ ap (λ y. y ∷ drop (k + 1) xs) (sym here)

-- ---- another atom with an index

other_from : (i : Name) (but k : ℕ) (xs : List IxAtom) (x : IxAtom) → k < length xs → x ≡ get_or xs k x
    → other_with i but k (drop k xs) ≡ (if is_other_with i but k x then Some k else other_with i but (k + 1) (drop (k + 1) xs))
unfolding other_with
other_from i but k xs x below here = ap (other_with i but k) (from_item xs k x below here)

pub other_found : (i : Name) (but k : ℕ) (xs : List IxAtom) (x : IxAtom) (known : Option ℕ) → k < length xs → x ≡ get_or xs k x
    → is_other_with i but k x ≡ true → other_with i but k (drop k xs) ≡ known → Some k ≡ known
other_found i but k xs x known below here passes so_far =
    sym (other_from i but k xs x below here ∙ ap (λ b. if b then Some k else other_with i but (k + 1) (drop (k + 1) xs)) passes) ∙ so_far

pub other_passed : (i : Name) (but k : ℕ) (xs : List IxAtom) (x : IxAtom) (known : Option ℕ) → k < length xs → x ≡ get_or xs k x
    → is_other_with i but k x ≡ false → other_with i but k (drop k xs) ≡ known → other_with i but (k + 1) (drop (k + 1) xs) ≡ known
other_passed i but k xs x known below here fails so_far =
    sym (other_from i but k xs x below here ∙ ap (λ b. if b then Some k else other_with i but (k + 1) (drop (k + 1) xs)) fails) ∙ so_far

pub other_missed : (i : Name) (but k : ℕ) (xs : List IxAtom) (known : Option ℕ) → length xs ≤ k → other_with i but k (drop k xs) ≡ known → None ≡ known
unfolding other_with
other_missed i but k xs known past so_far = sym (ap (other_with i but k) (drop_all k xs past)) ∙ so_far

-- ---- the first vector

vector_from : (k : ℕ) (xs : List IxAtom) (x : IxAtom) → k < length xs → x ≡ get_or xs k x
    → first_vector k (drop k xs) ≡ (if is_vector (indices_of x) then Some k else first_vector (k + 1) (drop (k + 1) xs))
unfolding first_vector
vector_from k xs x below here = ap (first_vector k) (from_item xs k x below here)

pub vector_found : (k : ℕ) (xs : List IxAtom) (x : IxAtom) (known : Option ℕ) → k < length xs → x ≡ get_or xs k x
    → is_vector (indices_of x) ≡ true → first_vector k (drop k xs) ≡ known → Some k ≡ known
vector_found k xs x known below here passes so_far =
    sym (vector_from k xs x below here ∙ ap (λ b. if b then Some k else first_vector (k + 1) (drop (k + 1) xs)) passes) ∙ so_far

pub vector_passed : (k : ℕ) (xs : List IxAtom) (x : IxAtom) (known : Option ℕ) → k < length xs → x ≡ get_or xs k x
    → is_vector (indices_of x) ≡ false → first_vector k (drop k xs) ≡ known → first_vector (k + 1) (drop (k + 1) xs) ≡ known
vector_passed k xs x known below here fails so_far =
    sym (vector_from k xs x below here ∙ ap (λ b. if b then Some k else first_vector (k + 1) (drop (k + 1) xs)) fails) ∙ so_far

pub vector_missed : (k : ℕ) (xs : List IxAtom) (known : Option ℕ) → length xs ≤ k → first_vector k (drop k xs) ≡ known → None ≡ known
unfolding first_vector
vector_missed k xs known past so_far = sym (ap (first_vector k) (drop_all k xs past)) ∙ so_far

-- ---- the least factor

pub least_taken : (m next k : ℕ) (xs : List Link) (x : Link) (known : ℕ) → k < length xs → next ≡ min m (get_or xs k x).factor
    → least m (drop k xs) ≡ known → least next (drop (k + 1) xs) ≡ known
unfolding least
least_taken m next k xs x known below is so_far =
    ap (λ n. least n (drop (k + 1) xs)) is ∙ sym (ap (least m) (drop_more xs k x below)) ∙ so_far

pub least_ended : (m k : ℕ) (xs : List Link) (known : ℕ) → length xs ≤ k → least m (drop k xs) ≡ known → m ≡ known
unfolding least
least_ended m k xs known past so_far = sym (ap (least m) (drop_all k xs past)) ∙ so_far

-- ---- whether all numbers below a bound pass a test

from_number : (n k : ℕ) → k < n → range_with_len k (n - k) ≡ k ∷ range_with_len (k + 1) (n - (k + 1))
from_number n k below = let one : n - k ≡ suc (n - (k + 1)) = omega arith in ap (range_with_len k) one

all_from : (test : ℕ → Bool) (n k : ℕ) → k < n
    → list_all test (range_with_len k (n - k)) ≡ (test k && list_all test (range_with_len (k + 1) (n - (k + 1))))
all_from test n k below = ap (list_all test) (from_number n k below)

pub tests_begun : (test : ℕ → Bool) (n : ℕ) → list_all test (range_with_len 0 (n - 0)) ≡ list_all test (range_with_len 0 n)
tests_begun test n = ap (λ m. list_all test (range_with_len 0 m)) (let same : n - 0 ≡ n = omega arith in same)

pub test_passed : (test : ℕ → Bool) (n k : ℕ) (known : Bool) → k < n → test k ≡ true
    → list_all test (range_with_len k (n - k)) ≡ known → list_all test (range_with_len (k + 1) (n - (k + 1))) ≡ known
test_passed test n k known below passes so_far =
    sym (all_from test n k below ∙ ap (λ b. b && list_all test (range_with_len (k + 1) (n - (k + 1)))) passes) ∙ so_far

pub test_failed : (test : ℕ → Bool) (n k : ℕ) (known : Bool) → k < n → test k ≡ false → list_all test (range_with_len k (n - k)) ≡ known → false ≡ known
test_failed test n k known below fails so_far =
    sym (all_from test n k below ∙ ap (λ b. b && list_all test (range_with_len (k + 1) (n - (k + 1)))) fails) ∙ so_far

pub tests_ended : (test : ℕ → Bool) (n k : ℕ) (known : Bool) → n ≤ k → list_all test (range_with_len k (n - k)) ≡ known → true ≡ known
tests_ended test n k known past so_far =
    sym (ap (λ m. list_all test (range_with_len k m)) (let none : n - k ≡ zero = omega arith in none)) ∙ so_far
