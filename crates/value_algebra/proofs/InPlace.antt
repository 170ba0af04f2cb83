-- Lists that are changed in place, from the first word on.
use Rattle.std.proofs.Common.{◌≡◌, ℕ, zero, suc, ◌+◌, ◌<◌, ◌≤◌, List, [], ◌∷◌, ◌++◌, length, map, get_or, set, take, drop, sym, ap, ◌∙◌, arith, refl, inl, inr}
use Rattle.std.specs.Prelude.{min}
use Rattle.std.specs.List.{zip}
use Rattle.std.proofs.Math.Seq.{append_snoc, get_or-append_seam, set-append_seam, take-append_seam}
use Rattle.std.proofs.lemmas.Bool.{cases_lt}
use Rattle.std.proofs.lemmas.List.{drop_all, drop_more, length-map, length-take-le, map-append, take_more}
use Rattle.value_algebra.specs.Value.{both}
use Rattle.value_algebra.specs.declared.value.Value.{Value}

-- the word at the place where a list was changed up to
front_get : (front all : List ℕ) (i : ℕ) → length front ≡ i → i < length all → get_or (front ++ drop i all) i 0 ≡ get_or all i 0
front_get front all i size below =
    ap (λ l. get_or (front ++ l) i 0) (drop_more all i 0 below)
    ∙ ap (λ n. get_or (front ++ get_or all i 0 ∷ drop (i + 1) all) n 0) (sym size)
    ∙ get_or-append_seam front (get_or all i 0) (drop (i + 1) all) 0

-- it is changed
front_set : (front all : List ℕ) (i new : ℕ) → length front ≡ i → i < length all → set (front ++ drop i all) i new ≡ (front ++ new ∷ []) ++ drop (i + 1) all
front_set front all i new size below =
    ap (λ l. set (front ++ l) i new) (drop_more all i 0 below)
    ∙ ap (λ n. set (front ++ get_or all i 0 ∷ drop (i + 1) all) n new) (sym size)
    ∙ set-append_seam front (get_or all i 0) (drop (i + 1) all) new
    ∙ sym (append_snoc front new (drop (i + 1) all))

-- another word is changed
pub one_changed : (f : ℕ → ℕ) (all words next : List ℕ) (i new : ℕ) → i < length all → words ≡ map f (take i all) ++ drop i all
    → new ≡ f (get_or words i 0) → next ≡ set words i new → next ≡ map f (take (i + 1) all) ++ drop (i + 1) all
one_changed f all words next i new below so_far is changes =
    let front : List ℕ = map f (take i all) in
    let size : length front ≡ i = length-map (take i all) f ∙ length-take-le i all (omega arith) in
    let old : get_or words i 0 ≡ get_or all i 0 = ap (λ l. get_or l i 0) so_far ∙ front_get front all i size below in
    let grown : map f (take (i + 1) all) ≡ front ++ f (get_or all i 0) ∷ [] =
    ap (map f) (take_more all i 0 below) ∙ map-append f (take i all) (get_or all i 0 ∷ []) in
    changes ∙ ap (λ l. set l i new) so_far ∙ front_set front all i new size below
    ∙ ap (λ n. (front ++ n ∷ []) ++ drop (i + 1) all) (is ∙ ap f old)
    ∙ ap (λ l. l ++ drop (i + 1) all) (sym grown)

-- ---- two lists

zip_more : (xs ys : List ℕ) (i : ℕ) → i < length xs → i < length ys
    → zip (take (suc i) xs) (take (suc i) ys) ≡ zip (take i xs) (take i ys) ++ (get_or xs i 0, get_or ys i 0) ∷ []
zip_more [] ys i a b = absurd (omega arith)
zip_more (x ∷ xs) [] i a b = absurd (omega arith)
zip_more (x ∷ xs) (y ∷ ys) zero a b = refl
zip_more (x ∷ xs) (y ∷ ys) (suc i) a b = ap (λ l. (x, y) ∷ l) (zip_more xs ys i (omega arith) (omega arith))

length_zip : (xs ys : List ℕ) (i : ℕ) → i ≤ length xs → i ≤ length ys → length (zip (take i xs) (take i ys)) ≡ i
length_zip xs ys zero a b = refl
length_zip [] ys (suc i) a b = absurd (omega arith)
length_zip (x ∷ xs) [] (suc i) a b = absurd (omega arith)
length_zip (x ∷ xs) (y ∷ ys) (suc i) a b = ap suc (length_zip xs ys i (omega arith) (omega arith))

zip_at : (n : ℕ) (xs ys : List ℕ) → n ≡ min (length xs) (length ys) → zip (take n xs) (take n ys) ≡ zip xs ys
zip_at zero [] ys is = refl
zip_at (suc n) [] ys is = refl
zip_at zero (x ∷ xs) [] is = refl
zip_at (suc n) (x ∷ xs) [] is = refl
zip_at zero (x ∷ xs) (y ∷ ys) is = absurd (omega arith)
zip_at (suc n) (x ∷ xs) (y ∷ ys) is = ap (λ l. (x, y) ∷ l) (zip_at n xs ys (omega arith))

zip_cut : (xs ys : List ℕ) → zip (take (min (length xs) (length ys)) xs) (take (min (length xs) (length ys)) ys) ≡ zip xs ys
zip_cut xs ys = zip_at (min (length xs) (length ys)) xs ys refl

-- another pair of words is joined
pub one_joined : (g : ℕ → ℕ → ℕ) (left right words next : List ℕ) (i new : ℕ) → i < length left → i < length right
    → words ≡ map (λ pair. g pair.0 pair.1) (zip (take i left) (take i right)) ++ drop i left
    → new ≡ g (get_or words i 0) (get_or right i 0) → next ≡ set words i new
    → next ≡ map (λ pair. g pair.0 pair.1) (zip (take (i + 1) left) (take (i + 1) right)) ++ drop (i + 1) left
one_joined g left right words next i new below within so_far is changes =
    let f : ℕ × ℕ → ℕ = λ pair. g pair.0 pair.1 in
    let front : List ℕ = map f (zip (take i left) (take i right)) in
    let size : length front ≡ i = length-map (zip (take i left) (take i right)) f ∙ length_zip left right i (omega arith) (omega arith) in
    let old : get_or words i 0 ≡ get_or left i 0 = ap (λ l. get_or l i 0) so_far ∙ front_get front left i size below in
    let more : i + 1 ≡ suc i = omega arith in
    let grown : map f (zip (take (i + 1) left) (take (i + 1) right)) ≡ front ++ g (get_or left i 0) (get_or right i 0) ∷ [] =
    ap (λ n. map f (zip (take n left) (take n right))) more
    ∙ ap (map f) (zip_more left right i below within) ∙ map-append f (zip (take i left) (take i right)) ((get_or left i 0, get_or right i 0) ∷ []) in
    changes ∙ ap (λ l. set l i new) so_far ∙ front_set front left i new size below
    ∙ ap (λ n. (front ++ n ∷ []) ++ drop (i + 1) left) (is ∙ ap (λ n. g n (get_or right i 0)) old)
    ∙ ap (λ l. l ++ drop (i + 1) left) (sym grown)

cut_same : (left right : List ℕ) → drop (min (length left) (length right)) left ≡ drop (length right) left
cut_same left right = elim (cases_lt (length left) (length right)) [
  | inl shorter ↦
      let n : min (length left) (length right) ≡ length left = omega arith in
      ap (λ m. drop m left) n ∙ drop_all (length left) left (omega arith) ∙ sym (drop_all (length right) left (omega arith))
  | inr longer ↦ let n : min (length left) (length right) ≡ length right = omega arith in ap (λ m. drop m left) n
]

-- all pairs are
pub all_joined : (g : ℕ → ℕ → ℕ) (left right words : List ℕ) (i : ℕ) → i ≡ min (length left) (length right)
    → words ≡ map (λ pair. g pair.0 pair.1) (zip (take i left) (take i right)) ++ drop i left
    → words ≡ map (λ pair. g pair.0 pair.1) (zip left right) ++ drop (length right) left
all_joined g left right words i is so_far =
    so_far ∙ ap (λ n. map (λ pair. g pair.0 pair.1) (zip (take n left) (take n right)) ++ drop n left) is
    ∙ ap (λ l. map (λ pair. g pair.0 pair.1) l ++ drop (min (length left) (length right)) left) (zip_cut left right)
    ∙ ap (λ l. map (λ pair. g pair.0 pair.1) (zip left right) ++ l) (cut_same left right)

-- all pairs of the words of two values are, where of the first as many words are kept as the second has
keep_joined : (f : ℕ × ℕ → ℕ) (left right : List ℕ) (n : ℕ) → n ≡ length right
    → map f (zip (take n left) right) ++ drop n (take n left) ≡ map f (zip left right)
keep_joined f [] right zero is = refl
keep_joined f [] right (suc n) is = refl
keep_joined f (x ∷ xs) [] zero is = refl
keep_joined f (x ∷ xs) [] (suc n) is = absurd (omega arith)
keep_joined f (x ∷ xs) (y ∷ ys) zero is = absurd (omega arith)
keep_joined f (x ∷ xs) (y ∷ ys) (suc n) is = ap (λ l. f (x, y) ∷ l) (keep_joined f xs ys n (omega arith))

-- words that are written over all of a vector's
pub written_whole : (words rest : List ℕ) (n : ℕ) → length words ≡ n → take n (words ++ rest) ≡ words
written_whole words rest n size = ap (λ m. take m (words ++ rest)) (sym size) ∙ take-append_seam words rest

pub both_joined : (g : ℕ → ℕ → ℕ) (left right value : Value) (others first words : List ℕ) → others ≡ right.words → first ≡ take (length others) left.words
    → words ≡ map (λ pair. g pair.0 pair.1) (zip first others) ++ drop (length others) first
    → value ≡ record { rows = left.rows; columns = left.columns; words = words }
    → value ≡ both g left right
both_joined g left right value others first words are cuts joins is =
    let f : ℕ × ℕ → ℕ = λ pair. g pair.0 pair.1 in
    let kept : words ≡ map f (zip left.words right.words) =
    joins ∙ ap (λ l. map f (zip l others) ++ drop (length others) l) cuts ∙ keep_joined f left.words others (length others) refl
    ∙ ap (λ l. map f (zip left.words l)) are in
    is ∙ ap (λ (l : List ℕ). record { rows = left.rows; columns = left.columns; words = l }) kept
