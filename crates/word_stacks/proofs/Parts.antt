-- Parts of a stack.
use Rattle.std.proofs.Common.{◌≡◌, ℕ, zero, suc, ◌+◌, ◌-◌, ◌≤◌, List, [], ◌∷◌, ◌++◌, length, take, drop, sym, ap, ◌∙◌, arith, refl, append_assoc, length-append}
use Rattle.std.specs.Prelude.{min, slice_range}
use Rattle.std.specs.List.{zip}
use Rattle.std.proofs.Math.Seq.{take-append_seam, drop-append_seam}
use Rattle.std.proofs.lemmas.Slice.Zip.{length-zip}
use Rattle.word_stacks.specs.declared.slices.Join.{Join}
use Rattle.word_stacks.specs.Stack.{joined, joined_words, joined_within}
use Rattle.std.proofs.lemmas.List.{drop-append-le, drop-take, drop_all, length-drop, length-map, length-take, length-take-le, take-append-le, take_all}

-- what stands above is the same whatever is taken away from above it
pub range_kept : (xs ys : List ℕ) (base top : ℕ) → base ≤ top → top ≤ length xs → slice_range (xs ++ ys) base top ≡ slice_range xs base top
range_kept xs ys base top order within =
    let here : base ≤ length xs = omega arith in
    let size : length (drop base xs) ≡ length xs - base = length-drop base xs in
    ap (take (top - base)) (drop-append-le base xs ys here) ∙ take-append-le (top - base) (drop base xs) ys (omega arith)

-- up to the end
pub range_to_end : (xs : List ℕ) (base top : ℕ) → length xs ≤ top → slice_range xs base top ≡ drop base xs
range_to_end xs base top past =
    let size : length (drop base xs) ≡ length xs - base = length-drop base xs in
    take_all (top - base) (drop base xs) (omega arith)

-- of what is cut
pub cut_range : (xs : List ℕ) (base top : ℕ) → base ≤ top → drop base (take top xs) ≡ slice_range xs base top
cut_range xs base top order =
    let n : top ≡ base + (top - base) = omega arith in
    ap (λ m. drop base (take m xs)) n ∙ drop-take base (top - base) xs

-- of a stack that was put together of two parts
pub above_front : (front above : List ℕ) (n : ℕ) → length front ≡ n → drop n (front ++ above) ≡ above
above_front front above n size = ap (λ m. drop m (front ++ above)) (sym size) ∙ drop-append_seam front above

pub below_front : (front above : List ℕ) (n : ℕ) → length front ≡ n → take n (front ++ above) ≡ front
below_front front above n size = ap (λ m. take m (front ++ above)) (sym size) ∙ take-append_seam front above

pub take_within : {A : Type 0} (base middle : ℕ) (xs : List A) → base ≤ middle → take base (take middle xs) ≡ take base xs
take_within zero middle xs order = refl
take_within (suc base) zero xs order = absurd (omega arith)
take_within (suc base) (suc middle) [] order = refl
take_within (suc base) (suc middle) (x ∷ xs) order = ap (λ l. x ∷ l) (take_within base middle xs (omega arith))

-- what is the same below an index is so below a lower one, and between that and it
pub front_same : (new old : List ℕ) (base middle : ℕ) → base ≤ middle → take middle new ≡ take middle old → take base new ≡ take base old
front_same new old base middle order same = sym (take_within base middle new order) ∙ ap (take base) same ∙ take_within base middle old order

pub range_same : (new old : List ℕ) (base middle : ℕ) → base ≤ middle → take middle new ≡ take middle old → slice_range new base middle ≡ slice_range old base middle
range_same new old base middle order same = sym (cut_range new base middle order) ∙ ap (drop base) same ∙ cut_range old base middle order

-- what stands from an index on, and below it, where a part was put there
pub above_cut : (old above next : List ℕ) (base : ℕ) → base ≤ length old → next ≡ take base old ++ above → drop base next ≡ above
above_cut old above next base within is = ap (drop base) is ∙ above_front (take base old) above base (length-take-le base old within)

pub below_cut : (old above next : List ℕ) (base : ℕ) → base ≤ length old → next ≡ take base old ++ above → take base next ≡ take base old
below_cut old above next base within is = ap (take base) is ∙ below_front (take base old) above base (length-take-le base old within)

pub pair_joined : (join : Join) (old joined next : List ℕ) (base middle size : ℕ) → base ≤ middle → middle ≤ length old
    → size ≡ min (middle - base) (length old - middle) → joined ≡ joined_within join base middle old → next ≡ take (base + size) joined
    → next ≡ take base old ++ joined_words join base middle old
pair_joined join old all next base middle size order within is puts cuts =
    let left : List ℕ = slice_range old base middle in
    let right : List ℕ = drop middle old in
    let front : List ℕ = take base old in
    let done : List ℕ = joined_words join base middle old in
    let rest : List ℕ = drop (length old - middle) left in
    let in_front : length front ≡ base = length-take-le base old (omega arith) in
    let all_above : length (drop base old) ≡ length old - base = length-drop base old in
    let in_left : length left ≡ middle - base = length-take-le (middle - base) (drop base old) (omega arith) in
    let in_right : length right ≡ length old - middle = length-drop middle old in
    let pairs : length (zip left right) ≡ min (length left) (length right) = length-zip left right in
    let in_done : length done ≡ length (zip left right) = length-map (zip left right) (λ pair. joined join pair.0 pair.1) in
    let in_both : length (front ++ done) ≡ length front + length done = length-append front done in
    let moved : joined_within join base middle old ≡ (front ++ done) ++ (rest ++ right) =
    ap (λ l. l ++ right) (sym (append_assoc front done rest)) ∙ append_assoc (front ++ done) rest right in
    cuts ∙ ap (take (base + size)) (puts ∙ moved) ∙ below_front (front ++ done) (rest ++ right) (base + size) (omega arith)

-- what was pushed above others, of which those from an index on are taken away
closed : (old above all next : List ℕ) (base top : ℕ) → base ≤ top → top ≡ length old → all ≡ old ++ above → next ≡ take base all ++ drop top all → next ≡ take base old ++ above
closed old above all next base top order is pushes closes =
    closes ∙ ap (λ l. l ++ drop top all) (ap (take base) pushes ∙ take-append-le base old above (omega arith))
    ∙ ap (λ l. take base old ++ l) (ap (drop top) pushes ∙ above_front old above top (sym is))

pub above_closed : (old above all next : List ℕ) (base top : ℕ) → base ≤ top → top ≡ length old → all ≡ old ++ above → next ≡ take base all ++ drop top all → drop base next ≡ above
above_closed old above all next base top order is pushes closes =
    above_cut old above next base (omega arith) (closed old above all next base top order is pushes closes)

pub below_closed : (old above all next : List ℕ) (base top : ℕ) → base ≤ top → top ≡ length old → all ≡ old ++ above → next ≡ take base all ++ drop top all → take base next ≡ take base old
below_closed old above all next base top order is pushes closes =
    below_cut old above next base (omega arith) (closed old above all next base top order is pushes closes)

pub empty_above : (xs : List ℕ) (base : ℕ) → drop base (take base xs) ≡ []
empty_above xs base = let size : length (take base xs) ≡ min base (length xs) = length-take base xs in drop_all base (take base xs) (omega arith)
