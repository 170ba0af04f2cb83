-- What digits count when they follow others, and zeros that are added.
use Rattle.std.proofs.Common.{◌≡◌, ℕ, zero, suc, ◌+◌, ◌-◌, ◌*◌, ◌^◌, ◌≤◌, List, [], ◌∷◌, ◌++◌, length, take, replicate, refl, sym, ap, ◌∙◌, arith, pow-suc}
use Rattle.std.specs.Char.{digit_value}
use Rattle.std.specs.Str.Parse.{digits_value, digits_value_after}
use Rattle.std.proofs.lemmas.List.{take-replicate}
use Rattle.ring_words.specs.Cell.{cut, decimals_to}

pub value-append : (n : ℕ) (xs ys : List ℕ) → digits_value_after 10 n (xs ++ ys) ≡ digits_value_after 10 (digits_value_after 10 n xs) ys
value-append n [] ys = refl
value-append n (x ∷ xs) ys = value-append (n * 10 + digit_value x) xs ys

carried : (n d p : ℕ) → (n * 10 + d) * p ≡ n * (p * 10) + d * p
carried n d p = omega arith

pub value-after : (n : ℕ) (ds : List ℕ) → digits_value_after 10 n ds ≡ n * 10 ^ length ds + digits_value 10 ds
value-after n [] = omega arith
value-after n (c ∷ ds) =
    let d = digit_value c in
    omega (arith, value-after (n * 10 + d) ds, value-after (0 * 10 + d) ds, carried n d (10 ^ length ds), ap (λ p. n * p) (pow-suc 10 (length ds)))

pub value-zeros : (n k : ℕ) → digits_value_after 10 n (replicate k 48) ≡ n * 10 ^ k
value-zeros n zero = omega arith
value-zeros n (suc k) = omega (arith, value-zeros (n * 10 + 0) k, carried n 0 (10 ^ k), ap (λ p. n * p) (pow-suc 10 k))

-- what is cut down early is cut down late
pub cut-after : (v w : ℕ) (ds : List ℕ) → cut w ≡ cut v → cut (digits_value_after 10 w ds) ≡ cut (digits_value_after 10 v ds)
cut-after v w [] e = e
cut-after v w (c ∷ ds) e = let d = digit_value c in cut-after (v * 10 + d) (w * 10 + d) ds (omega arith)

padded : (d m : ℕ) (ds : List ℕ) → d ≤ m → take d (ds ++ replicate m 48) ≡ take d ds ++ replicate (d - length ds) 48
padded zero m ds h = let e : 0 - length ds ≡ 0 = omega arith in rw e
padded (suc d) m [] h = let e : suc d - 0 ≡ suc d = omega arith in rw e (take-replicate (suc d) m 48 h)
padded (suc d) m (x ∷ ds) h =
    let e : suc d - suc (length ds) ≡ d - length ds = omega arith in
    rw e (ap (λ (xs : List ℕ). x ∷ xs) (padded d m ds (omega arith)))

pub decimals-split : (d : ℕ) (ds : List ℕ) → decimals_to d ds ≡ take d ds ++ replicate (d - length ds) 48
decimals-split d ds = padded d d ds (omega arith)

-- zeros are added to the decimals up to the scale
pub filled : (d whole value : ℕ) (ds : List ℕ) → value ≡ cut (digits_value_after 10 whole (take d ds)) → cut (value * 10 ^ (d - length ds)) ≡ cut (digits_value_after 10 whole (decimals_to d ds))
filled d whole value ds e =
    let k = d - length ds in
    let v = digits_value_after 10 whole (take d ds) in
    ap cut (sym (value-zeros value k))
    ∙ cut-after v value (replicate k 48) (omega arith)
    ∙ ap cut (sym (value-append whole (take d ds) (replicate k 48)) ∙ ap (digits_value_after 10 whole) (sym (decimals-split d ds)))

-- a whole number without decimals
pub filled_whole : (d value : ℕ) (ws : List ℕ) → value ≡ cut (digits_value 10 ws) → cut (value * 10 ^ d) ≡ cut (digits_value 10 (ws ++ decimals_to d []))
filled_whole d value ws e =
    let v = digits_value 10 ws in
    ap cut (sym (value-zeros value d))
    ∙ cut-after v value (replicate d 48) (omega arith)
    ∙ ap cut (ap (digits_value_after 10 v) (sym (take-replicate d d 48 (omega arith))) ∙ sym (value-append 0 ws (decimals_to d [])))

-- decimals after a whole number that was cut down
pub whole_and_decimals : (d value units : ℕ) (ws ds : List ℕ) → value ≡ cut (digits_value 10 ws) → units ≡ cut (digits_value_after 10 value (decimals_to d ds)) → units ≡ cut (digits_value 10 (ws ++ decimals_to d ds))
whole_and_decimals d value units ws ds e f =
    let v = digits_value 10 ws in
    f ∙ cut-after v value (decimals_to d ds) (omega arith) ∙ ap cut (sym (value-append 0 ws (decimals_to d ds)))
