-- The greatest number that passes a test, and square roots.
use Rattle.std.proofs.Common.{◌≡◌, ℕ, zero, suc, ◌+◌, ◌*◌, ◌<◌, ◌≤◌, Bool, true, false, cond, ◌∙◌, ap, arith, inl, inr, leb, mul-le-mul}
use Rattle.std.proofs.lemmas.Bool.{cases_Bool, cases_lt, le-leb, leb-false, leb-true}
use Rattle.ring_words.specs.Scale.{greatest, root}

passes : (test : ℕ → Bool) (n : ℕ) → test 0 ≡ true → test (greatest test n) ≡ true
passes test zero first = first
passes test (suc n) first = elim (cases_Bool (test (suc n))) [
  | inl so ↦ ap (λ b. test (cond b (suc n) (greatest test n))) so ∙ so
  | inr not_so ↦ ap (λ b. test (cond b (suc n) (greatest test n))) not_so ∙ passes test n first
]

last : (test : ℕ → Bool) (n k : ℕ) → greatest test n < k → k ≤ n → test k ≡ false
last test zero k above within = absurd (omega arith)
last test (suc n) k above within = elim (cases_Bool (test (suc n))) [
  | inl so ↦ let e : greatest test (suc n) ≡ suc n = ap (λ b. cond b (suc n) (greatest test n)) so in absurd (omega arith)
  | inr not_so ↦
      let e : greatest test (suc n) ≡ greatest test n = ap (λ b. cond b (suc n) (greatest test n)) not_so in
      elim (cases_lt n k) [
        | inl over ↦ let same : k ≡ suc n = omega arith in ap test same ∙ not_so
        | inr under ↦ last test n k (omega arith) under
      ]
]

square-le : (m n : ℕ) → m ≤ n → m * m ≤ n * n
square-le m n h = mul-le-mul h h

self-le-square : (n : ℕ) → n ≤ n * n
self-le-square zero = omega arith
self-le-square (suc n) = omega (arith, mul-le-mul {n₁ = 1} {m₁ = suc n} {n₂ = suc n} {m₂ = suc n} (omega arith) (omega arith))

pub root_greatest : (n : ℕ) → (root n * root n ≤ n) × (n < (root n + 1) * (root n + 1))
unfolding root
root_greatest n =
    let r = root n in
    let low : r * r ≤ n = leb-true (r * r) n (passes (λ k. leb (k * k) n) n (le-leb 0 n (omega arith))) in
    let high : n < (r + 1) * (r + 1) = elim (cases_lt n (r + 1)) [
      | inl over ↦ omega (arith, self-le-square (r + 1))
      | inr under ↦ leb-false ((r + 1) * (r + 1)) n (last (λ k. leb (k * k) n) n (r + 1) (omega arith) under)
    ] in
    (low, high)

-- there is only one
pub root_is : (n r : ℕ) → r * r ≤ n → n < (r + 1) * (r + 1) → r ≡ root n
root_is n r low high =
    let g = root_greatest n in
    elim (cases_lt r (root n)) [
      | inl less ↦ absurd (omega (arith, g.0, square-le (r + 1) (root n) (omega arith)))
      | inr rest ↦ elim (cases_lt (root n) r) [
        | inl more ↦ absurd (omega (arith, g.1, square-le (root n + 1) r (omega arith)))
        | inr same ↦ omega arith
      ]
    ]
