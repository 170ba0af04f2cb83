-- Words of sums, differences and negations of whole numbers, by the whole numbers modulo a multiple.
use Rattle.std.proofs.Common.{◌≡◌, ℕ, suc, ◌+◌, ◌-◌, ◌*◌, ◌/◌, ◌%◌, ◌^◌, ◌<◌, ℤ, pos, negsuc, ◌+ℤ◌, neg_ℤ, refl, sym, ap, ◌∙◌, arith}
use Rattle.std.proofs.Math.Nat.{mod-lt, mod-eq_of_lt, add-mul-mod_self_right}
use Rattle.std.proofs.lemmas.Nat.{div-add-mod'}
use Rattle.std.proofs.lemmas.Int.{ints}
use Rattle.ring_words.specs.Word.{word}

-- the word modulo any number
abbrev word_by : ℕ → ℤ → ℕ
word_by m (pos n) = n % m
word_by m (negsuc n) = m - 1 - n % m

-- two whole numbers that are apart by a multiple
record Near (m : ℕ) (x y : ℤ) : Type 0 where
  over : ℕ
  under : ℕ
  is : x +ℤ pos (over * m) ≡ y +ℤ pos (under * m)

module _ (m : ℕ) (some : 0 < m) where
  below : (x : ℤ) → word_by m x < m
  below (pos n) = mod-lt n some
  below (negsuc n) = omega (arith, some)

  split : (x : ℤ) → Near m (pos (word_by m x)) x
  split (pos n) =
      let whole : n / m * m + n % m ≡ n = div-add-mod' n m in
      let same : n % m + n / m * m ≡ n + 0 * m = omega (arith, whole) in
      record { over = n / m; under = 0; is = ap pos same }
  split (negsuc n) =
      let whole : n / m * m + n % m ≡ n = div-add-mod' n m in
      let small : n % m < m = mod-lt n some in
      record { over = 0; under = suc (n / m); is = omega (arith, ints) }

  unique : (a b j k : ℕ) → a < m → b < m → a + j * m ≡ b + k * m → a ≡ b
  unique a b j k a_in b_in is =
      sym (mod-eq_of_lt a_in) ∙ sym (add-mul-mod_self_right a j m) ∙ ap (λ n. n % m) is ∙ add-mul-mod_self_right b k m ∙ mod-eq_of_lt b_in

  near : (x y : ℤ) → word_by m x ≡ word_by m y → Near m x y
  near x y same =
      let s = split x in
      let t = split y in
      let first : pos (word_by m x) +ℤ pos (s.over * m) ≡ x +ℤ pos (s.under * m) = s.is in
      let second : pos (word_by m y) +ℤ pos (t.over * m) ≡ y +ℤ pos (t.under * m) = t.is in
      record { over = s.under + t.over; under = t.under + s.over; is = omega (arith, ints) }

  same_word : (x y : ℤ) → Near m x y → word_by m x ≡ word_by m y
  same_word x y close =
      let s = split x in
      let t = split y in
      let first : pos (word_by m x) +ℤ pos (s.over * m) ≡ x +ℤ pos (s.under * m) = s.is in
      let second : pos (word_by m y) +ℤ pos (t.over * m) ≡ y +ℤ pos (t.under * m) = t.is in
      let between : x +ℤ pos (close.over * m) ≡ y +ℤ pos (close.under * m) = close.is in
      let all : word_by m x + (s.over + close.over + t.under) * m ≡ word_by m y + (t.over + close.under + s.under) * m = omega (arith, ints) in
      unique (word_by m x) (word_by m y) (s.over + close.over + t.under) (t.over + close.under + s.under) (below x) (below y) all

  sum_near : (a b x y : ℤ) → Near m a x → Near m b y → Near m (a +ℤ b) (x +ℤ y)
  sum_near a b x y p q =
      let first : a +ℤ pos (p.over * m) ≡ x +ℤ pos (p.under * m) = p.is in
      let second : b +ℤ pos (q.over * m) ≡ y +ℤ pos (q.under * m) = q.is in
      record { over = p.over + q.over; under = p.under + q.under; is = omega (arith, ints) }

  neg_near : (b y : ℤ) → Near m b y → Near m (neg_ℤ b) (neg_ℤ y)
  neg_near b y q =
      let second : b +ℤ pos (q.over * m) ≡ y +ℤ pos (q.under * m) = q.is in
      record { over = q.under; under = q.over; is = omega (arith, ints) }

  sum_words : (a b x y : ℤ) → word_by m a ≡ word_by m x → word_by m b ≡ word_by m y → word_by m (a +ℤ b) ≡ word_by m (x +ℤ y)
  sum_words a b x y first second = same_word (a +ℤ b) (x +ℤ y) (sum_near a b x y (near a x first) (near b y second))

  neg_words : (b y : ℤ) → word_by m b ≡ word_by m y → word_by m (neg_ℤ b) ≡ word_by m (neg_ℤ y)
  neg_words b y second = same_word (neg_ℤ b) (neg_ℤ y) (neg_near b y (near b y second))

  word_twice : (x : ℤ) → word_by m (pos (word_by m x)) ≡ word_by m x
  word_twice x = same_word (pos (word_by m x)) x (split x)

-- ---- words modulo 2^64

is_word : (x : ℤ) → word_by (2 ^ 64) x ≡ word x
is_word (pos n) = refl
is_word (negsuc n) = refl

some_words : 0 < 2 ^ 64
some_words = omega arith

pub word_sum : (a b x y : ℤ) → word a ≡ word x → word b ≡ word y → word (a +ℤ b) ≡ word (x +ℤ y)
word_sum a b x y first second =
    sym (is_word (a +ℤ b)) ∙ sum_words (2 ^ 64) some_words a b x y (is_word a ∙ first ∙ sym (is_word x)) (is_word b ∙ second ∙ sym (is_word y)) ∙ is_word (x +ℤ y)

pub word_neg : (b y : ℤ) → word b ≡ word y → word (neg_ℤ b) ≡ word (neg_ℤ y)
word_neg b y second = sym (is_word (neg_ℤ b)) ∙ neg_words (2 ^ 64) some_words b y (is_word b ∙ second ∙ sym (is_word y)) ∙ is_word (neg_ℤ y)

-- a word is its own word
pub word_word : (x : ℤ) → word (pos (word x)) ≡ word x
word_word x = ap (λ w. word (pos w)) (sym (is_word x)) ∙ word_twice (2 ^ 64) some_words x ∙ is_word x

pub add_none : (x : ℤ) → x +ℤ pos 0 ≡ x
add_none x = omega (arith, ints)

pub add_again : (x y z : ℤ) → (x +ℤ y) +ℤ z ≡ x +ℤ (y +ℤ z)
add_again x y z = omega (arith, ints)
