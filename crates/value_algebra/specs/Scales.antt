-- Words at other scales, quotients and square roots. The scales are such as types have, within the limits of a computation; for
-- others, which no program that is typed has, the word is 0.
use Rattle.std.specs.Prelude.{ℕ, ◌+◌, Bool, not, nat_lt, ◌&&◌, if◌then◌else◌, Option, Some}
use Rattle.vocabulary.specs.declared.limits.TheConstants.{MOST_SCALE, MOST_SCALE_CHANGE}
use Rattle.ring_words.specs.Scale as scale
use Rattle.type_rules.specs.Rules.{apart, is_exponent}
use Rattle.value_algebra.specs.declared.value.Value.{Value}
use Rattle.value_algebra.specs.Value.{each}

-- a scale within the limit
abbrev pub is_scale : ℕ → Bool
is_scale scale = not (nat_lt MOST_SCALE scale)

-- a value may go from one scale to another
abbrev pub may_change : ℕ → ℕ → Bool
may_change from to = is_scale from && is_scale to && not (nat_lt MOST_SCALE_CHANGE (apart from to))

-- a word at one scale, brought to another
abbrev pub rescaled_word : ℕ → ℕ → ℕ → ℕ
rescaled_word from to word = if may_change from to then scale.rescale word from to else 0

-- each word of a value so
abbrev pub rescaled : ℕ → ℕ → Value → Value
rescaled from to = each (rescaled_word from to)

-- a word of a scale may be divided by one of another scale, as a word of a third
abbrev pub may_divide : ℕ → ℕ → ℕ → Bool
may_divide from by to = is_scale from && is_scale by && is_scale to && is_exponent (to + by) from

-- the quotient of two words; none where the second is 0
abbrev pub quotient : ℕ → ℕ → ℕ → ℕ → ℕ → Option ℕ
quotient a from b by to = if may_divide from by to then scale.quot a from b by to else Some 0

-- the root of a word of one scale may be taken as a word of another
abbrev pub may_take_root : ℕ → ℕ → Bool
may_take_root from to = is_scale from && is_scale to && is_exponent (to + to) from

-- the square root of a word; none where it is negative
abbrev pub square_root : ℕ → ℕ → ℕ → Option ℕ
square_root a from to = if may_take_root from to then scale.isqrt a from to else Some 0
