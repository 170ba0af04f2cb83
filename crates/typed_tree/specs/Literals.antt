-- Numbers of a program's text.
use Rattle.std.specs.Prelude.{ℕ, suc, ◌-◌, ◌^◌, ◌==◌, ◌||◌, Bool, nat_lt, List, length, position, Option, Some, None, Result, Ok, Err, if◌then◌else◌}
use Rattle.std.specs.List.{list_any}
use Rattle.std.specs.Option.{option_map_or}
use Rattle.std.specs.Result.{result_ok}
use Rattle.vocabulary.specs.declared.limits.TheConstants.{MOST_FIELD_SCALE, MOST_PROGRAM_BYTES}
use Rattle.vocabulary.specs.declared.marks.TheConstants.{POINT}
use Rattle.ring_words.specs.Cell.{cell}
use Rattle.ring_words.specs.declared.cells.CellFault.{CellFault}

abbrev pub is_point : ℕ → Bool
is_point b = b == POINT

-- how many digits stand after the point
abbrev pub decimals_of : List ℕ → ℕ
decimals_of digits = option_map_or (λ at. length digits - suc at) (position is_point digits) 0

-- a text has at most MOST_PROGRAM_BYTES bytes, and no token is longer
abbrev pub is_long : List ℕ → Bool
is_long digits = nat_lt MOST_PROGRAM_BYTES (length digits)

-- the word of a literal at its own scale, where it is below 2^63
abbrev pub literal_word : List ℕ → Option ℕ
literal_word digits =
    if nat_lt MOST_FIELD_SCALE (decimals_of digits) || is_long digits then None else result_ok (cell (decimals_of digits) digits)

abbrev pub or_large : Result ℕ CellFault → ℕ
or_large (Ok word) = word
or_large (Err fault) = 2 ^ 63

-- the whole number of digits without a point; one of 2^63 or more is taken for 2^63
abbrev pub whole_number : List ℕ → ℕ
whole_number digits = if is_long digits then 2 ^ 63 else or_large (cell 0 digits)

-- the whole number that digits state, where they have no point
abbrev pub whole : List ℕ → Option ℕ
whole digits = if list_any is_point digits then None else Some (whole_number digits)
