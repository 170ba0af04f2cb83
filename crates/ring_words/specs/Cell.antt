-- Cells: how a word is written in a table, and which word a cell's text stands for.
-- A cell of scale d counts units of 1/10^d. Its text has spaces at both ends or none, an optional
-- minus, digits, and optionally a point and digits.
use Rattle.std.specs.Prelude.{ℕ, zero, suc, pos, neg_ℤ, ◌+◌, ◌-◌, ◌/◌, ◌%◌, ◌^◌, Bool, false, not, ◌&&◌, ◌||◌, ◌==◌, nat_lt, min, List, [], ◌∷◌, ◌++◌, length, take, drop, replicate, Result, Ok, Err, if◌then◌else◌, decimal}
use Rattle.std.specs.List.{prefix_len, suffix_len, list_all}
use Rattle.std.specs.Char.{is_ascii_digit}
use Rattle.std.specs.Str.Parse.{digits_value}
use Rattle.vocabulary.specs.declared.marks.TheConstants.{SPACE, MINUS, POINT, ZERO}
use Rattle.ring_words.specs.Word.{word}
use Rattle.ring_words.specs.declared.cells.CellFault.{CellFault}
use Rattle.ring_words.specs.declared.cells.CellFault.TheVariants.{Empty, BadByte, TooFine, TooLarge}

abbrev pub is_space : ℕ → Bool
is_space b = b == SPACE

abbrev pub is_zero_digit : ℕ → Bool
is_zero_digit b = b == ZERO

-- the bytes without the spaces at both ends
abbrev pub without_spaces : List ℕ → List ℕ
without_spaces bytes =
    let rest = drop (prefix_len is_space bytes) bytes in
    take (length rest - suffix_len is_space rest) rest

-- what can be read from the start of a text: its parts, and how many bytes they take
pub record Parts : Type 0 where
  pub negative : Bool
  pub whole : List ℕ
  pub decimals : List ℕ
  pub size : ℕ
  -- whether a number can end there
  pub complete : Bool

abbrev pub starts_with_byte : ℕ → List ℕ → Bool
starts_with_byte b [] = false
starts_with_byte b (x ∷ xs) = x == b

abbrev pub is_empty : List ℕ → Bool
is_empty bytes = length bytes == 0

-- the digits with which a text begins
abbrev pub digits_at : List ℕ → List ℕ
digits_at bytes = take (prefix_len is_ascii_digit bytes) bytes

-- a number past every signed reading is cut down to the first that is
abbrev pub cut : ℕ → ℕ
cut n = min n (2 ^ 63 + 1)

-- the text split into its minus, its digits, its point and the digits after it
unfoldable pub parts : List ℕ → Parts
parts rest =
    let minus = starts_with_byte MINUS rest in
    let sign = if minus then 1 else 0 in
    let whole = digits_at (drop sign rest) in
    let after = drop (sign + length whole) rest in
    let point = not (is_empty whole) && starts_with_byte POINT after in
    let decimals = if point then digits_at (drop 1 after) else [] in
    record {
      negative = minus;
      whole = whole;
      decimals = decimals;
      size = sign + length whole + (if point then 1 else 0) + length decimals;
      complete = not (is_empty whole) && (not point || not (is_empty decimals));
    }

-- decimals brought to the scale: zeros where there are fewer
abbrev pub decimals_to : ℕ → List ℕ → List ℕ
decimals_to d decimals = take d (decimals ++ replicate d ZERO)

-- whether one of the decimals past the scale is not 0
abbrev pub is_too_fine : ℕ → List ℕ → Bool
is_too_fine d decimals = not (list_all is_zero_digit (drop d decimals))

-- how many units of 1/10^d the digits count
abbrev pub units : ℕ → Parts → ℕ
units d p = digits_value 10 (p.whole ++ decimals_to d p.decimals)

-- whether a number of this sign and size is outside the signed readings
abbrev pub is_too_large : Bool → ℕ → Bool
is_too_large negative n = nat_lt (if negative then 2 ^ 63 else 2 ^ 63 - 1) n

-- the word that the parts stand for, where they leave nothing of the text and fit
abbrev pub word_of_parts : ℕ → Parts → Result ℕ CellFault
word_of_parts d p =
    if is_too_fine d p.decimals then Err TooFine
    else if is_too_large p.negative (units d p) then Err TooLarge
    else Ok (word (if p.negative then neg_ℤ (pos (units d p)) else pos (units d p)))

-- the word of a cell of scale d, or why it has none; a bad byte is named by its offset in the whole cell
unfoldable pub cell : ℕ → List ℕ → Result ℕ CellFault
cell d bytes =
    let rest = without_spaces bytes in
    let p = parts rest in
    if is_empty rest then Err Empty
    else if p.complete && (p.size == length rest) then word_of_parts d p
    else Err (BadByte (prefix_len is_space bytes + p.size))

-- the size of a word's signed reading
abbrev pub magnitude : ℕ → ℕ
magnitude w = if nat_lt w (2 ^ 63) then w else 2 ^ 64 - w

-- n in decimal digits, with zeros before them up to d digits
abbrev pub digits_padded : ℕ → ℕ → List ℕ
digits_padded d n = replicate (d - length (decimal n)) ZERO ++ decimal n

abbrev pub unsigned_text : ℕ → ℕ → List ℕ
unsigned_text zero n = decimal n
unsigned_text (suc d) n = decimal (n / 10 ^ suc d) ++ POINT ∷ digits_padded (suc d) (n % 10 ^ suc d)

-- the one text of a word at scale d
unfoldable pub text : ℕ → ℕ → List ℕ
text d w = (if nat_lt w (2 ^ 63) then [] else MINUS ∷ []) ++ unsigned_text d (magnitude w)
