use Rattle.std.proofs.Common.{◌≡◌, ℕ, ◌+◌, ◌-◌, ◌*◌, ◌≤◌, ◌<◌, List, length, take, get_or, sym, ◌∙◌, arith}
use Rattle.std.specs.Char.{is_ascii_digit}
use Rattle.std.specs.Str.Parse.{digits_value}
use Rattle.std.proofs.lemmas.Int.Digits.{digits_value_more}
use Rattle.std.proofs.lemmas.List.Sums.{prefix_len-drop_yes}
use Rattle.ring_words.specs.Cell.{cut}
use Rattle.ring_words.proofs.Decimals.{cut_more, digit_is}
use Rattle.ring_words.proofs.digits.leading_digits.Goals as goal

value_more : (bytes : List ℕ) (i value : ℕ) → i < length bytes → 48 ≤ get_or bytes i 0 → get_or bytes i 0 ≤ 57 → value ≡ cut (digits_value 10 (take i bytes)) → cut (value * 10 + (get_or bytes i 0 - 48)) ≡ cut (digits_value 10 (take (i + 1) bytes))
value_more bytes i value inside low high e =
    rw (digits_value_more 10 bytes i inside, digit_is (get_or bytes i 0) low high) (cut_more _ value _ e)

pub loop-size-preserved : goal.loop-size-preserved
loop-size-preserved c =
    let bytes = c.args.bytes.now in
    let at = c.loop-size.size in
    let found = c.loop-size.invariant in
    let digit = c.if-is_ascii_digit.ensures in
    record {
      within = omega arith;
      left = omega (arith, found.left, prefix_len-drop_yes is_ascii_digit bytes at 0 (omega arith) (sym digit.value));
      value_is = c.with_digit-value.ensures ∙ value_more bytes at c.loop-size.value (omega arith) digit.cases.0 digit.cases.1 found.value_is;
    }
