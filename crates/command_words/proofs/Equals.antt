-- Words without the sign that stands between an option's name and its value.
use Rattle.std.proofs.Common.{◌≡◌, ◌<◌, ℕ, false, List, length, sym, subst}
use Rattle.std.specs.List.{list_any, position_or_len}
use Rattle.std.proofs.lemmas.List.Elements.{All-from_get_or}
use Rattle.std.proofs.lemmas.List.Folds.{list_any_none}
use Rattle.std.proofs.lemmas.List.Sums.{fails_before_first}
use Rattle.command_words.specs.Arguments.{is_equals}

pub no_equals : (word : List ℕ) → position_or_len is_equals word ≡ length word → list_any is_equals word ≡ false
no_equals word e =
    list_any_none is_equals word
    (All-from_get_or (λ x. is_equals x ≡ false) word 0 (λ i within. fails_before_first is_equals word i 0 (subst (λ n. i < n) (sym e) within)))
