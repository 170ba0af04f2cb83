use Rattle.std.proofs.Common.{◌≡◌, List, ℕ, ◌∙◌, ap, arith, length}
use Rattle.ring_words.specs.Word.{mul}
use Rattle.value_algebra.proofs.InPlace.{both_joined, written_whole}
use Rattle.value_algebra.proofs.words.entrywise.Goals as goal

pub returns : goal.returns
returns c =
    let words : List ℕ = c.multiply_each.new.left in
    let size : length words ≡ c.first_words-words.result.len = omega (arith, c.multiply_each.auto.left, c.deref_mut.ensures.len) in
    let made : c.of.result ≡ record { rows = c.args.left.rows; columns = c.args.left.columns; words = words } =
    c.of.ensures ∙ ap (λ (l : List ℕ). record { rows = c.args.left.rows; columns = c.args.left.columns; words = l }) (written_whole words _ _ size) in
    both_joined mul c.args.left c.args.right.now c.of.result c.items-others.result.now c.deref_mut.result.now words c.items-others.ensures
    (c.deref_mut.ensures.value ∙ c.first_words-words.ensures) c.multiply_each.ensures made
