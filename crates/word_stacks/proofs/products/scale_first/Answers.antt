use Rattle.std.proofs.Common.{◌≡◌, drop, ap, ◌∙◌}
use Rattle.std.specs.Prelude.{slice_range}
use Rattle.ring_words.specs.Word.{mul}
use Rattle.value_algebra.specs.Value.{each, word_of}
use Rattle.word_stacks.specs.Stack.{value_of}
use Rattle.word_stacks.proofs.Parts.{cut_range}
use Rattle.word_stacks.proofs.products.scale_first.Goals as goal

pub returns-clause-value : goal.returns-clause-value
returns-clause-value c =
    let factor : c.first_word_above-factor.result ≡ word_of (value_of c.args.right (drop c.args.middle c.args.stack.now.items)) = rw c.deref.ensures.value at c.first_word_above-factor.ensures in
    let left : drop c.args.base c.truncate.new.self.items ≡ slice_range c.args.stack.now.items c.args.base c.args.middle =
    ap (drop c.args.base) c.truncate.ensures.items ∙ cut_range c.args.stack.now.items c.args.base c.args.middle c.requires.order in
    c.change.ensures.value ∙ ap (λ l. each (mul c.first_word_above-factor.result) (value_of c.args.left l)) left
    ∙ ap (λ f. each (mul f) (value_of c.args.left (slice_range c.args.stack.now.items c.args.base c.args.middle))) factor
