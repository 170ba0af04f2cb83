use Rattle.std.proofs.Common.{◌*◌, ℕ, replicate, ap, ◌∙◌}
use Rattle.value_algebra.specs.declared.value.Value.{Value}
use Rattle.assembly_sums.proofs.Contributed.{zeros_are}
use Rattle.assembly_sums.proofs.sums.zero_value.Goals as goal

pub returns : goal.returns
returns c =
    let value : Value = record { rows = c.count.result * c.height.result; columns = c.elements_of.result * c.width.result; words = c.in_ok-words.words } in
    zeros_are c.args.sets.now c.args.typed.now value (cc (c.count.ensures, c.height.ensures)) (cc (c.elements_of.ensures, c.width.ensures)) (c.in_ok-words.ensures ∙ ap (λ n. replicate {A = ℕ} n 0) c.in-Some.ensures.1)
