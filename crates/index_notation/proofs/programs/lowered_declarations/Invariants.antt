use Rattle.std.proofs.Common.{◌≡◌, ◌+◌, length, map, reverse}
use Rattle.vocabulary.specs.Answers.{all_ok}
use Rattle.chain_forms.specs.Lowered.{lowered_declaration}
use Rattle.index_notation.proofs.Taking.{after}
use Rattle.index_notation.proofs.programs.lowered_declarations.Given as goal

abbrev pub invariant-loop : goal.invariant-loop
invariant-loop l = record {
  value : all_ok (map lowered_declaration l.fn.declarations) ≡ after l.lowered (all_ok (map lowered_declaration (reverse l.left)));
  count : length l.left + l.counter ≡ length l.initial.left;
}
