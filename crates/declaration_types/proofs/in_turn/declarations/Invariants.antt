use Rattle.std.proofs.Common.{◌≡◌, drop}
use Rattle.vocabulary.specs.Answers.{fold_result}
use Rattle.typed_tree.specs.Declarations.{declaration}
use Rattle.declaration_types.proofs.in_turn.declarations.Given as goal

-- the declarations so far and those that are left give what all give
abbrev pub invariant-loop-one : goal.invariant-loop-one
invariant-loop-one l = fold_result (declaration l.hosts) l.walk (drop l.one-index l.declared) ≡ fold_result (declaration l.hosts) l.initial.walk l.declared
