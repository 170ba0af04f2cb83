use Rattle.std.proofs.Common.{rules, arith, ◌≡◌, ◌∷◌, []}
use Rattle.std.proofs.lemmas.Grind.{common_steps}
use Rattle.token_cursor.proofs.Repeat.{separated-repeat}
use Rattle.token_cursor.proofs.lists.separated.Goals as goal

pub returns : goal.returns
returns g c = λ reader follows.
    let reads = rw c.in_ok-part.was at (follows.reads _ _ c.part.result c.part.ensures) in
    let one = separated-repeat (c.args.separator ∷ []) reader c.args.cursor.now c.part.new.arg2 c.in_ok-part.field-0 reads in
    let alone : c.in_ok-first.first ≡ c.in_ok-part.field-0 ∷ [] = first_of (search rules, grind (arith, common_steps)) in
    rw (one, ← alone) (c.repeat.ensures reader follows)
