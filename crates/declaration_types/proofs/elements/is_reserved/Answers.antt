use Rattle.std.proofs.Common.{◌≡◌, ◌||◌, sym, ap, ◌∙◌}
use Rattle.declaration_types.specs.Reserved.{is_reserved_below}
use Rattle.declaration_types.proofs.Reserved.{reserved_more}
use Rattle.declaration_types.proofs.elements.is_reserved.Goals as goal
use Rattle.declaration_types.proofs.elements.is_reserved.Goals.{then-reserved, else-reserved}

pub loop-position-preserved : goal.loop-position-preserved
loop-position-preserved c =
    let name = c.args.name.now in
    let position = c.loop-position.position in
    let both : c.if-reserved.reserved ≡ (c.loop-position.reserved || c.is_endpoint_column-is_column.result) =
    elim c.if-reserved.branch [
      | then-reserved w ↦ rw w.if-reserved.true (w.reserved-is ∙ w.if-reserved.true)
      | else-reserved w ↦ rw w.if-reserved.false w.reserved-is
    ] in
    both ∙ ap (λ b. b || c.is_endpoint_column-is_column.result) c.loop-position.invariant
    ∙ ap (λ b. is_reserved_below position name || b) c.is_endpoint_column-is_column.ensures
    ∙ sym (reserved_more name position)
