use Rattle.std.proofs.Common.{◌≡◌, ◌-◌, drop, map}
use Rattle.std.specs.List.{range_with_len}
use Rattle.vocabulary.specs.Answers.{fold_result}
use Rattle.algebra_meaning.specs.Element.{call_in, in_order, looped, steps_of, turn}
use Rattle.plain_maps.proofs.statements.+statement.Given as goal

-- the statements that are left, from here, give what all give
abbrev pub invariant-in_order-loop-one : goal.invariant-in_order-loop-one
invariant-in_order-loop-one g l =
    in_order (map (steps_of (call_in g.H.HostMeaning.answer l.call)) (drop l.one-index l.body)) l.point ≡ in_order (map (steps_of (call_in g.H.HostMeaning.answer l.call)) l.body) l.fn.start

-- so do the turns that are left
abbrev pub invariant-looped-loop-value : goal.invariant-looped-loop-value
invariant-looped-loop-value g l =
    fold_result (turn l.local (map (steps_of (call_in g.H.HostMeaning.answer l.call)) l.body)) l.point (range_with_len l.value (l.to - l.value))
    ≡ looped l.local l.fn.bounds.0 l.fn.bounds.1 (map (steps_of (call_in g.H.HostMeaning.answer l.call)) l.body) l.fn.start
