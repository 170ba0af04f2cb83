use Rattle.std.proofs.Common.{◌<◌, length, sym, ◌∙◌, arith}
use Rattle.std.specs.Option.{option_copied}
use Rattle.index_notation.proofs.Links.{not_entered, ended, reached, not_summed, alone, shared, too_many}
use Rattle.index_notation.proofs.following.followed.Goals as goal

pub returns-in_default : goal.returns-in_default
returns-in_default c =
    let below : c.loop.counter < length c.args.atoms.now = omega arith in
    not_entered c.args.free.now (option_copied c.args.end) c.args.atoms.now _ c.loop.links (length c.args.atoms.now) c.loop.counter c.loop.factor c.loop.index.now c.indices_at-indices.result.now
    below c.indices_at-indices.ensures c.in_default.ensures c.loop.invariant

pub returns-in_default-leaving : goal.returns-in_default-leaving
returns-in_default-leaving c =
    let below : c.loop.counter < length c.args.atoms.now = omega arith in
    c.to_vector.ensures
    ∙ ended c.args.free.now (option_copied c.args.end) c.args.atoms.now _ c.loop.links c.push.new.self (length c.args.atoms.now) c.loop.counter c.loop.factor c.loop.index.now c.indices_at-indices.result.now
    c.in-Some.link below c.indices_at-indices.ensures c.in-Some.ensures c.in_default-leaving.ensures c.in_ok-push.ensures.pushed c.loop.invariant

pub returns-then-is_end : goal.returns-then-is_end
returns-then-is_end c =
    let below : c.loop.counter < length c.args.atoms.now = omega arith in
    reached c.args.free.now (option_copied c.args.end) c.args.atoms.now _ c.loop.links c.push.new.self (length c.args.atoms.now) c.loop.counter c.loop.factor c.loop.index.now c.in-Some-leaving.next.now
    c.indices_at-indices.result.now c.in-Some.link below c.indices_at-indices.ensures c.in-Some.ensures c.in-Some-leaving.ensures c.in_ok-push.ensures.pushed
    (sym c.is_end.ensures ∙ c.if-is_end.true) c.loop.invariant

pub returns-then-is_among : goal.returns-then-is_among
returns-then-is_among c =
    let below : c.loop.counter < length c.args.atoms.now = omega arith in
    not_summed c.args.free.now (option_copied c.args.end) c.args.atoms.now _ c.loop.links (length c.args.atoms.now) c.loop.counter c.loop.factor c.loop.index.now c.in-Some-leaving.next.now
    c.indices_at-indices.result.now c.in-Some.link below c.indices_at-indices.ensures c.in-Some.ensures c.in-Some-leaving.ensures
    (sym c.is_end.ensures ∙ c.if-is_end.false) (sym c.is_among.ensures ∙ c.if-is_among.true) c.loop.invariant

pub returns-in_default-other_with : goal.returns-in_default-other_with
returns-in_default-other_with c =
    let below : c.loop.counter < length c.args.atoms.now = omega arith in
    alone c.args.free.now (option_copied c.args.end) c.args.atoms.now _ c.loop.links (length c.args.atoms.now) c.loop.counter c.loop.factor c.loop.index.now c.in-Some-leaving.next.now
    c.indices_at-indices.result.now c.in-Some.link below c.indices_at-indices.ensures c.in-Some.ensures c.in-Some-leaving.ensures
    (sym c.is_end.ensures ∙ c.if-is_end.false) (sym c.is_among.ensures ∙ c.if-is_among.false) c.in_default-other_with.ensures c.loop.invariant

pub loop-preserved : goal.loop-preserved
loop-preserved c =
    let below : c.loop.counter < length c.args.atoms.now = omega arith in
    shared c.args.free.now (option_copied c.args.end) c.args.atoms.now _ c.loop.links c.push.new.self (length c.args.atoms.now) c.loop.counter c.loop.factor c.in-Some-other_with.other c.loop.index.now
    c.in-Some-leaving.next.now c.indices_at-indices.result.now c.in-Some.link below c.indices_at-indices.ensures c.in-Some.ensures c.in-Some-leaving.ensures
    c.in_ok-push.ensures.pushed (sym c.is_end.ensures ∙ c.if-is_end.false) (sym c.is_among.ensures ∙ c.if-is_among.false) c.in-Some-other_with.ensures
    c.loop.invariant

pub returns : goal.returns
returns c = too_many c.args.free.now (option_copied c.args.end) c.args.atoms.now _ c.loop.links (length c.args.atoms.now) c.loop.counter c.loop.factor c.loop.index.now (omega arith) c.loop.invariant
