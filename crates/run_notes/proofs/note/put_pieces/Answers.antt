use Rattle.std.proofs.Common.{◌≡◌, ◌<◌, ◌++◌, List, ℕ, [], map, length, get_or, take, drop, subst, sym, ap, ◌∙◌, ◌+◌, arith, suc}
use mathlib.Core.Logic.{inr}
use Rattle.std.specs.List.{concat}
use Rattle.std.proofs.lemmas.Grind.{common_steps}
use Rattle.simit_io.specs.Sink.{Puts}
use Rattle.run_notes.proofs.Pieces.{concat_at, concat_more, from_ok, from_err}
use Rattle.run_notes.proofs.note.put_pieces.Goals as goal

pub loop-piece-preserved : goal.loop-piece-preserved
loop-piece-preserved g c =
    let pieces : List (List ℕ) = map (λ p. p.now) c.args.pieces.now in
    let i : ℕ = c.loop-piece.piece-index in
    let within : i < length pieces = grind (arith, common_steps) in
    let piece : c.as_bytes.result.now ≡ get_or pieces i [] = grind (arith, common_steps) in
    let put = from_ok c.put_all.result (sym c.is_err.ensures.value ∙ c.if-is_err.false) c.put_all.ensures.whole in
    let grown : concat (take (i + 1) pieces) ≡ concat (take i pieces) ++ c.as_bytes.result.now = concat_more pieces i within ∙ ap (λ v. concat (take i pieces) ++ v) (sym piece) in
    record {
      so_far = subst (Puts (g.N.Sink.written c.args.notes.now) (g.N.Sink.written c.put_all.new.sink)) (sym grown) (c.putting_law.ensures.appended _ _ _ _ _ c.loop-piece.invariant.so_far put);
      counted = omega (arith, c.put_all.ensures.counted);
    }

pub returns-then-is_err-clause-note : goal.returns-then-is_err-clause-note
returns-then-is_err-clause-note g c =
    let pieces : List (List ℕ) = map (λ p. p.now) c.args.pieces.now in
    let i : ℕ = c.loop-piece.piece-index in
    let within : i < length pieces = grind (arith, common_steps) in
    let piece : c.as_bytes.result.now ≡ get_or pieces i [] = grind (arith, common_steps) in
    let is = sym c.is_err.ensures.value ∙ c.if-is_err.true in
    let put = from_err c.put_all.result is c.put_all.ensures.prefix in
    let split : concat pieces ≡ concat (take i pieces) ++ c.as_bytes.result.now ++ concat (drop (suc i) pieces) =
    concat_at pieces i within ∙ ap (λ v. concat (take i pieces) ++ v ++ concat (drop (suc i) pieces)) (sym piece) in
    inr (
      c.putting_law.ensures.fault _ _ _ c.loop-piece.invariant.counted (from_err c.put_all.result is c.put_all.ensures.failed),
      c.putting_law.ensures.prefix _ _ _ _ _ _ _ c.loop-piece.invariant.so_far put split,
    )
