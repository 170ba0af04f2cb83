use Rattle.std.proofs.Common.{map, take, ◌≤◌}
use Rattle.std.specs.List.{concat}
use Rattle.simit_io.specs.Sink.{Puts}
use Rattle.run_notes.proofs.note.put_pieces.Given as goal

-- the pieces so far were put whole
abbrev pub invariant-loop-piece : goal.invariant-loop-piece
invariant-loop-piece g l = record {
  so_far : Puts (g.N.Sink.written l.fn.notes) (g.N.Sink.written l.notes) (concat (take l.piece-index (map (λ p. p.now) l.pieces)));
  counted : g.N.Sink.faults l.fn.notes ≤ g.N.Sink.faults l.notes;
}
