use Rattle.std.proofs.Common.{◌≤◌, length}
use Rattle.simit_io.proofs.PutBytes.{HasPut}
use Rattle.simit_io.proofs.writing.put_all.Given as goal

abbrev pub invariant-loop-rest : goal.invariant-loop-rest
invariant-loop-rest g l = record {
  so_far : HasPut (g.O.Sink.written l.fn.sink) (g.O.Sink.written l.sink) l.fn.bytes l.rest;
  counted : g.O.Sink.faults l.fn.sink ≤ g.O.Sink.faults l.sink;
}

abbrev pub decreases-loop-rest : goal.decreases-loop-rest
decreases-loop-rest g l = length l.rest
