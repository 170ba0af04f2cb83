use Rattle.std.proofs.Common.{◌≡◌, ◌≤◌, take, vec_capacity}
use Rattle.simit_io.specs.Sink.{Puts}
use Rattle.simit_run.specs.Output.{texts_of}
use Rattle.simit_run.proofs.writing.put_tables.Given as goal

-- the tables so far were put whole, and the buffer has the same capacity
abbrev pub invariant-loop-number : goal.invariant-loop-number
invariant-loop-number g l = record {
  so_far : Puts (g.O.Sink.written l.fn.out) (g.O.Sink.written l.out) (texts_of (take l.number l.schemas) (take l.number l.sets));
  counted : g.O.Sink.faults l.fn.out ≤ g.O.Sink.faults l.out;
  capacity : vec_capacity l.buffer ≡ vec_capacity l.fn.buffer;
}
