use Rattle.std.proofs.Common.{◌≡◌, ◌≤◌, ◌-◌, ◌*◌, min, vec_len}
use Rattle.std.specs.Prelude.{vec_capacity}
use Rattle.simit_io.proofs.TakenBytes.{IsAt}
use Rattle.simit_io.proofs.reading.read_all.Given as goal

abbrev pub invariant-chunks : goal.invariant-chunks
invariant-chunks g l = record {
  within : vec_len l.bytes ≤ l.most;
  capacity : vec_capacity l.bytes ≤ min l.most (2 * vec_len l.bytes);
  taken : IsAt (g.I.Inputs.holds l.fn.inputs) l.fn.name l.bytes.items (g.I.Inputs.left l.inputs);
  same_files : g.I.Inputs.holds l.inputs ≡ g.I.Inputs.holds l.fn.inputs;
  counted : g.I.Inputs.faults l.fn.inputs ≤ g.I.Inputs.faults l.inputs;
}

abbrev pub decreases-chunks : goal.decreases-chunks
decreases-chunks g l = l.most - vec_len l.bytes
