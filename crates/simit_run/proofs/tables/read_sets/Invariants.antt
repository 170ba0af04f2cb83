use Rattle.std.proofs.Common.{◌≡◌, ◌≤◌, [], length, drop}
use Rattle.simit_run.specs.Answer.{with_set}
use Rattle.simit_run.specs.Shown.{GoesOn}
use Rattle.simit_run.specs.Stage.{fold_stages}
use Rattle.simit_run.specs.TableContracts.{AreRead}
use Rattle.simit_run.proofs.tables.read_sets.Given as goal

-- the sets so far are read, and the whole goes on with the tables that are left
abbrev pub invariant-loop-number : goal.invariant-loop-number
invariant-loop-number g l =
    let texts = l.names in
    record {
      many : length l.sets.items ≡ l.number;
      read : AreRead l.typed l.sets.items;
      left : GoesOn (g.I.Inputs.holds l.fn.inputs) (fold_stages (with_set l.typed) [] texts) (fold_stages (with_set l.typed) l.sets.items (drop l.number texts));
      same_files : g.I.Inputs.holds l.inputs ≡ g.I.Inputs.holds l.fn.inputs;
      counted : g.I.Inputs.faults l.fn.inputs ≤ g.I.Inputs.faults l.inputs;
    }
