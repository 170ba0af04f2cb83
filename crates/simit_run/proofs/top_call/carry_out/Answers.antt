use Rattle.std.proofs.Common.{refl}
use Rattle.simit_io.specs.Inputs.{Rose}
use Rattle.simit_run.specs.Hosts.{hosts_of}
use Rattle.simit_run.proofs.Endings.{ends_cut, ends_done, ends_failed}
use Rattle.simit_run.proofs.top_call.carry_out.Goals as goal

pub returns-in-Ok-put-clause-ending : goal.returns-in-Ok-put-clause-ending
returns-in-Ok-put-clause-ending g c texts is =
    let known = g.I.Inputs.holds c.args.inputs.now in
    let inputs_rose = Rose (g.I.Inputs.faults c.args.inputs.now) (g.I.Inputs.faults c.answer.new.inputs) in
    let out_rose = Rose (g.O.Sink.faults c.args.out.now) (g.O.Sink.faults c.put.new.out) in
    let notes_rose = Rose (g.N.Sink.faults c.args.notes.now) (g.N.Sink.faults c.args.notes.now) in
    let notes = g.N.Sink.written c.args.notes.now in
    ends_done (hosts_of g.H.HostMeaning.answer c.args.hosts.now) c.putting_law.ensures.nothing known texts inputs_rose out_rose notes_rose (g.O.Sink.written c.args.out.now) (g.O.Sink.written c.put.new.out) notes notes c.args.words.now is
    _ c.in-Ok.ensures.shows c.in-Ok-put.ensures.whole refl

pub returns-in-Err-put-clause-ending : goal.returns-in-Err-put-clause-ending
returns-in-Err-put-clause-ending g c texts is =
    let known = g.I.Inputs.holds c.args.inputs.now in
    let inputs_rose = Rose (g.I.Inputs.faults c.args.inputs.now) (g.I.Inputs.faults c.answer.new.inputs) in
    let out_rose = Rose (g.O.Sink.faults c.args.out.now) (g.O.Sink.faults c.put.new.out) in
    let notes_rose = Rose (g.N.Sink.faults c.args.notes.now) (g.N.Sink.faults c.put_write_fault.new.notes) in
    ends_cut (hosts_of g.H.HostMeaning.answer c.args.hosts.now) c.putting_law.ensures.nothing known texts inputs_rose out_rose notes_rose (g.O.Sink.written c.args.out.now) (g.O.Sink.written c.put.new.out) (g.N.Sink.written c.args.notes.now) (g.N.Sink.written c.put_write_fault.new.notes)
    c.args.words.now is _ c.in-Ok.ensures.shows c.in-Err-put.ensures.failed c.in-Err-put.ensures.prefix c.put_write_fault.ensures.note

pub returns-in-Err-clause-ending : goal.returns-in-Err-clause-ending
returns-in-Err-clause-ending g c texts is =
    let known = g.I.Inputs.holds c.args.inputs.now in
    let inputs_rose = Rose (g.I.Inputs.faults c.args.inputs.now) (g.I.Inputs.faults c.answer.new.inputs) in
    let out_rose = Rose (g.O.Sink.faults c.args.out.now) (g.O.Sink.faults c.args.out.now) in
    let notes_rose = Rose (g.N.Sink.faults c.args.notes.now) (g.N.Sink.faults c.put_note.new.notes) in
    let out = g.O.Sink.written c.args.out.now in
    rw c.status_of.ensures
    (ends_failed (hosts_of g.H.HostMeaning.answer c.args.hosts.now) c.putting_law.ensures.nothing known texts inputs_rose out_rose notes_rose out out (g.N.Sink.written c.args.notes.now) (g.N.Sink.written c.put_note.new.notes) c.args.words.now is
    c.in-Err.failure c.in-Err.ensures.shows refl c.put_note.ensures.note)
