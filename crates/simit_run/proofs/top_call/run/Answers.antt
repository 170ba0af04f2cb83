use Rattle.std.proofs.Common.{map, string_bytes, refl}
use Rattle.simit_io.specs.Inputs.{Rose}
use Rattle.command_words.specs.Commands.{words_of}
use Rattle.simit_run.specs.Hosts.{hosts_of}
use Rattle.simit_run.proofs.Endings.{ends_without_command, ends_without_memory, refused_words}
use Rattle.simit_run.proofs.top_call.run.Goals as goal

pub returns-in-Err-Refused-clause-ending : goal.returns-in-Err-Refused-clause-ending
returns-in-Err-Refused-clause-ending g c =
    let known = g.I.Inputs.holds c.args.inputs.now in
    let texts = map string_bytes c.args.words.now in
    let inputs_rose = Rose (g.I.Inputs.faults c.args.inputs.now) (g.I.Inputs.faults c.args.inputs.now) in
    let out_rose = Rose (g.O.Sink.faults c.args.out.now) (g.O.Sink.faults c.args.out.now) in
    let notes_rose = Rose (g.N.Sink.faults c.args.notes.now) (g.N.Sink.faults c.put_usage.new.notes) in
    let out = g.O.Sink.written c.args.out.now in
    ends_without_command (hosts_of g.H.HostMeaning.answer c.args.hosts.now) c.putting_law.ensures.nothing known texts inputs_rose out_rose notes_rose out out (g.N.Sink.written c.args.notes.now) (g.N.Sink.written c.put_usage.new.notes)
    (refused_words (words_of texts) c.in-Err-Refused.field-0 c.in-Err-Refused.field-0-is c.in-Err-Refused.ensures.value) refl c.put_usage.ensures.note

pub returns-in-Err-Memory-clause-ending : goal.returns-in-Err-Memory-clause-ending
returns-in-Err-Memory-clause-ending g c =
    let known = g.I.Inputs.holds c.args.inputs.now in
    let texts = map string_bytes c.args.words.now in
    let inputs_rose = Rose (g.I.Inputs.faults c.args.inputs.now) (g.I.Inputs.faults c.args.inputs.now) in
    let out_rose = Rose (g.O.Sink.faults c.args.out.now) (g.O.Sink.faults c.args.out.now) in
    let notes_rose = Rose (g.N.Sink.faults c.args.notes.now) (g.N.Sink.faults c.put_memory.new.notes) in
    let out = g.O.Sink.written c.args.out.now in
    ends_without_memory (hosts_of g.H.HostMeaning.answer c.args.hosts.now) c.putting_law.ensures.nothing known texts inputs_rose out_rose notes_rose out out (g.N.Sink.written c.args.notes.now) (g.N.Sink.written c.put_memory.new.notes) refl c.put_memory.ensures.note
