use Rattle.sim_printer.proofs.printer.print.Goals as goal

pub returns-in_err-write-clause-reads_back : goal.returns-in_err-write-clause-reads_back
returns-in_err-write-clause-reads_back c = λ source all are derives. c.printing_law.ensures.reads_back c.args.program.now source all are derives

pub returns-clause-reads_back : goal.returns-clause-reads_back
returns-clause-reads_back c = λ source all are derives. c.printing_law.ensures.reads_back c.args.program.now source all are derives
