use Rattle.vm_tally.proofs.running.run_alone_with.Goals as goal

pub returns-clause-back : goal.returns-clause-back
returns-clause-back c =
    c.close_keeping-config.ensures.back c.args.config c.args.config.epochs (c.in_ok-summary.ensures.run c.args.config c.in_ok-run.ensures.start)
