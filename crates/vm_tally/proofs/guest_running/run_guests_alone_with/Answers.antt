use Rattle.vm_tally.proofs.guest_running.run_guests_alone_with.Goals as goal

pub returns-clause-summaries : goal.returns-clause-summaries
returns-clause-summaries c = c.in_ok-summaries.ensures.summaries c.args.config c.in_ok-run.ensures.start

pub returns-clause-back : goal.returns-clause-back
returns-clause-back c =
    c.close_keeping-config.ensures.back c.args.config c.args.config.epochs (c.in_ok-summaries.ensures.run c.args.config c.in_ok-run.ensures.start)
