use Rattle.std.proofs.Common.{sym}
use Rattle.vm_samples.proofs.SampleLemmas.{domain_goes_on, some_line}
use Rattle.vm_samples.proofs.line.take_domain_line.Goals as goal

pub returns-clause-ok : goal.returns-clause-ok
returns-clause-ok c =
    domain_goes_on c.args.line.now c.in-Some.name.now c.args.domains.now.items c.add_domain.new.domains.items
    (some_line c.args.line.now c.requires.some) (sym c.in-Some.ensures) c.in_ok-add_domain.ensures.ok
