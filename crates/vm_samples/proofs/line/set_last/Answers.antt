use Rattle.std.proofs.Common.{ap, sym, ◌∙◌, ◌-◌, length, set}
use Rattle.vm_samples.specs.Samples.{DomainView}
use Rattle.vm_samples.specs.SampleLines.{with_value}
use Rattle.vm_samples.proofs.SampleLemmas.{with_last-set}
use Rattle.vm_samples.proofs.line.set_last.Goals as goal

pub returns : goal.returns
returns c =
    let domains = c.args.domains.now in
    ap (λ (d : DomainView). set domains (length domains - 1) d) c.set.ensures
    ∙ sym (with_last-set (with_value c.args.field c.args.number) domains c.index-domains-last.result c.requires)
