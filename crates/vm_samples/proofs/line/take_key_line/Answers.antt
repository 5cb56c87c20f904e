use Rattle.std.proofs.Common.{Some, sym, take}
use Rattle.vm_samples.specs.Steps.{key_seen}
use Rattle.vm_samples.proofs.SampleLemmas.{other_is_bad, spaced_no_domain, spaced_some, with_key_line}
use Rattle.vm_samples.proofs.line.take_key_line.Goals as goal

pub returns-in_default-clause-bad : goal.returns-in_default-clause-bad
returns-in_default-clause-bad c =
    let line = take c.args.len c.args.text.now in
    other_is_bad line c.args.domains.now (spaced_some line c.requires.space) (spaced_no_domain line c.requires.space) (sym c.in_default.ensures)

pub returns-clause-ok : goal.returns-clause-ok
returns-clause-ok c =
    let line = take c.args.len c.args.text.now in
    rw (with_key_line line (Some (key_seen c.in-Some.told)) c.args.domains.now (spaced_some line c.requires.space) (spaced_no_domain line c.requires.space) (sym c.in-Some.ensures))
    c.take_key.ensures.ok

pub returns-clause-bad : goal.returns-clause-bad
returns-clause-bad c =
    let line = take c.args.len c.args.text.now in
    rw (with_key_line line (Some (key_seen c.in-Some.told)) c.args.domains.now (spaced_some line c.requires.space) (spaced_no_domain line c.requires.space) (sym c.in-Some.ensures))
    c.take_key.ensures.bad
