use Rattle.std.proofs.Common.{◌≡◌, ◌∙◌, sym}
use Rattle.vm_log.proofs.EntryLemmas.{few_steered}
use Rattle.vm_log.proofs.raising.raise.Goals as goal

pub raise_steered-requires : goal.raise_steered-requires
raise_steered-requires c = few_steered c.args.entries.now _ c.in-Some.seen c.requires.few (sym c.steered_in.ensures ∙ c.in-Some.is)
