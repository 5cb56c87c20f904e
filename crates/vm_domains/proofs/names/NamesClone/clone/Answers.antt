use Rattle.std.proofs.Common.{◌∙◌, string_bytes}
use Rattle.vm_domains.proofs.CopyLemmas.{same-views}
use Rattle.vm_domains.proofs.names.NamesClone.clone.Goals as goal

pub returns : goal.returns
returns c = record { cases = same-views string_bytes _ c.in_ok-names.names.items c.in_ok-names.ensures.cases.0 ∙ c.self.view_is }
