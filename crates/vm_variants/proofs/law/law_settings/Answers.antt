use Rattle.vm_variants.proofs.SettingLemmas.{later, limits, same, stands}
use Rattle.vm_variants.proofs.law.law_settings.Goals as goal

pub returns-clause-limits : goal.returns-clause-limits
returns-clause-limits c = limits

pub returns-clause-stands : goal.returns-clause-stands
returns-clause-stands c = stands

pub returns-clause-same : goal.returns-clause-same
returns-clause-same c = same

pub returns-clause-later : goal.returns-clause-later
returns-clause-later c = later
