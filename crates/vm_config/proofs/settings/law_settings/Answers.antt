use Rattle.vm_config.proofs.SettingLemmas.{with_setting-limits, with_setting-same, with_setting-stands}
use Rattle.vm_config.proofs.settings.law_settings.Goals as goal

pub returns-clause-limits : goal.returns-clause-limits
returns-clause-limits c = with_setting-limits

pub returns-clause-stands : goal.returns-clause-stands
returns-clause-stands c = with_setting-stands

pub returns-clause-same : goal.returns-clause-same
returns-clause-same c = with_setting-same
