use Rattle.vm_check.proofs.RangeLemmas.{pages_first, pages_later}
use Rattle.vm_check.proofs.range.most_pages.Goals as goal

pub returns-then-version-eq1 : goal.returns-then-version-eq1
returns-then-version-eq1 c = pages_first c.args.version c.if-version-eq1.true

pub returns-else-version-eq1 : goal.returns-else-version-eq1
returns-else-version-eq1 c = pages_later c.args.version c.if-version-eq1.false
