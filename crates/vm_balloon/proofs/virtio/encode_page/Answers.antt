use Rattle.std.proofs.Common.{arith}
use Rattle.vm_balloon.proofs.VirtioLemmas.{page_read}
use Rattle.vm_balloon.proofs.virtio.encode_page.Goals as goal

pub returns-clause-bytes : goal.returns-clause-bytes
returns-clause-bytes c = assumption

pub returns-clause-reads_back : goal.returns-clause-reads_back
returns-clause-reads_back c = page_read _ c.args.page (omega arith) assumption
