use Rattle.vm_json.proofs.RunLemmas.{others_mask}
use Rattle.vm_json.proofs.plain.run.others.Goals as goal

pub returns : goal.returns
returns c = others_mask c.args.lanes c.fits-lanes.0
