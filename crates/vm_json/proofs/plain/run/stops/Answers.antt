use Rattle.vm_json.proofs.RunLemmas.{stops_mask}
use Rattle.vm_json.proofs.plain.run.stops.Goals as goal

pub returns : goal.returns
returns c = stops_mask c.args.lanes c.fits-lanes.0
