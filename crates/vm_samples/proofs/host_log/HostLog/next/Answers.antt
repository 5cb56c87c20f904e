use Rattle.vm_samples.proofs.FrontLemmas.{gives_moved}
use Rattle.vm_samples.proofs.host_log.HostLog.next.Goals as goal

pub returns-clause-gives : goal.returns-clause-gives
returns-clause-gives g c =
    gives_moved c.in_ok-front.front.is_ended c.self.inside.ahead.items c.find_front.new.bytes.items c.cut.new.block.items c.cut.new.bytes.items
    (g.R.Source.remaining c.args.source.now) (g.R.Source.remaining c.find_front.new.source) c.in_ok-front.front c.args.self.now c.self.inside.block.items
    c.self.view_is c.in_ok-cut.ensures.block c.in_ok-cut.ensures.ahead c.in_ok-front.ensures.taken c.in_ok-front.ensures.front c.in_ok-front.ensures.end
