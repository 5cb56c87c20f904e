use Rattle.std.proofs.Common.{sym, subst}
use Rattle.std.specs.Fmt.{DisplaysOnOk}
use Rattle.vm_config.specs.FaultTexts.{report_at}
use Rattle.vm_config.specs.declared.error.ConfigError.{ConfigError}
use Rattle.vm_config.proofs.fault.FaultDisplay.fmt.Goals as goal

pub returns-in-Trace-clause-writes : goal.returns-in-Trace-clause-writes
returns-in-Trace-clause-writes g c =
    let took = g.W.Write.write_str_gives in
    let place = c.args.self.now.place in
    subst (λ (e : ConfigError). DisplaysOnOk {W = g.row.W.Denot} took c.args.f.now c.write.result (report_at place e) c.write.new.self)
    (sym c.in-Trace.is) c.write.ensures.writes
