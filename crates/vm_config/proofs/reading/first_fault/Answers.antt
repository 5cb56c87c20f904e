use Rattle.std.proofs.Common.{◌≡◌, ◌≢◌, false, Some, Result, Ok, Err, IfOk, inl, inr, sym, ap, subst, ◌∙◌}
use Rattle.vm_config.specs.declared.config.Config.{Config}
use Rattle.vm_config.specs.declared.error.ConfigError.{ConfigError}
use Rattle.vm_config.specs.declared.error.ConfigError.TheVariants.{NotJson, Missing, Kind, Range, Name, Twice, Trace, Memory}
use Rattle.vm_config.specs.contracts.error.ConfigErrorPartialEq.TheImpl.{ghosts}
use Rattle.vm_config.specs.declared.fault.Fault.{Fault}
use Rattle.vm_config.specs.Located.{config_at}
use Rattle.vm_config.specs.Places.{fault_in, IsOrLacksMemory}
use Rattle.vm_config.proofs.StepLemmas.{value_wanted}
use Rattle.vm_config.proofs.reading.first_fault.Goals.{in-Ok, in-Err+else-eq}
use Rattle.vm_config.proofs.reading.first_fault.Goals as goal

not_memory : (error : ConfigError) → ghosts.eq error Memory ≡ false → error ≢ Memory
not_memory NotJson e is = absurd cc
not_memory Missing e is = absurd cc
not_memory Kind e is = absurd cc
not_memory Range e is = absurd cc
not_memory Name e is = absurd cc
not_memory Twice e is = absurd cc
not_memory (Trace guest step fault) e is = absurd cc
not_memory Memory e is = absurd cc

told : (located wanted : Result Config Fault) (f : Fault)
    → IsOrLacksMemory located wanted → located ≡ Err f → f.error ≢ Memory → Some f ≡ fault_in wanted
told located wanted f (inl same) err other = ap fault_in (sym err ∙ same)
told (Ok x) wanted f (inr lacks) err other = elim lacks [ ]
told (Err g) wanted f (inr lacks) err other = let same : g ≡ f = cc in absurd (other (sym (ap (λ e. e.error) same) ∙ lacks))

pub returns : goal.returns
returns c =
    let wanted = config_at c.args.bytes.now in
    elim c.match-located.branch as (λ _. IfOk c.match-located.result (λ found. found ≡ fault_in wanted)) [
      | in-Ok w ↦ subst (λ answer. IfOk answer (λ found. found ≡ fault_in wanted)) (sym w.result-is)
          (sym (ap fault_in (value_wanted c.located.result wanted w.in-Ok.field-0 c.located.ensures.config w.in-Ok.is)))
      | in-Err+else-eq w ↦ subst (λ answer. IfOk answer (λ found. found ≡ fault_in wanted)) (sym w.result-is)
          (told c.located.result wanted w.in-Err.fault c.located.ensures.config w.in-Err.is
          (not_memory w.in-Err.fault.error (sym w.eq.ensures ∙ w.if-eq.false)))
    ]
