-- A configuration that refuses no list and whose sweep was written.
use Rattle.std.proofs.Common.{◌≡◌, ◌∙◌, ℕ, List, None, Option, Ok, Result, Err, OnOk, sym, subst}
use Rattle.std.specs.Io.KnownBytes.{Appends}
use Rattle.vm_config.specs.declared.config.Config.{Config}
use Rattle.vm_config.specs.Reading.{config_of}
use Rattle.vm_sim.specs.Run.{MeansConfig}
use Rattle.vm_sweep.specs.Combinations.{ValueLists}
use Rattle.vm_sweep.specs.Refusals.{IsAccepted, refusal_of}
use Rattle.vm_sweep.specs.declared.errors.SweepError.{SweepError}
use Rattle.vm_programs.specs.vmsweep.Written.{HasSwept, sweep_of}
use Rattle.vm_programs.specs.declared.vmsweep.asked.Form.{Form}

module _ (old new : Option (List ℕ)) (form : Form) (lists : ValueLists) (text : List ℕ) where
  same-config : (a b : Config) → config_of text ≡ Ok a → config_of text ≡ Ok b → a ≡ b
  same-config a b is_a is_b = cc

  has-swept : MeansConfig (λ config. Appends old new (sweep_of form lists config)) text → IsAccepted lists text
      → MeansConfig (HasSwept old new form lists) text
  has-swept (config, means, written) (other, means_other, accepted) = (
    config,
    means,
    record {
      accepted = subst (λ (c : Config). refusal_of lists c ≡ None) (same-config other config means_other means) accepted;
      written = written;
    },
  )

  pub swept : {T : Type 0} (result : Result T SweepError) → OnOk result (MeansConfig (λ config. Appends old new (sweep_of form lists config)) text)
      → OnOk result (IsAccepted lists text) → OnOk result (MeansConfig (HasSwept old new form lists) text)
  swept (Ok x) written accepted = has-swept written accepted
  swept (Err error) written accepted = tt

  -- the same where the form is known
  pub swept-as : {T : Type 0} (known : Form) → form ≡ known → (result : Result T SweepError)
      → OnOk result (MeansConfig (λ config. Appends old new (sweep_of known lists config)) text) → OnOk result (IsAccepted lists text)
      → OnOk result (MeansConfig (HasSwept old new form lists) text)
  swept-as known is result written accepted =
      swept result
      (subst (λ (f : Form). OnOk result (MeansConfig (λ config. Appends old new (sweep_of f lists config)) text)) (sym is) written) accepted
