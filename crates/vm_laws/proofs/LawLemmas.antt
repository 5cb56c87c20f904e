-- The text of an import is read.
use Rattle.std.proofs.Common.{◌≡◌, ℕ, ◌≤◌, List, [], length, Ok, Some, ap, ◌∙◌, arith}
use Rattle.vm_config.specs.Reading.{config_of, steps_from}
use Rattle.vm_config.specs.Versions.{version_2}
use Rattle.vm_import.specs.Guests.{epochs_of, guest_of}
use Rattle.vm_import.specs.Imports.{WritesGuest}
use Rattle.vm_import.specs.Intervals.{intervals_of, kept_in}
use Rattle.vm_import.specs.Settings.{Settings}
use Rattle.vm_import.specs.Steps.{trace_of}
use Rattle.vm_import.specs.Texts.{text_of}
use Rattle.vm_import.specs.declared.outcome.Imported.{Imported}
use Rattle.vm_laws.specs.Meaning.{AreSettings, AreWritten, IsImported, IsRead, MeanSteps, actions_of, config_for}
use Rattle.vm_laws.proofs.ConfigLemmas.{config-read, numbers-in-range, small-range}
use Rattle.vm_laws.proofs.JsonLemmas.{read-root}
use Rattle.vm_laws.proofs.RankLemmas.{kept-of-guest}
use Rattle.vm_laws.proofs.SafeLemmas.{name-safe}
use Rattle.vm_laws.proofs.TouchStepLemmas.{mean-length, mean-trace, steps_from-mean, trace-safe}
use Rattle.vm_laws.proofs.TakenLemmas.{fits-written}
use Rattle.vm_laws.proofs.ConfigTextLemmas.{AreAllSafe, numbers_of, text-printed, text-utf8}
use Rattle.vm_import.specs.declared.access.Access.{Access}
use Rattle.serde_json.specs.Read.{read}

module _ (settings : Settings) (accesses : List Access) (few : (guest_of settings accesses).size ≤ 262144) where
  pub trace-means : MeanSteps (guest_of settings accesses).size (guest_of settings accesses).trace (actions_of settings accesses)
  unfolding guest_of trace_of actions_of
  trace-means =
      mean-trace (guest_of settings accesses).size few settings.quantum 1 0
      (kept_in settings.has_code (intervals_of settings.interval accesses)) (kept-of-guest settings accesses)

  steps-safe : AreAllSafe (guest_of settings accesses).trace
  unfolding guest_of trace_of
  steps-safe =
      trace-safe (guest_of settings accesses).size few settings.quantum 1 0
      (kept_in settings.has_code (intervals_of settings.interval accesses)) (kept-of-guest settings accesses)

  steps-read : length (guest_of settings accesses).trace ≤ 1000000
      → steps_from version_2 (guest_of settings accesses).size 0 0 (guest_of settings accesses).trace [] ≡ Ok (actions_of settings accesses)
  steps-read long =
      let trace = (guest_of settings accesses).trace in
      let same = mean-length (guest_of settings accesses).size trace (actions_of settings accesses) trace-means in
      steps_from-mean (guest_of settings accesses).size 0 0 trace (actions_of settings accesses) [] trace-means (omega (arith, long, same))

pub text-read : (settings : Settings) (log : List ℕ) (accesses : List Access) → AreSettings settings → AreWritten settings log accesses
    → IsRead settings accesses
text-read settings log accesses are written =
    let guest = guest_of settings accesses in
    let fits = fits-written settings log accesses written in
    let n = numbers_of settings guest.size (length guest.trace) in
    let range = numbers-in-range settings guest.size (length guest.trace) are written.touched fits.pages fits.epochs in
    let small = small-range n range in
    let name = name-safe settings.name are.name in
    let safe = steps-safe settings accesses fits.pages in
    let value = ap read (text-printed settings guest name safe) ∙ read-root settings.name guest.trace n small in
    let long : length guest.trace ≤ 1000000 = omega (arith, fits.steps, are.steps) in
    let same : length guest.trace ≡ length (actions_of settings accesses) =
    mean-length guest.size guest.trace (actions_of settings accesses) (trace-means settings accesses fits.pages) in
    config-read settings guest.trace (actions_of settings accesses) n range are.name long (steps-read settings accesses fits.pages long)
    (text_of settings guest) (text-utf8 settings guest name safe small) value
    ∙ ap (λ (count : ℕ). Ok (record (config_for settings guest.size (actions_of settings accesses)) { epochs = epochs_of settings.quantum count })) same

-- what stands where nothing stood before
pub text-imported : (settings : Settings) (imported : Imported) (log text : List ℕ) → AreSettings settings
    → WritesGuest settings (Some log) (Some []) (Some text) imported → IsImported settings log text
text-imported settings imported log text are (accesses, taken, intervals, both) =
    let written : AreWritten settings log accesses = record { limit = imported.limit; taken = taken; touched = both.0 } in
    let same : text ≡ text_of settings (guest_of settings accesses) = both.1 in
    record {
      accesses = accesses;
      written = written;
      read = ap config_of same ∙ text-read settings log accesses are written;
      short = rw same (fits-written settings log accesses written).bytes;
    }
