-- The keys of a guest, step by step.
use Rattle.std.proofs.Common.{◌≡◌, ℕ, List, [], None, Result, Ok, Err, IfOk, length, codes, refl, subst}
use Rattle.serde_json.specs.Data.{Data}
use Rattle.serde_json.specs.Find.{get}
use Rattle.vm_domains.specs.Domains.{Domain, position_of}
use Rattle.vm_guest.specs.Config.{IsWithinLimits}
use Rattle.vm_trace.specs.declared.step.Step.{Step}
use Rattle.vm_config.specs.declared.fault.Fault.{Fault}
use Rattle.vm_config.specs.declared.guest_keys.Choices.{Choices}
use Rattle.vm_config.specs.declared.guest_keys.Pages.{Pages}
use Rattle.vm_config.specs.declared.guest_keys.Rates.{Rates}
use Rattle.vm_config.specs.declared.guests.Named.{Named}
use Rattle.vm_config.specs.declared.place.Key.TheVariants.{Name, Trace}
use Rattle.vm_config.specs.declared.place.Part.{Part}
use Rattle.vm_config.specs.declared.place.Part.TheVariants.{Guest}
use Rattle.vm_config.specs.declared.version.Limits.{Limits}
use Rattle.vm_config.specs.Guests.{Listed}
use Rattle.vm_config.specs.Keys.{texts_or_none}
use Rattle.vm_config.specs.Located.{choices_at, guest_at, keys_of_guest, pages_at, rates_at}
use Rattle.vm_config.specs.Named.{listed_seen}
use Rattle.vm_config.specs.Places.{at, IsOrLacksMemory}
use Rattle.vm_config.specs.Reading.{name_in, steps_from}
use Rattle.vm_config.proofs.StepLemmas.{no_value}

abbrev pub name_at : Data → List Domain → Part → Result (List ℕ) Fault
name_at d earlier guest = at guest Name (name_in earlier (get (codes "name") d))

abbrev pub texts_at : Data → Part → Result (List (List ℕ)) Fault
texts_at d guest = at guest Trace (texts_or_none 1000000 (get (codes "trace") d))

abbrev pub trace_at : Limits → List Domain → Part → Pages → List (List ℕ) → Result (List Step) Fault
trace_at limits earlier guest pages texts = at guest Trace (steps_from limits pages.size (length earlier) 0 texts [])

abbrev pub listed_with : (quantum page : ℕ) → List ℕ → Pages → Rates → Choices → List Step → Listed
listed_with quantum page name pages rates choices trace = record {
  domain = record {
    name = name;
    config = record {
      size = pages.size;
      min = pages.min;
      shares = rates.shares;
      samples = rates.samples;
      period = rates.period;
      rate = rates.rate;
      quantum = quantum;
      seed = choices.seed;
      stream = choices.stream;
      tell = choices.tell;
      own_driver = choices.own_driver;
      page = page;
      trace = trace;
    };
  };
  autostart = choices.autostart;
}

-- the keys between the name and the texts were read
pub record ReadsKeys (limits : Limits) (d : Data) (guest : Part) (pages : Pages) (rates : Rates) (choices : Choices) : Type 0 where
  pub pages_are : pages_at limits d guest ≡ Ok pages
  pub rates_are : rates_at d guest ≡ Ok rates
  pub choices_are : choices_at limits d guest ≡ Ok choices

pub name_fails : (limits : Limits) (quantum page : ℕ) (d : Data) (earlier : List Domain) (guest : Part) (f : Fault)
    → name_at d earlier guest ≡ Err f → keys_of_guest limits quantum page d earlier guest ≡ Err f
unfolding keys_of_guest
name_fails limits quantum page d earlier guest f is = rw is refl

pub pages_fail : (limits : Limits) (quantum page : ℕ) (d : Data) (earlier : List Domain) (guest : Part) (name : List ℕ) (f : Fault)
    → name_at d earlier guest ≡ Ok name → pages_at limits d guest ≡ Err f → keys_of_guest limits quantum page d earlier guest ≡ Err f
unfolding keys_of_guest
pages_fail limits quantum page d earlier guest name f first is = rw (first, is) refl

pub rates_fail : (limits : Limits) (quantum page : ℕ) (d : Data) (earlier : List Domain) (guest : Part) (name : List ℕ) (pages : Pages) (f : Fault)
    → name_at d earlier guest ≡ Ok name → pages_at limits d guest ≡ Ok pages → rates_at d guest ≡ Err f
    → keys_of_guest limits quantum page d earlier guest ≡ Err f
unfolding keys_of_guest
rates_fail limits quantum page d earlier guest name pages f first second is = rw (first, second, is) refl

pub choices_fail : (limits : Limits) (quantum page : ℕ) (d : Data) (earlier : List Domain) (guest : Part) (name : List ℕ) (pages : Pages)
    (rates : Rates) (f : Fault)
    → name_at d earlier guest ≡ Ok name → pages_at limits d guest ≡ Ok pages → rates_at d guest ≡ Ok rates
    → choices_at limits d guest ≡ Err f → keys_of_guest limits quantum page d earlier guest ≡ Err f
unfolding keys_of_guest
choices_fail limits quantum page d earlier guest name pages rates f first second third is = rw (first, second, third, is) refl

pub texts_fail : (limits : Limits) (quantum page : ℕ) (d : Data) (earlier : List Domain) (guest : Part) (name : List ℕ) (pages : Pages)
    (rates : Rates) (choices : Choices) (f : Fault)
    → name_at d earlier guest ≡ Ok name → ReadsKeys limits d guest pages rates choices
    → texts_at d guest ≡ Err f → keys_of_guest limits quantum page d earlier guest ≡ Err f
unfolding keys_of_guest
texts_fail limits quantum page d earlier guest name pages rates choices f first keys is =
    rw (first, keys.pages_are, keys.rates_are, keys.choices_are, is) refl

pub trace_fails : (limits : Limits) (quantum page : ℕ) (d : Data) (earlier : List Domain) (guest : Part) (name : List ℕ) (pages : Pages)
    (rates : Rates) (choices : Choices) (texts : List (List ℕ)) (f : Fault)
    → name_at d earlier guest ≡ Ok name → ReadsKeys limits d guest pages rates choices → texts_at d guest ≡ Ok texts
    → trace_at limits earlier guest pages texts ≡ Err f → keys_of_guest limits quantum page d earlier guest ≡ Err f
unfolding keys_of_guest
trace_fails limits quantum page d earlier guest name pages rates choices texts f first keys second is =
    rw (first, keys.pages_are, keys.rates_are, keys.choices_are, second, is) refl

pub guest_is : (limits : Limits) (quantum page : ℕ) (d : Data) (earlier : List Domain) (guest : Part) (name : List ℕ) (pages : Pages)
    (rates : Rates) (choices : Choices) (texts : List (List ℕ)) (trace : List Step)
    → name_at d earlier guest ≡ Ok name → ReadsKeys limits d guest pages rates choices → texts_at d guest ≡ Ok texts
    → trace_at limits earlier guest pages texts ≡ Ok trace
    → keys_of_guest limits quantum page d earlier guest ≡ Ok (listed_with quantum page name pages rates choices trace)
unfolding keys_of_guest
guest_is limits quantum page d earlier guest name pages rates choices texts trace first keys second is =
    rw (first, keys.pages_are, keys.rates_are, keys.choices_are, second, is) refl

-- the guest of this number comes after the earlier ones
pub numbered : (limits : Limits) (quantum page : ℕ) (d : Data) (earlier : List Domain) (number : ℕ) (answer : Result Listed Fault)
    → number ≡ length earlier → keys_of_guest limits quantum page d earlier (Guest number) ≡ answer
    → guest_at limits quantum page d earlier ≡ answer
numbered limits quantum page d earlier number answer is keys =
    subst (λ n. keys_of_guest limits quantum page d earlier (Guest n) ≡ answer) is keys

-- what is promised of an answer, and holds of a failure
abbrev pub Promises : Limits → (quantum page : ℕ) → Data → List Domain → Result Named Fault → Type 0
Promises limits quantum page d earlier answer = record {
  guest : IsOrLacksMemory (listed_seen answer) (guest_at limits quantum page d earlier);
  new_name : IfOk answer (λ named. position_of named.name.now earlier ≡ None);
  within : IfOk answer (λ named. IsWithinLimits named.spec);
}

pub failed : (limits : Limits) (quantum page : ℕ) (d : Data) (earlier : List Domain) (answer : Result Named Fault) (f : Fault)
    → answer ≡ Err f → IsOrLacksMemory (listed_seen answer) (guest_at limits quantum page d earlier)
    → Promises limits quantum page d earlier answer
failed limits quantum page d earlier answer f is right = record {
  guest = right;
  new_name = no_value (λ named. position_of named.name.now earlier ≡ None) answer f is;
  within = no_value (λ named. IsWithinLimits named.spec) answer f is;
}
