-- A text of version 2 that is read means what it is as version 3.
use Rattle.std.proofs.Common.{◌≡◌, ◌≢◌, ℕ, ◌+◌, List, [], ◌∷◌, ◌++◌, length, Bool, true, false, bytes_eq, Result, Ok, Err, codes, refl, ap, sym, ◌∙◌}
use Rattle.std.proofs.lemmas.Bool.{false≢true}
use Rattle.serde_json.specs.Data.{Data}
use Rattle.serde_json.specs.Find.{get}
use Rattle.vm_domains.specs.Domains.{Domain}
use Rattle.vm_domains.specs.Machine.{MachineConfig}
use Rattle.vm_trace.specs.declared.step.Step.{Step}
use Rattle.vm_trace.specs.declared.error.TraceError.{TraceError}
use Rattle.vm_trace.specs.Sized.{steps_with}
use Rattle.vm_trace.specs.Versions.{before_3}
use Rattle.vm_config.specs.declared.config.Config.{Config}
use Rattle.vm_config.specs.declared.error.ConfigError.{ConfigError}
use Rattle.vm_config.specs.declared.error.ConfigError.TheVariants.{Trace}
use Rattle.vm_config.specs.declared.guests.GuestList.{GuestList}
use Rattle.vm_config.specs.AsVersion3.{AreGuestsAsVersion3, IsAsVersion3, IsGuestAsVersion3, IsRootAsVersion3}
use Rattle.vm_config.specs.Guests.{Listed, no_guests, with_guest}
use Rattle.vm_config.specs.Keys.{flag_or, number_or, objects_or_none, required_number, texts_or_none}
use Rattle.vm_config.specs.Outcomes.{◌>>=◌}
use Rattle.vm_config.specs.Reading.{at_place, config_of, guests_from, keys_in, listed_in, machine_in, name_in, step_limits, steps_from}
use Rattle.vm_config.specs.Versions.{version_2, version_3}
use Rattle.vm_config.proofs.NewerStepLemmas.{with-newer}

-- what is read of the first is read of the second
record Refines {A : Type 0} (old new : Result A ConfigError) : Type 0 where
  follows : (x : A) → old ≡ Ok x → new ≡ Ok x

refines_same : {A : Type 0} (read : Result A ConfigError) → Refines read read
refines_same read = record { follows = λ x is. is }

refines_fault : {A : Type 0} (error : ConfigError) (new : Result A ConfigError) → Refines (Err error) new
refines_fault error new = record { follows = λ x is. absurd (cc) }

-- the same is read, and then the rest
refines_rest : {A B : Type 0} (read : Result A ConfigError) (next_old next_new : A → Result B ConfigError)
    → ((x : A) → Refines (next_old x) (next_new x)) → Refines (read >>= next_old) (read >>= next_new)
refines_rest (Ok x) next_old next_new rest = rest x
refines_rest (Err e) next_old next_new rest = refines_same (Err e)

refines_then : {A B : Type 0} (old new : Result A ConfigError) (next_old next_new : A → Result B ConfigError)
    → Refines old new → ((x : A) → Refines (next_old x) (next_new x)) → Refines (old >>= next_old) (new >>= next_new)
refines_then (Ok x) new next_old next_new first rest =
    record { follows = λ y is. ap (λ r. r >>= next_new) (first.follows x refl) ∙ (rest x).follows y is }
refines_then (Err e) new next_old next_new first rest = refines_fault e (new >>= next_new)

-- ---- steps

placed : {A : Type 0} (guest number : ℕ) (old new : Result A TraceError) → ((x : A) → old ≡ Ok x → new ≡ Ok x)
    → Refines (at_place guest number old) (at_place guest number new)
placed guest number (Ok x) new more = record { follows = λ y is. ap (at_place guest number) (more x refl) ∙ is }
placed guest number (Err fault) new more = refines_fault (Trace guest number fault) (at_place guest number new)

step-refines : (size guest number : ℕ) (text : List ℕ) (done : List Step)
    → Refines (at_place guest number (steps_with (step_limits version_2) size text done)) (at_place guest number (steps_with (step_limits version_3) size text done))
unfolding version_2 version_3
step-refines size guest number text done =
    placed guest number (steps_with (before_3 262144) size text done) (steps_with (step_limits version_3) size text done) (with-newer size text done)

steps-refine : (size guest number : ℕ) (texts : List (List ℕ)) (done : List Step)
    → Refines (steps_from version_2 size guest number texts done) (steps_from version_3 size guest number texts done)
steps-refine size guest number [] done = refines_same (Ok done)
steps-refine size guest number (text ∷ texts) done =
    refines_then (at_place guest number (steps_with (step_limits version_2) size text done)) (at_place guest number (steps_with (step_limits version_3) size text done))
    (λ steps. steps_from version_2 size guest (number + 1) texts steps)
    (λ steps. steps_from version_3 size guest (number + 1) texts steps)
    (step-refines size guest number text done)
    (λ (steps : List Step). steps-refine size guest (number + 1) texts steps)

-- ---- guests

-- two words that are told apart are not the same
pub other : (key word : List ℕ) → bytes_eq key word ≡ false → bytes_eq word word ≡ true → key ≢ word
other key word apart same is = absurd (false≢true (sym apart ∙ ap (λ k. bytes_eq k word) is ∙ same))

module _ (quantum page : ℕ) (old new : Data) (alike : IsGuestAsVersion3 old new) (earlier : List Domain) where
  kept : (key : List ℕ) → bytes_eq key (codes "driver") ≡ false → get key new ≡ get key old
  kept key apart = alike.others key (other key (codes "driver") apart refl)

  guest-refines : Refines (listed_in version_2 quantum page old earlier) (listed_in version_3 quantum page new earlier)
  unfolding listed_in version_2 version_3
  guest-refines =
      rw (kept (codes "name") refl, kept (codes "size") refl, kept (codes "min") refl, kept (codes "shares") refl, kept (codes "samples") refl, kept (codes "period") refl, kept (codes "rate") refl, kept (codes "seed") refl, kept (codes "stream") refl, kept (codes "autostart") refl, kept (codes "tell") refl, kept (codes "trace") refl, alike.own)
      (refines_rest (name_in earlier (get (codes "name") old)) _ _ (λ (name : List ℕ).
      refines_rest (required_number (get (codes "size") old) 1 262144) _ _ (λ (size : ℕ).
      refines_rest (required_number (get (codes "min") old) 1 size) _ _ (λ (min : ℕ).
      refines_rest (number_or (get (codes "shares") old) 1 1000000 1000) _ _ (λ (shares : ℕ).
      refines_rest (number_or (get (codes "samples") old) 1 1000 100) _ _ (λ (samples : ℕ).
      refines_rest (number_or (get (codes "period") old) 1 1000000 1000) _ _ (λ (period : ℕ).
      refines_rest (number_or (get (codes "rate") old) 1 256 16) _ _ (λ (rate : ℕ).
      refines_rest (number_or (get (codes "seed") old) 0 18446744073709551615 0) _ _ (λ (seed : ℕ).
      refines_rest (number_or (get (codes "stream") old) 0 18446744073709551615 0) _ _ (λ (stream : ℕ).
      refines_rest (flag_or (get (codes "autostart") old) true) _ _ (λ (autostart : Bool).
      refines_rest (flag_or (get (codes "tell") old) true) _ _ (λ (tell : Bool).
      refines_rest (texts_or_none 1000000 (get (codes "trace") old)) _ _ (λ (texts : List (List ℕ)).
      refines_then (steps_from version_2 size (length earlier) 0 texts []) (steps_from version_3 size (length earlier) 0 texts []) _ _
      (steps-refine size (length earlier) 0 texts [])
      (λ (trace : List Step). refines_same _))))))))))))))

guests-refine : (quantum page : ℕ) (olds news : List Data) (earlier : GuestList) → AreGuestsAsVersion3 olds news
    → Refines (guests_from version_2 quantum page olds earlier) (guests_from version_3 quantum page news earlier)
guests-refine quantum page [] [] earlier alike = refines_same (Ok earlier)
guests-refine quantum page [] (new ∷ news) earlier alike = absurd alike
guests-refine quantum page (old ∷ olds) [] earlier alike = absurd alike
guests-refine quantum page (old ∷ olds) (new ∷ news) earlier alike =
    refines_then (listed_in version_2 quantum page old earlier.domains) (listed_in version_3 quantum page new earlier.domains)
    (λ listed. guests_from version_2 quantum page olds (with_guest earlier listed))
    (λ listed. guests_from version_3 quantum page news (with_guest earlier listed))
    (guest-refines quantum page old new alike.0 earlier.domains)
    (λ (listed : Listed). guests-refine quantum page olds news (with_guest earlier listed) alike.1)

-- ---- the root

module _ (old new : Data) (alike : IsRootAsVersion3 old new) where
  same : (key : List ℕ) → bytes_eq key (codes "version") ≡ false → bytes_eq key (codes "rebalance") ≡ false
      → bytes_eq key (codes "page") ≡ false → bytes_eq key (codes "guests") ≡ false → get key new ≡ get key old
  same key version rebalance page guests =
      alike.others key (other key (codes "version") version refl) (other key (codes "rebalance") rebalance refl)
      (other key (codes "page") page refl) (other key (codes "guests") guests refl)

  machine-same : machine_in version_3 new ≡ machine_in version_2 old
  unfolding machine_in version_2 version_3
  machine-same =
      rw (same (codes "frames") refl refl refl refl, same (codes "swap") refl refl refl refl, same (codes "overhead") refl refl refl refl, same (codes "tax") refl refl refl refl, same (codes "percent") refl refl refl refl, same (codes "page_rate") refl refl refl refl, alike.rebalance, alike.page)
      refl

  keys-refine : Refines (keys_in version_2 old) (keys_in version_3 new)
  unfolding keys_in version_2 version_3
  keys-refine =
      rw (machine-same, same (codes "quantum") refl refl refl refl, same (codes "epochs") refl refl refl refl, same (codes "commands") refl refl refl refl, alike.old_guests_are, alike.new_guests_are)
      (refines_rest (machine_in version_2 old) _ _ (λ (machine : MachineConfig).
      refines_rest (number_or (get (codes "quantum") old) 1 65536 100) _ _ (λ (quantum : ℕ).
      refines_rest (required_number (get (codes "epochs") old) 0 10000) _ _ (λ (epochs : ℕ).
      refines_rest (objects_or_none 10000 (get (codes "commands") old)) _ _ (λ (schedule : List Data).
      refines_then (guests_from version_2 quantum machine.page alike.old_guests no_guests) (guests_from version_3 quantum machine.page alike.new_guests no_guests) _ _
      (guests-refine quantum machine.page alike.old_guests alike.new_guests no_guests alike.guests)
      (λ (guests : GuestList). refines_same _))))))

-- ---- texts

pub text-means : (old new : List ℕ) (c : Config) → IsAsVersion3 old new → config_of old ≡ Ok c → config_of new ≡ Ok c
text-means old new c alike is =
    let before : config_of old ≡ keys_in version_2 alike.old_root = rw (alike.old_root_is, alike.version_2) refl in
    let after : config_of new ≡ keys_in version_3 alike.new_root = rw (alike.new_root_is, alike.version_3) refl in
    after ∙ (keys-refine alike.old_root alike.new_root alike.root).follows c (sym before ∙ is)
