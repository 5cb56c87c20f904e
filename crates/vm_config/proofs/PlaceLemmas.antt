-- Places change no answer: without them, what is read is what `Reading.antt` says.
use Rattle.std.proofs.Common.{◌≡◌, ℕ, List, [], ◌∷◌, ◌++◌, length, ◌==◌, Bool, true, false, cond, Option, Result, Ok, Err, IfOk, is_ok, inl, inr, refl, ap, sym, ◌∙◌, true≢false}
use Rattle.std.specs.Option.{option_map}
use Rattle.std.specs.declared.alloc.AllocError.{AllocError}
use Rattle.serde_json.specs.Data.{Data}
use Rattle.vm_domains.specs.Domains.{Domain}
use Rattle.vm_domains.specs.Machine.{MachineConfig}
use Rattle.vm_config.specs.declared.config.Config.{Config}
use Rattle.vm_config.specs.declared.error.ConfigError.{ConfigError}
use Rattle.vm_config.specs.declared.guests.GuestList.{GuestList}
use Rattle.vm_config.specs.declared.place.Part.{Part}
use Rattle.vm_config.specs.declared.place.Place.{Place}
use Rattle.vm_config.specs.declared.fault.Fault.{Fault}
use Rattle.vm_config.specs.declared.version.Limits.{Limits}
use Rattle.vm_config.specs.Guests.{Listed, no_guests, with_guest}
use Rattle.vm_config.specs.Located.{machine_at, additions_at, pages_at, rates_at, choices_at, keys_of_guest, guest_at, guests_at, command_at, commands_at, numbers_at, keys_at, config_v1_at, config_in_at, config_at}
use Rattle.vm_config.specs.Migration.{migrated}
use Rattle.vm_config.specs.Outcomes.{◌>>=◌, IsOrMemory}
use Rattle.vm_config.specs.Places.{placed, without_place, error_in, fault_in, IsOrLacksMemory}
use Rattle.vm_config.specs.Reading.{machine_in, listed_in, guests_from, command_in, commands_from, keys_in, config_v1_of, config_in, config_of}
use Rattle.vm_config.specs.Schedule.{ScheduledLine}
use Rattle.vm_config.specs.Versions.{version_1, newer}

-- what is read at a place, and then the rest
pub placed_then : {A B : Type 0} (place : Place) (read : Result A ConfigError) (next : A → Result B Fault)
    (rest : A → Result B ConfigError)
    → ((x : A) → without_place (next x) ≡ rest x) → without_place (placed place read >>= next) ≡ (read >>= rest)
placed_then place (Ok x) next rest same = same x
placed_then place (Err error) next rest same = refl

-- what is read at a place, the rest of its group, and then what comes after the group
pub grouped_then : {A B C : Type 0} (place : Place) (read : Result A ConfigError) (group : A → Result B Fault)
    (next : B → Result C Fault) (rest : A → Result C ConfigError)
    → ((x : A) → without_place (group x >>= next) ≡ rest x)
    → without_place ((placed place read >>= group) >>= next) ≡ (read >>= rest)
grouped_then place (Ok x) group next rest same = same x
grouped_then place (Err error) group next rest same = refl

-- what is read at several places, and then the rest
pub located_then : {A B : Type 0} (located : Result A Fault) (read : Result A ConfigError) (next : A → Result B Fault)
    (rest : A → Result B ConfigError)
    → without_place located ≡ read → ((x : A) → without_place (next x) ≡ rest x) → without_place (located >>= next)
    ≡ (read >>= rest)
located_then (Ok x) read next rest is same = same x ∙ ap (λ r. r >>= rest) is
located_then (Err fault) read next rest is same = ap (λ r. r >>= rest) is

-- the same of the first of a group
pub located_group : {A B C : Type 0} (located : Result A Fault) (read : Result A ConfigError) (group : A → Result B Fault)
    (next : B → Result C Fault) (rest : A → Result C ConfigError)
    → without_place located ≡ read → ((x : A) → without_place (group x >>= next) ≡ rest x)
    → without_place ((located >>= group) >>= next) ≡ (read >>= rest)
located_group (Ok x) read group next rest is same = same x ∙ ap (λ r. r >>= rest) is
located_group (Err fault) read group next rest is same = ap (λ r. r >>= rest) is

pub machine_without : (limits : Limits) (d : Data) → without_place (machine_at limits d) ≡ machine_in limits d
unfolding machine_at additions_at machine_in
machine_without limits d = search (placed_then, grouped_then) depth 20

pub guest_without : (limits : Limits) (quantum page : ℕ) (d : Data) (earlier : List Domain) (guest : Part)
    → without_place (keys_of_guest limits quantum page d earlier guest) ≡ listed_in limits quantum page d earlier
unfolding keys_of_guest pages_at rates_at choices_at listed_in
guest_without limits quantum page d earlier guest = search (placed_then, grouped_then) depth 40

pub guests_without : (limits : Limits) (quantum page : ℕ) (ds : List Data) (earlier : GuestList)
    → without_place (guests_at limits quantum page ds earlier) ≡ guests_from limits quantum page ds earlier
guests_without limits quantum page [] earlier = refl
guests_without limits quantum page (d ∷ ds) earlier =
    located_then (guest_at limits quantum page d earlier.domains) (listed_in limits quantum page d earlier.domains) _ _
    (guest_without limits quantum page d earlier.domains _)
    (λ (listed : Listed). guests_without limits quantum page ds (with_guest earlier listed))

pub command_without : (number : ℕ) (d : Data) → without_place (command_at number d) ≡ command_in d
command_without number d = search placed_then

pub commands_without : (ds : List Data) (done : List ScheduledLine) → without_place (commands_at ds done) ≡ commands_from ds done
commands_without [] done = refl
commands_without (d ∷ ds) done =
    located_then (command_at (length done) d) (command_in d) _ _ (command_without (length done) d)
    (λ (command : ScheduledLine). commands_without ds (done ++ command ∷ []))

abbrev whole : MachineConfig → ℕ → GuestList → List ScheduledLine → Config
whole machine epochs guests commands =
    record { machine = machine; epochs = epochs; domains = guests.domains; autostart = guests.autostart; commands = commands }

lists_without : (limits : Limits) (quantum : ℕ) (objects schedule : List Data) (machine : MachineConfig) (epochs : ℕ)
    → without_place (guests_at limits quantum machine.page objects no_guests >>=
    (λ guests. commands_at schedule [] >>= (λ commands. Ok (whole machine epochs guests commands))))
    ≡ (guests_from limits quantum machine.page objects no_guests >>=
    (λ guests. commands_from schedule [] >>= (λ commands. Ok (whole machine epochs guests commands))))
lists_without limits quantum objects schedule machine epochs =
    located_then (guests_at limits quantum machine.page objects no_guests) (guests_from limits quantum machine.page objects no_guests) _ _
    (guests_without limits quantum machine.page objects no_guests)
    (λ (guests : GuestList). located_then (commands_at schedule []) (commands_from schedule []) _ _ (commands_without schedule [])
    (λ (commands : List ScheduledLine). refl))

pub keys_without : (limits : Limits) (d : Data) → without_place (keys_at limits d) ≡ keys_in limits d
unfolding keys_at numbers_at keys_in
keys_without limits d =
    located_group (machine_at limits d) (machine_in limits d) _ _ _ (machine_without limits d)
    (λ (machine : MachineConfig). search (placed_then, grouped_then, lists_without) depth 20)

pub config_v1_without : (bytes : List ℕ) → without_place (config_v1_at bytes) ≡ config_v1_of bytes
config_v1_without bytes = search (placed_then, keys_without)

migrated_without : (d : Data) → without_place (keys_at version_1 d >>= (λ c. Ok (migrated c)))
    ≡ (keys_in version_1 d >>= (λ c. Ok (migrated c)))
migrated_without d = located_then (keys_at version_1 d) (keys_in version_1 d) _ _ (keys_without version_1 d)
    (λ (c : Config). refl)

config_in_without : (version : ℕ) (d : Data) → without_place (config_in_at version d) ≡ config_in version d
config_in_without version d = choice (version == 1)
  where
    choice : (b : Bool) → without_place (cond b (keys_at version_1 d >>= (λ c. Ok (migrated c))) (keys_at (newer version) d))
        ≡ cond b (keys_in version_1 d >>= (λ c. Ok (migrated c))) (keys_in (newer version) d)
    choice true = migrated_without d
    choice false = keys_without (newer version) d

pub config_without : (bytes : List ℕ) → without_place (config_at bytes) ≡ config_of bytes
config_without bytes = search (placed_then, config_in_without)

-- an answer that is the one that is wanted or lacks memory is so without its place
pub answer_without : {A : Type 0} (result wanted : Result A Fault) (read : Result A ConfigError)
    → without_place wanted ≡ read → IsOrLacksMemory result wanted → IsOrMemory (without_place result) read
answer_without result wanted read same (inl is) = inl (ap without_place is ∙ same)
answer_without (Ok x) wanted read same (inr lacks) = elim lacks [ ]
answer_without (Err fault) wanted read same (inr lacks) = inr (ap Err lacks)

abbrev value_or : {A : Type 0} → A → Result A ConfigError → A
value_or x (Ok y) = y
value_or x (Err error) = x

-- what is read has no place
pub found_without : {A : Type 0} (located : Result A Fault) (x : A) → without_place located ≡ Ok x → located ≡ Ok x
found_without (Ok y) x is = ap Ok (ap (value_or y) is)
found_without (Err fault) x is = absurd (true≢false (sym (ap is_ok is)))

-- the error that is told is the one of the answer
pub explained : (bytes : List ℕ) → error_in (config_of bytes) ≡ option_map (λ (f : Fault). f.error) (fault_in (config_at bytes))
explained bytes = rw (← config_without bytes) (told (config_at bytes))
  where
    told : {A : Type 0} (located : Result A Fault) → error_in (without_place located)
        ≡ option_map (λ (f : Fault). f.error) (fault_in located)
    told (Ok x) = refl
    told (Err fault) = refl

-- told of an answer
pub told_error : (bytes : List ℕ) (answer : Result (Option Fault) AllocError)
    → IfOk answer (λ found. found ≡ fault_in (config_at bytes))
    → IfOk answer (λ found. option_map (λ (f : Fault). f.error) found ≡ error_in (config_of bytes))
told_error bytes (Ok found) is = ap (option_map (λ (f : Fault). f.error)) is ∙ sym (explained bytes)
told_error bytes (Err e) is = tt
