-- Where the first fault of a text stands at a guest, all before it is read.
use Rattle.std.proofs.Common.{◌≡◌, ℕ, ◌+◌, ◌==◌, List, [], ◌∷◌, ◌++◌, length, Bool, true, false, cond, Option, Some, None, is_some, is_ok, Result, Ok, Err, IfOk, refl, ap, subst, sym, ◌∙◌, true≢false, arith, length-append, codes}
use Rattle.std.specs.declared.alloc.AllocError.{AllocError}
use Rattle.serde_json.specs.Data.{Data}
use Rattle.serde_json.specs.Find.{get}
use Rattle.vm_domains.specs.Domains.{Domain}
use Rattle.vm_domains.specs.Machine.{MachineConfig}
use Rattle.vm_config.specs.declared.error.ConfigError.{ConfigError}
use Rattle.vm_config.specs.declared.fault.Fault.{Fault}
use Rattle.vm_config.specs.declared.guests.GuestList.{GuestList}
use Rattle.vm_config.specs.declared.place.Key.{Key}
use Rattle.vm_config.specs.declared.place.Key.TheVariants.{Version, Quantum, Epochs, Guests, Commands}
use Rattle.vm_config.specs.declared.place.Part.TheVariants.{Root, Guest, Command}
use Rattle.vm_config.specs.declared.place.Place.{Place}
use Rattle.vm_config.specs.declared.place.Place.TheVariants as place
use Rattle.vm_config.specs.declared.version.Limits.{Limits}
use Rattle.vm_config.specs.FirstFault.{StandsAtGuest}
use Rattle.vm_config.specs.Guests.{Listed, no_guests, with_guest}
use Rattle.vm_config.specs.Keys.{required_number, number_or, objects_in, objects_or_none}
use Rattle.vm_config.specs.Located.{machine_at, additions_at, pages_at, rates_at, choices_at, keys_of_guest, guest_at, guests_at, command_at, commands_at, numbers_at, keys_at, config_at}
use Rattle.vm_config.specs.Migration.{migrated}
use Rattle.vm_config.specs.Outcomes.{◌>>=◌}
use Rattle.vm_config.specs.Places.{placed, without_place, fault_in}
use Rattle.vm_config.specs.Reading.{listed_in, guests_from, machine_in, root_in, version_in}
use Rattle.vm_config.specs.Schedule.{ScheduledLine}
use Rattle.vm_config.specs.Versions.{version_1, newer}
use Rattle.vm_config.proofs.PlaceLemmas.{guest_without, machine_without}

-- ---- places of faults

abbrev fault_or : {A : Type 0} → Fault → Result A Fault → Fault
fault_or f (Ok x) = f
fault_or f (Err g) = g

abbrev is_of_guest : Place → Bool
is_of_guest place.Text = false
is_of_guest (place.Key Root key) = false
is_of_guest (place.Key (Guest n) key) = true
is_of_guest (place.Key (Command n) key) = false

abbrev stands_at_guest : {A : Type 0} → Fault → Result A Fault → Bool
stands_at_guest f r = is_of_guest (fault_or f r).place

abbrev guest_number : Place → ℕ
guest_number place.Text = 0
guest_number (place.Key Root key) = 0
guest_number (place.Key (Guest n) key) = n
guest_number (place.Key (Command n) key) = 0

-- a fault of the answer has such a place
abbrev FaultsStand : {A : Type 0} → (Place → Type 0) → Result A Fault → Type 0
FaultsStand Q (Ok x) = Unit {0}
FaultsStand Q (Err f) = Q f.place

abbrev IsElsewhere : Place → Type 0
IsElsewhere p = is_of_guest p ≡ false

placed_all : (Q : Place → Type 0) (A B : Type 0) (p : Place) (read : Result A ConfigError) (next : A → Result B Fault)
    → Q p → ((x : A) → FaultsStand Q (next x)) → FaultsStand Q (placed p read >>= next)
placed_all Q A B p (Ok x) next here rest = rest x
placed_all Q A B p (Err e) next here rest = here

located_all : {A B : Type 0} (Q : Place → Type 0) (located : Result A Fault) (next : A → Result B Fault)
    → FaultsStand Q located → ((x : A) → FaultsStand Q (next x)) → FaultsStand Q (located >>= next)
located_all Q (Ok x) next here rest = rest x
located_all Q (Err f) next here rest = here

grouped_all : (Q : Place → Type 0) (A B C : Type 0) (p : Place) (read : Result A ConfigError) (group : A → Result B Fault)
    (next : B → Result C Fault)
    → Q p → ((x : A) → FaultsStand Q (group x >>= next)) → FaultsStand Q ((placed p read >>= group) >>= next)
grouped_all Q A B C p (Ok x) group next here rest = rest x
grouped_all Q A B C p (Err e) group next here rest = here

machine_stands : (limits : Limits) (d : Data) → FaultsStand IsElsewhere (machine_at limits d)
unfolding machine_at additions_at
machine_stands limits d = search (placed_all IsElsewhere, grouped_all IsElsewhere) depth 20

guest_stands : (limits : Limits) (quantum page : ℕ) (d : Data) (earlier : List Domain)
    → FaultsStand (λ p. guest_number p ≡ length earlier) (keys_of_guest limits quantum page d earlier (Guest (length earlier)))
unfolding keys_of_guest pages_at rates_at choices_at
guest_stands limits quantum page d earlier =
    search (placed_all (λ (p : Place). guest_number p ≡ length earlier), grouped_all (λ (p : Place). guest_number p ≡ length earlier)) depth 40

command_stands : (number : ℕ) (d : Data) → FaultsStand IsElsewhere (command_at number d)
command_stands number d = search (placed_all IsElsewhere) depth 10

commands_stand : (ds : List Data) (done : List ScheduledLine) → FaultsStand IsElsewhere (commands_at ds done)
commands_stand [] done = tt
commands_stand (d ∷ ds) done =
    located_all IsElsewhere (command_at (length done) d) _ (command_stands (length done) d)
    (λ (command : ScheduledLine). commands_stand ds (done ++ command ∷ []))

-- ---- what is read before the fault of a guest

-- what is read at a place that is no guest's, and then the fault
passed_at : {A B : Type 0} (p : Place) (read : Result A ConfigError) (next : A → Result B Fault) (f : Fault)
    → is_of_guest p ≡ false → is_of_guest f.place ≡ true → (placed p read >>= next) ≡ Err f
    → (x : A) × (read ≡ Ok x) × (next x ≡ Err f)
passed_at p (Ok x) next f elsewhere guest is = (x, refl, is)
passed_at p (Err e) next f elsewhere guest is =
    absurd (true≢false (sym guest ∙ ap (stands_at_guest f) (sym is) ∙ elsewhere))

passed : {A B : Type 0} (located : Result A Fault) (next : A → Result B Fault) (f : Fault)
    → FaultsStand IsElsewhere located → is_of_guest f.place ≡ true → (located >>= next) ≡ Err f
    → (x : A) × (located ≡ Ok x) × (next x ≡ Err f)
passed (Ok x) next f elsewhere guest is = (x, refl, is)
passed (Err g) next f elsewhere guest is =
    absurd (true≢false (sym guest ∙ ap (stands_at_guest f) (sym is) ∙ elsewhere))

-- the same of what is read inside a group
passed_in_at : {A B C : Type 0} (p : Place) (read : Result A ConfigError) (group : A → Result B Fault) (next : B → Result C Fault)
    (f : Fault)
    → is_of_guest p ≡ false → is_of_guest f.place ≡ true → ((placed p read >>= group) >>= next) ≡ Err f
    → (x : A) × (read ≡ Ok x) × ((group x >>= next) ≡ Err f)
passed_in_at p (Ok x) group next f elsewhere guest is = (x, refl, is)
passed_in_at p (Err e) group next f elsewhere guest is =
    absurd (true≢false (sym guest ∙ ap (stands_at_guest f) (sym is) ∙ elsewhere))

passed_in : {A B C : Type 0} (located : Result A Fault) (group : A → Result B Fault) (next : B → Result C Fault) (f : Fault)
    → FaultsStand IsElsewhere located → is_of_guest f.place ≡ true → ((located >>= group) >>= next) ≡ Err f
    → (x : A) × (located ≡ Ok x) × ((group x >>= next) ≡ Err f)
passed_in (Ok x) group next f elsewhere guest is = (x, refl, is)
passed_in (Err g) group next f elsewhere guest is =
    absurd (true≢false (sym guest ∙ ap (stands_at_guest f) (sym is) ∙ elsewhere))

-- the fault stands at what comes before
kept : {A B : Type 0} (located : Result A Fault) (next : A → Result B Fault) (f : Fault)
    → ((x : A) → FaultsStand IsElsewhere (next x)) → is_of_guest f.place ≡ true → (located >>= next) ≡ Err f → located ≡ Err f
kept (Ok x) next f elsewhere guest is =
    let stands : is_of_guest f.place ≡ false = subst (FaultsStand IsElsewhere) is (elsewhere x) in
    absurd (true≢false (sym guest ∙ stands))
kept (Err g) next f elsewhere guest is = ap Err (ap (fault_or g) is)

-- ---- guests

-- a fault among guests that come after these ones
record Refuses (limits : Limits) (quantum page : ℕ) (ds : List Data) (earlier : GuestList) (f : Fault) : Type 0 where
  before : List Data
  object : Data
  after : List Data
  now : GuestList
  are : ds ≡ before ++ object ∷ after
  number : guest_number f.place ≡ length earlier.domains + length before
  are_read : guests_from limits quantum page before earlier ≡ Ok now
  is_refused : listed_in limits quantum page object now.domains ≡ Err f.error

read_is : (limits : Limits) (quantum page : ℕ) (d : Data) (earlier : List Domain) (read : Result Listed Fault)
    → guest_at limits quantum page d earlier ≡ read → listed_in limits quantum page d earlier ≡ without_place read
read_is limits quantum page d earlier read is = sym (guest_without limits quantum page d earlier (Guest (length earlier)))
    ∙ ap without_place is

first_of : (limits : Limits) (quantum page : ℕ) (d : Data) (ds : List Data) (earlier : GuestList) (f : Fault)
    (read : Result Listed Fault)
    → guest_at limits quantum page d earlier.domains ≡ read
    → (read >>= (λ listed. guests_at limits quantum page ds (with_guest earlier listed))) ≡ Err f
    → ((now : GuestList) → guests_at limits quantum page ds now ≡ Err f → Refuses limits quantum page ds now f)
    → Refuses limits quantum page (d ∷ ds) earlier f
first_of limits quantum page d ds earlier f (Ok listed) is error rest =
    let r = rest (with_guest earlier listed) error in
    record {
      before = d ∷ r.before;
      object = r.object;
      after = r.after;
      now = r.now;
      are = ap (λ l. d ∷ l) r.are;
      number = omega (arith, r.number, length-append earlier.domains (listed.domain ∷ []));
      are_read = ap (λ x. x >>= (λ l. guests_from limits quantum page r.before (with_guest earlier l)))
          (read_is limits quantum page d earlier.domains (Ok listed) is) ∙ r.are_read;
      is_refused = r.is_refused;
    }
first_of limits quantum page d ds earlier f (Err g) is error rest =
    let same : g ≡ f = ap (fault_or g) error in
    let stands : guest_number g.place ≡ length earlier.domains =
    subst (FaultsStand (λ (p : Place). guest_number p ≡ length earlier.domains)) is
    (guest_stands limits quantum page d earlier.domains) in
    let numbered : guest_number f.place ≡ length earlier.domains = ap (λ (h : Fault). guest_number h.place) (sym same) ∙ stands in
    record {
      before = [];
      object = d;
      after = ds;
      now = earlier;
      are = refl;
      number = omega (arith, numbered);
      are_read = refl;
      is_refused = read_is limits quantum page d earlier.domains (Err g) is ∙ ap (λ (h : Fault). Err h.error) same;
    }

first_guest : (limits : Limits) (quantum page : ℕ) (ds : List Data) (earlier : GuestList) (f : Fault)
    → guests_at limits quantum page ds earlier ≡ Err f → Refuses limits quantum page ds earlier f
first_guest limits quantum page [] earlier f is = absurd (true≢false (ap is_ok is))
first_guest limits quantum page (d ∷ ds) earlier f is =
    first_of limits quantum page d ds earlier f (guest_at limits quantum page d earlier.domains) refl is
    (λ (now : GuestList) error. first_guest limits quantum page ds now f error)

-- ---- the whole

record KeysRefuse (limits : Limits) (d : Data) (f : Fault) : Type 0 where
  machine : MachineConfig
  quantum : ℕ
  objects : List Data
  machine_is : machine_in limits d ≡ Ok machine
  quantum_is : number_or (get (codes "quantum") d) 1 65536 100 ≡ Ok quantum
  objects_are : objects_in limits.guests (get (codes "guests") d) ≡ Ok objects
  first : Refuses limits quantum machine.page objects no_guests f

keys_first : (limits : Limits) (d : Data) (f : Fault) → is_of_guest f.place ≡ true → keys_at limits d ≡ Err f
    → KeysRefuse limits d f
unfolding keys_at numbers_at
keys_first limits d f guest is =
    let machine = passed_in (machine_at limits d) _ _ f (machine_stands limits d) guest is in
    let quantum = passed_in_at (place.Key Root Quantum) (number_or (get (codes "quantum") d) 1 65536 100) _ _ f refl guest machine.2 in
    let epochs = passed_in_at (place.Key Root Epochs) (required_number (get (codes "epochs") d) 0 10000) _ _ f refl guest quantum.2 in
    let objects = passed_at (place.Key Root Guests) (objects_in limits.guests (get (codes "guests") d)) _ f refl guest epochs.2 in
    let schedule = passed_at (place.Key Root Commands)
    (objects_or_none 10000 (get (codes "commands") d)) _ f refl guest objects.2 in
    record {
      machine = machine.0;
      quantum = quantum.0;
      objects = objects.0;
      machine_is = sym (machine_without limits d) ∙ ap without_place machine.1;
      quantum_is = quantum.1;
      objects_are = objects.1;
      first = first_guest limits quantum.0 machine.0.page objects.0 no_guests f
          (kept (guests_at limits quantum.0 machine.0.page objects.0 no_guests) _ f
          (λ guests. located_all IsElsewhere (commands_at schedule.0 []) _ (commands_stand schedule.0 [])
          (λ commands. tt)) guest schedule.2);
    }

version_first : (b : Bool) (version : ℕ) (d : Data) (f : Fault) → is_of_guest f.place ≡ true
    → cond b (keys_at version_1 d >>= (λ c. Ok (migrated c))) (keys_at (newer version) d) ≡ Err f
    → KeysRefuse (cond b version_1 (newer version)) d f
version_first true version d f guest is = keys_first version_1 d f guest (kept (keys_at version_1 d) _ f (λ c. tt) guest is)
version_first false version d f guest is = keys_first (newer version) d f guest is

config_first : (bytes : List ℕ) (f : Fault) → is_of_guest f.place ≡ true → config_at bytes ≡ Err f
    → StandsAtGuest bytes (guest_number f.place) f.error
config_first bytes f guest is =
    let root = passed_at place.Text (root_in bytes) _ f refl guest is in
    let version = passed_at (place.Key Root Version) (version_in 3 root.0) _ f refl guest root.2 in
    let keys = version_first (version.0 == 1) version.0 root.0 f guest version.2 in
    let r = keys.first in
    let number : guest_number f.place ≡ length r.before = omega (arith, r.number) in
    record {
      root = root.0;
      version = version.0;
      machine = keys.machine;
      quantum = keys.quantum;
      objects = keys.objects;
      root_is = root.1;
      version_is = version.1;
      machine_is = keys.machine_is;
      quantum_is = keys.quantum_is;
      objects_are = keys.objects_are;
      first = record {
        before = r.before;
        object = r.object;
        after = r.after;
        earlier = r.now;
        objects_are = r.are;
        number_is = number;
        are_read = r.are_read;
        is_refused = r.is_refused;
      };
    }

abbrev fault_in_or : Fault → Option Fault → Fault
fault_in_or f None = f
fault_in_or f (Some g) = g

history_by : {A : Type 0} (located : Result A Fault) (f : Fault) → fault_in located ≡ Some f → located ≡ Err f
history_by (Ok x) f is = absurd (true≢false (sym (ap is_some is)))
history_by (Err g) f is = ap Err (ap (fault_in_or g) is)

-- a fault that is told at a guest stands there
pub told_guest : (bytes : List ℕ) (answer : Result (Option Fault) AllocError)
    → IfOk answer (λ found. found ≡ fault_in (config_at bytes))
    → IfOk answer (λ found. (number : ℕ) (key : Key) (error : ConfigError)
    → found ≡ Some (record { error = error; place = place.Key (Guest number) key }) → StandsAtGuest bytes number error)
told_guest bytes (Ok found) is = λ number key error has.
    config_first bytes (record { error = error; place = place.Key (Guest number) key }) refl
    (history_by (config_at bytes) _ (sym is ∙ has))
told_guest bytes (Err e) is = tt
