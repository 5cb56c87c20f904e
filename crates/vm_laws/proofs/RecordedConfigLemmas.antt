-- The configuration of the data that the text of a recorded host is.
use Rattle.std.proofs.Common.{◌≡◌, ℕ, suc, ◌+◌, ◌≤◌, Bool, true, false, bytes_eq, List, [], ◌∷◌, ◌++◌, length, map, Some, None, Ok, refl, sym, ap, ◌∙◌, arith, append_assoc, append-nil, le-leb, le-ltb}
use Rattle.std.proofs.lemmas.Slice.Eq.{bytes_eq-Decides}
use Rattle.std.specs.List.{AllByRecursion, IsDistinct, list_all, position_or_len}
use Rattle.std.specs.Str.{is_utf8}
use Rattle.serde_json.specs.Data.{array}
use Rattle.serde_json.specs.Read.{read}
use Rattle.vm_config.specs.Guests.{Listed}
use Rattle.vm_config.specs.Keys.{is_object, list_of, objects_in, objects_or_none}
use Rattle.vm_config.specs.Names.{is_name}
use Rattle.vm_config.specs.Reading.{command_in, commands_from, config_of, guests_from, keys_in, line_of, listed_in, machine_in, steps_from as steps_read}
use Rattle.vm_config.specs.Schedule.{ScheduledLine}
use Rattle.vm_config.specs.Versions.{version_3}
use Rattle.vm_config.specs.declared.config.Config.{Config}
use Rattle.vm_domains.specs.Domains.{Domain, names_of, position_of}
use Rattle.vm_domains.specs.Machine.{MachineConfig}
use Rattle.vm_recorded.specs.Hosts.{GuestView, names_of as guest_names}
use Rattle.vm_recorded.specs.Traces.{trace_of}
use Rattle.vm_laws.specs.Recorded.{domains_from, guest_config, is_there}
use Rattle.vm_laws.specs.RecordedSteps.{actions_of}
use Rattle.vm_laws.proofs.RecordedJsonLemmas.{Numbers, command_data, commands_data, guest_data, guests_data, root_data}
use Rattle.vm_laws.proofs.RecordedLineLemmas.{AreLines, IsLine}
use Rattle.vm_laws.proofs.SafeLemmas.{line-safe}
use Rattle.vm_laws.proofs.StringLemmas.{texts-read}

-- ---- commands

line-read : (end : ℕ) (c : ScheduledLine) → IsLine end c → line_of c.line ≡ Ok c.line
line-read end c is = rw (le-leb 1 (length c.line) is.some, le-leb (length c.line) 256 is.short, line-safe c.line is.safe) refl

module _ (end : ℕ) (few : end ≤ 10000) where
  command-read : (c : ScheduledLine) → IsLine end c → command_in (command_data c) ≡ Ok c
  command-read c is =
      let early = is.early in
      rw (le-leb 0 c.at (omega arith), le-leb c.at 9999 (omega (arith, early, few)), line-read end c is) refl

  commands-read : (cs done : List ScheduledLine) → AreLines end cs → commands_from (list_of (commands_data cs)) done ≡ Ok (done ++ cs)
  commands-read [] done are = ap (λ (l : List ScheduledLine). Ok l) (sym (append-nil done))
  commands-read (c ∷ cs) done are =
      rw (command-read c are.0) (commands-read cs (done ++ c ∷ []) are.1 ∙ ap (λ (l : List ScheduledLine). Ok l) (append_assoc done (c ∷ []) cs))

all-commands : (cs : List ScheduledLine) → list_all is_object (list_of (commands_data cs)) ≡ true
all-commands [] = refl
all-commands (c ∷ cs) = all-commands cs

length-commands : (cs : List ScheduledLine) → length (list_of (commands_data cs)) ≡ length cs
length-commands [] = refl
length-commands (c ∷ cs) = ap (λ (n : ℕ). suc n) (length-commands cs)

schedule-read : (cs : List ScheduledLine) → length cs ≤ 10000
    → objects_or_none 10000 (Some (array (commands_data cs))) ≡ Ok (list_of (commands_data cs))
schedule-read cs few = rw (all-commands cs, length-commands cs, le-leb (length cs) 10000 few) refl

-- ---- names

-- no domain has this name
abbrev IsFresh : List ℕ → List Domain → Type 0
IsFresh name domains = AllByRecursion (λ other. bytes_eq name other ≡ false) (names_of domains)

-- nor has one of these guests that of a domain
abbrev AreFresh : List Domain → List GuestView → Type 0
AreFresh domains guests = AllByRecursion (λ g. IsFresh g.name domains) guests

turned : (a b : List ℕ) → bytes_eq a b ≡ false → bytes_eq b a ≡ false
turned a b apart = go (bytes_eq b a) refl
  where
    go : (x : Bool) → bytes_eq b a ≡ x → x ≡ false
    go false is = refl
    go true is =
        let other : bytes_eq a b ≡ true = (bytes_eq-Decides a b).1 (sym ((bytes_eq-Decides b a).0 is)) in
        let never : true ≡ false = sym other ∙ apart in
        absurd (cc)

not-found : (name : List ℕ) (names : List (List ℕ)) → AllByRecursion (λ other. bytes_eq name other ≡ false) names
    → position_or_len (bytes_eq name) names ≡ length names
not-found name [] apart = refl
not-found name (other ∷ names) apart = rw (apart.0, not-found name names apart.1) (omega arith)

name-fresh : (name : List ℕ) (domains : List Domain) → IsFresh name domains → position_of name domains ≡ None
name-fresh name domains fresh =
    let names = names_of domains in
    rw (not-found name names fresh, le-ltb (length names) (length names) (omega arith)) refl

fresh-more : (name : List ℕ) (domains : List Domain) (d : Domain) → IsFresh name domains → bytes_eq name d.name ≡ false → IsFresh name (domains ++ d ∷ [])
fresh-more name [] d fresh apart = (apart, tt)
fresh-more name (first ∷ domains) d fresh apart = (fresh.0, fresh-more name domains d fresh.1 apart)

still-fresh : (domains : List Domain) (d : Domain) (guests : List GuestView) → AreFresh domains guests
    → AllByRecursion (λ name. bytes_eq d.name name ≡ false) (guest_names guests) → AreFresh (domains ++ d ∷ []) guests
still-fresh domains d [] fresh apart = tt
still-fresh domains d (g ∷ guests) fresh apart =
    (fresh-more g.name domains d fresh.0 (turned d.name g.name apart.0), still-fresh domains d guests fresh.1 apart.1)

all-fresh : (guests : List GuestView) → AreFresh [] guests
all-fresh [] = tt
all-fresh (g ∷ guests) = (tt, all-fresh guests)

-- ---- guests

-- what is read of a guest
pub record IsReadable (g : GuestView) : Type 0 where
  pub named : is_name g.name ≡ true
  pub some_pages : 1 ≤ g.size
  pub few_pages : g.size ≤ 262144
  pub some_min : 1 ≤ g.min
  pub small_min : g.min ≤ g.size
  pub some_shares : 1 ≤ g.shares
  pub few_shares : g.shares ≤ 1000000
  pub few_texts : length (trace_of g.uses) ≤ 1000000
  pub steps : (guest : ℕ) → steps_read version_3 g.size guest 0 (trace_of g.uses) [] ≡ Ok (actions_of g.uses)

module _ (page quantum : ℕ) (some : 1 ≤ quantum) (short : quantum ≤ 65536) where
  abbrev listed : (number : ℕ) → GuestView → Listed
  listed number g = record {
    domain = record { name = g.name; config = guest_config page quantum number g };
    autostart = is_there g.first;
  }

  guest-read : (number : ℕ) (g : GuestView) (earlier : List Domain) → number ≤ 256 → IsReadable g → IsFresh g.name earlier
      → listed_in version_3 quantum page (guest_data quantum number g) earlier ≡ Ok (listed number g)
  unfolding listed_in version_3
  guest-read number g earlier few is fresh =
      rw (
        is.named,
        name-fresh g.name earlier fresh,
        le-leb 1 g.size is.some_pages,
        le-leb g.size 262144 is.few_pages,
        le-leb 1 g.min is.some_min,
        le-leb g.min g.size is.small_min,
        le-leb 1 g.shares is.some_shares,
        le-leb g.shares 1000000 is.few_shares,
        le-leb 1 quantum some,
        le-leb quantum 1000000 (omega (arith, short)),
        le-leb 0 number (omega arith),
        le-leb number 18446744073709551615 (omega (arith, few)),
        texts-read (trace_of g.uses) is.few_texts,
        is.steps (length earlier),
      ) refl

  -- guests behind these ones are read so, and then there are all of them
  guests-read : (number : ℕ) (guests : List GuestView) (domains : List Domain) (autostart : List Bool) → number + length guests ≤ 256
      → AllByRecursion IsReadable guests → IsDistinct bytes_eq (guest_names guests) → AreFresh domains guests
      → (all : List Domain) (starts : List Bool) → domains ++ domains_from page quantum number guests ≡ all
      → autostart ++ map (λ g. is_there g.first) guests ≡ starts
      → guests_from version_3 quantum page (list_of (guests_data quantum number guests)) (record { domains = domains; autostart = autostart })
      ≡ Ok (record { domains = all; autostart = starts })
  unfolding IsDistinct
  guests-read number [] domains autostart few are distinct fresh all starts same_domains same_starts =
      λ i. Ok (record { domains = (sym (append-nil domains) ∙ same_domains) i; autostart = (sym (append-nil autostart) ∙ same_starts) i })
  guests-read number (g ∷ guests) domains autostart few are distinct fresh all starts same_domains same_starts =
      let one = listed number g in
      rw (guest-read number g domains (omega (arith, few)) are.0 fresh.0)
      (guests-read (number + 1) guests (domains ++ one.domain ∷ []) (autostart ++ one.autostart ∷ []) (omega (arith, few)) are.1 distinct.1
      (still-fresh domains one.domain guests fresh.1 distinct.0) all starts
      (append_assoc domains (one.domain ∷ []) (domains_from page quantum (number + 1) guests) ∙ same_domains)
      (append_assoc autostart (one.autostart ∷ []) (map (λ g. is_there g.first) guests) ∙ same_starts))

all-guests : (quantum number : ℕ) (guests : List GuestView) → list_all is_object (list_of (guests_data quantum number guests)) ≡ true
all-guests quantum number [] = refl
all-guests quantum number (g ∷ guests) = all-guests quantum (number + 1) guests

length-guests : (quantum number : ℕ) (guests : List GuestView) → length (list_of (guests_data quantum number guests)) ≡ length guests
length-guests quantum number [] = refl
length-guests quantum number (g ∷ guests) = ap (λ (n : ℕ). suc n) (length-guests quantum (number + 1) guests)

objects-read : (quantum : ℕ) (guests : List GuestView) → length guests ≤ 256
    → objects_in 256 (Some (array (guests_data quantum 0 guests))) ≡ Ok (list_of (guests_data quantum 0 guests))
objects-read quantum guests few = rw (all-guests quantum 0 guests, length-guests quantum 0 guests, le-leb (length guests) 256 few) refl

-- ---- numbers in their ranges

pub record AreInRange (n : Numbers) : Type 0 where
  pub some_frames : 1 ≤ n.frames
  pub few_frames : n.frames ≤ 262144
  pub swap : n.swap ≤ 67108864
  pub overhead : n.overhead ≤ 1024
  pub tax : n.tax ≤ 9999
  pub high : n.high ≤ 10000
  pub soft : n.soft ≤ n.high
  pub hard : n.hard ≤ n.soft
  pub low : n.low ≤ n.hard
  pub some_page_rate : 1 ≤ n.page_rate
  pub small_page_rate : n.page_rate ≤ 256
  pub rebalance : n.rebalance ≤ 262144
  pub page_from : 4 ≤ n.page
  pub page_to : n.page ≤ 1048576
  pub some_quantum : 1 ≤ n.quantum
  pub short_quantum : n.quantum ≤ 65536
  pub epochs : n.epochs ≤ 10000

module _ (n : Numbers) (are : AreInRange n) (guests : List GuestView) (cs : List ScheduledLine) where
  abbrev machine : MachineConfig
  machine = record {
    frames = n.frames;
    swap = n.swap;
    overhead = n.overhead;
    tax = n.tax;
    percent = record { high = n.high; soft = n.soft; hard = n.hard; low = n.low };
    page_rate = n.page_rate;
    rebalance = n.rebalance;
    page = n.page;
  }

  machine-read : machine_in version_3 (root_data n guests cs) ≡ Ok machine
  unfolding machine_in version_3
  machine-read =
      rw (
        le-leb 1 n.frames are.some_frames,
        le-leb n.frames 262144 are.few_frames,
        le-leb 0 n.swap (omega arith),
        le-leb n.swap 67108864 are.swap,
        le-leb 0 n.overhead (omega arith),
        le-leb n.overhead 1024 are.overhead,
        le-leb 0 n.tax (omega arith),
        le-leb n.tax 9999 are.tax,
        le-leb 0 n.high (omega arith),
        le-leb n.high 10000 are.high,
        le-leb 0 n.soft (omega arith),
        le-leb n.soft n.high are.soft,
        le-leb 0 n.hard (omega arith),
        le-leb n.hard n.soft are.hard,
        le-leb 0 n.low (omega arith),
        le-leb n.low n.hard are.low,
        le-leb 1 n.page_rate are.some_page_rate,
        le-leb n.page_rate 256 are.small_page_rate,
        le-leb 0 n.rebalance (omega arith),
        le-leb n.rebalance 262144 are.rebalance,
        le-leb 4 n.page are.page_from,
        le-leb n.page 1048576 are.page_to,
      ) refl

  abbrev config : Config
  config = record {
    machine = machine;
    epochs = n.epochs;
    domains = domains_from n.page n.quantum 0 guests;
    autostart = map (λ g. is_there g.first) guests;
    commands = cs;
  }

  module _ (few_guests : length guests ≤ 256) (readable : AllByRecursion IsReadable guests) (distinct : IsDistinct bytes_eq (guest_names guests))
      (few_lines : length cs ≤ 10000) (lines : AreLines n.epochs cs) where
    keys-read : keys_in version_3 (root_data n guests cs) ≡ Ok config
    unfolding keys_in version_3
    keys-read =
        rw (
          machine-read,
          le-leb 1 n.quantum are.some_quantum,
          le-leb n.quantum 65536 are.short_quantum,
          le-leb 0 n.epochs (omega arith),
          le-leb n.epochs 10000 are.epochs,
          objects-read n.quantum guests few_guests,
          schedule-read cs few_lines,
          guests-read n.page n.quantum are.some_quantum are.short_quantum 0 guests [] [] (omega (arith, few_guests)) readable distinct (all-fresh guests)
              (domains_from n.page n.quantum 0 guests) (map (λ g. is_there g.first) guests) refl refl,
          commands-read n.epochs are.epochs cs [] lines,
        ) refl

    -- bytes that are read as the data mean the configuration
    pub config-read : (bytes : List ℕ) → is_utf8 bytes ≡ true → read bytes ≡ Some (root_data n guests cs) → config_of bytes ≡ Ok config
    config-read bytes utf8 is = rw (utf8, is) keys-read
