-- The text of a recorded host is read.
use Rattle.std.proofs.Common.{◌≡◌, ℕ, suc, ◌+◌, ◌*◌, ◌≤◌, ◌&&◌, ◌==◌, not, nat_le, true, slice_index, All, IfSome, List, [], ◌∷◌, length, ap, ◌∙◌, arith, mul-le-mul}
use Rattle.std.proofs.lemmas.Bool.{and_parts, leb-true}
use Rattle.std.specs.List.{AllByRecursion, list_all}
use Rattle.serde_json.specs.Read.{read}
use Rattle.vm_config.specs.Names.{is_name, is_name_byte}
use Rattle.vm_config.specs.Schedule.{ScheduledLine}
use Rattle.vm_recorded.specs.Hosts.{GuestView, HostView, IsGuest, IsHost, quantum_for, swap_for}
use Rattle.vm_recorded.specs.Texts.{text_of}
use Rattle.vm_recorded.specs.Traces.{longest_from, steps_from}
use Rattle.vm_laws.specs.Recorded.{AreStepsRead, IsHostRead}
use Rattle.vm_laws.specs.RecordedLines.{lines_of}
use Rattle.vm_laws.proofs.RecordedAsciiLemmas.{text-utf8}
use Rattle.vm_laws.proofs.RecordedConfigLemmas.{AreInRange, IsReadable, config-read}
use Rattle.vm_laws.proofs.RecordedJsonLemmas.{AllSmall, AreEarly, AreSmall, IsSmall, read-root}
use Rattle.vm_laws.proofs.RecordedLineLemmas.{AreLines, IsTold, are-lines, few-lines}
use Rattle.vm_laws.proofs.RecordedRootLemmas.{numbers_of, root-printed}
use Rattle.vm_laws.proofs.RecordedTextLemmas.{IsSafe}
use Rattle.vm_laws.proofs.RecordedTraceLemmas.{AreWithin, few-texts, steps-counted, steps-read, steps-safe}
use Rattle.vm_laws.proofs.SafeLemmas.{AreSafe, name-safe}

each : {X : Type 0} (P : X → Type 0) (xs : List X) → All P xs → AllByRecursion P xs
each P [] all = tt
each P (x ∷ xs) all = (all 0 x (omega arith), each P xs (λ k d below. all (suc k) d (omega (arith, below))))

-- ---- one guest

name-length : (name : List ℕ) → is_name name ≡ true → length name ≤ 32
name-length name is =
    let three = and_parts (nat_le 1 (length name) && nat_le (length name) 32 && not (slice_index name 0 == 45)) (list_all is_name_byte name) is in
    let two = and_parts (nat_le 1 (length name) && nat_le (length name) 32) (not (slice_index name 0 == 45)) three.0 in
    leb-true (length name) 32 (and_parts (nat_le 1 (length name)) (nat_le (length name) 32) two.0).1

module _ (epochs : ℕ) (g : GuestView) (is : IsGuest epochs g) where
  within : AreWithin g.size g.uses
  within = each (λ used. IfSome used (λ units. units ≤ g.size)) g.uses is.uses

  pub guest-steps : steps_from 0 g.uses ≤ 1000000 → AreStepsRead g
  guest-steps few = record {
    read = λ guest. steps-read g.size guest g.uses is.few_pages within few;
    count = steps-counted g.uses;
  }

  readable : steps_from 0 g.uses ≤ 1000000 → IsReadable g
  readable few =
      let texts = few-texts g.uses in
      let low = is.within_cap in
      let high = is.within_size in
      record {
        named = is.name;
        some_pages = is.some_pages;
        few_pages = is.few_pages;
        some_min = is.some_min;
        small_min = omega (arith, low, high);
        some_shares = is.some_shares;
        few_shares = is.few_shares;
        few_texts = omega (arith, texts, few);
        steps = λ guest. steps-read g.size guest g.uses is.few_pages within few;
      }

  safe : IsSafe g
  safe = record { name = name-safe g.name is.name; steps = steps-safe g.size is.few_pages g.uses within }

  small : (number : ℕ) → number ≤ 256 → IsSmall number g
  small number few =
      let pages = is.few_pages in
      let low = is.within_cap in
      let high = is.within_size in
      let shares = is.few_shares in
      record {
        size = omega (arith, pages);
        min = omega (arith, pages, low, high);
        shares = omega (arith, shares);
        place = omega (arith, few);
      }

  told : (unit : ℕ) → unit ≤ 1048576 → IsTold unit g
  told unit few =
      let pages = is.few_pages in
      let high = is.within_size in
      let capped : g.cap ≤ 262144 = omega (arith, pages, high) in
      let most : g.cap * unit ≤ 262144 * 1048576 = mul-le-mul capped few in
      record { safe = name-safe g.name is.name; short = name-length g.name is.name; small = omega (arith, most) }

-- ---- all guests

module _ (epochs : ℕ) where
  all-readable : (guests : List GuestView) → AllByRecursion (IsGuest epochs) guests → AllByRecursion (λ g. steps_from 0 g.uses ≤ 1000000) guests
      → AllByRecursion IsReadable guests
  all-readable [] are few = tt
  all-readable (g ∷ guests) are few = (readable epochs g are.0 few.0, all-readable guests are.1 few.1)

  all-safe : (guests : List GuestView) → AllByRecursion (IsGuest epochs) guests → AllByRecursion IsSafe guests
  all-safe [] are = tt
  all-safe (g ∷ guests) are = (safe epochs g are.0, all-safe guests are.1)

  all-small : (number : ℕ) (guests : List GuestView) → number + length guests ≤ 256 → AllByRecursion (IsGuest epochs) guests → AllSmall number guests
  all-small number [] few are = tt
  all-small number (g ∷ guests) few are =
      (small epochs g are.0 number (omega (arith, few)), all-small (number + 1) guests (omega (arith, few)) are.1)

  all-told : (unit : ℕ) → unit ≤ 1048576 → (guests : List GuestView) → AllByRecursion (IsGuest epochs) guests → AllByRecursion (IsTold unit) guests
  all-told unit few [] are = tt
  all-told unit few (g ∷ guests) are = (told epochs g are.0 unit few, all-told unit few guests are.1)

  few-swapped : (guests : List GuestView) → AllByRecursion (IsGuest epochs) guests → swap_for guests ≤ 262144 * length guests
  few-swapped [] are = omega arith
  few-swapped (g ∷ guests) are =
      let pages = are.0.few_pages in
      omega (arith, pages, few-swapped guests are.1)

some-quantum : (guests : List GuestView) → 1 ≤ quantum_for guests
some-quantum [] = omega arith
some-quantum (g ∷ guests) = omega (arith, some-quantum guests)

short-quantum : (guests : List GuestView) → AllByRecursion (λ g. longest_from 0 g.uses ≤ 65536) guests → quantum_for guests ≤ 65536
short-quantum [] are = omega arith
short-quantum (g ∷ guests) are = omega (arith, are.0, short-quantum guests are.1)

-- ---- command lines

early-lines : (end : ℕ) → end ≤ 10000 → (cs : List ScheduledLine) → AreLines end cs → AreEarly cs
early-lines end few [] are = tt
early-lines end few (c ∷ cs) are = let early = are.0.early in (omega (arith, early, few), early-lines end few cs are.1)

safe-lines : (end : ℕ) (cs : List ScheduledLine) → AreLines end cs → AllByRecursion (λ c. AreSafe c.line) cs
safe-lines end [] are = tt
safe-lines end (c ∷ cs) are = (are.0.safe, safe-lines end cs are.1)

-- ---- the whole

module _ (host : HostView) (is : IsHost host) where
  guests_are : AllByRecursion (IsGuest host.epochs) host.guests
  guests_are = each (IsGuest host.epochs) host.guests is.guests

  in-range : AreInRange (numbers_of host)
  in-range =
      let policy = is.policy in
      let rate = policy.some_rate in
      let swapped = few-swapped host.epochs host.guests guests_are in
      let few = is.few_guests in
      record {
        some_frames = is.some_frames;
        few_frames = is.few_frames;
        swap = omega (arith, swapped, few);
        overhead = policy.small_overhead;
        tax = policy.part_taxed;
        high = policy.falling.high;
        soft = policy.falling.soft;
        hard = policy.falling.hard;
        low = policy.falling.low;
        some_page_rate = omega (arith, rate);
        small_page_rate = omega arith;
        rebalance = policy.few_moves;
        page_from = policy.unit_from;
        page_to = policy.unit_to;
        some_quantum = some-quantum host.guests;
        short_quantum = short-quantum host.guests (each (λ g. longest_from 0 g.uses ≤ 65536) host.guests is.short_epochs);
        epochs = is.few_epochs;
      }

  numbers-small : AreSmall (numbers_of host)
  numbers-small =
      let r = in-range in
      let frames = r.few_frames in
      let swap = r.swap in
      let overhead = r.overhead in
      let tax = r.tax in
      let high = r.high in
      let soft = r.soft in
      let hard = r.hard in
      let low = r.low in
      let page_rate = r.small_page_rate in
      let rebalance = r.rebalance in
      let page = r.page_to in
      let quantum = r.short_quantum in
      let epochs = r.epochs in
      record {
        frames = omega (arith, frames);
        swap = omega (arith, swap);
        overhead = omega (arith, overhead);
        tax = omega (arith, tax);
        high = omega (arith, high);
        soft = omega (arith, high, soft);
        hard = omega (arith, high, soft, hard);
        low = omega (arith, high, soft, hard, low);
        page_rate = omega (arith, page_rate);
        rebalance = omega (arith, rebalance);
        page = omega (arith, page);
        quantum = omega (arith, quantum);
        epochs = omega (arith, epochs);
      }

  lines : AreLines host.epochs (lines_of host)
  lines =
      are-lines host.policy.unit host.epochs 0 host.epochs host.guests (omega arith)
      (all-told host.epochs host.policy.unit is.policy.unit_to host.guests guests_are)

  lines-few : length (lines_of host) ≤ 10000
  lines-few =
      let few = is.few_guests in
      let all = few-lines host.policy.unit 0 host.epochs host.guests in
      omega (arith, few, all)

  pub host-read : IsHostRead host
  host-read =
      let cs = lines_of host in
      let guests_small = all-small host.epochs 0 host.guests (let few = is.few_guests in omega (arith, few)) guests_are in
      let guests_safe = all-safe host.epochs host.guests guests_are in
      let early = early-lines host.epochs is.few_epochs cs lines in
      let commands_safe = safe-lines host.epochs cs lines in
      config-read (numbers_of host) in-range host.guests cs is.few_guests
      (all-readable host.epochs host.guests guests_are (each (λ g. steps_from 0 g.uses ≤ 1000000) host.guests is.few_steps))
      is.names_differ lines-few lines (text_of host)
      (text-utf8 host numbers-small guests_small guests_safe early commands_safe)
      (ap read (root-printed host guests_safe commands_safe) ∙ read-root (numbers_of host) host.guests cs numbers-small guests_small early)
