-- The step at a place of a trace, and its entry.
use Rattle.std.proofs.Common.{◌≡◌, ℕ, zero, suc, ◌+◌, ◌-◌, ◌<◌, ◌≤◌, inl, inr, true, false, leb, List, [], ◌∷◌, length, Some, None, slice_get, get_or, refl, ap, sym, subst, ◌∙◌, arith}
use Rattle.std.proofs.lemmas.Bool.{cases_lt, leb-true, leb-false}
use Rattle.std.proofs.lemmas.List.Elements.{All-get_or}
use Rattle.std.proofs.lemmas.List.Sorted.{IsPartitionedBy-leb}
use Rattle.std.specs.List.Sorted.{IsPartitionedBy, IsPartitionPoint}
use Rattle.std.proofs.lemmas.Option.{same_Some, slice_get_within, slice_get_past, slice_get-get_or, get_or_from_slice_get}
use Rattle.vm_trace.specs.declared.entry.Entry.{Entry}
use Rattle.vm_trace.specs.declared.entry.Item.{Item}
use Rattle.vm_trace.specs.declared.entry.Item.TheVariants.{Read, Write, Touch, Free, Idle, Yield, Post, Actual}
use Rattle.vm_trace.specs.declared.entry.Part.{Part}
use Rattle.vm_trace.specs.Entries.{count_of, action_at, page_of, end_of, steps_at, steps_of, total, ArePlaced, AreNumbered, IsTrace, IsPartAt}
use Rattle.vm_trace.specs.Limits.{most_pages, IsStep}
use Rattle.vm_trace.proofs.Kept.{length-steps_at, length-trace}
use Rattle.vm_trace.proofs.Lists.{slice_get_left, slice_get_right, slice_get-row}

-- no entry begins before those in front of it
first_least : (before : ℕ) (entries : List Entry) (k : ℕ) (e : Entry) → ArePlaced before entries → slice_get entries k ≡ Some e → before ≤ e.first
first_least before [] k e placed there = cc
first_least before (d ∷ es) zero e placed there =
    let same = ap (λ (x : Entry). x.first) (same_Some d e there) in
    omega (arith, placed.0, same)
first_least before (d ∷ es) (suc k) e placed there = omega (arith, first_least (before + count_of d.item) es k e placed.2 there)

-- the step behind so many of an entry's own
step_at : (bytes : List ℕ) (before : ℕ) (entries : List Entry) (k : ℕ) (e : Entry) (inner m : ℕ) → ArePlaced before entries → slice_get entries k ≡ Some e → inner < count_of e.item
    → m + before ≡ e.first + inner → slice_get (steps_of bytes entries) m ≡ Some (action_at bytes e.item inner)
step_at bytes before [] k e inner m placed there inside is = cc
step_at bytes before (d ∷ es) zero e inner m placed there inside is =
    let same : d ≡ e = same_Some d e there in
    let at_once : m ≡ inner = omega (arith, placed.0, is, ap (λ (x : Entry). x.first) same) in
    let count = ap (λ (x : Entry). count_of x.item) same in
    slice_get_left (steps_at bytes d.item) (steps_of bytes es) m (omega (arith, length-steps_at bytes d.item, count, inside, at_once))
    ∙ (λ i. slice_get (steps_at bytes (same i).item) (at_once i))
    ∙ slice_get-row (action_at bytes e.item) 0 (count_of e.item) inner inside
    ∙ ap (λ n. Some (action_at bytes e.item n)) (omega arith)
step_at bytes before (d ∷ es) (suc k) e inner m placed there inside is =
    let least = first_least (before + count_of d.item) es k e placed.2 there in
    let rest : m ≡ count_of d.item + (m - count_of d.item) = omega (arith, least, is) in
    slice_get_right (steps_at bytes d.item) (steps_of bytes es) m (m - count_of d.item) (rest ∙ ap (λ n. n + (m - count_of d.item)) (sym (length-steps_at bytes d.item)))
    ∙ step_at bytes (before + count_of d.item) es k e inner (m - count_of d.item) placed.2 there inside (omega (arith, least, is))

page_small : (bytes : List ℕ) (i : Item) (before : ℕ) → before < count_of i → IsStep (action_at bytes i before) → page_of i + before < most_pages
page_small bytes (Read len offset page) before below step = omega (arith, below)
page_small bytes (Write len offset page start) before below step = omega (arith, below)
page_small bytes (Touch page count) before below step = step.page
page_small bytes (Free page count) before below step = step.page
page_small bytes Idle before below step = omega (arith, below)
page_small bytes Yield before below step = omega (arith, below)
page_small bytes (Post queue len start) before below step = omega (arith, below)
page_small bytes (Actual pages) before below step = omega (arith, below)

-- what the step at a place is, with the bytes there
pub record IsAt (bytes : List ℕ) (entries : List Entry) (place : ℕ) (part : Part) : Type 0 where
  pub within : end_of part.item ≤ length bytes
  pub limits : IsStep (action_at bytes part.item part.before)
  pub page : page_of part.item + part.before < most_pages
  pub step : slice_get (steps_of bytes entries) place ≡ Some (action_at bytes part.item part.before)

at_part : (bytes : List ℕ) (entries : List Entry) (steps place : ℕ) (part : Part) → IsTrace bytes entries steps → IsPartAt entries place part → IsAt bytes entries place part
at_part bytes entries steps place part trace p =
    let inside : part.before < count_of p.entry.item = p.inside in
    let count = ap count_of p.item_is in
    let step : slice_get (steps_of bytes entries) place ≡ Some (action_at bytes part.item part.before) =
    step_at bytes 0 entries p.index p.entry part.before place trace.numbered.placed p.there inside (omega (arith, p.place_is))
    ∙ ap (λ i. Some (action_at bytes i part.before)) (sym p.item_is) in
    let limits : IsStep (action_at bytes part.item part.before) =
    subst IsStep (get_or_from_slice_get (steps_of bytes entries) place (action_at bytes part.item part.before) (action_at bytes part.item part.before) step)
    (All-get_or IsStep (steps_of bytes entries) place (action_at bytes part.item part.before) (slice_get_within (steps_of bytes entries) place (action_at bytes part.item part.before) step) trace.kept.limits) in
    record {
      within =
          subst (λ i. end_of i ≤ length bytes) (sym p.item_is)
          (subst (λ (e : Entry). end_of e.item ≤ length bytes) (get_or_from_slice_get entries p.index p.entry p.entry p.there)
          (All-get_or (λ e. end_of e.item ≤ length bytes) entries p.index p.entry (slice_get_within entries p.index p.entry p.there) trace.kept.within));
      limits = limits;
      page = page_small bytes part.item part.before (omega (arith, inside, count)) limits;
      step = step;
    }

-- the same, with the bytes and the entries as they are seen
pub read_at : (bytes seen_bytes : List ℕ) (entries seen : List Entry) (steps place : ℕ) (part : Part) → seen_bytes ≡ bytes → seen ≡ entries → IsPartAt seen place part → IsTrace bytes entries steps → IsAt seen_bytes entries place part
read_at bytes seen_bytes entries seen steps place part same_bytes same p trace =
    at_part seen_bytes entries steps place part (subst (λ bs. IsTrace bs entries steps) (sym same_bytes) trace) (subst (λ es. IsPartAt es place part) same p)

-- behind the last step is none
pub none_at : (bytes : List ℕ) (entries : List Entry) (steps place : ℕ) → IsTrace bytes entries steps → steps ≤ place → slice_get (steps_of bytes entries) place ≡ None
none_at bytes entries steps place trace past = slice_get_past (steps_of bytes entries) place (omega (arith, length-trace bytes entries steps trace, past))

-- ---- where each entry is one step

total_least : (before : ℕ) (entries : List Entry) → ArePlaced before entries → length entries ≤ total entries
total_least before [] placed = omega arith
total_least before (e ∷ es) placed = omega (arith, placed.1, total_least (before + count_of e.item) es placed.2)

alone_at : (before : ℕ) (entries : List Entry) (k : ℕ) (e : Entry) → ArePlaced before entries → total entries ≡ length entries → slice_get entries k ≡ Some e → (e.first ≡ before + k) × (count_of e.item ≡ 1)
alone_at before [] k e placed all there = cc
alone_at before (d ∷ es) zero e placed all there =
    let least = total_least (before + count_of d.item) es placed.2 in
    let same = same_Some d e there in
    (omega (arith, placed.0, ap (λ (x : Entry). x.first) same), omega (arith, placed.1, all, least, ap (λ (x : Entry). count_of x.item) same))
alone_at before (d ∷ es) (suc k) e placed all there =
    let least = total_least (before + count_of d.item) es placed.2 in
    let one : count_of d.item ≡ 1 = omega (arith, placed.1, all, least) in
    let next = alone_at (before + count_of d.item) es k e placed.2 (omega (arith, one, all)) there in
    (omega (arith, next.0, one), next.1)

-- then the entry of a step stands at the step's place
pub alone_part : (entries : List Entry) (steps place : ℕ) (e : Entry) → AreNumbered steps entries → length entries ≡ steps → slice_get entries place ≡ Some e
    → IsPartAt entries place (record { item = e.item; before = 0 })
alone_part entries steps place e numbered same there =
    let here = alone_at 0 entries place e numbered.placed (omega (arith, same, numbered.count)) there in
    record {
      index = place;
      entry = e;
      there = there;
      item_is = refl;
      inside = omega (arith, here.1);
      place_is = omega (arith, here.0);
    }

-- ---- where entries count more

-- later entries begin later
pub firsts_rise : (before : ℕ) (entries : List Entry) → ArePlaced before entries → (i j : ℕ) (d : Entry) → i ≤ j → j < length entries → (get_or entries i d).first ≤ (get_or entries j d).first
firsts_rise before [] placed i j d order below = absurd (omega arith)
firsts_rise before (e ∷ es) placed zero zero d order below = omega arith
firsts_rise before (e ∷ es) placed zero (suc j) d order below =
    let least = first_least (before + count_of e.item) es j (get_or es j d) placed.2 (slice_get-get_or es j d (omega arith)) in
    omega (arith, placed.0, least)
firsts_rise before (e ∷ es) placed (suc i) zero d order below = absurd (omega arith)
firsts_rise before (e ∷ es) placed (suc i) (suc j) d order below = firsts_rise (before + count_of e.item) es placed.2 i j d (omega arith) (omega arith)

-- an entry's steps end where the next one's begin, or where all end
first_next : (before : ℕ) (entries : List Entry) (k : ℕ) (d : Entry) → ArePlaced before entries → k + 1 < length entries
    → (get_or entries (k + 1) d).first ≡ (get_or entries k d).first + count_of (get_or entries k d).item
first_next before [] k d placed below = absurd (omega arith)
first_next before (e ∷ []) k d placed below = absurd (omega arith)
first_next before (e ∷ f ∷ es) zero d placed below = omega (arith, placed.0, placed.2.0)
first_next before (e ∷ f ∷ es) (suc k) d placed below =
    let one : suc k + 1 ≡ suc (k + 1) = omega arith in
    rw one (first_next (before + count_of e.item) (f ∷ es) k d placed.2 (omega arith))

first_last : (before : ℕ) (entries : List Entry) (k : ℕ) (d : Entry) → ArePlaced before entries → k + 1 ≡ length entries
    → (get_or entries k d).first + count_of (get_or entries k d).item ≡ before + total entries
first_last before [] k d placed last = absurd (omega arith)
first_last before (e ∷ []) zero d placed last = omega (arith, placed.0)
first_last before (e ∷ []) (suc k) d placed last = absurd (omega arith)
first_last before (e ∷ f ∷ es) zero d placed last = absurd (omega arith)
first_last before (e ∷ f ∷ es) (suc k) d placed last = omega (arith, first_last (before + count_of e.item) (f ∷ es) k d placed.2 (omega arith))

-- the last entry that begins no later than the place has the step there
pub counted_part : (entries : List Entry) (steps place behind : ℕ) (d : Entry) → AreNumbered steps entries → place < steps → behind ≤ length entries
    → ((k : ℕ) → k < behind → (get_or entries k d).first ≤ place) → ((k : ℕ) → behind ≤ k → k < length entries → place < (get_or entries k d).first)
    → (1 ≤ behind) × ((get_or entries (behind - 1) d).first ≤ place)
    × IsPartAt entries place (record { item = (get_or entries (behind - 1) d).item; before = place - (get_or entries (behind - 1) d).first })
counted_part [] steps place behind d numbered below few early late = absurd (let count = numbered.count in omega (arith, count, below))
counted_part (e ∷ es) steps place behind d numbered below few early late =
    let entries = e ∷ es in
    let begin : e.first ≡ 0 = numbered.placed.0 in
    let some : 1 ≤ behind = elim (cases_lt 0 behind) [
      | inl yes_some ↦ omega (arith, yes_some)
      | inr none ↦ absurd (let zero_late : place < e.first = late 0 (omega (arith, none)) (omega arith) in omega (arith, zero_late, begin))
    ] in
    let k = behind - 1 in
    let here = early k (omega (arith, some)) in
    let end : place < (get_or entries k d).first + count_of (get_or entries k d).item = elim (cases_lt (k + 1) (length entries)) [
      | inl inner ↦
          let next = late (k + 1) (omega (arith, some)) inner in
          omega (arith, next, first_next 0 entries k d numbered.placed inner)
      | inr last ↦
          let count = numbered.count in
          omega (arith, below, count, first_last 0 entries k d numbered.placed (omega (arith, last, few, some)))
    ] in (
      some,
      here,
      record {
        index = k;
        entry = get_or entries k d;
        there = slice_get-get_or entries k d (omega (arith, some, few));
        item_is = refl;
        inside = omega (arith, here, end);
        place_is = omega (arith, here);
      },
    )

-- the same from what `partition_point` answers
pub parted : (entries : List Entry) (steps place : ℕ) → AreNumbered steps entries → IsPartitionedBy (λ e. leb e.first place) entries
parted entries steps place numbered = IsPartitionedBy-leb (λ e. e.first) entries place (λ i j d order below. firsts_rise 0 entries numbered.placed i j d order below)

pub counted_at : (entries : List Entry) (steps place behind : ℕ) (d : Entry) → AreNumbered steps entries → place < steps → behind ≤ length entries
    → IsPartitionPoint (λ e. leb e.first place ≡ true) (λ e. leb e.first place ≡ false) entries behind
    → (1 ≤ behind) × ((get_or entries (behind - 1) d).first ≤ place)
    × IsPartAt entries place (record { item = (get_or entries (behind - 1) d).item; before = place - (get_or entries (behind - 1) d).first })
counted_at entries steps place behind d numbered below few point =
    counted_part entries steps place behind d numbered below few
    (λ k early. leb-true _ _ (point.0 k d (omega arith) early))
    (λ k late inside. leb-false _ _ (point.1 k d late inside))
