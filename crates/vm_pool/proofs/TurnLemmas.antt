-- Guests that leave their slots for an epoch, and come back.
use Rattle.std.proofs.Common.{◌≡◌, ℕ, zero, suc, ◌+◌, ◌<◌, ◌≤◌, Bool, true, false, cond, List, [], ◌∷◌, ◌++◌, length, map, set, get_or, get_or-set_same, get_or-set_other, below_more, take, refl, sym, ap, ◌∙◌, arith, subst}
use Rattle.std.specs.Prelude.{All, count_by, reverse}
use Rattle.std.proofs.lemmas.List.Elements.{All-head, All-tail, All-cons, All-nil}
use Rattle.std.proofs.lemmas.List.Sums.{sum_by-cons, sum_by-set}
use Rattle.std.proofs.lemmas.List.{get_or_default, length-reverse, reverse-append, reverse-reverse, set-get_or, take_more}
use Rattle.vm_board.specs.Pieces.{after, finished}
use Rattle.vm_guest.specs.Pieces.{pieces}
use Rattle.vm_guest.specs.State.{GuestState, after_state_pieces, state_epoch, state_piece}
use Rattle.vm_guest.proofs.PieceLemmas.{epoch-states}
use Rattle.vm_pool.specs.declared.slot.Slot.{Slot}
use Rattle.vm_pool.specs.declared.slot.Slot.TheVariants.{Stopped, Running, Away}
use Rattle.vm_pool.specs.Changes.{IsServed}
use Rattle.vm_pool.specs.Slots.{guest_in, is_away, is_prepared, slot_run, unprepared, IsSettled}
use Rattle.vm_pool.specs.Turns.{back_in, left_slot, running_in, Arrives, IsReady, MayRun}

-- ---- the pieces of a turn

after-pieces : (k : ℕ) (s : GuestState) → after state_piece k s ≡ after_state_pieces k s
after-pieces zero s = refl
after-pieces (suc k) s = ap (state_piece k) (after-pieces k s)

pub finished-turn : (s : GuestState) → finished (λ (t : GuestState). pieces t.guest) state_piece s ≡ state_epoch s
finished-turn s = after-pieces (pieces s.guest) s ∙ epoch-states s

pub finished-turns : (turns : List GuestState) → map (finished (λ (t : GuestState). pieces t.guest) state_piece) turns ≡ map state_epoch turns
finished-turns [] = refl
finished-turns (s ∷ turns) = λ i. finished-turn s i ∷ finished-turns turns i

-- ---- they leave

pub running_in-drop : (slot : Slot) (slots : List Slot) → running_in (slot ∷ slots) ≡ running_in (slot ∷ []) ++ running_in slots
running_in-drop (Stopped config) slots = refl
running_in-drop (Running s) slots = refl
running_in-drop Away slots = refl

-- each that leaves may run its epoch
pub ready : (slots : List Slot) → All (λ s. is_prepared s ≡ true) slots → All IsServed (map guest_in slots) → All IsReady (running_in slots)
ready [] prepared served = All-nil IsReady
ready (Stopped config ∷ slots) prepared served =
    ready slots (All-tail (λ s. is_prepared s ≡ true) (Stopped config) slots prepared) (All-tail IsServed (guest_in (Stopped config)) (map guest_in slots) served)
ready (Running s ∷ slots) prepared served =
    All-cons IsReady s (running_in slots)
    (record { prepared = All-head (λ t. is_prepared t ≡ true) (Running s) slots prepared; nothing = All-head IsServed (guest_in (Running s)) (map guest_in slots) served })
    (ready slots (All-tail (λ t. is_prepared t ≡ true) (Running s) slots prepared) (All-tail IsServed (guest_in (Running s)) (map guest_in slots) served))
ready (Away ∷ slots) prepared served =
    ready slots (All-tail (λ s. is_prepared s ≡ true) Away slots prepared) (All-tail IsServed (guest_in Away) (map guest_in slots) served)

-- the same where they are
pub ready-here : (slots : List Slot) → All (λ s. is_prepared s ≡ true) slots → All IsServed (map guest_in slots) → All MayRun slots
ready-here [] prepared served = All-nil MayRun
ready-here (Stopped config ∷ slots) prepared served =
    All-cons MayRun (Stopped config) slots tt
    (ready-here slots (All-tail (λ s. is_prepared s ≡ true) (Stopped config) slots prepared) (All-tail IsServed (guest_in (Stopped config)) (map guest_in slots) served))
ready-here (Running s ∷ slots) prepared served =
    All-cons MayRun (Running s) slots
    (record { prepared = All-head (λ t. is_prepared t ≡ true) (Running s) slots prepared; nothing = All-head IsServed (guest_in (Running s)) (map guest_in slots) served })
    (ready-here slots (All-tail (λ t. is_prepared t ≡ true) (Running s) slots prepared) (All-tail IsServed (guest_in (Running s)) (map guest_in slots) served))
ready-here (Away ∷ slots) prepared served =
    All-cons MayRun Away slots tt
    (ready-here slots (All-tail (λ s. is_prepared s ≡ true) Away slots prepared) (All-tail IsServed (guest_in Away) (map guest_in slots) served))

-- as many are away as run
pub away-left : (slots : List Slot) → All IsSettled slots → count_by is_away (map left_slot slots) ≡ length (running_in slots)
away-left [] settled = refl
away-left (Stopped config ∷ slots) settled = away-left slots (All-tail IsSettled (Stopped config) slots settled)
away-left (Running s ∷ slots) settled =
    let rest = away-left slots (All-tail IsSettled (Running s) slots settled) in
    let first = sum_by-cons (λ t. cond (is_away t) 1 0) Away (map left_slot slots) in
    omega (arith, first, rest)
away-left (Away ∷ slots) settled = absurd (All-head IsSettled Away slots settled)

pub length-running_in : (slots : List Slot) → length (running_in slots) ≤ length slots
length-running_in [] = omega arith
length-running_in (Stopped config ∷ slots) = omega (arith, length-running_in slots)
length-running_in (Running s ∷ slots) = omega (arith, length-running_in slots)
length-running_in (Away ∷ slots) = omega (arith, length-running_in slots)

-- ---- they come back

-- the first that is away comes back
pub back-step : (slots : List Slot) (i : ℕ) (g : GuestState) (left : List GuestState) → i < length slots → ((k : ℕ) → k < i → is_away (get_or slots k Away) ≡ false)
    → get_or slots i Away ≡ Away → back_in (set slots i (Running g)) left ≡ back_in slots (g ∷ left)
back-step [] i g left there before away = absurd (omega (arith, there))
back-step (Stopped config ∷ slots) zero g left there before away = absurd (cc)
back-step (Running s ∷ slots) zero g left there before away = absurd (cc)
back-step (Away ∷ slots) zero g left there before away = refl
back-step (Stopped config ∷ slots) (suc i) g left there before away =
    ap (λ rest. Stopped config ∷ rest) (back-step slots i g left (omega (arith, there)) (λ k below. before (suc k) (omega (arith, below))) away)
back-step (Running s ∷ slots) (suc i) g left there before away =
    ap (λ rest. Running s ∷ rest) (back-step slots i g left (omega (arith, there)) (λ k below. before (suc k) (omega (arith, below))) away)
back-step (Away ∷ slots) (suc i) g left there before away =
    let no : true ≡ false = before 0 (omega arith) in absurd (cc)

-- none is away
pub back-none : (slots : List Slot) (left : List GuestState) → ((k : ℕ) → k < length slots → is_away (get_or slots k Away) ≡ false) → back_in slots left ≡ slots
back-none [] left here = refl
back-none (Stopped config ∷ slots) left here =
    ap (λ rest. Stopped config ∷ rest) (back-none slots left (λ k below. here (suc k) (omega (arith, below))))
back-none (Running s ∷ slots) left here =
    ap (λ rest. Running s ∷ rest) (back-none slots left (λ k below. here (suc k) (omega (arith, below))))
back-none (Away ∷ slots) left here = let no : true ≡ false = here 0 (omega arith) in absurd (cc)

-- all come back after their epochs, or as they left
pub back-run : (slots : List Slot) → All IsSettled slots → back_in (map left_slot slots) (map state_epoch (running_in slots)) ≡ map slot_run slots
back-run [] settled = refl
back-run (Stopped config ∷ slots) settled = ap (λ rest. Stopped config ∷ rest) (back-run slots (All-tail IsSettled (Stopped config) slots settled))
back-run (Running s ∷ slots) settled = ap (λ rest. Running (state_epoch s) ∷ rest) (back-run slots (All-tail IsSettled (Running s) slots settled))
back-run (Away ∷ slots) settled = absurd (All-head IsSettled Away slots settled)

pub back-same : (slots : List Slot) → All IsSettled slots → back_in (map left_slot slots) (running_in slots) ≡ slots
back-same [] settled = refl
back-same (Stopped config ∷ slots) settled = ap (λ rest. Stopped config ∷ rest) (back-same slots (All-tail IsSettled (Stopped config) slots settled))
back-same (Running s ∷ slots) settled = ap (λ rest. Running s ∷ rest) (back-same slots (All-tail IsSettled (Running s) slots settled))
back-same (Away ∷ slots) settled = absurd (All-head IsSettled Away slots settled)

-- an epoch uses up what was prepared
run-unprepared : (s : Slot) → slot_run (unprepared s) ≡ slot_run s
run-unprepared (Stopped config) = refl
run-unprepared (Running s) = refl
run-unprepared Away = refl

all-unprepared : (slots : List Slot) → map slot_run (map unprepared slots) ≡ map slot_run slots
all-unprepared [] = refl
all-unprepared (s ∷ slots) = λ i. run-unprepared s i ∷ all-unprepared slots i

pub run-same : (new old : List Slot) → map unprepared new ≡ map unprepared old → map slot_run new ≡ map slot_run old
run-same new old same = sym (all-unprepared new) ∙ ap (map slot_run) same ∙ all-unprepared old

-- ---- one after the other

length_push : (turns : List GuestState) (s : GuestState) → length (turns ++ s ∷ []) ≡ length turns + 1
length_push [] s = refl
length_push (first ∷ turns) s = let rest = length_push turns s in omega (arith, rest)

running_in-append : (slots others : List Slot) → running_in (slots ++ others) ≡ running_in slots ++ running_in others
running_in-append [] others = refl
running_in-append (Stopped config ∷ slots) others = running_in-append slots others
running_in-append (Running s ∷ slots) others = ap (λ rest. s ∷ rest) (running_in-append slots others)
running_in-append (Away ∷ slots) others = running_in-append slots others

-- the guest of one more slot left
pub running_in-more : (slots : List Slot) (i : ℕ) (slot d : Slot) (turns : List GuestState) → i < length slots → slot ≡ get_or slots i d → turns ≡ running_in (take i slots)
    → turns ++ running_in (slot ∷ []) ≡ running_in (take (i + 1) slots)
running_in-more slots i slot d turns there is before =
    (λ j. before j ++ running_in (is j ∷ []))
    ∙ sym (running_in-append (take i slots) (get_or slots i d ∷ []))
    ∙ ap running_in (sym (take_more slots i d there))

-- the first slots have their guests back, and as many are left as are away
pub record Coming (start now : List Slot) (all left : List GuestState) (i : ℕ) : Type 0 where
  pub back : back_in now (reverse left) ≡ back_in start all
  pub here : (k : ℕ) → k < i → is_away (get_or now k Away) ≡ false
  pub count : count_by is_away now ≡ length left

pub coming-first : (start : List Slot) (all : List GuestState) → length all ≡ count_by is_away start → Coming start start all (reverse all) 0
coming-first start all same = record {
  back = ap (back_in start) (reverse-reverse all);
  here = λ k below. absurd (omega (arith, below));
  count = sym same ∙ sym (length-reverse all);
}

counted : (slots : List Slot) (i : ℕ) (d : Slot) → i < length slots → is_away (get_or slots i d) ≡ true → 1 ≤ count_by is_away slots
counted [] i d there away = absurd (omega (arith, there))
counted (slot ∷ slots) zero d there away =
    let first = sum_by-cons (λ t. cond (is_away t) 1 0) slot slots in
    let one = ap {B = ℕ} (λ b. cond b 1 0) away in
    omega (arith, first, one)
counted (slot ∷ slots) (suc i) d there away =
    let first = sum_by-cons (λ t. cond (is_away t) 1 0) slot slots in
    let rest = counted slots i d (omega (arith, there)) away in
    omega (arith, first, rest)

pub coming-some : (start now : List Slot) (all left : List GuestState) (i : ℕ) (d : Slot) → i < length now → is_away (get_or now i d) ≡ true → Coming start now all left i → 0 < length left
coming-some start now all left i d there away coming =
    let some = counted now i d there away in
    let count = coming.count in
    omega (arith, some, count)

away-is : (s : Slot) → is_away s ≡ true → s ≡ Away
away-is (Stopped config) away = let no : false ≡ true = away in absurd (cc)
away-is (Running s) away = let no : false ≡ true = away in absurd (cc)
away-is Away away = refl

-- a slot whose guest is not away stays
coming-stays : (start now : List Slot) (all left later : List GuestState) (i : ℕ) (d new : Slot) → i < length now → is_away (get_or now i d) ≡ false → new ≡ get_or now i d → later ≡ left
    → Coming start now all left i → Coming start (set now i new) all later (i + 1)
coming-stays start now all left later i d new there stays same same_left coming =
    let kept : set now i new ≡ now = ap (set now i) same ∙ set-get_or now i d in
    let here : is_away (get_or now i Away) ≡ false = ap is_away (get_or_default now i Away d there) ∙ stays in
    subst (λ slots. Coming start slots all later (i + 1)) (sym kept) (subst (λ turns. Coming start now all turns (i + 1)) (sym same_left) (record {
      back = coming.back;
      here = below_more (λ k. is_away (get_or now k Away) ≡ false) i coming.here here;
      count = coming.count;
    }))

-- the last of those left comes back to a slot whose guest is away
coming-back : (start now : List Slot) (all left later : List GuestState) (i : ℕ) (d new : Slot) → i < length now → is_away (get_or now i d) ≡ true → Arrives new left later
    → Coming start now all left i → Coming start (set now i new) all later (i + 1)
coming-back start now all left later i d new there away a coming =
    let g = a.guest in
    let empty : get_or now i Away ≡ Away = get_or_default now i Away d there ∙ away-is (get_or now i d) away in
    let turned : reverse left ≡ g ∷ reverse later = ap reverse a.last ∙ reverse-append later (g ∷ []) in
    let changed = sum_by-set (λ t. cond (is_away t) 1 0) now i new Away there in
    let was = ap {B = ℕ} (λ s. cond (is_away s) 1 0) empty in
    let comes = ap {B = ℕ} (λ s. cond (is_away s) 1 0) a.running in
    let count = coming.count in
    let long = ap length a.last ∙ length_push later g in
    record {
      back = ap (λ s. back_in (set now i s) (reverse later)) a.running ∙ back-step now i g (reverse later) there coming.here empty ∙ ap (back_in now) (sym turned) ∙ coming.back;
      here = below_more (λ k. is_away (get_or (set now i new) k Away) ≡ false) i
          (λ k below. ap is_away (get_or-set_other now i k new Away (λ same. absurd (omega (arith, below, same)))) ∙ coming.here k below)
          (ap is_away (get_or-set_same now i new Away there ∙ a.running));
      count = omega (arith, changed, was, comes, count, long);
    }

pub coming-next : (start now : List Slot) (all left later : List GuestState) (i : ℕ) (d new : Slot) → i < length now
    → (is_away (get_or now i d) ≡ false → (new ≡ get_or now i d) × (later ≡ left)) → (is_away (get_or now i d) ≡ true → Arrives new left later)
    → Coming start now all left i → Coming start (set now i new) all later (i + 1)
coming-next start now all left later i d new there stays comes coming = go (is_away (get_or now i d)) refl
  where
    go : (b : Bool) → is_away (get_or now i d) ≡ b → Coming start (set now i new) all later (i + 1)
    go false here = let both = stays here in coming-stays start now all left later i d new there here both.0 both.1 coming
    go true away = coming-back start now all left later i d new there away (comes away) coming

none_away : (slots : List Slot) → ((k : ℕ) → k < length slots → is_away (get_or slots k Away) ≡ false) → count_by is_away slots ≡ 0
none_away [] here = refl
none_away (slot ∷ slots) here =
    let first = sum_by-cons (λ t. cond (is_away t) 1 0) slot slots in
    let one = ap {B = ℕ} (λ b. cond b 1 0) (here 0 (omega arith)) in
    let rest = none_away slots (λ k below. here (suc k) (omega (arith, below))) in
    omega (arith, first, one, rest)

-- all are back
pub coming-end : (start now : List Slot) (all left : List GuestState) (i : ℕ) → length now ≤ i → Coming start now all left i → now ≡ back_in start all
coming-end start now all left i past coming =
    sym (back-none now (reverse left) (λ k below. coming.here k (omega (arith, below, past)))) ∙ coming.back

pub coming-none : (start now : List Slot) (all left : List GuestState) (i : ℕ) → length now ≤ i → Coming start now all left i → length left ≡ 0
coming-none start now all left i past coming =
    let none = none_away now (λ k below. coming.here k (omega (arith, below, past))) in
    let count = coming.count in
    omega (arith, none, count)

pub all-prepared : (slots : List Slot) → ((i : ℕ) → i < length slots → is_prepared (get_or slots i Away) ≡ true) → All (λ s. is_prepared s ≡ true) slots
all-prepared slots each = λ i d there. ap is_prepared (get_or_default slots i d Away there) ∙ each i there

-- where no guest runs, none runs its epoch
pub stays : (slot : Slot) → ((s : GuestState) → slot ≡ Running s → ⊥) → slot ≡ slot_run slot
stays (Stopped config) none = refl
stays (Running s) none = absurd (none s refl)
stays Away none = refl

pub is-away : (slot : Slot) → is_away slot ≡ true → slot ≡ Away
is-away (Stopped config) away = absurd (cc)
is-away (Running s) away = absurd (cc)
is-away Away away = refl
