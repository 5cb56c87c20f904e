-- How a host is recorded sample by sample: for private contracts alone.
use Rattle.std.specs.Prelude.{ℕ, zero, suc, ◌+◌, ◌-◌, ◌==◌, Bool, true, false, List, [], ◌∷◌, ◌++◌, length, map, max, nat_lt, replicate, take, Option, Some, None, unwrap_or, if◌then◌else◌}
use Rattle.std.specs.List.{insert}
use Rattle.vm_recorded.specs.declared.counts.Counts.{Counts}
use Rattle.vm_recorded.specs.Counts.{absent_for, counted, counts_of}
use Rattle.vm_recorded.specs.Hosts.{GuestView, HostView}
use Rattle.vm_samples.specs.Policies.{PolicyView}
use Rattle.vm_steer.specs.declared.fate.Fate.{Fate}
use Rattle.vm_steer.specs.declared.fate.Fate.TheVariants.{Left, Steered}
use Rattle.vm_steer.specs.declared.fate.SteeredDomain.{SteeredDomain}
use Rattle.vm_steer.specs.declared.rules.Rules.{Rules}
use Rattle.vm_steer.specs.Entries.{EntryView}
use Rattle.vm_steer.specs.Look.{bounds_at, rules_of}
use Rattle.vm_steer.specs.Names.{place_of, stands_at}
use Rattle.vm_log.specs.declared.kept.Kept.{Kept}
use Rattle.vm_log.specs.Alone.{AloneView}
use Rattle.vm_log.specs.HostOf.{is_among}
use Rattle.vm_log.specs.Seen.{greater, left_in, steered_in}

-- ---- who comes in

abbrev pub names_of : List GuestView → List (List ℕ)
names_of guests = map (λ g. g.name) guests

abbrev pub alone_names : List AloneView → List (List ℕ)
alone_names beside = map (λ a. a.name) beside

-- at the place of a name among others, unless it stands there
abbrev pub put_at : {A : Type 0} → (names : List (List ℕ)) → (name : List ℕ) → A → List A → List A
put_at names name new all =
    if stands_at names (place_of names name) name then all else insert all (place_of names name) new

unfoldable pub new_guest : (ballooned : ℕ) → Rules → (epochs : ℕ) → (name : List ℕ) → GuestView
new_guest ballooned rules epochs name =
    let bounds = bounds_at ballooned rules 0 in
    record { name = name; size = 0; min = bounds.min; cap = bounds.cap; shares = bounds.shares; first = epochs; uses = [] }

unfoldable pub new_kept : Rules → (closed : ℕ) → Kept
new_kept rules closed = record { rules = rules; is_new = true; first = closed; size = 0; length = 0; counts = counts_of [] }

abbrev pub new_alone : (name : List ℕ) → AloneView
new_alone name = record { name = name; before = 0; most = 0 }

-- what grows with the domains of a sample
pub record Growing : Type 0 where
  pub guests : List GuestView
  pub kept : List Kept
  pub beside : List AloneView

abbrev pub with_guest : PolicyView → (epochs closed : ℕ) → (name : List ℕ) → Growing → Growing
with_guest policy epochs closed name all = record {
  guests = put_at (names_of all.guests) name (new_guest policy.most (rules_of policy.guests name) epochs name) all.guests;
  kept = put_at (names_of all.guests) name (new_kept (rules_of policy.guests name) closed) all.kept;
  beside = all.beside;
}

abbrev pub with_alone : (name : List ℕ) → Growing → Growing
with_alone name all = record all { beside = put_at (alone_names all.beside) name (new_alone name) all.beside }

abbrev pub with_fate : PolicyView → (epochs closed : ℕ) → (name : List ℕ) → Fate → Growing → Growing
with_fate policy epochs closed name (Left left) all = with_alone name all
with_fate policy epochs closed name (Steered steered) all = with_guest policy epochs closed name all

abbrev pub with_entries : PolicyView → (epochs closed : ℕ) → List EntryView → Growing → Growing
with_entries policy epochs closed [] all = all
with_entries policy epochs closed (e ∷ entries) all =
    with_entries policy epochs closed entries (with_fate policy epochs closed e.name e.fate all)

-- ---- what a guest used

abbrev pub raised_last : List (Option ℕ) → (used : ℕ) → List (Option ℕ)
raised_last [] used = []
raised_last (u ∷ []) used = greater u (Some used) ∷ []
raised_last (u ∷ next ∷ uses) used = u ∷ raised_last (next ∷ uses) used

abbrev pub latest : List (Option ℕ) → ℕ
latest [] = 0
latest (u ∷ []) = unwrap_or u 0
latest (u ∷ next ∷ uses) = latest (next ∷ uses)

-- whether less is told than this
abbrev pub is_less : Option ℕ → (used : ℕ) → Bool
is_less None used = true
is_less (Some units) used = nat_lt units used

-- so many uses are those of epochs that have ended
abbrev pub raised_uses : (long gap : ℕ) → List (Option ℕ) → (used : ℕ) → List (Option ℕ)
raised_uses long gap uses used =
    if nat_lt long (length uses) then raised_last uses used else uses ++ (replicate gap None ++ Some used ∷ [])

abbrev pub gap_of : Kept → (epoch : ℕ) → ℕ
gap_of kept epoch = epoch - kept.first - kept.length

abbrev pub resized : (ballooned : ℕ) → Rules → GuestView → (size : ℕ) → GuestView
resized ballooned rules g size =
    let bounds = bounds_at ballooned rules size in
    record {
      name = g.name;
      size = size;
      min = bounds.min;
      cap = bounds.cap;
      shares = bounds.shares;
      first = g.first;
      uses = g.uses;
    }

unfoldable pub raised_by : (ballooned epoch : ℕ) → Kept → GuestView → Option SteeredDomain → GuestView
raised_by ballooned epoch kept g None = if length g.uses == 0 then record g { first = epoch + 1 } else g
raised_by ballooned epoch kept g (Some seen) =
    let sized = resized ballooned kept.rules g (max g.size seen.size) in
    record sized { first = kept.first; uses = raised_uses kept.length (gap_of kept epoch) g.uses seen.used }

abbrev pub raised_all : (ballooned epoch : ℕ) → List EntryView → List Kept → List GuestView → List GuestView
raised_all ballooned epoch entries [] guests = guests
raised_all ballooned epoch entries (k ∷ kept) [] = []
raised_all ballooned epoch entries (k ∷ kept) (g ∷ guests) =
    raised_by ballooned epoch k g (steered_in g.name entries) ∷ raised_all ballooned epoch entries kept guests

-- ---- what that comes to

unfoldable pub counts_with : Kept → (epoch : ℕ) → (uses : List (Option ℕ)) → Counts
counts_with kept epoch uses =
    if nat_lt kept.length (length uses) then counted (absent_for (gap_of kept epoch) kept.counts) (Some (latest uses)) else kept.counts

abbrev pub counted_all : (epoch : ℕ) → List Kept → List GuestView → List Counts
counted_all epoch [] guests = []
counted_all epoch (k ∷ kept) [] = []
counted_all epoch (k ∷ kept) (g ∷ guests) = counts_with k epoch g.uses ∷ counted_all epoch kept guests

-- ---- the end of an epoch

abbrev pub kept_with : Kept → GuestView → Counts → Kept
kept_with kept g counts = record {
  rules = kept.rules;
  is_new = false;
  first = g.first;
  size = g.size;
  length = length g.uses;
  counts = counts;
}

abbrev pub kept_all : List GuestView → List Counts → List Kept → List Kept
kept_all guests counts [] = []
kept_all [] counts (k ∷ kept) = []
kept_all (g ∷ guests) [] (k ∷ kept) = []
kept_all (g ∷ guests) (c ∷ counts) (k ∷ kept) = kept_with k g c ∷ kept_all guests counts kept

unfoldable pub taken_back : (ballooned : ℕ) → Kept → GuestView → GuestView
taken_back ballooned kept g =
    let sized = resized ballooned kept.rules g kept.size in
    record sized { first = kept.first; uses = take kept.length g.uses }

-- the guest at a place
abbrev pub back_at : (ballooned : ℕ) → Kept → (place : ℕ) → List GuestView → List GuestView
back_at ballooned k place [] = []
back_at ballooned k zero (g ∷ guests) = if k.is_new then guests else taken_back ballooned k g ∷ guests
back_at ballooned k (suc place) (g ∷ guests) = g ∷ back_at ballooned k place guests

abbrev pub all_taken_back : (ballooned : ℕ) → List Kept → List GuestView → List GuestView
all_taken_back ballooned [] guests = []
all_taken_back ballooned (k ∷ kept) [] = []
all_taken_back ballooned (k ∷ kept) (g ∷ guests) =
    if k.is_new then all_taken_back ballooned kept guests else taken_back ballooned k g ∷ all_taken_back ballooned kept guests

-- ---- those beside

abbrev pub raised_alone : List EntryView → AloneView → AloneView
raised_alone entries a = record a { most = max a.most (left_in a.name entries) }

abbrev pub kept_alone : AloneView → AloneView
kept_alone a = record a { before = a.most }

abbrev pub alone_back : AloneView → AloneView
alone_back a = record a { most = a.before }

-- what they leave of frames
abbrev pub frames_less : (guests : List (List ℕ)) → (frames : ℕ) → List AloneView → ℕ
frames_less guests frames [] = frames
frames_less guests frames (a ∷ beside) = frames_less guests (if is_among guests a.name then frames else frames - a.most) beside

-- ---- the host

abbrev pub hosted : PolicyView → (epochs : ℕ) → List GuestView → List AloneView → HostView
hosted policy epochs guests beside = record {
  policy = policy;
  frames = max (frames_less (names_of guests) policy.memory beside) 1;
  epochs = epochs;
  guests = guests;
}
