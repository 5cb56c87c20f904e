-- Loops that write element by element.
use Rattle.std.proofs.Common.{◌≡◌, ◌∙◌, ◌==◌, Bool, true, false, true≢false, if◌then◌else◌, ℕ, zero, suc, ◌+◌, ◌-◌, ◌<◌, ◌≤◌, List, [], ◌∷◌, ◌++◌, Option, Some, None, drop, get_or, length, map, max, append_assoc, replicate, slice_set, take, unwrap_or, add-one, refl, sym, ap, subst, arith}
use Rattle.std.proofs.Math.Seq.{take-length}
use Rattle.std.proofs.lemmas.List.{append-nil, get_or-map, length-append, length-map, length-take-le}
use Rattle.std.proofs.lemmas.Bool.Decides.{nat_tests}
use Rattle.std.specs.List.{remove}
use Rattle.vm_recorded.specs.declared.counts.Counts.{Counts}
use Rattle.vm_recorded.specs.Hosts.{GuestView}
use Rattle.vm_steer.specs.Entries.{EntryView}
use Rattle.vm_log.specs.declared.kept.Kept.{Kept}
use Rattle.vm_log.specs.Seen.{greater, steered_in}
use Rattle.vm_log.specs.Steps.{all_taken_back, back_at, counted_all, counts_with, is_less, kept_all, kept_with, latest, raised_all, raised_by, raised_last, taken_back}
use Rattle.vm_log.specs.Told.{AreKeptSmall, AreSmall, IsSmall}

put : {A : Type 0} (whole old : List A) (i : ℕ) (v : A) → length whole ≡ length old → i < length old → v ≡ get_or whole i v
    → slice_set (take i whole ++ drop i old) i v ≡ take (suc i) whole ++ drop (suc i) old
put whole [] i v same less is = absurd (omega arith)
put [] (o ∷ old) i v same less is = absurd (omega arith)
put (w ∷ whole) (o ∷ old) zero v same less is = ap (λ x. x ∷ old) is
put (w ∷ whole) (o ∷ old) (suc i) v same less is = ap (λ l. w ∷ l) (put whole old i v (omega arith) (omega arith) is)

-- one more is as it is to be
pub put_next : {A : Type 0} (whole old now : List A) (i : ℕ) (v : A) → length whole ≡ length old → i < length old → now ≡ take i whole ++ drop i old → v ≡ get_or whole i v
    → slice_set now i v ≡ take (i + 1) whole ++ drop (i + 1) old
put_next whole old now i v same less done is =
    ap (λ l. slice_set l i v) done ∙ (put whole old i v same less is ∙ (λ j. take (sym (add-one i) j) whole ++ drop (sym (add-one i) j) old))

read : {A : Type 0} (whole old : List A) (i : ℕ) (d : A) → length whole ≡ length old → i < length old → get_or (take i whole ++ drop i old) i d ≡ get_or old i d
read whole [] i d same less = absurd (omega arith)
read [] (o ∷ old) i d same less = absurd (omega arith)
read (w ∷ whole) (o ∷ old) zero d same less = refl
read (w ∷ whole) (o ∷ old) (suc i) d same less = read whole old i d (omega arith) (omega arith)

-- what is next is as it was
pub read_next : {A : Type 0} (whole old now : List A) (i : ℕ) (d : A) → length whole ≡ length old → i < length old → now ≡ take i whole ++ drop i old → get_or now i d ≡ get_or old i d
read_next whole old now i d same less done = ap (λ l. get_or l i d) done ∙ read whole old i d same less

all_taken : {A : Type 0} (whole old : List A) → length whole ≡ length old → take (length old) whole ++ drop (length old) old ≡ whole
all_taken [] [] same = refl
all_taken [] (o ∷ old) same = absurd (omega arith)
all_taken (w ∷ whole) [] same = absurd (omega arith)
all_taken (w ∷ whole) (o ∷ old) same = ap (λ l. w ∷ l) (all_taken whole old (omega arith))

-- at the end all are
pub put_all : {A : Type 0} (whole old now : List A) (i : ℕ) → length whole ≡ length old → i ≡ length old → now ≡ take i whole ++ drop i old → now ≡ whole
put_all whole old now i same end done = done ∙ ((λ j. take (end j) whole ++ drop (end j) old) ∙ all_taken whole old same)

pub put_none : {A : Type 0} (whole old : List A) → old ≡ take 0 whole ++ drop 0 old
put_none whole old = refl

-- ---- what is to be, element by element

pub length_raised : (ballooned epoch : ℕ) (entries : List EntryView) (kept : List Kept) (guests : List GuestView) → length kept ≡ length guests
    → length (raised_all ballooned epoch entries kept guests) ≡ length guests
length_raised ballooned epoch entries [] guests same = refl
length_raised ballooned epoch entries (k ∷ kept) [] same = refl
length_raised ballooned epoch entries (k ∷ kept) (g ∷ guests) same = ap suc (length_raised ballooned epoch entries kept guests (omega arith))

pub raised_at : (ballooned epoch : ℕ) (entries : List EntryView) (kept : List Kept) (guests : List GuestView) (i : ℕ) (dk : Kept) (dg d : GuestView) → length kept ≡ length guests → i < length guests
    → get_or (raised_all ballooned epoch entries kept guests) i d ≡ raised_by ballooned epoch (get_or kept i dk) (get_or guests i dg) (steered_in (get_or guests i dg).name entries)
raised_at ballooned epoch entries [] [] i dk dg d same less = absurd (omega arith)
raised_at ballooned epoch entries [] (g ∷ guests) i dk dg d same less = absurd (omega arith)
raised_at ballooned epoch entries (k ∷ kept) [] i dk dg d same less = absurd (omega arith)
raised_at ballooned epoch entries (k ∷ kept) (g ∷ guests) zero dk dg d same less = refl
raised_at ballooned epoch entries (k ∷ kept) (g ∷ guests) (suc i) dk dg d same less = raised_at ballooned epoch entries kept guests i dk dg d (omega arith) (omega arith)

pub length_counted : (epoch : ℕ) (kept : List Kept) (guests : List GuestView) → length kept ≡ length guests → length (counted_all epoch kept guests) ≡ length guests
length_counted epoch [] [] same = refl
length_counted epoch [] (g ∷ guests) same = absurd (omega arith)
length_counted epoch (k ∷ kept) [] same = refl
length_counted epoch (k ∷ kept) (g ∷ guests) same = ap suc (length_counted epoch kept guests (omega arith))

pub counted_at : (epoch : ℕ) (kept : List Kept) (guests : List GuestView) (i : ℕ) (dk : Kept) (dg : GuestView) (d : Counts) → length kept ≡ length guests → i < length guests
    → get_or (counted_all epoch kept guests) i d ≡ counts_with (get_or kept i dk) epoch (get_or guests i dg).uses
counted_at epoch [] [] i dk dg d same less = absurd (omega arith)
counted_at epoch [] (g ∷ guests) i dk dg d same less = absurd (omega arith)
counted_at epoch (k ∷ kept) [] i dk dg d same less = absurd (omega arith)
counted_at epoch (k ∷ kept) (g ∷ guests) zero dk dg d same less = refl
counted_at epoch (k ∷ kept) (g ∷ guests) (suc i) dk dg d same less = counted_at epoch kept guests i dk dg d (omega arith) (omega arith)

pub length_kept : (guests : List GuestView) (counts : List Counts) (kept : List Kept) → length kept ≡ length guests → length counts ≡ length guests → length (kept_all guests counts kept) ≡ length kept
length_kept guests counts [] same also = refl
length_kept [] counts (k ∷ kept) same also = absurd (omega arith)
length_kept (g ∷ guests) [] (k ∷ kept) same also = absurd (omega arith)
length_kept (g ∷ guests) (c ∷ counts) (k ∷ kept) same also = ap suc (length_kept guests counts kept (omega arith) (omega arith))

pub kept_at : (guests : List GuestView) (counts : List Counts) (kept : List Kept) (i : ℕ) (dg : GuestView) (dc : Counts) (dk d : Kept) → length kept ≡ length guests → length counts ≡ length guests → i < length kept
    → get_or (kept_all guests counts kept) i d ≡ kept_with (get_or kept i dk) (get_or guests i dg) (get_or counts i dc)
kept_at guests counts [] i dg dc dk d same also less = absurd (omega arith)
kept_at [] counts (k ∷ kept) i dg dc dk d same also less = absurd (omega arith)
kept_at (g ∷ guests) [] (k ∷ kept) i dg dc dk d same also less = absurd (omega arith)
kept_at (g ∷ guests) (c ∷ counts) (k ∷ kept) zero dg dc dk d same also less = refl
kept_at (g ∷ guests) (c ∷ counts) (k ∷ kept) (suc i) dg dc dk d same also less = kept_at guests counts kept i dg dc dk d (omega arith) (omega arith) (omega arith)

-- ---- the last use

pub last_set : (uses : List (Option ℕ)) (used : ℕ) (u v : Option ℕ) → 0 < length uses → u ≡ get_or uses (length uses - 1) u → v ≡ greater u (Some used) → slice_set uses (length uses - 1) v ≡ raised_last uses used
last_set [] used u v some is to = absurd (omega arith)
last_set (a ∷ []) used u v some is to = ap (λ x. x ∷ []) (to ∙ ap (λ x. greater x (Some used)) is)
last_set (a ∷ b ∷ uses) used u v some is to =
    let k : length (a ∷ b ∷ uses) - 1 ≡ suc (length (b ∷ uses) - 1) = omega arith in
    let there : u ≡ get_or (b ∷ uses) (length (b ∷ uses) - 1) u = is ∙ ap (λ n. get_or (a ∷ b ∷ uses) n u) k in
    ap (λ n. slice_set (a ∷ b ∷ uses) n v) k ∙ ap (λ l. a ∷ l) (last_set (b ∷ uses) used u v (omega arith) there to)

pub last_stays : (uses : List (Option ℕ)) (used : ℕ) (u : Option ℕ) → 0 < length uses → u ≡ get_or uses (length uses - 1) u → u ≡ greater u (Some used) → uses ≡ raised_last uses used
last_stays [] used u some is to = absurd (omega arith)
last_stays (a ∷ []) used u some is to = let at : a ≡ greater a (Some used) = subst (λ x. x ≡ greater x (Some used)) is to in ap (λ x. x ∷ []) at
last_stays (a ∷ b ∷ uses) used u some is to =
    let k : length (a ∷ b ∷ uses) - 1 ≡ suc (length (b ∷ uses) - 1) = omega arith in
    let there : u ≡ get_or (b ∷ uses) (length (b ∷ uses) - 1) u = is ∙ ap (λ n. get_or (a ∷ b ∷ uses) n u) k in
    ap (λ l. a ∷ l) (last_stays (b ∷ uses) used u (omega arith) there to)

pub latest_is : (uses : List (Option ℕ)) (u : Option ℕ) → 0 < length uses → u ≡ get_or uses (length uses - 1) u → latest (uses) ≡ unwrap_or u 0
latest_is [] u some is = absurd (omega arith)
latest_is (a ∷ []) u some is = ap (λ x. unwrap_or x 0) (sym is)
latest_is (a ∷ b ∷ uses) u some is =
    let k : length (a ∷ b ∷ uses) - 1 ≡ suc (length (b ∷ uses) - 1) = omega arith in
    latest_is (b ∷ uses) u (omega arith) (is ∙ ap (λ n. get_or (a ∷ b ∷ uses) n u) k)

-- ---- uses behind a gap

pub none_next : (uses whole : List (Option ℕ)) (left : ℕ) → 0 < left → uses ++ replicate left None ≡ whole → (uses ++ None ∷ []) ++ replicate (left - 1) None ≡ whole
none_next uses whole zero some e = absurd (omega arith)
none_next uses whole (suc left) some e =
    let k : suc left - 1 ≡ left = omega arith in
    append_assoc uses (None ∷ []) (replicate (suc left - 1) None) ∙ (ap (λ n. uses ++ None ∷ replicate n None) k ∙ e)

pub nones_done : (old uses : List (Option ℕ)) (gap left used : ℕ) → left ≡ 0 → uses ++ replicate left None ≡ old ++ replicate gap None → uses ++ Some used ∷ [] ≡ old ++ (replicate gap None ++ Some used ∷ [])
nones_done old uses gap left used none e =
    let is : uses ≡ old ++ replicate gap None = sym (append-nil uses) ∙ (ap (λ (n : ℕ). uses ++ replicate n None) (sym none) ∙ e) in
    ap (λ l. l ++ Some used ∷ []) is ∙ append_assoc old (replicate gap None) (Some used ∷ [])

pub some_left : {A : Type 0} (xs : List A) → (length xs == 0) ≡ false → 0 < length xs
some_left [] e = absurd (true≢false e)
some_left (x ∷ xs) e = omega arith

-- ---- whole steps

pub map_next : {A : Type 0} (f : A → A) (old now : List A) (i : ℕ) (r v : A) → i < length old → now ≡ take i (map f old) ++ drop i old → v ≡ f (get_or now i r)
    → slice_set now i v ≡ take (i + 1) (map f old) ++ drop (i + 1) old
map_next f old now i r v less done to =
    let same = length-map old f in
    let was = read_next (map f old) old now i r same less done in
    put_next (map f old) old now i v same less done (to ∙ (ap f was ∙ sym (get_or-map f old i r v less)))

pub raised_next : (ballooned epoch : ℕ) (entries : List EntryView) (kept : List Kept) (old now : List GuestView) (i : ℕ) (dk : Kept) (r v : GuestView) → length kept ≡ length old → i < length old
    → now ≡ take i (raised_all ballooned epoch entries kept old) ++ drop i old → v ≡ raised_by ballooned epoch (get_or kept i dk) (get_or now i r) (steered_in (get_or now i r).name entries)
    → slice_set now i v ≡ take (i + 1) (raised_all ballooned epoch entries kept old) ++ drop (i + 1) old
raised_next ballooned epoch entries kept old now i dk r v same less done to =
    let whole = raised_all ballooned epoch entries kept old in
    let wide = length_raised ballooned epoch entries kept old same in
    let was : get_or now i r ≡ get_or old i r = read_next whole old now i r wide less done in
    put_next whole old now i v wide less done
    (to ∙ (ap (λ (g : GuestView). raised_by ballooned epoch (get_or kept i dk) g (steered_in g.name entries)) was ∙ sym (raised_at ballooned epoch entries kept old i dk r v same less)))

pub counted_next : (epoch : ℕ) (kept : List Kept) (guests : List GuestView) (old now : List Counts) (i : ℕ) (dk : Kept) (g : GuestView) (v : Counts) → length kept ≡ length guests → length old ≡ length guests → i < length old
    → now ≡ take i (counted_all epoch kept guests) ++ drop i old → g ≡ get_or guests i g → v ≡ counts_with (get_or kept i dk) epoch g.uses
    → (slice_set now i v ≡ take (i + 1) (counted_all epoch kept guests) ++ drop (i + 1) old) × (v ≡ get_or (counted_all epoch kept guests) i v)
counted_next epoch kept guests old now i dk g v same also less done is to =
    let whole = counted_all epoch kept guests in
    let wide : length whole ≡ length old = length_counted epoch kept guests same ∙ sym also in
    let here : v ≡ get_or whole i v = to ∙ (ap (λ (x : GuestView). counts_with (get_or kept i dk) epoch x.uses) is ∙ sym (counted_at epoch kept guests i dk g v same (omega (arith, less, also)))) in
    (put_next whole old now i v wide less done here, here)

pub kept_next : (guests : List GuestView) (counts : List Counts) (old now : List Kept) (i : ℕ) (g : GuestView) (dc : Counts) (dk v : Kept) → length old ≡ length guests → length counts ≡ length guests → i < length old
    → now ≡ take i (kept_all guests counts old) ++ drop i old → g ≡ get_or guests i g → v ≡ kept_with (get_or now i dk) g (get_or counts i dc)
    → slice_set now i v ≡ take (i + 1) (kept_all guests counts old) ++ drop (i + 1) old
kept_next guests counts old now i g dc dk v same also less done is to =
    let whole = kept_all guests counts old in
    let wide = length_kept guests counts old same also in
    put_next whole old now i v wide less done
    (to ∙ ((λ j. kept_with (read_next whole old now i dk wide less done j) (is j) (get_or counts i dc)) ∙ sym (kept_at guests counts old i g dc dk v same also less)))

-- ---- ranges

pub kept_small_at : (epochs : ℕ) (kept : List Kept) (i : ℕ) (d : Kept) → AreKeptSmall epochs kept → i < length kept → IsSmall epochs (get_or kept i d).counts
kept_small_at epochs [] i d small less = absurd (omega arith)
kept_small_at epochs (k ∷ kept) zero d small less = small.0
kept_small_at epochs (k ∷ kept) (suc i) d small less = kept_small_at epochs kept i d small.1 (omega arith)

small : (epochs : ℕ) (whole : List Counts) (i : ℕ) (v : Counts) → AreSmall epochs (take i whole) → i < length whole → v ≡ get_or whole i v → IsSmall epochs v → AreSmall epochs (take (suc i) whole)
small epochs [] i v are less is one = absurd (omega arith)
small epochs (c ∷ whole) zero v are less is one = (subst (IsSmall epochs) is one, tt)
small epochs (c ∷ whole) (suc i) v are less is one = (are.0, small epochs whole i v are.1 (omega arith) is one)

pub small_more : (epochs : ℕ) (whole : List Counts) (i : ℕ) (v : Counts) → AreSmall epochs (take i whole) → i < length whole → v ≡ get_or whole i v → IsSmall epochs v → AreSmall epochs (take (i + 1) whole)
small_more epochs whole i v are less is one = subst (λ (n : ℕ). AreSmall epochs (take n whole)) (sym (add-one i)) (small epochs whole i v are less is one)

pub small_all : (epochs : ℕ) (whole : List Counts) (i : ℕ) → i ≡ length whole → AreSmall epochs (take i whole) → AreSmall epochs whole
small_all epochs whole i end are = subst (AreSmall epochs) (ap (λ n. take n whole) end ∙ take-length whole) are

-- ---- a use that is less

pub less_true : (u : Option ℕ) (used : ℕ) → is_less u used ≡ true → Some used ≡ greater u (Some used)
less_true None used e = refl
less_true (Some x) used e = let m : used ≡ max x used = grind (arith, nat_tests) in ap Some m

pub less_false : (u : Option ℕ) (used : ℕ) → is_less u used ≡ false → u ≡ greater u (Some used)
less_false None used e = absurd (true≢false e)
less_false (Some x) used e = let m : x ≡ max x used = grind (arith, nat_tests) in ap Some m

-- ---- guests that are taken back, from the last on

pub back_removed : (ballooned : ℕ) (k : Kept) (guests : List GuestView) (i : ℕ) → k.is_new ≡ true → i < length guests → remove guests i ≡ back_at ballooned k i guests
back_removed ballooned k [] i new less = absurd (omega arith)
back_removed ballooned k (g ∷ guests) zero new less = rw new refl
back_removed ballooned k (g ∷ guests) (suc i) new less = ap (λ l. g ∷ l) (back_removed ballooned k guests i new (omega arith))

pub back_set : (ballooned : ℕ) (k : Kept) (guests : List GuestView) (i : ℕ) (d v : GuestView) → k.is_new ≡ false → i < length guests → v ≡ taken_back ballooned k (get_or guests i d) → slice_set guests i v ≡ back_at ballooned k i guests
back_set ballooned k [] i d v new less to = absurd (omega arith)
back_set ballooned k (g ∷ guests) zero d v new less to =
    ap (λ (x : GuestView). x ∷ guests) to ∙ ap (λ (b : Bool). if b then guests else taken_back ballooned k g ∷ guests) (sym new)
back_set ballooned k (g ∷ guests) (suc i) d v new less to = ap (λ l. g ∷ l) (back_set ballooned k guests i d v new (omega arith) to)

back_one : (ballooned : ℕ) (kept : List Kept) (old : List GuestView) (p : ℕ) (dk : Kept) → length kept ≡ length old → p < length old
    → back_at ballooned (get_or kept p dk) p (take (suc p) old ++ all_taken_back ballooned (drop (suc p) kept) (drop (suc p) old)) ≡ take p old ++ all_taken_back ballooned (drop p kept) (drop p old)
back_one ballooned [] old p dk same less = absurd (omega arith)
back_one ballooned (k ∷ kept) [] p dk same less = absurd (omega arith)
back_one ballooned (k ∷ kept) (g ∷ old) zero dk same less = refl
back_one ballooned (k ∷ kept) (g ∷ old) (suc p) dk same less = ap (λ l. g ∷ l) (back_one ballooned kept old p dk (omega arith) (omega arith))

pub back_next : (ballooned : ℕ) (kept : List Kept) (old now : List GuestView) (place p : ℕ) (dk : Kept) → length kept ≡ length old → p < length old → place ≡ suc p
    → now ≡ take place old ++ all_taken_back ballooned (drop place kept) (drop place old)
    → back_at ballooned (get_or kept p dk) p now ≡ take p old ++ all_taken_back ballooned (drop p kept) (drop p old)
back_next ballooned kept old now place p dk same less is done =
    ap (back_at ballooned (get_or kept p dk) p) (done ∙ (λ i. take (is i) old ++ all_taken_back ballooned (drop (is i) kept) (drop (is i) old))) ∙ back_one ballooned kept old p dk same less

length_back : (ballooned : ℕ) (k : Kept) (i : ℕ) (guests : List GuestView) → length (back_at ballooned k i guests) ≤ length guests
length_back ballooned k i [] = omega arith
length_back ballooned k zero (g ∷ guests) = go k.is_new
  where
    go : (t : Bool) → length (if t then guests else taken_back ballooned k g ∷ guests) ≤ length (g ∷ guests)
    go true = omega arith
    go false = omega arith
length_back ballooned k (suc i) (g ∷ guests) = let e = length_back ballooned k i guests in omega (arith, e)

pub back_room : (ballooned : ℕ) (kept : List Kept) (old now : List GuestView) (place : ℕ) → now ≡ take place old ++ all_taken_back ballooned (drop place kept) (drop place old) → place ≤ length old → place ≤ length now
back_room ballooned kept old now place done fits =
    omega (arith, ap length done, length-append (take place old) (all_taken_back ballooned (drop place kept) (drop place old)), length-take-le place old fits)
