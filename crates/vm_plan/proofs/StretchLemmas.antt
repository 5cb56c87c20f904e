-- Stretches of equal positions, as they grow.
use Rattle.std.proofs.Common.{◌≡◌, ℕ, zero, suc, ◌+◌, ◌-◌, ◌<◌, ◌≤◌, ◌==◌, Bool, true, false, cond, List, [], ◌∷◌, ◌++◌, length, replicate, slice_get, slice_set, get_or, inl, inr, sym, refl, ap, ◌∙◌, subst, arith}
use Rattle.std.specs.Option.{option_map_or}
use Rattle.std.proofs.lemmas.Bool.{eq-eqb, eqb-true}
use Rattle.std.proofs.lemmas.Bool.Decides.{eqb_tells}
use Rattle.std.proofs.lemmas.List.{append-nil, append_assoc, replicate_more, length-append, length-replicate}
use Rattle.vm_plan.specs.declared.stretch.Stretch.{Stretch}
use Rattle.vm_plan.specs.Growth.{count_at_end, count_if, with_more, AreCounted}
use Rattle.vm_plan.specs.Stretches.{moves_of, positions_of, stretches_of, with_one}

abbrev stretch_at : ℕ → ℕ → Stretch
stretch_at position count = record { position = position; count = count }

abbrev with_one_more : List Stretch → ℕ → List Stretch
with_one_more stretches position = with_more 1 stretches position

-- ---- one position more in front and one more behind, in either order

abbrev IsEitherOrder : ℕ → ℕ → List Stretch → Type 0
IsEitherOrder first last stretches = with_one first (with_one_more stretches last) ≡ with_one_more (with_one first stretches) last

either_of_none : (first last : ℕ) → IsEitherOrder first last []
either_of_none first last =
    elim (eqb_tells first last) [
      | inl same ↦
          let back : (last == first) ≡ true = eq-eqb last first (sym same.1) in
          rw (back, same.0) (ap (λ (position : ℕ). stretch_at position 2 ∷ []) (sym same.1))
      | inr other ↦
          elim (eqb_tells last first) [ inl same ↦ absurd (other.1 (sym same.1)) | inr back ↦ rw (back.0, other.0) refl ]
    ]

either_of_one : (first last : ℕ) (stretch : Stretch) (is_first is_last : Bool) → (stretch.position == first) ≡ is_first → (stretch.position == last) ≡ is_last → IsEitherOrder first last (stretch ∷ [])
either_of_one first last stretch true true f l = rw (l, f, l) refl
either_of_one first last stretch true false f l = rw (l, f, l) refl
either_of_one first last stretch false true f l = rw (l, f, l) refl
either_of_one first last stretch false false f l = rw (l, f, l) refl

either_of_more : (first last : ℕ) (stretch next : Stretch) (stretches : List Stretch) (is_first : Bool) → (stretch.position == first) ≡ is_first → IsEitherOrder first last (stretch ∷ next ∷ stretches)
either_of_more first last stretch next stretches true f = rw f refl
either_of_more first last stretch next stretches false f = rw f refl

either_order : (first last : ℕ) (stretches : List Stretch) → IsEitherOrder first last stretches
either_order first last [] = either_of_none first last
either_order first last (stretch ∷ []) = either_of_one first last stretch (stretch.position == first) (stretch.position == last) refl refl
either_order first last (stretch ∷ next ∷ stretches) = either_of_more first last stretch next stretches (stretch.position == first) refl

stretches_of-push : (positions : List ℕ) (position : ℕ) → stretches_of (positions ++ position ∷ []) ≡ with_one_more (stretches_of positions) position
stretches_of-push [] position = refl
stretches_of-push (first ∷ positions) position =
    ap (λ (stretches : List Stretch). with_one first stretches) (stretches_of-push positions position) ∙ either_order first position (stretches_of positions)

-- ---- the positions of stretches that grew

moves_of_one : (stretch : Stretch) (position : ℕ) (same : Bool) → (stretch.position == position) ≡ same → moves_of (with_one_more (stretch ∷ []) position) ≡ moves_of (stretch ∷ []) ++ position ∷ []
moves_of_one stretch position true is =
    let here : stretch.position ≡ position = eqb-true stretch.position position is in
    let more = replicate_more stretch.count stretch.position in
    let before = append-nil (positions_of stretch) in
    rw (is, before) (append-nil _ ∙ (sym more ∙ ap (λ (k : ℕ). positions_of stretch ++ k ∷ []) here))
moves_of_one stretch position false is =
    let before = append-nil (positions_of stretch) in
    rw (is, before) refl

pub moves_of-push : (stretches : List Stretch) (position : ℕ) → moves_of (with_one_more stretches position) ≡ moves_of stretches ++ position ∷ []
moves_of-push [] position = refl
moves_of-push (stretch ∷ []) position = moves_of_one stretch position (stretch.position == position) refl
moves_of-push (stretch ∷ next ∷ stretches) position =
    ap (λ (moves : List ℕ). positions_of stretch ++ moves) (moves_of-push (next ∷ stretches) position)
    ∙ sym (append_assoc (positions_of stretch) (moves_of (next ∷ stretches)) (position ∷ []))

-- they are still as long as they can be
pub joined-push : (stretches : List Stretch) (position : ℕ) → stretches ≡ stretches_of (moves_of stretches) → with_one_more stretches position ≡ stretches_of (moves_of (with_one_more stretches position))
joined-push stretches position joined =
    let moved = ap stretches_of (moves_of-push stretches position) ∙ stretches_of-push (moves_of stretches) position in
    ap (λ (old : List Stretch). with_one_more old position) joined ∙ sym moved

-- ---- so many are so many times one

-- one more behind what is there
behind_first : (stretch : Stretch) (later : List Stretch) (position : ℕ) → 0 < length later → with_one_more (stretch ∷ later) position ≡ stretch ∷ with_one_more later position
behind_first stretch [] position some = absurd (omega arith)
behind_first stretch (next ∷ later) position some = refl

some_behind : (count : ℕ) (next : Stretch) (stretches : List Stretch) (position : ℕ) → 0 < length (with_more count (next ∷ stretches) position)
some_behind count next [] position = go (next.position == position)
  where
    go : (same : Bool) → 0 < length (cond same (record next { count = next.count + count } ∷ []) (next ∷ stretch_at position count ∷ []))
    go true = omega arith
    go false = omega arith
some_behind count next (after ∷ stretches) position = omega arith

-- the stretch at the end of its position gets one more
one_more_here : (count position : ℕ) → with_one_more (stretch_at position count ∷ []) position ≡ stretch_at position (count + 1) ∷ []
one_more_here count position = rw (eq-eqb position position refl) refl

more_at_last : (count : ℕ) (stretch : Stretch) (position : ℕ) (same : Bool) → (stretch.position == position) ≡ same → with_more (count + 1) (stretch ∷ []) position ≡ with_one_more (with_more count (stretch ∷ []) position) position
more_at_last count stretch position true is =
    let sums : stretch.count + (count + 1) ≡ (stretch.count + count) + 1 = omega arith in
    rw (is, is) (ap (λ (n : ℕ). record stretch { count = n } ∷ []) sums)
more_at_last count stretch position false is = rw is (ap (λ (later : List Stretch). stretch ∷ later) (sym (one_more_here count position)))

with_more-next : (count : ℕ) (stretches : List Stretch) (position : ℕ) → with_more (count + 1) stretches position ≡ with_one_more (with_more count stretches position) position
with_more-next count [] position = sym (one_more_here count position)
with_more-next count (stretch ∷ []) position = more_at_last count stretch position (stretch.position == position) refl
with_more-next count (stretch ∷ next ∷ stretches) position =
    ap (λ (later : List Stretch). stretch ∷ later) (with_more-next count (next ∷ stretches) position)
    ∙ sym (behind_first stretch (with_more count (next ∷ stretches) position) position (some_behind count next stretches position))

-- the positions of stretches that grew by some
moves_of_some : (count : ℕ) (stretches : List Stretch) (position : ℕ) → moves_of (with_more (suc count) stretches position) ≡ moves_of stretches ++ replicate (suc count) position
moves_of_some zero stretches position = moves_of-push stretches position
moves_of_some (suc count) stretches position =
    let next : suc (suc count) ≡ suc count + 1 = omega arith in
    let more = replicate_more (suc count) position in
    ap (λ (n : ℕ). moves_of (with_more n stretches position)) next
    ∙ ap moves_of (with_more-next (suc count) stretches position)
    ∙ moves_of-push (with_more (suc count) stretches position) position
    ∙ ap (λ (moves : List ℕ). moves ++ position ∷ []) (moves_of_some count stretches position)
    ∙ append_assoc (moves_of stretches) (replicate (suc count) position) (position ∷ [])
    ∙ ap (λ (moves : List ℕ). moves_of stretches ++ moves) (more ∙ ap (λ (n : ℕ). replicate n position) (sym next))

joined_some : (count : ℕ) (stretches : List Stretch) (position : ℕ) → stretches ≡ stretches_of (moves_of stretches) → with_more (suc count) stretches position ≡ stretches_of (moves_of (with_more (suc count) stretches position))
joined_some zero stretches position joined = joined-push stretches position joined
joined_some (suc count) stretches position joined =
    let next : suc (suc count) ≡ suc count + 1 = omega arith in
    let one = ap (λ (n : ℕ). with_more n stretches position) next ∙ with_more-next (suc count) stretches position in
    one ∙ joined-push (with_more (suc count) stretches position) position (joined_some count stretches position joined) ∙ sym (ap (λ (grown : List Stretch). stretches_of (moves_of grown)) one)

pub moves_of-push_some : (count : ℕ) (stretches : List Stretch) (position : ℕ) → 0 < count → moves_of (with_more count stretches position) ≡ moves_of stretches ++ replicate count position
moves_of-push_some zero stretches position some = absurd (omega arith)
moves_of-push_some (suc count) stretches position some = moves_of_some count stretches position

pub joined-push_some : (count : ℕ) (stretches : List Stretch) (position : ℕ) → 0 < count → stretches ≡ stretches_of (moves_of stretches) → with_more count stretches position ≡ stretches_of (moves_of (with_more count stretches position))
joined-push_some zero stretches position some joined = absurd (omega arith)
joined-push_some (suc count) stretches position some joined = joined_some count stretches position joined

-- ---- what is written

ends_later : (stretch next : Stretch) (stretches : List Stretch) (position : ℕ) → count_at_end (stretch ∷ next ∷ stretches) position ≡ count_at_end (next ∷ stretches) position
ends_later stretch next stretches position =
    let last : length (stretch ∷ next ∷ stretches) - 1 ≡ suc (length (next ∷ stretches) - 1) = omega arith in
    ap (λ (i : ℕ). option_map_or (λ (s : Stretch). count_if s position) (slice_get (stretch ∷ next ∷ stretches) i) 0) last

is_of : (stretch : Stretch) (position : ℕ) (same : Bool) → (stretch.position == position) ≡ same → 0 < count_if stretch position → same ≡ true
is_of stretch position true is some = refl
is_of stretch position false is some = let none : count_if stretch position ≡ 0 = rw is refl in absurd (omega (arith, none, some))

is_other : (stretch : Stretch) (position : ℕ) (same : Bool) → (stretch.position == position) ≡ same → 0 < stretch.count → count_if stretch position ≤ 0 → same ≡ false
is_other stretch position false is some none = refl
is_other stretch position true is some none = let all : count_if stretch position ≡ stretch.count = rw is refl in absurd (omega (arith, all, some, none))

-- the last grows
pub grows_last : (count : ℕ) (stretches : List Stretch) (position at : ℕ) (last : Stretch) → 0 < count_at_end stretches position → at ≡ length stretches - 1 → last ≡ get_or stretches at last
    → slice_set stretches at (record last { count = last.count + count }) ≡ with_more count stretches position
grows_last count [] position at last ends there is = absurd (omega arith)
grows_last count (stretch ∷ []) position zero last ends there is = rw (is_of stretch position (stretch.position == position) refl ends, is) refl
grows_last count (stretch ∷ []) position (suc at) last ends there is = absurd (omega arith)
grows_last count (stretch ∷ next ∷ stretches) position zero last ends there is = absurd (omega arith)
grows_last count (stretch ∷ next ∷ stretches) position (suc at) last ends there is =
    let later = ends_later stretch next stretches position in
    ap (λ (later : List Stretch). stretch ∷ later) (grows_last count (next ∷ stretches) position at last (omega (arith, later, ends)) (omega arith) is)

-- another begins
pub begins_next : (count : ℕ) (stretches : List Stretch) (position : ℕ) → AreCounted stretches → count_at_end stretches position ≤ 0 → stretches ++ stretch_at position count ∷ [] ≡ with_more count stretches position
begins_next count [] position counted ends = refl
begins_next count (stretch ∷ []) position counted ends = rw (is_other stretch position (stretch.position == position) refl counted.0 ends) refl
begins_next count (stretch ∷ next ∷ stretches) position counted ends =
    let later = ends_later stretch next stretches position in
    ap (λ (later : List Stretch). stretch ∷ later) (begins_next count (next ∷ stretches) position counted.1 (omega (arith, later, ends)))

-- ---- counts

counted_one : (position : ℕ) (stretch : Stretch) (stretches : List Stretch) (same : Bool) → (stretch.position == position) ≡ same → (0 < stretch.count) × AreCounted stretches → AreCounted (with_one position (stretch ∷ stretches))
counted_one position stretch stretches true is counted = rw is (omega arith, counted.1)
counted_one position stretch stretches false is counted = rw is (omega arith, counted)

counted-with_one : (position : ℕ) (stretches : List Stretch) → AreCounted stretches → AreCounted (with_one position stretches)
counted-with_one position [] counted = (omega arith, tt)
counted-with_one position (stretch ∷ stretches) counted = counted_one position stretch stretches (stretch.position == position) refl counted

counted_stretches : (positions : List ℕ) → AreCounted (stretches_of positions)
counted_stretches [] = tt
counted_stretches (position ∷ positions) = counted-with_one position (stretches_of positions) (counted_stretches positions)

-- each stretch that is as long as it can be has a position
pub joined_counted : (stretches : List Stretch) → stretches ≡ stretches_of (moves_of stretches) → AreCounted stretches
joined_counted stretches joined = subst AreCounted (sym joined) (counted_stretches (moves_of stretches))

-- no stretch is longer than all positions
pub count_within : (stretches : List Stretch) (i : ℕ) (d : Stretch) → i < length stretches → (get_or stretches i d).count ≤ length (moves_of stretches)
count_within [] i d within = absurd (omega arith)
count_within (stretch ∷ stretches) zero d within =
    let sums = length-append (positions_of stretch) (moves_of stretches) in
    let long = length-replicate stretch.count stretch.position in
    omega (arith, sums, long)
count_within (stretch ∷ stretches) (suc i) d within =
    let sums = length-append (positions_of stretch) (moves_of stretches) in
    let later = count_within stretches i d (omega arith) in
    omega (arith, sums, later)
