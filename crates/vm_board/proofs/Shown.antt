-- A board shows the round: each of its steps is the event of that name, or leaves the round as it is.
use Rattle.std.proofs.Common.{◌≡◌, ◌≢◌, ◌+◌, ◌<◌, ◌≤◌, ◌^◌, ℕ, zero, suc, Bool, true, false, ◌&&◌, not, List, [], ◌∷◌, ◌++◌, map, length, set, Some, None, nat_eq, nat_lt, refl, sym, ap, ◌∙◌, subst, ⊎_elim, inl, inr, arith, slice_get, replicate}
use Rattle.std.specs.Prelude.{Option, option_map}
use Rattle.std.specs.List.{All}
use mathlib.Core.Logic.{◌⊎◌}
use Rattle.std.proofs.lemmas.Bool.{eqb-true, eqb-false, ltb-true}
use Rattle.std.proofs.lemmas.Bool.Decides.{nat_tests}
use Rattle.std.proofs.lemmas.Option.{slice_get_within, slice_get-map}
use Rattle.std.proofs.lemmas.List.{length-map}
use mathlib.Core.Option.{none, some, some-injective, some-ne-none}
use native.Mathlib.Decide.{ℕ_discrete}
use lib.ListN.{get_elem?}
use Rattle.atomic_table.specs.Table.{State, opening}
use Rattle.atomic_table.proofs.Lists.{set_here, set_else}
use Rattle.vm_board.specs.declared.plays.Hand.{Hand}
use Rattle.vm_board.specs.Pieces.{finished}
use Rattle.vm_board.specs.Rounds.{Place, waiting, with_worker, done, is_waiting, one_with, Entry, entry, draw, step, finish, start, held_by, give, stepped, put_down, happens}
use Rattle.vm_board.specs.Hands.{hand, newcomer, one_less, merged, spent, has}
use Rattle.vm_board.specs.Tickets.{ticket, mark, IsKept}
use Rattle.vm_board.specs.Shown.{Knows, StandsIn, Shows, after_draw, after_finish, after_split, after_join, MayDraw, Agrees, ShowsRounds}
use Rattle.vm_board.proofs.Sums.{total_at}
use Rattle.vm_board.proofs.Rounds.{either, both_true, give_numbers, turn_numbers, step_turns, down_turns, start_numbers}
use Rattle.vm_board.proofs.Tickets.{once_self, has_here, draw_hit, draw_miss, raised, marks_stay, same_ticket, marked_here, marked_else, finish_kept, opens_at, there, no_marks}
use Rattle.vm_board.proofs.Tickets as tickets

one_with_none : (w : ℕ) (p : Place) → ((k : ℕ) → p ≢ with_worker w k) → one_with w p ≡ 0
one_with_none w waiting h = refl
one_with_none w (with_worker v k) h = either (λ (n : ℕ). n ≡ 0) (nat_eq v w) 1 0 (λ same. absurd (h k (ap (λ (u : ℕ). with_worker u k) (eqb-true v w same)))) (λ _. refl)
one_with_none w done h = refl

waits : (p : Place) → p ≡ waiting → is_waiting p ≡ true
waits p e = ap is_waiting e

is_place : (p : Place) → is_waiting p ≡ true → p ≡ waiting
is_place waiting e = refl
is_place (with_worker v k) e = cc
is_place done e = cc

-- where an element of a mapped list comes from
map_get : {X Y : Type 0} (f : X → Y) (xs : List X) (n : ℕ) (y : Y) → slice_get (map f xs) n ≡ Some y → (x : X) × (slice_get xs n ≡ Some x) × (f x ≡ y)
map_get f [] n y e = cc
map_get f (x ∷ xs) zero y e = (x, refl, cc)
map_get f (x ∷ xs) (suc n) y e = map_get f xs n y e

finishes_here : (u w k n : ℕ) → u ≡ w → k ≡ n → (nat_eq u w && not (nat_lt k n)) ≡ true
finishes_here u w k n same full = grind (arith, nat_tests)

within_append : {X : Type 0} (xs : List X) (y : X) (i : ℕ) (x : X) → get_elem? xs i ≡ some x → get_elem? (xs ++ y ∷ []) i ≡ some x
within_append [] y i x e = absurd (some-ne-none x (sym e))
within_append (z ∷ zs) y zero x e = e
within_append (z ∷ zs) y (suc i) x e = within_append zs y i x e

has_length : {X : Type 0} (xs : List X) (i : ℕ) (x : X) → get_elem? xs i ≡ some x → i < length xs
has_length [] i x e = absurd (some-ne-none x (sym e))
has_length (y ∷ ys) zero x e = omega arith
has_length (y ∷ ys) (suc i) x e = let more = has_length ys i x e in omega arith

module _ {J : Type 0} where
  held_none : (w : ℕ) (r : List (Entry J)) → ((n : ℕ) (e : Entry J) → slice_get r n ≡ Some e → (k : ℕ) → e.place ≢ with_worker w k) → held_by w r ≡ 0
  held_none w [] h = refl
  held_none w (e ∷ es) h = let one = one_with_none w e.place (h zero e refl) in let more = held_none w es (λ n x at. h (suc n) x at) in omega arith

  give_none : (w : ℕ) (r : List (Entry J)) → ((n : ℕ) (e : Entry J) → slice_get r n ≡ Some e → e.place ≢ waiting) → give w r ≡ r
  give_none w [] h = refl
  give_none w (e ∷ es) h = either (λ (r : List (Entry J)). r ≡ e ∷ es) (is_waiting e.place) _ _ (λ hit. absurd (h zero e refl (is_place e.place hit))) (λ _. ap (λ xs. e ∷ xs) (give_none w es (λ n x at. h (suc n) x at)))

  abbrev Given : ℕ → List (Entry J) → ℕ → ℕ → Entry J → Type 0
  Given w r t n y = ((n ≡ t) × (y.place ≡ with_worker w 0)) ⊎ ((n ≢ t) × (slice_get r n ≡ Some y))

  -- the first number that waits goes to the worker, and the others stay
  give_at : (w t : ℕ) (r : List (Entry J)) (x : Entry J) → slice_get r t ≡ Some x → x.place ≡ waiting → ((n : ℕ) (e : Entry J) → n < t → slice_get r n ≡ Some e → e.place ≢ waiting)
      → (n : ℕ) (y : Entry J) → slice_get (give w r) n ≡ Some y → Given w r t n y
  give_at w t [] x at is first n y = cc
  give_at w zero (e ∷ es) x at is first n y = let same : e ≡ x = cc in either (λ (r : List (Entry J)). slice_get r n ≡ Some y → Given w (e ∷ es) zero n y) (is_waiting e.place) _ _
      (λ _. given_first n) (λ miss. let hit : is_waiting e.place ≡ true = waits e.place (ap (λ (z : Entry J). z.place) same ∙ is) in cc)
    where
      given_first : (n : ℕ) → slice_get (entry e.put (with_worker w 0) e.job ∷ es) n ≡ Some y → Given w (e ∷ es) zero n y
      given_first zero got = let same : entry e.put (with_worker w 0) e.job ≡ y = cc in inl (refl, sym (ap (λ (z : Entry J). z.place) same))
      given_first (suc n) got = inr ((λ none. omega arith), got)
  give_at w (suc t) (e ∷ es) x at is first n y = let rest : (m : ℕ) → slice_get (give w es) m ≡ Some y → Given w es t m y = λ m. give_at w t es x at is (λ k z less. first (suc k) z (omega arith)) m y in
      either (λ (r : List (Entry J)). slice_get r n ≡ Some y → Given w (e ∷ es) (suc t) n y) (is_waiting e.place) _ _
      (λ hit _. absurd (first zero e (omega arith) refl (is_place e.place hit))) (λ _. given_later n rest)
    where
      given_later : (n : ℕ) → ((m : ℕ) → slice_get (give w es) m ≡ Some y → Given w es t m y) → slice_get (e ∷ give w es) n ≡ Some y → Given w (e ∷ es) (suc t) n y
      given_later zero rest got = inr ((λ none. omega arith), got)
      given_later (suc n) rest got = ⊎_elim (λ here. inl (ap suc here.0, here.1)) (λ away. inr ((λ s. away.0 (omega arith)), away.1)) (rest n got)

  -- an entry of a round that shows the jobs has a number below their count, and its job is the one put there
  shown_job : (jobs : List J) (r : List (Entry J)) (n : ℕ) (e : Entry J) → map (λ (x : Entry J). x.put) r ≡ jobs → slice_get r n ≡ Some e → slice_get jobs n ≡ Some e.put
  shown_job jobs r n e numbers at = ap (λ (js : List J). slice_get js n) (sym numbers) ∙ slice_get-map (λ (x : Entry J). x.put) r n ∙ ap (option_map (λ (x : Entry J). x.put)) at

  same_count : (jobs : List J) (r : List (Entry J)) → map (λ (x : Entry J). x.put) r ≡ jobs → length r ≡ length jobs
  same_count jobs r numbers = sym (length-map r (λ (x : Entry J). x.put)) ∙ ap length numbers

  -- a number that stands with a worker is in the hand of that seat
  in_hand : (s : State (Option J) Hand) (n w : ℕ) (v : Hand) (p : Place) (k : ℕ) → Knows s w v → StandsIn s n p → p ≡ with_worker w k → v.number ≡ Some n
  in_hand s n w v p k knows stands is = let held = subst (StandsIn s n) is stands in let same : held.0 ≡ v = some-injective held.0 v (sym held.1 ∙ knows) in sym (ap (λ (x : Hand). x.number) same) ∙ held.2

module _ {J : Type 0} (ready : J → Type 0) (pieces : J → ℕ) (piece : ℕ → J → J) (jobs : List J) (seats : ℕ) where
  abbrev Kept : State (Option J) Hand → Type 0
  Kept = IsKept ready pieces piece jobs seats

  abbrev Agree : State (Option J) Hand → List (Entry J) → Type 0
  Agree = Agrees ready pieces piece jobs seats

  starts_at : (n : ℕ) → ticket (replicate (length jobs + 1) 0) ≤ n
  starts_at n = let zero_ticket : ticket (replicate (length jobs + 1) 0) ≡ 0 = no_marks (length jobs + 1) 0 in omega arith

  begins : 0 < seats → length jobs + seats < 2 ^ 63 → All ready jobs → Agree (opening (replicate (length jobs + 1) 0) (map Some jobs) (newcomer seats)) (start jobs)
  begins some_seat near all_ready = (
    opens_at ready pieces piece jobs seats some_seat near all_ready,
    record {
      numbers = start_numbers pieces piece jobs;
      places = λ n e at. let from = map_get (λ (j : J). entry j waiting j) jobs n e at in subst (λ (x : Entry J). StandsIn (opening (replicate (length jobs + 1) 0) (map Some jobs) (newcomer seats)) n x.place) from.2 (starts_at n);
    },
  )

  module _ (s : State (Option J) Hand) (round : List (Entry J)) (w : ℕ) (v : Hand) (r : Kept s) (shows : Shows jobs s round) (knows : Knows s w v) (may : MayDraw v) where
    abbrev t : ℕ
    t = ticket s.words

    -- whose hand is empty has no number of the round
    none_with : (n : ℕ) (e : Entry J) → slice_get round n ≡ Some e → (k : ℕ) → e.place ≢ with_worker w k
    none_with n e at k is = let held = in_hand s n w v e.place k knows (shows.places n e at) is in let empty = may.empty in cc

    -- the ticket's number waits
    next_waits : (p : Place) → t < length jobs → StandsIn s t p → p ≡ waiting
    next_waits waiting less stands = refl
    next_waits (with_worker u k) less stands = let h = r.hands t in let none = once_self t (length jobs) in let some_of = total_at (λ (x : Hand). has t x.number) s.views u stands.0 stands.1 in
        let one : has t stands.0.number ≡ 1 = ap (has t) stands.2 ∙ has_here t in absurd (omega arith)
    next_waits done less stands = let h = r.hands t in let none = once_self t (length jobs) in absurd (omega arith)

    -- every other number stays where it is
    stays : (hs : List (mathlib.Core.Option.Option (Option J))) (x : Hand) (n : ℕ) (p : Place) → n ≢ t → ((k : ℕ) → p ≢ with_worker w k) → StandsIn s n p
        → StandsIn (record { words = set s.words 0 (t + 1); homes = hs; views = set s.views w x }) n p
    stays hs x n waiting other away stands = let is = raised ready pieces piece jobs seats s r w v knows (t + 1) in omega arith
    stays hs x n (with_worker u k) other away stands = (stands.0, set_else s.views w u x (λ same. away k (ap (λ (m : ℕ). with_worker m k) same)) ∙ stands.1, stands.2)
    stays hs x n done other away stands = marks_stay ready pieces piece jobs seats s r w v knows (t + 1) n ∙ stands

    shows_hit : t < length jobs → Shows jobs (record { words = set s.words 0 (t + 1); homes = set s.homes t none; views = set s.views w (hand v.weight (v.drawn ++ t ∷ []) (Some t) v.over) }) (give w round)
    shows_hit less = let count = same_count jobs round shows.numbers in let next = there ready pieces piece jobs seats round t (omega arith) in
        let waits_there : next.0.place ≡ waiting = next_waits next.0.place less (shows.places t next.0 next.1) in record {
          numbers = give_numbers pieces piece w round ∙ shows.numbers;
          places = λ n y got. ⊎_elim
              (λ here. subst (StandsIn (record { words = set s.words 0 (t + 1); homes = set s.homes t none; views = set s.views w (hand v.weight (v.drawn ++ t ∷ []) (Some t) v.over) }) n) (sym here.1) (hand v.weight (v.drawn ++ t ∷ []) (Some t) v.over, set_here s.views w (hand v.weight (v.drawn ++ t ∷ []) (Some t) v.over) (has_length s.views w v knows), ap Some (sym here.0)))
              (λ away. stays (set s.homes t none) _ n y.place away.0 (none_with n y away.1) (shows.places n y away.1))
              (give_at w t round next.0 next.1 waits_there (λ m z below at is. let after : t ≤ m = subst (StandsIn s m) is (shows.places m z at) in omega arith) n y got);
        }

    shows_miss : length jobs ≤ t → Shows jobs (record { words = set s.words 0 (t + 1); homes = s.homes; views = set s.views w (hand v.weight v.drawn v.number true) }) (give w round)
    shows_miss past = let below : (n : ℕ) (e : Entry J) → slice_get round n ≡ Some e → n < length jobs = λ n e at. slice_get_within jobs n e.put (shown_job jobs round n e shows.numbers at) in
        let all : give w round ≡ round = give_none w round (λ n e at is. let after : t ≤ n = subst (StandsIn s n) is (shows.places n e at) in let less = below n e at in omega arith) in
        subst (Shows jobs (record { words = set s.words 0 (t + 1); homes = s.homes; views = set s.views w (hand v.weight v.drawn v.number true) })) (sym all) record {
          numbers = shows.numbers;
          places = λ n e at. stays s.homes _ n e.place (λ same. let less = below n e at in omega arith) (none_with n e at) (shows.places n e at);
        }

    given : (b : Bool) → nat_lt t (length jobs) ≡ b → Agree (after_draw (length jobs) s w v) (give w round)
    given true is = let less : t < length jobs = ltb-true t (length jobs) is in rw is (draw_hit ready pieces piece jobs seats s r w v knows may.some_weight may.not_over may.empty less, shows_hit less)
    given false is = let past : length jobs ≤ t = grind (arith, nat_tests) in rw is (draw_miss ready pieces piece jobs seats s r w v knows may.some_weight may.not_over past, shows_miss past)

    pub draws : Agree (after_draw (length jobs) s w v) (happens pieces piece (draw w) round)
    draws = let free : held_by w round ≡ 0 = held_none w round none_with in either (λ (z : List (Entry J)). Agree (after_draw (length jobs) s w v) z) (nat_eq (held_by w round) 0) _ _
        (λ _. given (nat_lt t (length jobs)) refl) (λ held. absurd (eqb-false (held_by w round) 0 held free))

  step_stays : (s : State (Option J) Hand) (n w : ℕ) (e : Entry J) (p : Place) → e.place ≡ p → StandsIn s n p → StandsIn s n (stepped pieces piece w e p).place
  step_stays s n w e waiting is stands = subst (StandsIn s n) (sym is) stands
  step_stays s n w e (with_worker u k) is stands = either (λ (x : Entry J). StandsIn s n x.place) (nat_eq u w && nat_lt k (pieces e.put)) _ _ (λ _. stands) (λ _. subst (StandsIn s n) (sym is) stands)
  step_stays s n w e done is stands = subst (StandsIn s n) (sym is) stands

  steps : (s : State (Option J) Hand) (round : List (Entry J)) (w : ℕ) → Agree s round → Agree s (happens pieces piece (step w) round)
  steps s round w a = (
    a.0,
    record {
      numbers = turn_numbers pieces piece w (λ e. stepped pieces piece w e e.place) (step_turns pieces piece w) round ∙ a.1.numbers;
      places = λ n y got. let from = map_get (λ (e : Entry J). stepped pieces piece w e e.place) round n y got in
          subst (λ (x : Entry J). StandsIn s n x.place) from.2 (step_stays s n w from.0 from.0.place refl (a.1.places n from.0 from.1));
    },
  )

  module _ (s : State (Option J) Hand) (round : List (Entry J)) (w : ℕ) (v : Hand) (n : ℕ) (e : Entry J) (r : Kept s) (shows : Shows jobs s round) (knows : Knows s w v) (some_weight : 0 < v.weight) (holds_it : v.number ≡ Some n)
      (at : slice_get round n ≡ Some e) (all_done : e.place ≡ with_worker w (pieces e.put)) where
    has_job : slice_get jobs n ≡ Some e.put
    has_job = shown_job jobs round n e shows.numbers at

    abbrev later : State (Option J) Hand
    later = after_finish s w v n (finished pieces piece e.put)

    -- the worker has this number alone
    its_number : (m : ℕ) (x : Entry J) (k : ℕ) → slice_get round m ≡ Some x → x.place ≡ with_worker w k → m ≡ n
    its_number m x k there is = let held : v.number ≡ Some m = in_hand s m w v x.place k knows (shows.places m x there) is in cc

    is_marked : (m : ℕ) → m ≡ n → mark later.words m ≡ 1
    is_marked m same = subst (λ (i : ℕ). mark later.words i ≡ 1) (sym same) (marked_here ready pieces piece jobs seats s r w n e.put v knows some_weight holds_it has_job)

    done_stays : (m : ℕ) → mark s.words m ≡ 1 → Dec (m ≡ n) → mark later.words m ≡ 1
    done_stays m marked (yes same) = is_marked m same
    done_stays m marked (no other) = marked_else ready pieces piece jobs seats s r w n e.put v knows some_weight holds_it has_job m other ∙ marked

    held_stays : (m : ℕ) (x : Entry J) (u k : ℕ) → slice_get round m ≡ Some x → x.place ≡ with_worker u k → StandsIn s m (with_worker u k) → (nat_eq u w && not (nat_lt k (pieces x.put))) ≡ false → Dec (u ≡ w) → StandsIn later m (with_worker u k)
    held_stays m x u k there is stands miss (yes same) = let here : m ≡ n = its_number m x k there (is ∙ ap (λ (i : ℕ). with_worker i k) same) in
        let found : slice_get round n ≡ Some x = subst (λ (i : ℕ). slice_get round i ≡ Some x) here there in let one : x ≡ e = cc in
        let full : k ≡ pieces x.put = pieces_done k x (sym is ∙ ap (λ (y : Entry J). y.place) one ∙ all_done ∙ ap (λ (y : Entry J). with_worker w (pieces y.put)) (sym one)) in let hit = finishes_here u w k (pieces x.put) same full in cc
      where
        pieces_done : (k : ℕ) (x : Entry J) → with_worker u k ≡ with_worker w (pieces x.put) → k ≡ pieces x.put
        pieces_done k x is = cc
    held_stays m x u k there is stands miss (no other) = (stands.0, set_else s.views w u (hand v.weight v.drawn None v.over) other ∙ stands.1, stands.2)

    down_stays : (m : ℕ) (x : Entry J) (p : Place) → slice_get round m ≡ Some x → x.place ≡ p → StandsIn s m p → StandsIn later m (put_down pieces piece w x p).place
    down_stays m x waiting there is stands = let same = same_ticket ready pieces piece jobs seats s r w n e.put v knows some_weight holds_it has_job in let after : ticket later.words ≤ m = omega arith in subst (StandsIn later m) (sym is) after
    down_stays m x (with_worker u k) there is stands = either (λ (z : Entry J). StandsIn later m z.place) (nat_eq u w && not (nat_lt k (pieces x.put))) _ _
        (λ hit. is_marked m (its_number m x k there (is ∙ ap (λ (i : ℕ). with_worker i k) (eqb-true u w (both_true (nat_eq u w) (not (nat_lt k (pieces x.put))) hit).0))))
        (λ miss. subst (StandsIn later m) (sym is) (held_stays m x u k there is stands miss (ℕ_discrete u w)))
    down_stays m x done there is stands = subst (StandsIn later m) (sym is) (done_stays m stands (ℕ_discrete m n))

    pub finishes : Agree later (happens pieces piece (finish w) round)
    finishes = (
      finish_kept ready pieces piece jobs seats s r w n e.put v knows some_weight holds_it has_job,
      record {
        numbers = turn_numbers pieces piece w (λ x. put_down pieces piece w x x.place) (down_turns pieces piece w) round ∙ shows.numbers;
        places = λ m y got. let from = map_get (λ (x : Entry J). put_down pieces piece w x x.place) round m y got in
            subst (λ (z : Entry J). StandsIn later m z.place) from.2 (down_stays m from.0 from.0.place from.1 refl (shows.places m from.0 from.1));
      },
    )

  split_held : (s : State (Option J) Hand) (w : ℕ) (v : Hand) (n u k : ℕ) → Knows s w v → StandsIn s n (with_worker u k) → Dec (u ≡ w) → StandsIn (after_split s w v) n (with_worker u k)
  split_held s w v n u k knows stands (yes same) = (
    one_less v,
    within_append (set s.views w (one_less v)) (newcomer 1) u (one_less v) (subst (λ (i : ℕ). get_elem? (set s.views w (one_less v)) i ≡ some (one_less v)) (sym same) (set_here s.views w (one_less v) (has_length s.views w v knows))),
    in_hand s n w v (with_worker u k) k knows stands (ap (λ (i : ℕ). with_worker i k) same),
  )
  split_held s w v n u k knows stands (no other) = (stands.0, within_append (set s.views w (one_less v)) (newcomer 1) u stands.0 (set_else s.views w u (one_less v) other ∙ stands.1), stands.2)

  split_stays : (s : State (Option J) Hand) (w : ℕ) (v : Hand) (n : ℕ) (p : Place) → Knows s w v → StandsIn s n p → StandsIn (after_split s w v) n p
  split_stays s w v n waiting knows stands = stands
  split_stays s w v n (with_worker u k) knows stands = split_held s w v n u k knows stands (ℕ_discrete u w)
  split_stays s w v n done knows stands = stands

  has_none : (s : State (Option J) Hand) (w : ℕ) (v : Hand) (n u k : ℕ) → Knows s w v → v.number ≡ None → StandsIn s n (with_worker u k) → u ≢ w
  has_none s w v n u k knows empty stands same = let held = in_hand s n w v (with_worker u k) k knows stands (ap (λ (i : ℕ). with_worker i k) same) in cc

  join_stays : (s : State (Option J) Hand) (w : ℕ) (v : Hand) (other : ℕ) (u : Hand) (n : ℕ) (p : Place) → Knows s w v → Knows s other u → v.number ≡ None → u.number ≡ None → StandsIn s n p → StandsIn (after_join s w v other u) n p
  join_stays s w v other u n waiting knows knows_other v_empty u_empty stands = stands
  join_stays s w v other u n (with_worker x k) knows knows_other v_empty u_empty stands = (
    stands.0,
    set_else (set s.views w (merged v u)) other x spent (has_none s other u n x k knows_other u_empty stands) ∙ set_else s.views w x (merged v u) (has_none s w v n x k knows v_empty stands) ∙ stands.1,
    stands.2,
  )
  join_stays s w v other u n done knows knows_other v_empty u_empty stands = stands

  pub shows_rounds : ShowsRounds ready pieces piece jobs seats
  shows_rounds = record {
    begins = begins;
    draws = λ s round w v a knows may. draws s round w v a.0 a.1 knows may;
    steps = steps;
    finishes = λ s round w v n e a knows some_weight holds_it at all_done. finishes s round w v n e a.0 a.1 knows some_weight holds_it at all_done;
    splits = λ s round w v a knows several not_over. (
      tickets.splits ready pieces piece jobs seats w v several not_over s a.0 knows,
      record { numbers = a.1.numbers; places = λ n e at. split_stays s w v n e.place knows (a.1.places n e at) },
    );
    joins = λ s round w v other u a knows knows_other apart some_weight v_over u_over v_empty u_empty. (
      tickets.joins ready pieces piece jobs seats w v other u some_weight v_over u_over v_empty u_empty s a.0 knows apart (set_else s.views w other (merged v u) apart ∙ knows_other),
      record { numbers = a.1.numbers; places = λ n e at. join_stays s w v other u n e.place knows knows_other v_empty u_empty (a.1.places n e at) },
    );
  }
