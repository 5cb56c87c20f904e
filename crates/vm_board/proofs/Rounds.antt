-- The law of a round, by an invariant that each event keeps.
use Rattle.std.proofs.Common.{◌≡◌, ◌≢◌, ◌+◌, ◌<◌, ◌≤◌, ℕ, zero, suc, Bool, true, false, ◌&&◌, not, cond, List, [], ◌∷◌, map, Some, nat_eq, nat_lt, refl, sym, ap, ap₂, ◌∙◌, subst, arith, slice_get}
use Rattle.std.specs.List.{All}
use Rattle.std.proofs.lemmas.Bool.{eqb-true, eqb-false, ltb-true}
use Rattle.std.proofs.lemmas.Bool.Decides.{nat_tests}
use Rattle.vm_board.specs.Pieces.{after, finished}
use Rattle.vm_board.specs.Rounds.{Event, draw, step, finish, Place, waiting, with_worker, done, is_waiting, one_with, Entry, start, held_by, give, stepped, put_down, happens, after_events, StandsAt, IsDone, LeavesOthers, IsInterleaved}

-- a fact of each element, by recursion
abbrev pub Each : {X : Type 0} → (X → Type 0) → List X → Type 0
Each P [] = Unit {0}
Each P (x ∷ xs) = P x × Each P xs

module _ {X : Type 0} (P : X → Type 0) where
  pub each_all : (xs : List X) → Each P xs → All P xs
  each_all [] h k d less = absurd (omega arith)
  each_all (x ∷ xs) h zero d less = h.0
  each_all (x ∷ xs) h (suc k) d less = each_all xs h.1 k d (omega arith)

  pub all_each : (xs : List X) → All P xs → Each P xs
  all_each [] h = tt
  all_each (x ∷ xs) h = (h 0 x (omega arith), all_each xs (λ k d less. h (suc k) d (omega arith)))

pub either : {X : Type 0} (P : X → Type 0) (b : Bool) (x y : X) → (b ≡ true → P x) → (b ≡ false → P y) → P (cond b x y)
either P true x y hit miss = hit refl
either P false x y hit miss = miss refl

pub both_true : (a b : Bool) → (a && b) ≡ true → (a ≡ true) × (b ≡ true)
both_true true true e = (refl, refl)
both_true true false e = cc
both_true false b e = cc

one_false : (a b : Bool) → (a && b) ≡ false → a ≡ true → b ≡ false
one_false true b e h = e
one_false false b e h = cc

module _ {J : Type 0} (pieces : J → ℕ) (piece : ℕ → J → J) where
  abbrev E : Type 0
  E = Entry J

  abbrev Stands : E → Type 0
  Stands e = StandsAt pieces piece e e.place

  -- what a step or a finish of w does to one number
  pub record Turns (w : ℕ) (f : E → E) : Type 0 where
    pub same : (e : E) → (f e).put ≡ e.put
    pub fewer : (v : ℕ) (e : E) → one_with v (f e).place ≤ one_with v e.place
    pub right : (e : E) → Stands e → Stands (f e)
    pub others : (e : E) (v k : ℕ) → e.place ≡ with_worker v k → w ≢ v → f e ≡ e

  step_same : (w : ℕ) (e : E) (p : Place) → (stepped pieces piece w e p).put ≡ e.put
  step_same w e waiting = refl
  step_same w e (with_worker v k) = either (λ (x : E). x.put ≡ e.put) (nat_eq v w && nat_lt k (pieces e.put)) _ _ (λ _. refl) (λ _. refl)
  step_same w e done = refl

  step_fewer : (w v : ℕ) (e : E) (p : Place) → e.place ≡ p → one_with v (stepped pieces piece w e p).place ≤ one_with v e.place
  step_fewer w v e waiting is = omega arith
  step_fewer w v e (with_worker u k) is = either (λ (x : E). one_with v x.place ≤ one_with v e.place) (nat_eq u w && nat_lt k (pieces e.put)) _ _
      (λ _. let h : one_with v (with_worker u (suc k)) ≡ one_with v e.place = ap (one_with v) (sym is) in omega arith) (λ _. omega arith)
  step_fewer w v e done is = omega arith

  step_right : (w : ℕ) (e : E) (p : Place) → e.place ≡ p → StandsAt pieces piece e p → Stands (stepped pieces piece w e p)
  step_right w e waiting is h = subst (StandsAt pieces piece e) (sym is) h
  step_right w e (with_worker v k) is h = either Stands (nat_eq v w && nat_lt k (pieces e.put)) _ _
      (λ hit. let less : k < pieces e.put = ltb-true k (pieces e.put) (both_true (nat_eq v w) (nat_lt k (pieces e.put)) hit).1 in (omega arith, ap (piece k) h.1)) (λ _. subst (StandsAt pieces piece e) (sym is) h)
  step_right w e done is h = subst (StandsAt pieces piece e) (sym is) h

  step_others : (w : ℕ) (e : E) (v k : ℕ) (p : Place) → p ≡ with_worker v k → w ≢ v → stepped pieces piece w e p ≡ e
  step_others w e v k waiting is other = refl
  step_others w e v k (with_worker u l) is other = either (λ (x : E). x ≡ e) (nat_eq u w && nat_lt l (pieces e.put)) _ _
      (λ hit. let same : u ≡ w = eqb-true u w (both_true _ _ hit).0 in let this : u ≡ v = cc in absurd (other (sym same ∙ this))) (λ _. refl)
  step_others w e v k done is other = refl

  pub step_turns : (w : ℕ) → Turns w (λ e. stepped pieces piece w e e.place)
  step_turns w = record { same = λ e. step_same w e e.place; fewer = λ v e. step_fewer w v e e.place refl; right = λ e h. step_right w e e.place refl h; others = λ e v k is other. step_others w e v k e.place is other }

  down_same : (w : ℕ) (e : E) (p : Place) → (put_down pieces piece w e p).put ≡ e.put
  down_same w e waiting = refl
  down_same w e (with_worker v k) = either (λ (x : E). x.put ≡ e.put) (nat_eq v w && not (nat_lt k (pieces e.put))) _ _ (λ _. refl) (λ _. refl)
  down_same w e done = refl

  down_fewer : (w v : ℕ) (e : E) (p : Place) → one_with v (put_down pieces piece w e p).place ≤ one_with v e.place
  down_fewer w v e waiting = omega arith
  down_fewer w v e (with_worker u k) = either (λ (x : E). one_with v x.place ≤ one_with v e.place) (nat_eq u w && not (nat_lt k (pieces e.put))) _ _ (λ _. omega arith) (λ _. omega arith)
  down_fewer w v e done = omega arith

  not_less : (k n : ℕ) → not (nat_lt k n) ≡ true → k ≤ n → k ≡ n
  not_less k n h le = grind (arith, nat_tests)

  down_right : (w : ℕ) (e : E) (p : Place) → e.place ≡ p → StandsAt pieces piece e p → Stands (put_down pieces piece w e p)
  down_right w e waiting is h = subst (StandsAt pieces piece e) (sym is) h
  down_right w e (with_worker v k) is h = either Stands (nat_eq v w && not (nat_lt k (pieces e.put))) _ _
      (λ hit. h.1 ∙ ap (λ n. after piece n e.put) (not_less k (pieces e.put) (both_true _ _ hit).1 h.0)) (λ _. subst (StandsAt pieces piece e) (sym is) h)
  down_right w e done is h = subst (StandsAt pieces piece e) (sym is) h

  down_others : (w : ℕ) (e : E) (v k : ℕ) (p : Place) → p ≡ with_worker v k → w ≢ v → put_down pieces piece w e p ≡ e
  down_others w e v k waiting is other = refl
  down_others w e v k (with_worker u l) is other = either (λ (x : E). x ≡ e) (nat_eq u w && not (nat_lt l (pieces e.put))) _ _
      (λ hit. let same : u ≡ w = eqb-true u w (both_true _ _ hit).0 in let this : u ≡ v = cc in absurd (other (sym same ∙ this))) (λ _. refl)
  down_others w e v k done is other = refl

  pub down_turns : (w : ℕ) → Turns w (λ e. put_down pieces piece w e e.place)
  down_turns w = record { same = λ e. down_same w e e.place; fewer = λ v e. down_fewer w v e e.place; right = λ e h. down_right w e e.place refl h; others = λ e v k is other. down_others w e v k e.place is other }

  pub record Sound (jobs : List J) (round : List E) : Type 0 where
    pub numbers : map (λ (e : E). e.put) round ≡ jobs
    pub alone : (w : ℕ) → held_by w round ≤ 1
    pub stand : Each Stands round

  module _ (w : ℕ) (f : E → E) (t : Turns w f) where
    pub turn_numbers : (r : List E) → map (λ (e : E). e.put) (map f r) ≡ map (λ (e : E). e.put) r
    turn_numbers [] = refl
    turn_numbers (e ∷ es) = ap₂ (λ x xs. x ∷ xs) (t.same e) (turn_numbers es)

    turn_fewer : (v : ℕ) (r : List E) → held_by v (map f r) ≤ held_by v r
    turn_fewer v [] = omega arith
    turn_fewer v (e ∷ es) = let one = t.fewer v e in let more = turn_fewer v es in omega arith

    turn_right : (r : List E) → Each Stands r → Each Stands (map f r)
    turn_right [] h = tt
    turn_right (e ∷ es) h = (t.right e h.0, turn_right es h.1)

    turn_others : (r : List E) (n v k : ℕ) (x : E) → slice_get r n ≡ Some x → x.place ≡ with_worker v k → w ≢ v → slice_get (map f r) n ≡ Some x
    turn_others [] n v k x at is other = at
    turn_others (e ∷ es) zero v k x at is other = let same : e ≡ x = cc in ap Some (ap f same ∙ t.others x v k is other)
    turn_others (e ∷ es) (suc n) v k x at is other = turn_others es n v k x at is other

    turned : (jobs : List J) (r : List E) → Sound jobs r → Sound jobs (map f r)
    turned jobs r s = record { numbers = turn_numbers r ∙ s.numbers; alone = λ v. (let one = s.alone v in let more = turn_fewer v r in omega arith); stand = turn_right r s.stand }

  place_waits : (p : Place) → is_waiting p ≡ true → p ≡ waiting
  place_waits waiting e = refl
  place_waits (with_worker v k) e = cc
  place_waits done e = cc

  pub give_numbers : (w : ℕ) (r : List E) → map (λ (e : E). e.put) (give w r) ≡ map (λ (e : E). e.put) r
  give_numbers w [] = refl
  give_numbers w (e ∷ es) = either (λ (r : List E). map (λ (e : E). e.put) r ≡ e.put ∷ map (λ (e : E). e.put) es) (is_waiting e.place) _ _ (λ _. refl) (λ _. ap (λ xs. e.put ∷ xs) (give_numbers w es))

  give_held : (w v : ℕ) (r : List E) → held_by v (give w r) ≤ held_by v r + one_with v (with_worker w 0)
  give_held w v [] = omega arith
  give_held w v (e ∷ es) = either (λ (r : List E). held_by v r ≤ one_with v e.place + held_by v es + one_with v (with_worker w 0)) (is_waiting e.place) _ _
      (λ _. omega arith) (λ _. let more = give_held w v es in omega arith)

  give_right : (w : ℕ) (r : List E) → Each Stands r → Each Stands (give w r)
  give_right w [] h = tt
  give_right w (e ∷ es) h = either (λ (r : List E). Each Stands r) (is_waiting e.place) _ _
      (λ hit. ((omega arith, subst (StandsAt pieces piece e) (place_waits e.place hit) h.0), h.1)) (λ _. (h.0, give_right w es h.1))

  give_others : (w : ℕ) (r : List E) (n v k : ℕ) (x : E) → slice_get r n ≡ Some x → x.place ≡ with_worker v k → slice_get (give w r) n ≡ Some x
  give_others w [] n v k x at is = at
  give_others w (e ∷ es) zero v k x at is = either (λ (r : List E). slice_get r zero ≡ Some x) (is_waiting e.place) _ _
      (λ hit. let same : e ≡ x = cc in let waits : e.place ≡ waiting = place_waits e.place hit in let has : e.place ≡ with_worker v k = ap (λ (y : E). y.place) same ∙ is in cc) (λ _. at)
  give_others w (e ∷ es) (suc n) v k x at is = either (λ (r : List E). slice_get r (suc n) ≡ Some x) (is_waiting e.place) _ _ (λ _. at) (λ _. give_others w es n v k x at is)

  one_other : (w v : ℕ) → w ≢ v → one_with v (with_worker w 0) ≡ 0
  one_other w v other = grind (arith, nat_tests)

  one_small : (w v : ℕ) → one_with v (with_worker w 0) ≤ 1
  one_small w v = grind (arith, nat_tests)

  given_alone : (w v : ℕ) (r : List E) → held_by w r ≡ 0 → held_by v r ≤ 1 → (b : Bool) → nat_eq w v ≡ b → held_by v (give w r) ≤ 1
  given_alone w v r free one true is = let same : w ≡ v = eqb-true w v is in let free' : held_by v r ≡ 0 = subst (λ (u : ℕ). held_by u r ≡ 0) same free in
      let more = give_held w v r in let small = one_small w v in omega arith
  given_alone w v r free one false is = let more = give_held w v r in let none = one_other w v (eqb-false w v is) in omega arith

  given : (w : ℕ) (jobs : List J) (r : List E) → held_by w r ≡ 0 → Sound jobs r → Sound jobs (give w r)
  given w jobs r free s = record { numbers = give_numbers w r ∙ s.numbers; alone = λ v. given_alone w v r free (s.alone v) (nat_eq w v) refl; stand = give_right w r s.stand }

  pub sound_event : (e : Event) (jobs : List J) (r : List E) → Sound jobs r → Sound jobs (happens pieces piece e r)
  sound_event (draw w) jobs r s = either (Sound jobs) (nat_eq (held_by w r) 0) _ _ (λ hit. given w jobs r (eqb-true (held_by w r) 0 hit) s) (λ _. s)
  sound_event (step w) jobs r s = turned w _ (step_turns w) jobs r s
  sound_event (finish w) jobs r s = turned w _ (down_turns w) jobs r s

  pub sound_events : (es : List Event) (jobs : List J) (r : List E) → Sound jobs r → Sound jobs (after_events pieces piece es r)
  sound_events [] jobs r s = s
  sound_events (e ∷ es) jobs r s = sound_events es jobs (happens pieces piece e r) (sound_event e jobs r s)

  pub start_numbers : (jobs : List J) → map (λ (e : E). e.put) (start jobs) ≡ jobs
  start_numbers [] = refl
  start_numbers (j ∷ js) = ap (λ xs. j ∷ xs) (start_numbers js)

  start_held : (w : ℕ) (jobs : List J) → held_by w (start jobs) ≡ 0
  start_held w [] = refl
  start_held w (j ∷ js) = let more = start_held w js in omega arith

  start_right : (jobs : List J) → Each Stands (start jobs)
  start_right [] = tt
  start_right (j ∷ js) = (refl, start_right js)

  pub started : (jobs : List J) → Sound jobs (start jobs)
  started jobs = record { numbers = start_numbers jobs; alone = λ w. (let none = start_held w jobs in omega arith); stand = start_right jobs }

  pub apart : (r : List E) → LeavesOthers pieces piece r
  apart r (draw w) n v k x at is other = either (λ (r : List E). slice_get r n ≡ Some x) (nat_eq (held_by w r) 0) _ _ (λ _. give_others w r n v k x at is) (λ _. at)
  apart r (step w) n v k x at is other = turn_others w _ (step_turns w) r n v k x at is other
  apart r (finish w) n v k x at is other = turn_others w _ (down_turns w) r n v k x at is other

  done_job : (e : E) → Stands e → e.place ≡ done → e.job ≡ finished pieces piece e.put
  done_job e h is = subst (StandsAt pieces piece e) is h

  pub results : (r : List E) → Each Stands r → Each (IsDone pieces piece) r → map (λ (e : E). e.job) r ≡ map (finished pieces piece) (map (λ (e : E). e.put) r)
  results [] h d = refl
  results (e ∷ es) h d = ap₂ (λ x xs. x ∷ xs) (done_job e h.0 d.0) (results es h.1 d.1)

  pub interleaved : (jobs : List J) (events : List Event) → IsInterleaved pieces piece jobs events
  interleaved jobs events = let r = after_events pieces piece events (start jobs) in let s = sound_events events jobs (start jobs) (started jobs) in record {
    numbers = s.numbers;
    alone = s.alone;
    stand = each_all _ r s.stand;
    apart = apart r;
    results = λ all. results r s.stand (all_each _ r all) ∙ ap (map (finished pieces piece)) s.numbers;
  }
