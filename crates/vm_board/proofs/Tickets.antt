-- Each atomic step keeps the rule of the board.
use Rattle.std.proofs.Common.{◌≡◌, ◌≢◌, ◌+◌, ◌%◌, ◌^◌, ◌<◌, ◌≤◌, ℕ, zero, suc, Bool, true, false, List, [], ◌∷◌, ◌++◌, map, length, get_or, set, Some, None, refl, sym, ap, ◌∙◌, subst, ⊎_elim, arith, length-set, replicate, slice_get, get_or-set_other, get_or-set_same, mod-eq_of_lt}
use Rattle.std.specs.Prelude.{Option, nat_eq, nat_lt, if◌then◌else◌}
use Rattle.std.specs.List.{All}
use Rattle.std.proofs.lemmas.Bool.{eq-eqb, ltb-true}
use Rattle.std.proofs.lemmas.Bool.Decides.{nat_tests}
use Rattle.std.proofs.lemmas.Option.{slice_get_within}
use Rattle.std.proofs.lemmas.List.{length-replicate, length-map}
use mathlib.Core.Option.{none, some, some-injective, some-ne-none}
use native.Mathlib.Decide.{ℕ_discrete}
use lib.ListN.{get_elem?}
use Rattle.atomic_table.specs.Table.{State, opening, Me, Act, step, keeps, takes, gives, put_back, Allows, Splits, Joins, stepped, carried_after, Valid}
use Rattle.atomic_table.proofs.Lists.{at_set, at_snoc, set_here, set_else}
use Rattle.vm_board.specs.declared.plays.Hand.{Hand}
use Rattle.vm_board.specs.Sums.{total, times, one_if}
use Rattle.vm_board.specs.Pieces.{finished}
use Rattle.vm_board.specs.Hands.{hand, newcomer, one_less, merged, spent, has, over_weight, drew, finished_one}
use Rattle.vm_board.specs.Tickets.{once, ticket, mark, HandOk, IsKept}
use Rattle.vm_board.proofs.Sums.{total_set, total_at, total_append, total_snoc, total_le, total_alone, times_at}

once_next : (k n c : ℕ) → n < c → once k n c + (one_if (nat_eq n k)) ≡ once k (n + 1) c
once_next k n c less = grind (arith, nat_tests)

once_past : (k n c : ℕ) → c ≤ n → once k (n + 1) c ≡ once k n c
once_past k n c le = grind (arith, nat_tests)

pub once_self : (n c : ℕ) → once n n c ≡ 0
once_self n c = grind (arith, nat_tests)

once_below : (n t c : ℕ) → 0 < once n t c → n < t
once_below n t c h = grind (arith, nat_tests)

once_most : (n t c : ℕ) → once n t c ≤ 1
once_most n t c = grind (arith, nat_tests)

once_there : (n t c : ℕ) → n < t → n < c → once n t c ≡ 1
once_there n t c a b = grind (arith, nat_tests)

-- once the ticket is past the last number, each number is drawn
once_all : (n t c : ℕ) → c ≤ t → once n t c ≡ one_if (nat_lt n c)
once_all n t c le = grind (arith, nat_tests)

abbrev no_mark : ℕ
no_mark = 0

pub no_marks : (m k : ℕ) → get_or (replicate m no_mark) k no_mark ≡ no_mark
no_marks zero k = refl
no_marks (suc m) zero = refl
no_marks (suc m) (suc k) = no_marks m k

pub has_here : (n : ℕ) → has n (Some n) ≡ 1
has_here n = ap (λ b. one_if b) (eq-eqb n n refl)

has_else : (k n : ℕ) → k ≢ n → has k (Some n) ≡ 0
has_else k n other = grind (arith, nat_tests)

over_le : (v : Hand) → over_weight v ≤ v.weight
over_le v = elim v.over as (λ b. (if b then v.weight else 0) ≤ v.weight) [ true ↦ omega arith | false ↦ omega arith ]

not_over : (v : Hand) → v.over ≡ false → over_weight v ≡ 0
not_over v h = ap (λ b. if b then v.weight else 0) h

is_over : (v : Hand) → v.over ≡ true → over_weight v ≡ v.weight
is_over v h = ap (λ b. if b then v.weight else 0) h

later : (c t u : ℕ) (v : Hand) → t ≤ u → HandOk c t v → HandOk c u v
later c t u v le h = record { idle = h.idle; listed = h.listed; found = λ o w. (let f = h.found o w in omega arith) }

module _ {J : Type 0} (ready : J → Type 0) (pieces : J → ℕ) (piece : ℕ → J → J) (jobs : List J) (seats : ℕ) where
  abbrev Kept : State (Option J) Hand → Type 0
  Kept = IsKept ready pieces piece jobs seats

  abbrev St : Type 0
  St = State (Option J) Hand

  abbrev c : ℕ
  c = length jobs

  -- the ticket never comes near to wrapping
  near : (s : St) → Kept s → ticket s.words + 1 < 2 ^ 64
  near s r = let over = total_le over_weight (λ (v : Hand). v.weight) over_le s.views in let b = r.bound in let w = r.weights in let small = r.small in omega arith

  below : (s : St) → Kept s → (id : ℕ) (v : Hand) → get_elem? s.views id ≡ some v → All (λ k. k < ticket s.words) v.drawn
  below s r id v at k d less = let m : ℕ = get_or v.drawn k d in let here : 0 < times m v.drawn = times_at v.drawn k d less in
      let some_of = total_at (λ (u : Hand). times m u.drawn) s.views id v at in let is = r.drawn m in once_below m (ticket s.words) c (omega arith)

  module _ (s : St) (r : Kept s) (id : ℕ) (v : Hand) (at : get_elem? s.views id ≡ some v) where
    abbrev t : ℕ
    t = ticket s.words

    -- the ticket is the word 0, and the marks stay
    pub raised : (m : ℕ) → ticket (set s.words 0 m) ≡ m
    raised m = get_or-set_same s.words 0 m 0 (let wide = r.wide in omega arith)

    pub marks_stay : (m k : ℕ) → mark (set s.words 0 m) k ≡ mark s.words k
    marks_stay m k = get_or-set_other s.words 0 (k + 1) m 0 (λ e. omega arith)

    abbrev pub drawn_hand : Hand
    drawn_hand = hand v.weight (v.drawn ++ t ∷ []) (Some t) v.over

    each_drawn : 0 < v.weight → v.over ≡ false → (k : ℕ) (u : Hand) → get_elem? (set s.views id drawn_hand) k ≡ some u → HandOk c (t + 1) u
    each_drawn some_weight not_yet k u at' = ⊎_elim
        (λ here. subst (HandOk c (t + 1)) here.1 record {
          idle = λ none. absurd (omega arith);
          listed = λ n is. (let same : t ≡ n = cc in subst (λ (m : ℕ). 0 < times m (v.drawn ++ t ∷ [])) same (let more = total_snoc (λ (m : ℕ). one_if (nat_eq m t)) v.drawn t in let one = has_here t in omega arith));
          found = λ o _. (let no : false ≡ true = sym not_yet ∙ o in cc);
        })
        (λ away. later c t (t + 1) u (omega arith) (r.each_hand k u away.1)) (at_set s.views id k drawn_hand u at')

    pub draw_hit : 0 < v.weight → v.over ≡ false → v.number ≡ None → t < c → Kept record { words = set s.words 0 (t + 1); homes = set s.homes t none; views = set s.views id drawn_hand }
    draw_hit some_weight not_yet empty less = let is = raised (t + 1) in let unmarked : mark s.words t ≡ 0 = (let h = r.hands t in let z = once_self t c in omega arith) in record {
      wide = length-set s.words 0 (t + 1) ∙ r.wide;
      long = length-set s.homes t none ∙ r.long;
      small = r.small;
      fit = r.fit;
      weights = (let h = total_set (λ (u : Hand). u.weight) s.views id v drawn_hand at in let w = r.weights in omega arith);
      drawn = λ k. (let h = total_set (λ (u : Hand). times k u.drawn) s.views id v drawn_hand at in let more = total_snoc (λ (m : ℕ). one_if (nat_eq m k)) v.drawn t in let d = r.drawn k in let n = once_next k t c less in
          let goal : total (λ (u : Hand). times k u.drawn) (set s.views id drawn_hand) ≡ once k (t + 1) c = omega arith in goal ∙ ap (λ (m : ℕ). once k m c) (sym is));
      hands = λ k. (let h = total_set (λ (u : Hand). has k u.number) s.views id v drawn_hand at in let before : has k v.number ≡ 0 = ap (has k) empty in let d = r.hands k in let n = once_next k t c less in let same = marks_stay (t + 1) k in
          let goal : total (λ (u : Hand). has k u.number) (set s.views id drawn_hand) + mark (set s.words 0 (t + 1)) k ≡ once k (t + 1) c = omega arith in goal ∙ ap (λ (m : ℕ). once k m c) (sym is));
      bound = (let less' : t + 1 ≤ c = omega arith in let is' = is in omega arith);
      each_hand = λ k u at'. subst (λ (m : ℕ). HandOk c m u) (sym is) (each_drawn some_weight not_yet k u at');
      waits = λ n j has_job le. (let past : t < n = omega (arith, is) in set_else s.homes t n none (λ e. omega arith) ∙ r.waits n j has_job (omega arith));
      done = λ n j has_job marked. (let m = marks_stay (t + 1) n in let was : mark s.words n ≡ 1 = omega arith in
          let other : n ≢ t = λ e. (let z : mark s.words n ≡ 0 = subst (λ (i : ℕ). mark s.words i ≡ 0) (sym e) unmarked in omega arith) in set_else s.homes t n none other ∙ r.done n j has_job was);
    }

    abbrev pub ended_hand : Hand
    ended_hand = hand v.weight v.drawn v.number true

    each_ended : 0 < v.weight → c ≤ t → (k : ℕ) (u : Hand) → get_elem? (set s.views id ended_hand) k ≡ some u → HandOk c (t + 1) u
    each_ended some_weight past k u at' = ⊎_elim
        (λ here. subst (HandOk c (t + 1)) here.1 record { idle = λ none. absurd (omega arith); listed = (r.each_hand id v at).listed; found = λ o w. omega arith })
        (λ away. later c t (t + 1) u (omega arith) (r.each_hand k u away.1)) (at_set s.views id k ended_hand u at')

    pub draw_miss : 0 < v.weight → v.over ≡ false → c ≤ t → Kept record { words = set s.words 0 (t + 1); homes = s.homes; views = set s.views id ended_hand }
    draw_miss some_weight not_yet past = let is = raised (t + 1) in record {
      wide = length-set s.words 0 (t + 1) ∙ r.wide;
      long = r.long;
      small = r.small;
      fit = r.fit;
      weights = (let h = total_set (λ (u : Hand). u.weight) s.views id v ended_hand at in let w = r.weights in omega arith);
      drawn = λ k. (let h = total_set (λ (u : Hand). times k u.drawn) s.views id v ended_hand at in let d = r.drawn k in let n = once_past k t c past in
          let goal : total (λ (u : Hand). times k u.drawn) (set s.views id ended_hand) ≡ once k (t + 1) c = omega arith in goal ∙ ap (λ (m : ℕ). once k m c) (sym is));
      hands = λ k. (let h = total_set (λ (u : Hand). has k u.number) s.views id v ended_hand at in let d = r.hands k in let n = once_past k t c past in let same = marks_stay (t + 1) k in
          let goal : total (λ (u : Hand). has k u.number) (set s.views id ended_hand) + mark (set s.words 0 (t + 1)) k ≡ once k (t + 1) c = omega arith in goal ∙ ap (λ (m : ℕ). once k m c) (sym is));
      bound = (let h = total_set over_weight s.views id v ended_hand at in let was = not_over v not_yet in let b = r.bound in let is' = is in omega arith);
      each_hand = λ k u at'. subst (λ (m : ℕ). HandOk c m u) (sym is) (each_ended some_weight past k u at');
      waits = λ n j has_job le. r.waits n j has_job (omega (arith, is));
      done = λ n j has_job marked. r.done n j has_job (let m = marks_stay (t + 1) n in omega arith);
    }

  at_number : {X : Type 0} (P : X → Type 0) (xs : List X) (k : ℕ) (x : X) → All P xs → slice_get xs k ≡ Some x → P x
  at_number P [] k x h e = cc
  at_number P (y ∷ ys) zero x h e = let same : y ≡ x = cc in subst P same (h zero y (omega arith))
  at_number P (y ∷ ys) (suc k) x h e = at_number P ys k x (λ i d less. h (suc i) d (omega arith)) e

  pub there : {X : Type 0} (xs : List X) (k : ℕ) → k < length xs → (x : X) × (slice_get xs k ≡ Some x)
  there [] k less = absurd (omega arith)
  there (x ∷ xs) zero less = (x, refl)
  there (x ∷ xs) (suc k) less = there xs k (omega arith)

  abbrev Goes : St → ℕ → Me (Option J) Hand → ℕ → ℕ → Type 0
  Goes s id me slots m = (w : Hand) × (a : Act (Option J)) × Valid s.homes me.1 a × Kept (stepped s 0 m id me.1 w a) × drew ready jobs (step slots 0 1 0 none) me (ticket s.words) (w, carried_after me.1 a)

  draws_to : (s : St) → Kept s → (id : ℕ) (me : Me (Option J) Hand) → get_elem? s.views id ≡ some me.0 → 0 < me.0.weight → me.0.over ≡ false → me.0.number ≡ None → (b : Bool) → nat_lt (ticket s.words) c ≡ b → Goes s id me c (ticket s.words + 1)
  draws_to s r id me at some_weight not_yet empty true is = let n : ℕ = ticket s.words in let less : n < c = ltb-true n c is in let job = there jobs n less in (
    drawn_hand s r id me.0 at,
    takes n (Some job.0),
    r.waits n job.0 job.1 (omega arith),
    draw_hit s r id me.0 at some_weight not_yet empty less,
    rw is (job.0, job.1, at_number ready jobs n job.0 r.fit job.1, refl, refl, below s r id me.0 at),
  )
  draws_to s r id me at some_weight not_yet empty false is = let n : ℕ = ticket s.words in let past : c ≤ n = grind (arith, nat_tests) in (
    ended_hand s r id me.0 at,
    keeps,
    tt,
    draw_miss s r id me.0 at some_weight not_yet past,
    rw is refl,
  )

  pub draws : (slots id : ℕ) (me : Me (Option J) Hand) → 0 < me.0.weight → me.0.over ≡ false → me.0.number ≡ None → slots ≡ c
      → Allows Kept slots id me 0 (λ n. (n + 1) % 2 ^ 64) (drew ready jobs (step slots 0 1 0 none) me)
  draws slots id me some_weight not_yet empty as_many s r long at small =
      subst (λ (z : ℕ × ℕ). Goes s id me z.0 z.1) (λ i. (sym as_many i, sym (mod-eq_of_lt (near s r)) i)) (draws_to s r id me at some_weight not_yet empty (nat_lt (ticket s.words) c) refl)

  module _ (s : St) (r : Kept s) (id n : ℕ) (j : J) (v : Hand) (at : get_elem? s.views id ≡ some v) (some_weight : 0 < v.weight) (holds_it : v.number ≡ Some n) (has_job : slice_get jobs n ≡ Some j) where
    abbrev u : ℕ
    u = ticket s.words

    abbrev pub emptied : Hand
    emptied = hand v.weight v.drawn None v.over

    here_once : has n v.number ≡ 1
    here_once = ap (has n) holds_it ∙ has_here n

    -- it is in this hand alone
    unmarked : mark s.words n ≡ 0
    unmarked = let one = here_once in let some_of = total_at (λ (x : Hand). has n x.number) s.views id v at in let h = r.hands n in let most = once_most n u c in omega arith

    was_drawn : n < u
    was_drawn = let one = here_once in let some_of = total_at (λ (x : Hand). has n x.number) s.views id v at in let h = r.hands n in once_below n u c (omega arith)

    within : n + 1 < length s.words
    within = let less : n < c = slice_get_within jobs n j has_job in let wide = r.wide in omega arith

    pub same_ticket : ticket (set s.words (n + 1) 1) ≡ ticket s.words
    same_ticket = get_or-set_other s.words (n + 1) 0 1 0 (λ e. omega arith)

    pub marked_here : mark (set s.words (n + 1) 1) n ≡ 1
    marked_here = get_or-set_same s.words (n + 1) 1 0 within

    pub marked_else : (k : ℕ) → k ≢ n → mark (set s.words (n + 1) 1) k ≡ mark s.words k
    marked_else k other = get_or-set_other s.words (n + 1) (k + 1) 1 0 (λ e. other (omega arith))

    hands_after : (k : ℕ) → Dec (k ≡ n) → total (λ (x : Hand). has k x.number) (set s.views id emptied) + mark (set s.words (n + 1) 1) k ≡ once k u c
    hands_after k (yes e) = let h = total_set (λ (x : Hand). has k x.number) s.views id v emptied at in let d = r.hands k in let one : has k v.number ≡ 1 = subst (λ (i : ℕ). has i v.number ≡ 1) (sym e) here_once in
        let now : mark (set s.words (n + 1) 1) k ≡ 1 = subst (λ (i : ℕ). mark (set s.words (n + 1) 1) i ≡ 1) (sym e) marked_here in let was : mark s.words k ≡ 0 = subst (λ (i : ℕ). mark s.words i ≡ 0) (sym e) unmarked in omega arith
    hands_after k (no other) = let h = total_set (λ (x : Hand). has k x.number) s.views id v emptied at in let d = r.hands k in let none : has k v.number ≡ 0 = ap (has k) holds_it ∙ has_else k n other in let same = marked_else k other in omega arith

    each_emptied : (k : ℕ) (x : Hand) → get_elem? (set s.views id emptied) k ≡ some x → HandOk c u x
    each_emptied k x at' = ⊎_elim
        (λ here. subst (HandOk c u) here.1 record { idle = λ none. absurd (omega arith); listed = λ m is. cc; found = (r.each_hand id v at).found })
        (λ away. r.each_hand k x away.1) (at_set s.views id k emptied x at')

    done_after : (m : ℕ) (k : J) → slice_get jobs m ≡ Some k → mark (set s.words (n + 1) 1) m ≡ 1 → Dec (m ≡ n) → get_elem? (set s.homes n (some (Some (finished pieces piece j)))) m ≡ some (some (Some (finished pieces piece k)))
    done_after m k has_k marked (yes e) = let same : slice_get jobs n ≡ Some k = subst (λ (i : ℕ). slice_get jobs i ≡ Some k) e has_k in let one : j ≡ k = cc in let less : n < c = slice_get_within jobs n j has_job in let long = r.long in
        subst (λ (i : ℕ). get_elem? (set s.homes n (some (Some (finished pieces piece j)))) i ≡ some (some (Some (finished pieces piece k)))) (sym e)
        (set_here s.homes n (some (Some (finished pieces piece j))) (omega arith) ∙ ap (λ (x : J). some (some (Some (finished pieces piece x)))) one)
    done_after m k has_k marked (no other) = set_else s.homes n m (some (Some (finished pieces piece j))) other ∙ r.done m k has_k (sym (marked_else m other) ∙ marked)

    pub finish_kept : Kept record { words = set s.words (n + 1) 1; homes = set s.homes n (some (Some (finished pieces piece j))); views = set s.views id emptied }
    finish_kept = let is = same_ticket in record {
      wide = length-set s.words (n + 1) 1 ∙ r.wide;
      long = length-set s.homes n (some (Some (finished pieces piece j))) ∙ r.long;
      small = r.small;
      fit = r.fit;
      weights = (let h = total_set (λ (x : Hand). x.weight) s.views id v emptied at in let w = r.weights in omega arith);
      drawn = λ k. (let h = total_set (λ (x : Hand). times k x.drawn) s.views id v emptied at in let d = r.drawn k in
          let goal : total (λ (x : Hand). times k x.drawn) (set s.views id emptied) ≡ once k u c = omega arith in goal ∙ ap (λ (m : ℕ). once k m c) (sym is));
      hands = λ k. hands_after k (ℕ_discrete k n) ∙ ap (λ (m : ℕ). once k m c) (sym is);
      bound = (let h = total_set over_weight s.views id v emptied at in let b = r.bound in let is' = is in omega arith);
      each_hand = λ k x at'. subst (λ (m : ℕ). HandOk c m x) (sym is) (each_emptied k x at');
      waits = λ m k has_k le. (let past : u ≤ m = omega (arith, is) in set_else s.homes n m (some (Some (finished pieces piece j))) (λ e. (let drew_it = was_drawn in omega arith)) ∙ r.waits m k has_k past);
      done = λ m k has_k marked. done_after m k has_k marked (ℕ_discrete m n);
    }

  pub finishes : (slots id n : ℕ) (j : J) (xs : List (ℕ × Option J)) (me : Me (Option J) Hand) → 0 < me.0.weight → me.0.number ≡ Some n → slice_get jobs n ≡ Some j → me.1 ≡ (n, Some (finished pieces piece j)) ∷ xs
      → Allows Kept slots id me (n + 1) (λ _. 1) (λ _. finished_one (step slots (n + 1) 1 0 none) me 1)
  finishes slots id n j xs me some_weight holds_it has_job carried s r long at small = (
    emptied s r id n j me.0 at some_weight holds_it has_job,
    gives,
    tt,
    subst (λ (cs : List (ℕ × Option J)). Kept record { words = set s.words (n + 1) 1; homes = put_back s.homes cs; views = set s.views id (hand me.0.weight me.0.drawn None me.0.over) }) (sym carried)
        (finish_kept s r id n j me.0 at some_weight holds_it has_job),
    refl,
  )

  newcomer_ok : (count t k : ℕ) → 0 < k → HandOk count t (newcomer k)
  newcomer_ok count t k pos = record { idle = λ none. absurd (omega arith); listed = λ n is. cc; found = λ o w. cc }

  -- a pass that stands for several gives one to a new pass
  pub splits : (id : ℕ) (v : Hand) → 1 < v.weight → v.over ≡ false → Splits Kept id v (one_less v) (newcomer 1)
  splits id v several not_yet s r at = let w : Hand = one_less v in let x : Hand = newcomer 1 in record {
    wide = r.wide;
    long = r.long;
    small = r.small;
    fit = r.fit;
    weights = (let h = total_set (λ (y : Hand). y.weight) s.views id v w at in let m = total_snoc (λ (y : Hand). y.weight) (set s.views id w) x in let k = r.weights in omega arith);
    drawn = λ n. (let h = total_set (λ (y : Hand). times n y.drawn) s.views id v w at in let m = total_snoc (λ (y : Hand). times n y.drawn) (set s.views id w) x in let k = r.drawn n in omega arith);
    hands = λ n. (let h = total_set (λ (y : Hand). has n y.number) s.views id v w at in let m = total_snoc (λ (y : Hand). has n y.number) (set s.views id w) x in let k = r.hands n in omega arith);
    bound = (let h = total_set over_weight s.views id v w at in let m = total_snoc over_weight (set s.views id w) x in let a = not_over v not_yet in let b = not_over w not_yet in let k = r.bound in omega arith);
    each_hand = λ k y at'. ⊎_elim
        (λ old. ⊎_elim (λ here. subst (HandOk c (ticket s.words)) here.1 (let ok = r.each_hand id v at in record { idle = λ none. absurd (omega arith); listed = ok.listed; found = λ o _. ok.found o (omega arith) }))
        (λ away. r.each_hand k y away.1) (at_set s.views id k w y old))
        (λ new. subst (HandOk c (ticket s.words)) new (newcomer_ok c (ticket s.words) 1 (omega arith)))
        (at_snoc (set s.views id w) x y k at');
    waits = r.waits;
    done = r.done;
  }

  -- a pass that is over takes in another
  pub joins : (id : ℕ) (v : Hand) (other : ℕ) (w : Hand) → 0 < v.weight → v.over ≡ true → w.over ≡ true → v.number ≡ None → w.number ≡ None → Joins Kept id v other w (merged v w) spent
  joins id v other w some_weight v_over w_over v_empty w_empty s r at apart at' = let x : Hand = merged v w in let vs : List Hand = set s.views id x in record {
    wide = r.wide;
    long = r.long;
    small = r.small;
    fit = r.fit;
    weights = (let h = total_set (λ (y : Hand). y.weight) s.views id v x at in let m = total_set (λ (y : Hand). y.weight) vs other w spent at' in let k = r.weights in omega arith);
    drawn = λ n. (let h = total_set (λ (y : Hand). times n y.drawn) s.views id v x at in let m = total_set (λ (y : Hand). times n y.drawn) vs other w spent at' in
        let both = total_append (λ (k : ℕ). one_if (nat_eq k n)) v.drawn w.drawn in let k = r.drawn n in omega arith);
    hands = λ n. (let h = total_set (λ (y : Hand). has n y.number) s.views id v x at in let m = total_set (λ (y : Hand). has n y.number) vs other w spent at' in let none : has n w.number ≡ 0 = ap (has n) w_empty in let k = r.hands n in omega arith);
    bound = (let h = total_set over_weight s.views id v x at in let m = total_set over_weight vs other w spent at' in let a = is_over v v_over in let b = is_over w w_over in let d = is_over x v_over in let k = r.bound in omega arith);
    each_hand = λ k y at''. ⊎_elim
        (λ here. subst (HandOk c (ticket s.words)) here.1 record { idle = λ _. (refl, refl); listed = λ n is. cc; found = λ o _. cc })
        (λ away. ⊎_elim (λ here. subst (HandOk c (ticket s.words)) here.1 record { idle = λ none. absurd (omega arith); listed = λ n is. cc; found = λ _ _. (r.each_hand id v at).found v_over some_weight })
        (λ old. r.each_hand k y old.1) (at_set s.views id k x y away.1))
        (at_set vs other k spent y at'');
    waits = r.waits;
    done = r.done;
  }

  once_none : (n m : ℕ) → once n 0 m ≡ 0
  once_none n m = grind (arith, nat_tests)

  lone : {X : Type 0} (x : X) (k : ℕ) (y : X) → get_elem? (x ∷ []) k ≡ some y → x ≡ y
  lone x zero y e = some-injective x y e
  lone x (suc k) y e = absurd (some-ne-none y (sym e))

  at_home : (xs : List J) (n : ℕ) (j : J) → slice_get xs n ≡ Some j → get_elem? (map some (map Some xs)) n ≡ some (some (Some j))
  at_home [] n j e = cc
  at_home (x ∷ xs) zero j e = let same : x ≡ j = cc in ap (λ (y : J). some (some (Some y))) same
  at_home (x ∷ xs) (suc n) j e = at_home xs n j e

  -- a board begins with the ticket at 0, each job in its slot, and one seat that stands for all passes
  pub opens_at : 0 < seats → c + seats < 2 ^ 63 → All ready jobs → Kept (opening (replicate (c + 1) 0) (map Some jobs) (newcomer seats))
  opens_at some_seat near' all_ready = record {
    wide = length-replicate (c + 1) 0;
    long = length-map (map Some jobs) (λ (o : Option J). some o) ∙ length-map jobs (λ (j : J). Some j);
    small = near';
    fit = all_ready;
    weights = omega arith;
    drawn = λ n. (let none = once_none n c in let zero_ticket = no_marks (c + 1) 0 in let here : once n 0 c ≡ once n (ticket (replicate (c + 1) 0)) c = ap (λ (t : ℕ). once n t c) (sym zero_ticket) in omega arith);
    hands = λ n. (let none = once_none n c in let zero_ticket = no_marks (c + 1) 0 in let here : once n 0 c ≡ once n (ticket (replicate (c + 1) 0)) c = ap (λ (t : ℕ). once n t c) (sym zero_ticket) in let m = no_marks (c + 1) (n + 1) in omega arith);
    bound = (let zero_ticket = no_marks (c + 1) 0 in omega arith);
    each_hand = λ k v at. subst (HandOk c (ticket (replicate (c + 1) 0))) (lone (newcomer seats) k v at) (newcomer_ok c (ticket (replicate (c + 1) 0)) seats some_seat);
    waits = λ n j has_job _. at_home jobs n j has_job;
    done = λ n j has_job marked. (let m = no_marks (c + 1) (n + 1) in absurd (omega arith));
  }

  pub opens : (words : List ℕ) (slots : List (Option J)) → 0 < seats → c + seats < 2 ^ 63 → All ready jobs → words ≡ replicate (c + 1) 0 → slots ≡ map Some jobs → Kept (opening words slots (newcomer seats))
  opens words slots some_seat near' all_ready ws xs = subst (λ (z : List ℕ × List (Option J)). Kept (opening z.0 z.1 (newcomer seats))) (λ i. (sym ws i, sym xs i)) (opens_at some_seat near' all_ready)

  module _ (s : St) (r : Kept s) (id : ℕ) (v : Hand) (at : get_elem? s.views id ≡ some v) (some_weight : 0 < v.weight) (whole : v.weight ≡ seats) (is_past : v.over ≡ true) (empty : v.number ≡ None) where
    has_all : total (λ (x : Hand). x.weight) s.views ≡ v.weight
    has_all = r.weights ∙ sym whole

    -- who has the whole weight has drawn each number once, and no other
    pub each_once : (n : ℕ) → times n v.drawn ≡ one_if (nat_lt n c)
    each_once n = let past = (r.each_hand id v at).found is_past some_weight in let d = r.drawn n in let all = once_all n (ticket s.words) c (omega arith) in
        let mine = total_alone (λ (x : Hand). times n x.drawn) (λ (x : Hand). x.weight) s.views id v (λ k x at' none. ap (times n) ((r.each_hand k x at').idle none).0) at has_all in omega arith

    -- and then each job is at home, and done
    pub settles : (n : ℕ) (j : J) → slice_get jobs n ≡ Some j → get_elem? s.homes n ≡ some (some (Some (finished pieces piece j)))
    settles n j has_job = let past = (r.each_hand id v at).found is_past some_weight in let less = slice_get_within jobs n j has_job in let h = r.hands n in let one = once_there n (ticket s.words) c (omega arith) less in
        let mine = total_alone (λ (x : Hand). has n x.number) (λ (x : Hand). x.weight) s.views id v (λ k x at' none. ap (has n) ((r.each_hand k x at').idle none).1) at has_all in
        let none : has n v.number ≡ 0 = ap (has n) empty in r.done n j has_job (omega arith)
