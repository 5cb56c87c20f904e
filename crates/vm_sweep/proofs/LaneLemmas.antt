-- What lanes made of the jobs on a board.
use Rattle.std.proofs.Common.{◌≡◌, ◌<◌, ◌+◌, inl, inr, ℕ, zero, suc, List, [], ◌∷◌, ◌++◌, map, length, refl, sym, ap, ◌∙◌, arith, subst, set, Some, None, slice_get}
use Rattle.std.specs.List.{All}
use Rattle.std.specs.Prelude.{Option, nat_eq}
use Rattle.std.proofs.lemmas.Bool.{ne_eqb}
use Rattle.std.proofs.lemmas.Option.{slice_get_within}
use native.Mathlib.Decide.{ℕ_discrete}
use mathlib.Core.Logic.{◌⊎◌}
use Rattle.vm_board.specs.Sums.{total, times, one_if}
use Rattle.vm_board.specs.States.{PassState}
use Rattle.vm_sweep.specs.declared.offer.Offer.{Offer}
use Rattle.vm_sweep.specs.declared.lane.Made.{Made}
use Rattle.vm_sweep.specs.Offers.{offered, jobs_of, IsAt}
use Rattle.vm_sweep.specs.Lanes.{numbers, IsMade, IsPlaced, ServesAll}
use Rattle.vm_sweep.proofs.LaneLists.{all_at, all_from_at, total_snoc, got_set_same, got_set_other}

pub numbers_snoc : {D : Type 0} (made : List (Made D)) (one : Made D) → numbers (made ++ one ∷ []) ≡ numbers made ++ one.number ∷ []
numbers_snoc [] one = refl
numbers_snoc (m ∷ made) one = ap (λ ns. m.number ∷ ns) (numbers_snoc made one)

module _ {J : Type 0} where
  pub jobs_offered : (jobs : List J) → jobs_of (map offered jobs) ≡ jobs
  jobs_offered [] = refl
  jobs_offered (j ∷ jobs) = ap (λ js. j ∷ js) (jobs_offered jobs)

  -- the job that was put up
  job_in : Option (Offer J) → Option J
  job_in None = None
  job_in (Some o) = o.job

  pub same_job : (offers : List (Offer J)) (n : ℕ) (i j : J) → IsAt offers n i → IsAt offers n j → i ≡ j
  unfolding job_in
  same_job offers n i j at_i at_j = some_same (ap job_in (sym at_i ∙ at_j))
    where
      some_same : {a b : J} → Some a ≡ Some b → a ≡ b
      some_same e = cc

  pub from_offer : (offers : List (Offer J)) (n : ℕ) (o : Offer J) (j : J) → slice_get offers n ≡ Some o → o.job ≡ Some j → IsAt offers n j
  from_offer offers n o j at is = at ∙ ap (λ k. Some (record { job = k })) is

  pub at_offered : (jobs : List J) (n : ℕ) (j : J) → slice_get jobs n ≡ Some j → IsAt (map offered jobs) n j
  at_offered [] n j at = absurd (none_some at)
    where
      none_some : {X : Type 0} {x : X} → None ≡ Some x → ⊥
      none_some e = cc
  at_offered (i ∷ jobs) zero j at = ap (λ o. elim o [ None ↦ None | Some k ↦ Some (offered k) ]) at
  at_offered (i ∷ jobs) (suc n) j at = at_offered jobs n j at

  pub offered_at : (jobs : List J) (n : ℕ) (j : J) → IsAt (map offered jobs) n j → slice_get jobs n ≡ Some j
  unfolding job_in
  offered_at [] n j at = absurd (none_some at)
    where
      none_some : {X : Type 0} {x : X} → None ≡ Some x → ⊥
      none_some e = cc
  offered_at (i ∷ jobs) zero j at = ap job_in at
  offered_at (i ∷ jobs) (suc n) j at = offered_at jobs n j at

module _ {J T : Type 0} (serves : T → J → Type 0) where
  pub serve_offers : (jobs : List J) (tools : List T) → All (λ tool. All (serves tool) jobs) tools → All (ServesAll serves (map offered jobs)) tools
  serve_offers jobs tools h k d less n job at = all_at (serves _) jobs n job (h k d less) (offered_at jobs n job at)

  pub serve_jobs : (jobs : List J) (tools : List T) → All (ServesAll serves (map offered jobs)) tools → All (λ tool. All (serves tool) jobs) tools
  serve_jobs jobs tools h k d less = all_from_at (serves _) jobs (λ n job at. h k d less n job (at_offered jobs n job at))

module _ {J D : Type 0} (result_of : J → D) where
  -- one result goes to its place: what was to be placed is to be placed still, or is in its place
  pub place_one : (offers : List (Offer J)) (made rest : List (Made D)) (one : Made D) (places : List (Option D)) (n : ℕ) → made ≡ rest ++ one ∷ []
      → IsMade result_of offers one → length places ≡ length offers
      → (0 < times n (numbers made)) ⊎ IsPlaced result_of offers places n
      → (0 < times n (numbers rest)) ⊎ IsPlaced result_of offers (set places one.number (Some one.done)) n
  place_one offers made rest one places n is its long before = by_number (ℕ_discrete n one.number) before
    where
      after : List (Option D)
      after = set places one.number (Some one.done)

      whole : times n (numbers made) ≡ times n (numbers rest) + one_if (nat_eq one.number n)
      whole = ap (λ ms. times n (numbers ms)) is ∙ ap (times n) (numbers_snoc rest one) ∙ total_snoc (λ (m : ℕ). one_if (nat_eq m n)) (numbers rest) one.number

      here : n ≡ one.number → IsPlaced result_of offers (set places one.number (Some one.done)) n
      here same job at =
          let there : IsAt offers one.number job = subst (λ (k : ℕ). IsAt offers k job) same at in
          let less : one.number < length places = let within = slice_get_within offers one.number (offered job) there in omega arith in
          ap (λ (k : ℕ). slice_get (set places one.number (Some one.done)) k) same ∙ got_set_same places one.number (Some one.done) less
          ∙ ap (λ d. Some (Some d)) (its.2 ∙ ap result_of (same_job offers one.number its.0 job its.1 there))

      by_number : Dec (n ≡ one.number) → (0 < times n (numbers made)) ⊎ IsPlaced result_of offers places n
          → (0 < times n (numbers rest)) ⊎ IsPlaced result_of offers (set places one.number (Some one.done)) n
      by_number (yes same) b = inr (here same)
      by_number (no other) (inl left) = inl (let none : one_if (nat_eq one.number n) ≡ 0 = ap one_if (ne_eqb one.number n (λ e. other (sym e))) in omega (arith, whole))
      by_number (no other) (inr placed) = inr (λ job at. got_set_other places one.number n (Some one.done) other ∙ placed job at)

  -- nothing is left to place
  pub all_placed : (offers : List (Offer J)) (made : List (Made D)) (places : List (Option D)) (n : ℕ) → length made ≡ 0
      → (0 < times n (numbers made)) ⊎ IsPlaced result_of offers places n → IsPlaced result_of offers places n
  all_placed offers [] places n none (inl left) = absurd (omega arith)
  all_placed offers (m ∷ made) places n none (inl left) = absurd (omega arith)
  all_placed offers made places n none (inr placed) = placed

  -- one more pass is back, and what it drew is in its place
  pub placed_more : (offers : List (Offer J)) (passes now : List PassState) (pass : PassState) (made : List (Made D)) (places later : List (Option D)) (n : ℕ)
      → now ≡ passes ++ pass ∷ [] → numbers made ≡ pass.drawn
      → (0 < total (λ p. times n p.drawn) passes → IsPlaced result_of offers places n)
      → (IsPlaced result_of offers places n → IsPlaced result_of offers later n)
      → (0 < times n (numbers made) → IsPlaced result_of offers later n)
      → 0 < total (λ p. times n p.drawn) now → IsPlaced result_of offers later n
  placed_more offers passes now pass made places later n is drew was kept new some = by_sum (ℕ_discrete (total (λ p. times n p.drawn) passes) 0)
    where
      whole : total (λ p. times n p.drawn) now ≡ total (λ p. times n p.drawn) passes + times n pass.drawn
      whole = ap (total (λ p. times n p.drawn)) is ∙ total_snoc (λ p. times n p.drawn) passes pass

      by_sum : Dec (total (λ p. times n p.drawn) passes ≡ 0) → IsPlaced result_of offers later n
      by_sum (yes none) = new (let same : times n (numbers made) ≡ times n pass.drawn = ap (times n) drew in omega (arith, whole, some))
      by_sum (no others) = kept (was (omega arith))
