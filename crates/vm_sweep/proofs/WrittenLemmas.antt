-- Rows that are written one after another.
use Rattle.std.proofs.Common.{◌≡◌, ◌∙◌, ℕ, List, [], ◌∷◌, ◌++◌, Option, Some, None, Result, Ok, Err, IfErr, OnOk, ap, sym, subst, append_assoc, refl}
use Rattle.std.proofs.lemmas.List.{append-nil}
use Rattle.std.proofs.lemmas.List.Folds.{concat-append}
use Rattle.std.specs.List.{concat}
use Rattle.std.specs.Io.KnownBytes.{Appends}
use Rattle.vm_sim.specs.declared.run_error.RunError.{RunError}
use Rattle.vm_sim.specs.declared.run_error.RunError.TheVariants.{Config, Read, Write, Memory, Workers}
use Rattle.vm_streams.specs.Streams.{AppendsFront}
use Rattle.vm_streams.proofs.StreamLemmas.{Appends-then, Appends-then_front, AppendsFront-longer}
use Rattle.vm_config.specs.declared.config.Config.{Config as Configuration}
use Rattle.vm_sweep.specs.Combinations.{numbers_of}
use Rattle.vm_sweep.specs.Outcomes.{Tells, rebalancing_in}
use Rattle.vm_sweep.specs.Table.{record_for}
use Rattle.vm_sweep.specs.Written.{FailsWithin, HasTold, WritesFirst}
use Rattle.vm_sweep.specs.declared.outcome.Detail.{Detail}
use Rattle.vm_sweep.specs.declared.outcome.Detail.TheVariants.{Run, EachGuest}
use Rattle.vm_sweep.specs.declared.outcome.Outcome.TheVariants.{InNumbers}
use Rattle.vm_sweep.specs.declared.variant.Variant.{Variant}
use Rattle.vm_tally.specs.Table.{record_text}
use Rattle.vm_tally.specs.declared.summary.Summary.{Summary}

-- the record of a run that is told in numbers
pub told-numbers : (detail : Detail) (v : Variant) (config : Configuration) (summary : Summary) → Tells detail v config (InNumbers summary)
    → record_text (rebalancing_in detail) v.combination (numbers_of v) summary ≡ record_for detail v config
told-numbers (Run from) v config summary is = ap (λ (s : Summary). record_text from v.combination (numbers_of v) s) is
told-numbers (EachGuest from) v config summary is = absurd is

appends-none : (x : Option (List ℕ)) → Appends x x []
appends-none None = tt
appends-none (Some xs) = sym (append-nil xs)

-- before the first row
pub told-none : (x : Option (List ℕ)) (rows : List (List ℕ)) → HasTold x x rows rows
told-none x rows = record { told = []; whole = refl; written = appends-none x }

pub told-all : (x y : Option (List ℕ)) (rows : List (List ℕ)) → HasTold x y rows [] → Appends x y (concat rows)
told-all x y rows far =
    subst (λ (all : List (List ℕ)). Appends x y (concat all)) (sym (append-nil far.told) ∙ far.whole) far.written

module _ (x y z : Option (List ℕ)) (rows more left : List (List ℕ)) (far : HasTold x y rows (more ++ left)) where
  -- more rows go out
  pub told-more : Appends y z (concat more) → HasTold x z rows left
  told-more now = record {
    told = far.told ++ more;
    whole = append_assoc far.told more left ∙ far.whole;
    written = rw (concat-append far.told more) (Appends-then x y z _ _ far.written now);
  }

  all-rows : (concat far.told ++ concat more) ++ concat left ≡ concat rows
  all-rows =
      append_assoc (concat far.told) (concat more) (concat left)
      ∙ ap (λ (text : List ℕ). concat far.told ++ text) (sym (concat-append more left))
      ∙ sym (concat-append far.told (more ++ left)) ∙ ap concat far.whole

  some-rows : WritesFirst y z more → WritesFirst x z rows
  some-rows (rest, now) = (
    rest ++ left,
    record {
      told = far.told ++ now.told;
      whole = append_assoc far.told now.told (rest ++ left)
          ∙ ap (λ (all : List (List ℕ)). far.told ++ all) (sym (append_assoc now.told rest left) ∙ ap (λ (all : List (List ℕ)). all ++ left) now.whole)
          ∙ far.whole;
      written = rw (concat-append far.told now.told) (Appends-then x y z _ _ far.written now.written);
    },
  )

  -- they do not
  pub fails-more : (e : RunError) → FailsWithin y z more e → FailsWithin x z rows e
  fails-more Workers fails = fails
  fails-more Read fails = fails
  fails-more (Config fault) fails = fails
  fails-more Write fails =
      subst (AppendsFront x z) all-rows
      (AppendsFront-longer x z _ (concat left) (Appends-then_front x y z _ _ far.written fails))
  fails-more Memory fails = some-rows fails

  -- the same of the answer of a call
  pub fails-in : {T : Type 0} (result : Result T RunError) → IfErr result (FailsWithin y z more) → IfErr result (FailsWithin x z rows)
  fails-in (Ok value) fails = tt
  fails-in (Err e) fails = fails-more e fails

-- one row goes out
pub told-one : (x y z : Option (List ℕ)) (rows : List (List ℕ)) (row : List ℕ) (left : List (List ℕ)) → HasTold x y rows (row ∷ left)
    → Appends y z row → HasTold x z rows left
told-one x y z rows row left far now = told-more x y z rows (row ∷ []) left far (rw (append-nil row) now)

-- memory is refused before the next row
pub memory-here : {T : Type 0} (result : Result T RunError) → IfErr result (λ e. e ≡ Memory)
    → (x y : Option (List ℕ)) (rows left : List (List ℕ)) → HasTold x y rows left → IfErr result (FailsWithin x y rows)
memory-here (Ok value) is x y rows left far = tt
memory-here (Err e) is x y rows left far = subst (FailsWithin x y rows) (sym is) (left, far)

-- the first row is not written
pub first-fails : {T : Type 0} (result : Result T RunError) → IfErr result (λ e. e ≡ Write)
    → (x y : Option (List ℕ)) (row : List ℕ) (left : List (List ℕ)) → AppendsFront x y row → IfErr result (FailsWithin x y (row ∷ left))
first-fails (Ok value) is x y row left front = tt
first-fails (Err e) is x y row left front =
    subst (FailsWithin x y (row ∷ left)) (sym is) (AppendsFront-longer x y row (concat left) front)

module _ {T : Type 0} (result : Result T RunError) (x y z : Option (List ℕ)) (rows left rest : List (List ℕ)) (same : rest ≡ left) (far : HasTold x y rows left) where
  far-all : HasTold x y rows (rest ++ [])
  far-all = subst (HasTold x y rows) (sym same ∙ sym (append-nil rest)) far

  -- the last rows go out
  pub rest-told : OnOk result (Appends y z (concat rest)) → OnOk result (Appends x z (concat rows))
  rest-told = go result
    where
      go : (r : Result T RunError) → OnOk r (Appends y z (concat rest)) → OnOk r (Appends x z (concat rows))
      go (Ok value) now = told-all x z rows (told-more x y z rows rest [] far-all now)
      go (Err e) now = tt

  -- or not
  pub rest-fails : IfErr result (FailsWithin y z rest) → IfErr result (FailsWithin x z rows)
  rest-fails fails = fails-in x y z rows rest [] far-all result fails
