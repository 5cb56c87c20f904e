-- The report up to an epoch is a front of the whole report.
use Rattle.std.proofs.Common.{◌≡◌, ℕ, zero, suc, ◌+◌, ◌-◌, ◌<◌, List, [], ◌++◌, ap, ◌∙◌, sym, arith, append_assoc, add-zero, add-suc, subst, Option, Result, Ok, Err, OnErr}
use Rattle.std.proofs.lemmas.List.{append-nil}
use Rattle.std.specs.Io.KnownBytes.{Appends}
use Rattle.vm_streams.specs.Streams.{AppendsFront}
use Rattle.vm_streams.proofs.StreamLemmas.{Appends-then, Appends-then_front, AppendsFront-longer, AppendsFront-none}
use Rattle.vm_runs.specs.Course.{Run, host_after}
use Rattle.vm_sim.specs.Report.{end_text, report_in, report_at, report_of_epochs}

-- more epochs make the report longer
first_splits : (course : Run) (k d : ℕ) → (more : List ℕ) × (report_of_epochs course (k + d) ≡ report_of_epochs course k ++ more)
first_splits course k zero = ([], rw add-zero (sym (append-nil (report_of_epochs course k))))
first_splits course k (suc d) =
    let p = first_splits course k d in
    let text = report_at course (k + d) in (
      p.0 ++ text,
      rw (add-suc k d) (ap (λ (l : List ℕ). l ++ text) p.1 ∙ append_assoc (report_of_epochs course k) p.0 text),
    )

pub report_at_epoch : (course : Run) (k : ℕ) → k < course.epochs
    → (more : List ℕ) × (report_in course ≡ report_of_epochs course k ++ (report_at course k ++ more))
report_at_epoch course k h =
    let left = course.epochs - (k + 1) in
    let whole : course.epochs ≡ suc k + left = omega arith in
    let p = first_splits course (suc k) left in
    let last = end_text (host_after course course.epochs) in (
      p.0 ++ last,
      ap (λ (n : ℕ). report_of_epochs course n ++ last) whole ∙ ap (λ (l : List ℕ). l ++ last) p.1
          ∙ simp append_assoc,
    )

-- what an error says, whichever it is
on_err : {T E P : Type 0} (r : Result T E) → P → OnErr r P
on_err (Ok x) p = tt
on_err (Err e) p = p

-- nothing was told yet
pub cut_at_start : {T E : Type 0} (r : Result T E) (x : Option (List ℕ)) (text : List ℕ) → OnErr r (AppendsFront x x text)
cut_at_start r x text = on_err r (AppendsFront-none x text)

-- the epochs so far were told, and a front of the next one
pub cut_in_epoch : {T E : Type 0} (r : Result T E) (x y z : Option (List ℕ)) (course : Run) (k : ℕ)
    → k < course.epochs → Appends x y (report_of_epochs course k) → AppendsFront y z (report_at course k) → OnErr r (AppendsFront x z (report_in course))
cut_in_epoch r x y z course k h done front =
    let p = report_at_epoch course k h in
    on_err r (rw p.1 (Appends-then_front x y z _ _ done (AppendsFront-longer y z _ p.0 front)))

-- all epochs were told, and a front of the end
pub cut_at_end : {T E : Type 0} (r : Result T E) (x y z : Option (List ℕ)) (course : Run) (k : ℕ)
    → k ≡ course.epochs → Appends x y (report_of_epochs course k) → AppendsFront y z (end_text (host_after course k)) → OnErr r (AppendsFront x z (report_in course))
cut_at_end r x y z course k e done front =
    on_err r (subst (λ (n : ℕ). AppendsFront x z (report_of_epochs course n ++ end_text (host_after course n))) e (Appends-then_front x y z _ _ done front))

-- all epochs were told, and the end
pub told_all : (x y z : Option (List ℕ)) (course : Run) (k : ℕ) → k ≡ course.epochs
    → Appends x y (report_of_epochs course k) → Appends y z (end_text (host_after course k)) → Appends x z (report_in course)
told_all x y z course k e done last =
    subst (λ (n : ℕ). Appends x z (report_of_epochs course n ++ end_text (host_after course n))) e (Appends-then x y z _ _ done last)

-- a front of the first of two texts was written
pub err_in_first : {T E : Type 0} (r : Result T E) (x y : Option (List ℕ)) (a b : List ℕ) → AppendsFront x y a → OnErr r (AppendsFront x y (a ++ b))
err_in_first r x y a b front = on_err r (AppendsFront-longer x y a b front)

-- the first of two texts was written, and a front of the second
pub err_in_second : {T E : Type 0} (r : Result T E) (x y z : Option (List ℕ)) (a b : List ℕ)
    → Appends x y a → AppendsFront y z b → OnErr r (AppendsFront x z (a ++ b))
err_in_second r x y z a b done front = on_err r (Appends-then_front x y z a b done front)
