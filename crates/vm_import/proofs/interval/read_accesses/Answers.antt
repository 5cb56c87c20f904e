use Rattle.std.proofs.Common.{◌≡◌, ◌∙◌, ℕ, ◌+◌, ◌<◌, ◌≤◌, ◌==◌, inr, List, [], ◌∷◌, ◌++◌, None, Option, length, sym, subst, arith, length-append}
use Rattle.vm_import.specs.declared.access.Access.{Access}
use Rattle.vm_import.specs.Reading.{Gives, left, length_in_all}
use Rattle.vm_import.specs.Errors.{error_of}
use Rattle.vm_import.specs.Failing.{FailsBehind}
use Rattle.vm_import.specs.Progress.{IsUnderWay, limit_of}
use Rattle.vm_import.specs.Settings.{settings_of}
use Rattle.vm_import.proofs.ComposedLemmas.{Stays-then}
use Rattle.vm_import.proofs.LineLemmas.{kept_so}
use Rattle.vm_import.proofs.ReadLemmas.{err-same, fails, goes-on, grows-more, passed-on, passes-limit, positive, short-within, told, within}
use Rattle.vm_import.proofs.interval.read_accesses.Goals as goal

same_count : (count all : ℕ) → all ≤ count → count ≤ all → count ≡ all
same_count count all least most = omega arith

is_short : (accesses : List Access) (count all : ℕ) → length accesses ≡ count → count < all → length accesses < all
is_short accesses count all is below = omega arith

one_longer : (accesses : List Access) (access : Access) (count : ℕ) → length accesses ≡ count → length (accesses ++ access ∷ []) ≡ count + 1
one_longer accesses access count is = omega (arith, length-append accesses (access ∷ []))

pub returns-in_err-access-clause-failed : goal.returns-in_err-access-clause-failed
returns-in_err-access-clause-failed g c =
    passed-on c.from_residual.result (error_of c.in_err-access.field-0.0)
    (λ error. (before : List Access)
    → IsUnderWay (settings_of c.args.settings.now) before c.args.number [] c.args.progress.now.set c.args.progress.now.draft
    → FailsBehind (settings_of c.args.settings.now) before (left c.args.log.now (g.R.Source.remaining c.args.reader.now))
    (length_in_all c.args.log.now (g.R.Source.remaining c.args.reader.now)) (g.R.Source.has_failed c.next_access.new.source) error)
    (λ before way.
    let there = c.loop-count.invariant.goes before way in
    fails (settings_of c.args.settings.now) before c.args.number c.args.settings.now.interval_in_range.0
    (left c.args.log.now (g.R.Source.remaining c.args.reader.now)) (left c.loop-count.log (g.R.Source.remaining c.loop-count.reader))
    (left c.loop-count.log (g.R.Source.remaining c.loop-count.reader)) there.0 c.loop-count.progress.set c.loop-count.progress.draft there.2
    c.in_err-access.field-0.0 (length_in_all c.args.log.now (g.R.Source.remaining c.args.reader.now))
    (length_in_all c.loop-count.log (g.R.Source.remaining c.loop-count.reader)) (g.R.Source.has_failed c.next_access.new.source)
    c.loop-count.invariant.length
    (λ line fault is. c.in_err-access.ensures.fault line fault (err-same _ _ is))
    (λ is. c.in_err-access.ensures.failure (err-same _ _ is))
    (λ is. inr (c.in_err-access.ensures.long (err-same _ _ is))))
    c.from_residual.ensures.1

pub returns-in-Some-2-clause-ends : goal.returns-in-Some-2-clause-ends
returns-in-Some-2-clause-ends g c = λ before way.
    let there = c.loop-count.invariant.goes before way in
    let short = is_short there.0 c.loop-count.count c.args.settings.now.interval there.1 c.loop-count-test.true in
    passes-limit (settings_of c.args.settings.now) before c.args.number c.args.settings.now.interval_in_range.0
    (left c.args.log.now (g.R.Source.remaining c.args.reader.now)) (left c.loop-count.log (g.R.Source.remaining c.loop-count.reader))
    (left c.next_access.new.self (g.R.Source.remaining c.next_access.new.source)) there.0 c.loop-count.progress.set
    c.loop-count.progress.draft there.2 c.in-Some.access c.add.new.self.set c.add.new.self.draft
    (subst (λ (found : Option Access). Gives (left c.loop-count.log (g.R.Source.remaining c.loop-count.reader))
    (left c.next_access.new.self (g.R.Source.remaining c.next_access.new.source)) found) c.in-Some.is c.in_ok-access.ensures.gives)
    short c.in_ok-limit.ensures.set c.in_ok-limit.ensures.kept c.in_ok-limit.ensures.draft c.in-Some-2.limit c.add.new.self.set
    c.add.new.self.draft
    (sym (told (settings_of c.args.settings.now) c.args.number c.loop-count.progress.set c.add.new.self.set c.loop-count.progress.draft
    c.add.new.self.draft c.in_ok-limit.ensures.draft (c.loop-count.count == 0) c.in_ok-limit.field-0
    (λ later. c.loop-count.invariant.fits (positive c.loop-count.count later)) c.in_ok-limit.ensures.limit)
    ∙ c.in-Some-2.is)

pub returns-in-Some-2-clause-grows : goal.returns-in-Some-2-clause-grows
returns-in-Some-2-clause-grows g c =
    grows-more (settings_of c.args.settings.now) c.args.number c.loop-count.progress.set c.add.new.self.set c.loop-count.progress.draft
    c.add.new.self.draft c.in_ok-limit.ensures.draft c.args.progress.now.draft c.in_ok-limit.ensures.kept c.loop-count.invariant.grows

pub loop-count-preserved : goal.loop-count-preserved
loop-count-preserved g c =
    let none : limit_of (settings_of c.args.settings.now) (length c.add.new.self.set.pages) c.add.new.self.draft ≡ None =
    sym (told (settings_of c.args.settings.now) c.args.number c.loop-count.progress.set c.add.new.self.set c.loop-count.progress.draft
    c.add.new.self.draft c.in_ok-limit.ensures.draft (c.loop-count.count == 0) c.in_ok-limit.field-0
    (λ later. c.loop-count.invariant.fits (positive c.loop-count.count later)) c.in_ok-limit.ensures.limit)
    ∙ c.in-None.is in
    let small = within (settings_of c.args.settings.now) (length c.add.new.self.set.pages) c.add.new.self.draft
    c.args.settings.now.quantum_in_range.0 none in
    record {
      goes = λ before way.
          let there = c.loop-count.invariant.goes before way in
          let short = is_short there.0 c.loop-count.count c.args.settings.now.interval there.1 c.loop-count-test.true in (
            there.0 ++ c.in-Some.access ∷ [],
            one_longer there.0 c.in-Some.access c.loop-count.count there.1,
            goes-on (settings_of c.args.settings.now) before c.args.number c.args.settings.now.interval_in_range.0
                (left c.args.log.now (g.R.Source.remaining c.args.reader.now)) (left c.loop-count.log (g.R.Source.remaining c.loop-count.reader))
                (left c.next_access.new.self (g.R.Source.remaining c.next_access.new.source)) there.0 c.loop-count.progress.set
                c.loop-count.progress.draft there.2 c.in-Some.access c.add.new.self.set c.add.new.self.draft
                (subst (λ (found : Option Access). Gives (left c.loop-count.log (g.R.Source.remaining c.loop-count.reader))
                (left c.next_access.new.self (g.R.Source.remaining c.next_access.new.source)) found) c.in-Some.is c.in_ok-access.ensures.gives)
                short c.in_ok-limit.ensures.set c.in_ok-limit.ensures.kept c.in_ok-limit.ensures.draft none,
          );
      fits = λ some. none;
      pages = let more = c.in_ok-limit.ensures.pages in omega arith;
      few = small.pages_few;
      short = short-within (settings_of c.args.settings.now) (length c.add.new.self.set.pages) c.loop-count.progress.draft
          c.add.new.self.draft _ c.args.settings.now.steps_in_range.1 small c.in_ok-limit.ensures.draft c.loop-count.invariant.short;
      grows =
          grows-more (settings_of c.args.settings.now) c.args.number c.loop-count.progress.set c.add.new.self.set
          c.loop-count.progress.draft c.add.new.self.draft c.in_ok-limit.ensures.draft c.args.progress.now.draft
          c.in_ok-limit.ensures.kept c.loop-count.invariant.grows;
      length = Stays-then _ _ _ c.loop-count.invariant.length c.in_ok-access.ensures.length;
      stays =
          kept_so (g.R.Source.has_failed c.next_access.new.source ≡ g.R.Source.has_failed c.loop-count.reader) _ c.in_ok-access.ensures.stays
          ∙ c.loop-count.invariant.stays;
    }

pub returns-clause-ends : goal.returns-clause-ends
returns-clause-ends g c = λ before way.
    let there = c.loop-count.invariant.goes before way in
    let all = same_count c.loop-count.count c.args.settings.now.interval c.loop-count-test.false c.loop-count.auto.count-end in
    (there.0, there.1 ∙ all, there.2)
