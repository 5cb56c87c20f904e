use Rattle.std.proofs.Common.{◌≡◌, ◌↔◌, ◌+◌, ◌-◌, ℕ, Ok, Err, IsErrOf, refl, ap, subst, ◌∙◌, arith}
use Rattle.std.proofs.lemmas.Result.{err_from_is_err_and}
use Rattle.vm_admission.specs.declared.error.AdmissionError.TheVariants.{NoMemory, NoSwap}
use Rattle.vm_admission.specs.Accounts.{Accounts, with_minimum, FitsFrames, FitsSwap, ExceedsFrames, ExceedsSwap}
use Rattle.vm_admission.proofs.AccountLemmas.{fits, exceeds, cause, swap_lacks, fits_both}
use Rattle.vm_admission.proofs.books.Books.change_min.Goals as goal

-- the accounts with another minimum, whose sums go by other names
changed : (a : Accounts) (old new more memory reserved : ℕ) → memory ≡ a.memory - old + new → reserved ≡ a.reserved + more
    → record a { memory = memory; reserved = reserved } ≡ with_minimum a old new more
changed a old new more memory reserved m r = λ i. record a { memory = m i; reserved = r i }

-- ---- the frames are there, and the swap isn't

pub returns-in_err-reserved-clause-no_memory : goal.returns-in_err-reserved-clause-no_memory
returns-in_err-reserved-clause-no_memory c =
    let i = c.self.inside in
    let after = λ (b : Accounts). with_minimum b c.args.old c.args.new c.args.more_reserve in
    let a : Accounts = record {
      frames = i.frames;
      swap = i.swap;
      overhead = i.overhead;
      guests = i.guests;
      memory = i.memory;
      reserved = i.reserved;
    } in
    let memory = fits c.within.result _ _ _ c.within.ensures c.in_ok-memory.ensures.ok_part in
    let reserved = exceeds c.within-2.result _ _ c.within-2.ensures c.in_err-reserved.ensures.ok_part in
    let frames : FitsFrames (after a) = omega (arith, memory.0) in
    let swap : ExceedsSwap (after a) = omega (arith, reserved) in
    let given = err_from_is_err_and c.from_residual-in_err-reserved.result c.from_residual-in_err-reserved.ensures.1 in
    let said = cause c.within-2.result _ NoSwap c.in_err-reserved.ensures.value c.in_err-reserved.ensures.ok_part in
    let failed = given.1 ∙ ap (λ e. Err e) (given.2 ∙ said) in
    subst (λ (b : Accounts). IsErrOf c.from_residual-in_err-reserved.result NoMemory ↔ ExceedsFrames (after b)) c.self.view_is
    (swap_lacks c.from_residual-in_err-reserved.result (after a) failed frames swap).0

pub returns-in_err-reserved-clause-no_swap : goal.returns-in_err-reserved-clause-no_swap
returns-in_err-reserved-clause-no_swap c =
    let i = c.self.inside in
    let after = λ (b : Accounts). with_minimum b c.args.old c.args.new c.args.more_reserve in
    let a : Accounts = record {
      frames = i.frames;
      swap = i.swap;
      overhead = i.overhead;
      guests = i.guests;
      memory = i.memory;
      reserved = i.reserved;
    } in
    let memory = fits c.within.result _ _ _ c.within.ensures c.in_ok-memory.ensures.ok_part in
    let reserved = exceeds c.within-2.result _ _ c.within-2.ensures c.in_err-reserved.ensures.ok_part in
    let frames : FitsFrames (after a) = omega (arith, memory.0) in
    let swap : ExceedsSwap (after a) = omega (arith, reserved) in
    let given = err_from_is_err_and c.from_residual-in_err-reserved.result c.from_residual-in_err-reserved.ensures.1 in
    let said = cause c.within-2.result _ NoSwap c.in_err-reserved.ensures.value c.in_err-reserved.ensures.ok_part in
    let failed = given.1 ∙ ap (λ e. Err e) (given.2 ∙ said) in
    subst (λ (b : Accounts). IsErrOf c.from_residual-in_err-reserved.result NoSwap ↔ (FitsFrames (after b) × ExceedsSwap (after b))) c.self.view_is
    (swap_lacks c.from_residual-in_err-reserved.result (after a) failed frames swap).1

-- ---- both are there

pub returns-clause-changed : goal.returns-clause-changed
returns-clause-changed c =
    let i = c.self.inside in
    let after = λ (b : Accounts). with_minimum b c.args.old c.args.new c.args.more_reserve in
    let a : Accounts = record {
      frames = i.frames;
      swap = i.swap;
      overhead = i.overhead;
      guests = i.guests;
      memory = i.memory;
      reserved = i.reserved;
    } in
    let memory = fits c.within.result _ _ _ c.within.ensures c.in_ok-memory.ensures.ok_part in
    let reserved = fits c.within-2.result _ _ _ c.within-2.ensures c.in_ok-reserved.ensures.ok_part in
    changed a c.args.old c.args.new c.args.more_reserve c.in_ok-memory.memory c.in_ok-reserved.reserved (omega (arith, memory.1)) (omega (arith, reserved.1))
    ∙ ap after c.self.view_is

pub returns-clause-ok : goal.returns-clause-ok
returns-clause-ok c =
    let i = c.self.inside in
    let after = λ (b : Accounts). with_minimum b c.args.old c.args.new c.args.more_reserve in
    let a : Accounts = record {
      frames = i.frames;
      swap = i.swap;
      overhead = i.overhead;
      guests = i.guests;
      memory = i.memory;
      reserved = i.reserved;
    } in
    let memory = fits c.within.result _ _ _ c.within.ensures c.in_ok-memory.ensures.ok_part in
    let reserved = fits c.within-2.result _ _ _ c.within-2.ensures c.in_ok-reserved.ensures.ok_part in
    let frames : FitsFrames (after a) = omega (arith, memory.0) in
    let swap : FitsSwap (after a) = omega (arith, reserved.0) in
    (λ _. subst (λ (b : Accounts). FitsFrames (after b) × FitsSwap (after b)) c.self.view_is (frames, swap), λ _. refl)

pub returns-clause-no_memory : goal.returns-clause-no_memory
returns-clause-no_memory c =
    let i = c.self.inside in
    let after = λ (b : Accounts). with_minimum b c.args.old c.args.new c.args.more_reserve in
    let a : Accounts = record {
      frames = i.frames;
      swap = i.swap;
      overhead = i.overhead;
      guests = i.guests;
      memory = i.memory;
      reserved = i.reserved;
    } in
    let memory = fits c.within.result _ _ _ c.within.ensures c.in_ok-memory.ensures.ok_part in
    let reserved = fits c.within-2.result _ _ _ c.within-2.ensures c.in_ok-reserved.ensures.ok_part in
    let frames : FitsFrames (after a) = omega (arith, memory.0) in
    let swap : FitsSwap (after a) = omega (arith, reserved.0) in
    subst (λ (b : Accounts). IsErrOf (Ok tt) NoMemory ↔ ExceedsFrames (after b)) c.self.view_is
    (fits_both tt (after a) frames swap)
