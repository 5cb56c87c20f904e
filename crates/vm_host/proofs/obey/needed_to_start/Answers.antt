use Rattle.std.proofs.Common.{◌≡◌, ◌∙◌, ℕ, Fits, w32, ◌+◌, ◌≤◌, Option, Some, None, ap, arith, slice_get}
use Rattle.vm_guest.specs.Record.{GuestRecord}
use Rattle.vm_pool.specs.Changes.{frames_to_start}
use Rattle.vm_pool.specs.Pool.{PoolView, guest_at, stopped_config, unless_runs}
use Rattle.vm_host.proofs.obey.needed_to_start.Goals as goal

-- where no guest runs, the configuration is that of the position
here : (pool : PoolView) (position : ℕ) → guest_at pool position ≡ None → stopped_config pool position ≡ slice_get pool.configs position
here pool position stopped = ap (λ (o : Option GuestRecord). unless_runs o (slice_get pool.configs position)) stopped

pub returns-in-Some : goal.returns-in-Some
returns-in-Some c =
    let pool = c.args.pool.now in
    (λ i. frames_to_start (c.overhead.ensures i) (Some (c.spec.view_is i)))
    ∙ ap (frames_to_start pool.overhead) (c.in-Some.ensures ∙ here pool c.args.position c.requires.stopped)

pub returns-in-None : goal.returns-in-None
returns-in-None c =
    let pool = c.args.pool.now in
    ap (frames_to_start pool.overhead) (c.in-None.ensures ∙ here pool c.args.position c.requires.stopped)

needed-fits : (min size told overhead : ℕ) → min ≤ size → size ≤ 262144 → told ≡ overhead → overhead ≤ 1024 → Fits w32 (min + told)
needed-fits min size told overhead within few same low = omega arith

pub overflow_add-result : goal.overflow_add-result
overflow_add-result c =
    needed-fits c.spec.inside.min c.spec.inside.size c.overhead.result c.args.pool.now.overhead c.spec.invariant.min_within c.spec.invariant.few_pages c.overhead.ensures c.requires.overhead
