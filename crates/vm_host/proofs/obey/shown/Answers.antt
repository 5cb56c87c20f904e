use Rattle.std.proofs.Common.{◌≡◌, ◌∙◌, ℕ, ◌-◌, ◌*◌, Option, Some, None, ap, refl, sym}
use Rattle.std.specs.Option.{option_map}
use Rattle.vm_balloon.specs.declared.stats.Stats.{Stats}
use Rattle.vm_guest.specs.Record.{GuestRecord}
use Rattle.vm_guest.specs.View.{view_of}
use Rattle.vm_guest.specs.declared.view.GuestView.{GuestView}
use Rattle.vm_pool.specs.Pool.{guest_at}
use Rattle.vm_host.specs.Commands.{shown}
use Rattle.vm_host.specs.declared.boundary.Outcome.TheVariants.{Done, Shown}
use Rattle.vm_host.proofs.obey.shown.Goals as goal

-- a guest that runs, from its view and what its driver told
shown-of : (page : ℕ) (guest : Option GuestRecord) (view : GuestView) (stats : Stats) (actual rss : ℕ) → Some view ≡ option_map view_of guest → Some stats ≡ option_map (λ (g : GuestRecord). g.device.stats) guest
    → actual ≡ (view.size - view.actual) * page → rss ≡ view.held * page → Shown (record { actual = actual; rss = rss; stats = stats }) ≡ shown page guest
shown-of page None view stats actual rss is told left holds = absurd cc
shown-of page (Some g) view stats actual rss is told left holds =
    let here : view ≡ view_of g = cc in
    let same : stats ≡ g.device.stats = cc in
    λ i. Shown (record { actual = (left ∙ ap (λ (v : GuestView). (v.size - v.actual) * page) here) i; rss = (holds ∙ ap (λ (v : GuestView). v.held * page) here) i; stats = same i })

-- nothing is shown where no guest runs
shown-none : {A : Type 0} (page : ℕ) (f : GuestRecord → A) (guest : Option GuestRecord) → None ≡ option_map f guest → Done ≡ shown page guest
shown-none page f None is = refl
shown-none page f (Some g) is = absurd cc

pub returns-in_default : goal.returns-in_default
returns-in_default c = shown-none c.args.page view_of (guest_at c.args.pool.now c.args.position) (sym c.in_default.is ∙ c.view.ensures.value)

pub returns-in_default-stats : goal.returns-in_default-stats
returns-in_default-stats c =
    shown-none c.args.page (λ (g : GuestRecord). g.device.stats) (guest_at c.args.pool.now c.args.position) (sym c.in_default-stats.is ∙ c.stats.ensures)

pub returns : goal.returns
returns c =
    shown-of c.args.page (guest_at c.args.pool.now c.args.position) c.in-Some.view c.in-Some-stats.stats c.kib_of.result c.kib_of-2.result
    c.in-Some.ensures.value c.in-Some-stats.ensures (c.kib_of.ensures ∙ ap (λ (n : ℕ). n * c.args.page) c.saturating_sub.ensures) c.kib_of-2.ensures
