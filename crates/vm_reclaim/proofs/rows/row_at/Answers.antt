use Rattle.std.proofs.Common.{◌≡◌, ◌∙◌, ℕ, ◌≤◌, IfSome, Option, Some, None, ap, refl, subst, sym, arith}
use Rattle.std.specs.Option.{option_map, option_map_or}
use Rattle.vm_guest.specs.declared.view.GuestView.{GuestView}
use Rattle.vm_guest.specs.Good.{IsGood}
use Rattle.vm_guest.specs.Record.{GuestRecord}
use Rattle.vm_guest.specs.View.{view_of}
use Rattle.vm_plan.specs.Row.{Row}
use Rattle.vm_pool.specs.Pool.{guest_at}
use Rattle.vm_reclaim.specs.Rows.{idle_row, row_at}
use Rattle.vm_reclaim.proofs.rows.row_at.Goals as goal
use Rattle.vm_reclaim.proofs.rows.row_at.Goals.{in-Some, in-None}

-- the row of what is shown
abbrev shown : GuestView → Row
shown v = record { shares = v.shares; active = v.active; min = v.min; cap = v.cap; target = v.target; held = v.held; used = v.used; demand = v.demand }

shown_is : (guest : Option GuestRecord) → option_map_or shown (option_map view_of guest) idle_row ≡ row_at guest
shown_is None = refl
shown_is (Some g) = refl

shown_held : (guest : Option GuestRecord) → IfSome guest IsGood → IfSome (option_map view_of guest) (λ v. v.target ≤ v.held)
shown_held None good = tt
shown_held (Some g) good = good.has_target

-- what is true of the numbers of a guest
record IsLimited (v : GuestView) : Type 0 where
  some_shares : 1 ≤ v.shares
  few_shares : v.shares ≤ 1000000
  some_min : 1 ≤ v.min
  above_min : v.min ≤ v.target
  within_cap : v.target ≤ v.cap
  few_pages : v.cap ≤ 262144

through : (a b c : ℕ) → a ≤ b → b ≤ c → a ≤ c
through a b c low high = omega arith

shown_limits : (guest : Option GuestRecord) → IfSome guest IsGood → IfSome (option_map view_of guest) IsLimited
shown_limits None good = tt
shown_limits (Some g) good =
    let a = good.sound.allotment in
    record {
      some_shares = a.some_shares;
      few_shares = a.few_shares;
      some_min = through 1 g.allotment.least_min g.allotment.min a.some a.least;
      above_min = a.target_from;
      within_cap = a.target_to;
      few_pages = through g.allotment.cap g.config.size 262144 a.cap good.sound.limits.few_pages;
    }

pub returns-clause-row : goal.returns-clause-row
returns-clause-row c =
    let guest = guest_at c.args.pool.now c.args.position in
    let seen = ap (λ (v : Option GuestView). option_map_or shown v idle_row) c.view.ensures.value ∙ shown_is guest in
    elim c.match-view.branch [
      | in-Some w ↦
          let e = w.result-is in
          (λ i. record { shares = (e i).0; active = (e i).1.0; min = (e i).1.1.0; cap = (e i).1.1.1.0; target = (e i).1.1.1.1.0; held = (e i).1.1.1.1.1.0; used = (e i).1.1.1.1.1.1.0; demand = (e i).1.1.1.1.1.1.1.0 })
          ∙ (ap (λ (v : Option GuestView). option_map_or shown v idle_row) (sym w.in-Some.is) ∙ seen)
      | in-None w ↦
          let e = w.result-is in
          (λ i. record { shares = (e i).0; active = (e i).1.0; min = (e i).1.1.0; cap = (e i).1.1.1.0; target = (e i).1.1.1.1.0; held = (e i).1.1.1.1.1.0; used = (e i).1.1.1.1.1.1.0; demand = (e i).1.1.1.1.1.1.1.0 })
          ∙ (ap (λ (v : Option GuestView). option_map_or shown v idle_row) (sym w.in-None.is) ∙ seen)
    ]

pub returns-clause-held : goal.returns-clause-held
returns-clause-held c =
    let guest = guest_at c.args.pool.now c.args.position in
    let held = subst (λ (v : Option GuestView). IfSome v (λ v. v.target ≤ v.held)) (sym c.view.ensures.value) (shown_held guest c.view.ensures.good) in
    elim c.match-view.branch [
      | in-Some w ↦
          rw w.result-is (subst (λ (v : Option GuestView). IfSome v (λ v. v.target ≤ v.held)) w.in-Some.is held)
      | in-None w ↦ rw w.result-is (omega arith)
    ]

pub returns-clause-good : goal.returns-clause-good
returns-clause-good c = c.view.ensures.good

pub invariant_of-result : goal.invariant_of-result
invariant_of-result c =
    let guest = guest_at c.args.pool.now c.args.position in
    let limits = subst (λ (v : Option GuestView). IfSome v IsLimited) (sym c.view.ensures.value) (shown_limits guest c.view.ensures.good) in
    elim c.match-view.branch [
      | in-Some w ↦
          let here = subst (λ (v : Option GuestView). IfSome v IsLimited) w.in-Some.is limits in
          let active = subst (λ (v : Option GuestView). IfSome v (λ v. v.active ≤ 65536)) w.in-Some.is c.view.ensures.active in
          rw w.result-is (record {
            some_shares = here.some_shares;
            few_shares = here.few_shares;
            part_active = active;
            some_min = here.some_min;
            above_min = here.above_min;
            within_cap = here.within_cap;
            few_pages = here.few_pages;
          })
      | in-None w ↦
          rw w.result-is (record {
            some_shares = omega arith;
            few_shares = omega arith;
            part_active = omega arith;
            some_min = omega arith;
            above_min = omega arith;
            within_cap = omega arith;
            few_pages = omega arith;
          })
    ]
