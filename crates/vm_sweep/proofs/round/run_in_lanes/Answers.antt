use Rattle.std.proofs.Common.{◌≡◌, ℕ, rules, arith, ap, sym, subst, ◌∙◌, length}
use Rattle.std.specs.Prelude.{IsSome}
use Rattle.std.specs.List.{All}
use Rattle.std.proofs.lemmas.List.{length-map}
use Rattle.std.proofs.lemmas.List.Elements.{All-map}
use Rattle.std.proofs.lemmas.Option.{slice_get_within}
use Rattle.vm_sweep.specs.declared.offer.Offer.{Offer}
use Rattle.vm_sweep.specs.Offers.{offered, jobs_of, IsAt}
use Rattle.vm_sweep.specs.Lanes.{ServesAll, IsRoomFor}
use Rattle.vm_sweep.proofs.LaneLists.{values_each}
use Rattle.vm_sweep.proofs.LaneLemmas.{jobs_offered, at_offered, serve_offers, serve_jobs}
use Rattle.vm_sweep.proofs.round.run_in_lanes.Goals as goal

pub new-requires-2-clause-ready : goal.new-requires-2-clause-ready
new-requires-2-clause-ready g c =
    let Ready : Offer g.row.J.Denot → Type 0 = λ o. IsSome o.job in
    subst (All Ready) (sym (c.from-2.ensures ∙ c.put_up.ensures.offers)) (All-map Ready offered c.args.jobs.items (λ k d less. search rules))

pub run_board-places-requires-clause-tools : goal.run_board-places-requires-clause-tools
run_board-places-requires-clause-tools g c κs within =
    let put = c.in-Ok-new.ensures.board.0 ∙ c.from-2.ensures ∙ c.put_up.ensures.offers in
    let seats = c.in-Ok-new.ensures.passes.0 in
    let least = c.min-seats.ensures in
    let tools = c.len-2.ensures in (
      omega arith,
      subst (λ offers. All (ServesAll g.J.Task.serves offers) c.args.tools.now.items) (sym put) (serve_offers g.J.Task.serves c.args.jobs.items c.args.tools.now.items c.requires.serves),
    )

pub run_board-places-requires-clause-rooms : goal.run_board-places-requires-clause-rooms
run_board-places-requires-clause-rooms g c κs within =
    let put = c.in-Ok-new.ensures.board.0 ∙ c.from-2.ensures ∙ c.put_up.ensures.offers in
    let long : length c.in-Ok-new.board.jobs ≡ length c.args.jobs.items = ap length put ∙ length-map c.args.jobs.items offered in
    let ok = c.args.jobs.ok in
    let count = c.len-3.ensures in
    let same : c.len-3.result ≡ length c.in-Ok-new.board.jobs = omega arith in
    let seats = c.in-Ok-new.ensures.passes.0 in
    let rooms = c.in-Ok.ensures.rooms in (
      (let many = rooms.0 in omega arith),
      subst (λ (n : ℕ). All (IsRoomFor n) c.in-Ok.space.rooms.items) same rooms.1,
    )

pub returns-in-Ok-new-clause-ok : goal.returns-in-Ok-new-clause-ok
returns-in-Ok-new-clause-ok g c =
    let jobs = c.args.jobs.items in
    let board = c.in-Ok-new.board in
    let places = c.run_board-places.result in
    let put = c.in-Ok-new.ensures.board.0 ∙ c.from-2.ensures ∙ c.put_up.ensures.offers in
    let ok = c.args.jobs.ok in
    let places_ok = places.ok in
    let count = c.len-3.ensures in
    let empty = c.in-Ok.ensures.places in
    let all = c.run_board-places.ensures.all in
    c.collect.ensures ∙ values_each g.J.Task.result_of jobs places.items (omega arith)
    (λ n job at.
    let there : IsAt board.jobs n job = subst (λ offers. IsAt offers n job) (sym put) (at_offered jobs n job at) in
    c.run_board-places.ensures.placed n (slice_get_within board.jobs n (offered job) there) job there)

pub returns-in-Ok-new-clause-serves : goal.returns-in-Ok-new-clause-serves
returns-in-Ok-new-clause-serves g c =
    let put = c.in-Ok-new.ensures.board.0 ∙ c.from-2.ensures ∙ c.put_up.ensures.offers in
    let tools = c.run_board-places.new.tools.items in
    serve_jobs g.J.Task.serves c.args.jobs.items tools (subst (λ offers. All (ServesAll g.J.Task.serves offers) tools) put c.run_board-places.ensures.serves)

pub returns-in-Err-clause-err : goal.returns-in-Err-clause-err
returns-in-Err-clause-err g c =
    c.from-in-Err.ensures ∙ c.take_down.ensures ∙ ap jobs_of (c.into_vec.ensures ∙ c.in-Err.ensures.err ∙ c.from-2.ensures ∙ c.put_up.ensures.offers) ∙ jobs_offered c.args.jobs.items
