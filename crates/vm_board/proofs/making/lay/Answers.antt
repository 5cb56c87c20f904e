use Rattle.std.specs.List.{All}
use Rattle.std.proofs.lemmas.List.{length-map}
use Rattle.std.proofs.lemmas.Result.{IfOk-from_err, MatchResult-from_err}
use Rattle.std.proofs.Common.{subst, rules, refl, arith, ap, sym, ◌∙◌, ◌≡◌, length, replicate, map, Some}
use Rattle.vm_board.specs.Values.{values}
use Rattle.vm_board.proofs.Slots.{values-map}
use Rattle.vm_board.proofs.Tickets.{opens}
use Rattle.vm_board.proofs.making.lay.Goals as goal

pub new-requires : goal.new-requires
new-requires g c = let plan = c.args.plan.now in let same = c.requires.plan.0 in let few = c.requires.few in let seats = c.requires.plan.2 in let long : length plan.jobs.value.items ≡ length c.args.jobs.now.items = ap length same in let count = c.len.ensures in let ok = c.args.jobs.now.ok in
    opens g.J.Work.ready g.J.Work.pieces g.J.Work.piece plan.jobs.value.items plan.seats _ _ c.requires.plan.1 (omega arith) (subst (All g.J.Work.ready) (sym same) c.requires.ready)
    (c.as_slice.ensures.value ∙ c.in_ok-words.ensures.items_if_clones_equal (search rules) ∙ ap (λ n. replicate n 0) (omega arith)) (c.pack.ensures.slots ∙ ap (map Some) (sym same))

pub returns-clause-err : goal.returns-clause-err
returns-clause-err g c = c.unpack.ensures.items ∙ ap values (c.in-Err.ensures.err ∙ c.pack.ensures.slots) ∙ values-map c.args.jobs.now.items

pub pack-requires : goal.pack-requires
pack-requires g c = let count = c.len-2.ensures in let room = c.in_ok-slots.ensures.capacity in (c.in_ok-slots.ensures.items, omega arith)

pub unpack-requires : goal.unpack-requires
unpack-requires g c = let back = ap length (c.in-Err.ensures.err ∙ c.pack.ensures.slots) ∙ length-map c.args.jobs.now.items (λ j. Some j) in
    let long = c.in-Err.refused.slots.ok in let ok = c.args.jobs.now.ok in let room = c.pack.ensures.jobs.1 in let fits = c.args.jobs.now.small in (c.pack.ensures.jobs.0, omega arith)

pub returns-in-Ok : goal.returns-in-Ok
returns-in-Ok g c = let made = c.in-Ok.ensures.ok in let sliced = c.as_slice.ensures.len in let words = c.in_ok-words.ensures.len in let count = c.len.ensures in let ok = c.args.jobs.now.ok in let room = c.pack.ensures.jobs.1 in record {
  table = (made.0 ∙ omega arith, made.1 ∙ ap length c.pack.ensures.slots ∙ length-map c.args.jobs.now.items (λ j. Some j), made.5);
  seat = (made.2, made.4);
  moved = c.pack.ensures.jobs.0;
  err = tt;
  room = omega arith;
}

pub returns-in_err-words : goal.returns-in_err-words
returns-in_err-words g c = let failed = c.from_residual.ensures.0 in record {
  table = IfOk-from_err _ _ failed;
  seat = IfOk-from_err _ _ failed;
  moved = IfOk-from_err _ _ failed;
  err = MatchResult-from_err _ _ _ failed (λ _. refl);
  room = omega arith;
}

pub returns-in_err-slots : goal.returns-in_err-slots
returns-in_err-slots g c = let failed = c.from_residual-in_err-slots.ensures.0 in record {
  table = IfOk-from_err _ _ failed;
  seat = IfOk-from_err _ _ failed;
  moved = IfOk-from_err _ _ failed;
  err = MatchResult-from_err _ _ _ failed (λ _. refl);
  room = omega arith;
}
