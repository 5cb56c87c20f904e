use Rattle.std.proofs.Common.{◌+◌, ◌^◌, ◌<◌, ◌∙◌, ap, sym, subst}
use Rattle.vm_admission.specs.Accounts.{Accounts}
use Rattle.vm_pool.specs.Pool.{PoolView}
use Rattle.vm_tax.specs.Ratio.{hundredths}
use Rattle.vm_host.specs.Books.{books_of}
use Rattle.vm_host.specs.Decisions.{IsBooked}
use Rattle.vm_host.specs.Parts.{world_of}
use Rattle.vm_host.specs.World.{with_pool}
use Rattle.vm_host.proofs.BookLemmas.{few-booked}
use Rattle.vm_host.proofs.SoundLemmas.{obeys}
use Rattle.vm_host.proofs.obey.answer_command.Goals as goal

pub admit-requires-clause-few : goal.admit-requires-clause-few
admit-requires-clause-few c =
    subst (λ (books : Accounts). books.guests + 1 < 2 ^ 32) (sym c.requires.booked) (few-booked (world_of c.args.parts.now) c.requires.sound)

pub obey-requires-clause-can : goal.obey-requires-clause-can
obey-requires-clause-can c =
    let w = world_of c.args.parts.now in
    (obeys (hundredths c.tax_of-tax.result) w c.args.command.now c.in-Ok.position c.requires.sound c.requires.range (sym c.in-Ok.ensures.decision)).can

pub returns-in_ok-plan-in-Ok-clause-booked : goal.returns-in_ok-plan-in-Ok-clause-booked
returns-in_ok-plan-in-Ok-clause-booked c =
    let w = world_of c.args.parts.now in
    let done = obeys (hundredths c.tax_of-tax.result) w c.args.command.now c.in-Ok.position c.requires.sound c.requires.range (sym c.in-Ok.ensures.decision) in
    let was = subst (λ (books : Accounts). IsBooked w.pool c.in-Ok.position books c.admit.new.books c.args.command.now) c.requires.booked c.in-Ok.ensures.books in
    done.booked c.admit.new.books was ∙ ap (λ (pool : PoolView). books_of (with_pool w pool)) (sym c.in_ok-plan-in-Ok.ensures.done)
