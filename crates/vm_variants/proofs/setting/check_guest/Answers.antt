use Rattle.vm_variants.proofs.PartLemmas.{put-same}
use Rattle.vm_variants.proofs.setting.check_guest.Goals as goal

pub returns-clause-unchanged : goal.returns-clause-unchanged
returns-clause-unchanged c =
    let taken = c.take_guests-names in
    put-same c.args.config.now taken.new.config c.put_guests.new.config taken.result.0 taken.result.1.items
    taken.ensures.rest taken.ensures.names taken.ensures.guests c.put_guests.ensures
