use Rattle.std.proofs.Common.{◌≡◌, ap, ◌∙◌}
use Rattle.std.proofs.lemmas.List.{with_items_is}
use Rattle.vm_domains.specs.Domains.{configs_of}
use Rattle.vm_variants.specs.Guests.{with_value}
use Rattle.vm_variants.specs.Variants.{changed_at, with_guest_value}
use Rattle.vm_variants.proofs.PartLemmas.{on-err, on-ok, part-at, put-back, put-same}
use Rattle.vm_variants.proofs.setting.set_guest.Goals as goal

pub returns-clause-ok : goal.returns-clause-ok
returns-clause-ok c =
    let config = c.args.config.now in
    let taken = c.take_guests-names in
    let change = with_value c.args.setting c.args.value in
    let new = c.set_at-answer.new.guests in
    let back = with_items_is taken.result.1 new (c.set_at-answer.auto.guests ∙ c.deref_mut.ensures.len) in
    let before = c.deref_mut.ensures.value ∙ taken.ensures.guests in
    on-ok c.set_at-answer.result (new ≡ changed_at c.args.place change c.deref_mut.result.now)
    (c.put_guests.new.config ≡ with_guest_value c.args.setting c.args.place c.args.value config)
    (λ changes. put-back config taken.new.config c.put_guests.new.config taken.result.0 _ (changed_at c.args.place change (configs_of config.domains)) _
    taken.ensures.rest taken.ensures.names (back ∙ changes ∙ ap (changed_at c.args.place change) before)
    (part-at c.args.place change config.domains) c.put_guests.ensures)
    c.set_at-answer.ensures.ok

pub returns-clause-err : goal.returns-clause-err
returns-clause-err c =
    let config = c.args.config.now in
    let taken = c.take_guests-names in
    let new = c.set_at-answer.new.guests in
    let back = with_items_is taken.result.1 new (c.set_at-answer.auto.guests ∙ c.deref_mut.ensures.len) in
    on-err c.set_at-answer.result (new ≡ c.deref_mut.result.now) (c.put_guests.new.config ≡ config)
    (λ same. put-same config taken.new.config c.put_guests.new.config taken.result.0 _
    taken.ensures.rest taken.ensures.names (back ∙ same ∙ c.deref_mut.ensures.value ∙ taken.ensures.guests) c.put_guests.ensures)
    c.set_at-answer.ensures.err
