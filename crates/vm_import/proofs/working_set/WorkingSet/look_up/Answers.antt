use Rattle.std.proofs.Common.{◌+◌, ◌/◌, ◌∙◌, sym, ap, if◌then◌else◌}
use Rattle.vm_import.specs.Recent.{with_recent}
use Rattle.vm_import.proofs.SoundLemmas.{last_covered, sound_note}
use Rattle.vm_import.proofs.working_set.WorkingSet.look_up.Goals as goal

pub invariant_of-self : goal.invariant_of-self
invariant_of-self c =
    let last = (c.args.address + c.from.result) / 4096 in
    let covered = last_covered c.args.effect c.args.self.now _ c.args.address c.args.size last c.requires.some c.requires.few (ap (λ n. (c.args.address + n) / 4096) c.from.ensures) (c.self.view_is ∙ c.in_ok-touch_all.ensures.ok) in
    sound_note _ _ _ c.self.inside.read c.self.inside.written _ _ last c.args.effect c.self.invariant covered c.note.ensures
    (c.note-then-writes.ensures ∙ sym (ap (λ b. if b then with_recent c.self.inside.written last else c.self.inside.written) (sym c.writes.ensures ∙ c.if-writes.true)))

pub invariant_of-self-else-writes : goal.invariant_of-self-else-writes
invariant_of-self-else-writes c =
    let last = (c.args.address + c.from.result) / 4096 in
    let covered = last_covered c.args.effect c.args.self.now _ c.args.address c.args.size last c.requires.some c.requires.few (ap (λ n. (c.args.address + n) / 4096) c.from.ensures) (c.self.view_is ∙ c.in_ok-touch_all.ensures.ok) in
    sound_note _ _ _ c.self.inside.read c.self.inside.written _ _ last c.args.effect c.self.invariant covered c.note.ensures
    (sym (ap (λ b. if b then with_recent c.self.inside.written last else c.self.inside.written) (sym c.writes.ensures ∙ c.if-writes.false)))
