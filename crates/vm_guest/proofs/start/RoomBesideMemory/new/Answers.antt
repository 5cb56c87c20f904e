use Rattle.std.proofs.Common.{ap, ◌∙◌}
use Rattle.vm_sampling.specs.Sampling.{sampler_of}
use Rattle.vm_sampling.specs.Words.{words_after}
use Rattle.vm_guest.proofs.start.RoomBesideMemory.new.Goals as goal

pub returns : goal.returns
returns c =
    let spec = c.spec.inside in
    rw (← c.spec.view_is) (record {
      used = c.in_ok-used.ensures.set;
      device = c.in_ok-new.ensures.device;
      sampling = c.in_ok-sampler.ensures.ok ∙ ap (sampler_of spec.samples spec.period spec.size) c.new-words.ensures;
      words = c.in_ok-sampler.ensures.words ∙ ap (words_after spec.samples) c.new-words.ensures;
      used_early = c.in_ok-used_early.ensures.items;
      early_room = c.in_ok-used_early.ensures.capacity;
      reads = c.new-5.ensures.items;
      pages_room = c.in_ok-draft.ensures;
    })
