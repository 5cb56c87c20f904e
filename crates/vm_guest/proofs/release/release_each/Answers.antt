use Rattle.std.proofs.Common.{◌≡◌, ◌+◌, suc, refl, subst, sym, ap, ◌∙◌, arith}
use Rattle.vm_guest.proofs.BoundaryLemmas.{released_one-sound, released-held, released-allotment}
use Rattle.vm_guest.proofs.NumberLemmas.{takes_back_some-none, takes_back_some-then}
use Rattle.vm_guest.specs.Boundary.{released, released_one}
use Rattle.vm_guest.specs.Good.{IsSound}
use Rattle.vm_guest.specs.Parts.{record_of}
use Rattle.vm_guest.specs.Record.{GuestRecord}
use Rattle.vm_guest.proofs.release.release_each.Goals as goal

pub loop-init : goal.loop-init
loop-init c = record {
  done = refl;
  fit = c.requires.fit;
  room = record { capacity = refl; reads = refl };
  frames = takes_back_some-none c.args.machine.now c.args.parts.now.memory.frames;
  out = c.requires.out;
  count = omega arith;
}

pub release_one-requires-clause-few : goal.release_one-requires-clause-few
release_one-requires-clause-few c =
    let g = record_of c.args.parts.now in
    let held = ap (λ (g : GuestRecord). g.memory.held) c.loop.invariant.done ∙ released-held c.loop.counter g in
    let target = ap (λ (g : GuestRecord). g.allotment.target) c.loop.invariant.done ∙ ap (λ a. a.target) (released-allotment c.loop.counter g) in
    omega (arith, held, target, c.requires.few, c.loop-test.true)

pub loop-preserved : goal.loop-preserved
loop-preserved c =
    let is = c.release_one.ensures.«record» in
    let kept = c.loop.invariant.room in
    let room = c.release_one.ensures.room in
    let next : c.loop.counter + 1 ≡ suc c.loop.counter = omega arith in
    let g = record_of c.args.parts.now in
    let held = ap (λ (g : GuestRecord). g.memory.held) c.loop.invariant.done ∙ released-held c.loop.counter g in
    let target = ap (λ (g : GuestRecord). g.allotment.target) c.loop.invariant.done ∙ ap (λ a. a.target) (released-allotment c.loop.counter g) in
    let sound = c.loop.invariant.fit.sound in
    let allotment = sound.allotment in
    record {
      done = is ∙ ap released_one c.loop.invariant.done ∙ sym (ap (λ n. released n (record_of c.args.parts.now)) next);
      fit = record {
        sound = subst IsSound (sym is) (released_one-sound (record_of c.loop.parts) (omega (arith, allotment.least, allotment.target_from, held, target, c.requires.few, c.loop-test.true)) sound);
        tied = c.release_one.ensures.tied;
      };
      room = record { capacity = room.capacity ∙ kept.capacity; reads = room.reads ∙ kept.reads };
      frames = takes_back_some-then c.args.machine.now c.loop.machine c.release_one.new.machine _ _ _ c.loop.invariant.frames c.release_one.ensures.frames;
      out = c.release_one.ensures.still_out;
      count = omega (arith, c.release_one.ensures.count, c.loop.invariant.count);
    }
