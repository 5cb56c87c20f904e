use Rattle.std.proofs.Common.{◌≡◌, ◌*◌, arith, ap, subst, sym, ◌∙◌}
use denote.RawPtr.{◌+ₚ◌}
use Rattle.vm_frames.specs.Ownership.{IsPlaced}
use Rattle.vm_frames.proofs.PageLemmas.{all_popped, next_page}
use Rattle.vm_frames.proofs.memory.Memory.next.Goals as goal

pub open-room-requires-clause-lender : goal.open-room-requires-clause-lender
open-room-requires-clause-lender c =
    sym (all_popped (λ o. (o.value.life ≡ c.args.self.rest.life) × (o.value.first ≡ c.args.self.first)) _ _ _ c.in_ok-owner.ensures.items c.args.self.last).1.0

pub open-room-requires-clause-some : goal.open-room-requires-clause-some
open-room-requires-clause-some c = let one = c.in_ok-owner.ensures.cases in let owned = c.args.self.owned in omega arith

pub invariant_of-left : goal.invariant_of-left
invariant_of-left c = let rest = c.open-room.ensures.rest in let one = c.in_ok-owner.ensures.cases in let owned = c.args.self.owned in let count = rest.count in let fits = c.args.self.fits in
    let others = (all_popped (λ o. (o.value.life ≡ c.args.self.rest.life) × (o.value.first ≡ c.args.self.first)) _ _ _ c.in_ok-owner.ensures.items c.args.self.last).0 in record {
      there = c.args.self.there;
      last = λ k d less. ((others k d less).0 ∙ sym rest.life, (others k d less).1);
      owned = omega arith;
      begins = rest.begins ∙ ap (λ p. p +ₚ 4096) c.args.self.begins ∙ next_page c.args.self.first c.args.self.made c.args.self.there;
      fits = omega arith;
    }

pub returns-clause-empty : goal.returns-clause-empty
returns-clause-empty c = let opened = c.open-room.ensures in record {
  place = ap (λ r. r.ptr) opened.room ∙ sym (ap (λ h. h.page) opened.owner);
  empty = ap (λ r. r.page) opened.room;
}

pub returns-clause-place : goal.returns-clause-place
returns-clause-place c = let opened = c.open-room.ensures in
    let mine = all_popped (λ o. (o.value.life ≡ c.args.self.rest.life) × (o.value.first ≡ c.args.self.first)) _ _ _ c.in_ok-owner.ensures.items c.args.self.last in
    let first = sym (ap (λ h. h.first) opened.owner ∙ mine.1.1) in record {
      there = subst IsPlaced first c.args.self.there;
      place = ap (λ h. h.page) opened.owner ∙ c.args.self.begins ∙ ap (λ p. p +ₚ (c.args.self.made * 4096)) first;
    }

pub returns-clause-left : goal.returns-clause-left
returns-clause-left c = let one = c.in_ok-owner.ensures.cases in let owned = c.args.self.owned in let count = c.open-room.ensures.rest.count in omega arith
