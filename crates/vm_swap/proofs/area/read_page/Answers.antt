use Rattle.std.proofs.Common.{◌≡◌, ℕ, ◌+◌, ◌-◌, List, length, slice_range, option_copied, refl, sym, ap, ◌∙◌, arith}
use Rattle.std.proofs.lemmas.List.{take_all, length-replicate}
use Rattle.vm_patches.specs.declared.patch.ByteWrite.{ByteWrite}
use Rattle.vm_patches.specs.Patches.{patched, zero_bytes}
use Rattle.vm_patches.proofs.Writes.{length-patched}
use Rattle.vm_swap.proofs.Merged.{get-merged}
use Rattle.vm_swap.proofs.area.read_page.Goals as goal

-- all bytes of zeros with what was written to them
whole_range : (writes : List ByteWrite) (n : ℕ) → n ≡ 4096 → slice_range (patched zero_bytes writes) 0 n ≡ patched zero_bytes writes
unfolding zero_bytes
whole_range writes n is =
    let all : n - 0 ≡ n = omega arith in
    rw all (take_all n (patched zero_bytes writes) (omega (arith, length-patched zero_bytes writes, length-replicate {A = ℕ} 4096 0, is)))

pub returns-in-None-None-clause-found : goal.returns-in-None-None-clause-found
returns-in-None-None-clause-found c =
    let whole = ap option_copied (sym c.in-None-None.is-0) ∙ c.get.ensures in
    let few = ap option_copied (sym c.in-None-None.is-1) ∙ c.get-2.ensures in
    rw (get-merged c.args.whole.now.values c.args.few.now.values c.args.page, ← whole, ← few) refl

pub returns-in-None-None-clause-bytes : goal.returns-in-None-None-clause-bytes
returns-in-None-None-clause-bytes c =
    let whole = ap option_copied (sym c.in-None-None.is-0) ∙ c.get.ensures in
    let few = ap option_copied (sym c.in-None-None.is-1) ∙ c.get-2.ensures in
    rw (get-merged c.args.whole.now.values c.args.few.now.values c.args.page, ← whole, ← few) tt

pub returns-in-Some-default-clause-found : goal.returns-in-Some-default-clause-found
returns-in-Some-default-clause-found c =
    let whole = ap option_copied (sym c.in-Some-default.is-0) ∙ c.get.ensures in
    rw (get-merged c.args.whole.now.values c.args.few.now.values c.args.page, ← whole) refl

pub returns-in-Some-default-clause-bytes : goal.returns-in-Some-default-clause-bytes
returns-in-Some-default-clause-bytes c =
    let whole = ap option_copied (sym c.in-Some-default.is-0) ∙ c.get.ensures in
    rw (get-merged c.args.whole.now.values c.args.few.now.values c.args.page, ← whole) (rw c.in-Some-default.bytes-is at c.copy_from_slice.ensures.after)

pub returns-in-Some-default-clause-absent : goal.returns-in-Some-default-clause-absent
returns-in-Some-default-clause-absent c =
    let whole = ap option_copied (sym c.in-Some-default.is-0) ∙ c.get.ensures in
    rw (get-merged c.args.whole.now.values c.args.few.now.values c.args.page, ← whole) tt

pub returns-in-None-Some-clause-found : goal.returns-in-None-Some-clause-found
returns-in-None-Some-clause-found c =
    let whole = ap option_copied (sym c.in-None-Some.is-0) ∙ c.get.ensures in
    let few = ap option_copied (sym c.in-None-Some.is-1) ∙ c.get-2.ensures in
    rw (get-merged c.args.whole.now.values c.args.few.now.values c.args.page, ← whole, ← few) refl

pub returns-in-None-Some-clause-bytes : goal.returns-in-None-Some-clause-bytes
returns-in-None-Some-clause-bytes c =
    let whole = ap option_copied (sym c.in-None-Some.is-0) ∙ c.get.ensures in
    let few = ap option_copied (sym c.in-None-Some.is-1) ∙ c.get-2.ensures in
    rw (get-merged c.args.whole.now.values c.args.few.now.values c.args.page, ← whole, ← few)
    (c.read.ensures ∙ whole_range c.in-None-Some.log.now (0 + length c.args.buffer.now) (omega (arith, c.requires)))

pub returns-in-None-Some-clause-absent : goal.returns-in-None-Some-clause-absent
returns-in-None-Some-clause-absent c =
    let whole = ap option_copied (sym c.in-None-Some.is-0) ∙ c.get.ensures in
    let few = ap option_copied (sym c.in-None-Some.is-1) ∙ c.get-2.ensures in
    rw (get-merged c.args.whole.now.values c.args.few.now.values c.args.page, ← whole, ← few) tt
