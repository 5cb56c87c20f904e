-- What a page contains, after bytes were written to its log.
use Rattle.std.proofs.Common.{◌≡◌, ℕ, ◌+◌, ◌≤◌, List, length, ◌∙◌, arith}
use Rattle.vm_patches.specs.declared.patched_frame.Contents.{Contents}
use Rattle.vm_patches.specs.declared.patched_frame.Contents.TheVariants.{Few, Lines, Whole}
use Rattle.vm_patches.specs.Patches.{overwritten, patched, writes_of, zero_bytes}
use Rattle.vm_patches.specs.Contents.{contents_of, IsWritten}
use Rattle.vm_patches.proofs.Writes.{patched-append, patched-writes_of, length-patched}
use Rattle.vm_patches.proofs.Zeros.{length-zero_bytes}

pub contents-written : (old new : Contents) (frame : List ℕ) (offset : ℕ) (bytes : List ℕ) → offset + length bytes ≤ 4096 → IsWritten old new offset bytes
    → contents_of new frame ≡ overwritten (contents_of old frame) offset bytes
contents-written (Few writes) new frame offset bytes within is =
    rw is (patched-append zero_bytes writes (writes_of offset bytes)
    ∙ patched-writes_of (patched zero_bytes writes) offset bytes (omega (arith, within, length-patched zero_bytes writes, length-zero_bytes)))
contents-written (Lines lines) new frame offset bytes within none = absurd none
contents-written Whole new frame offset bytes within none = absurd none
