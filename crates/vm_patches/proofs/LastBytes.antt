-- The byte that was written last at an offset.
use Rattle.std.proofs.Common.{◌≡◌, ℕ, ◌<◌, List, [], ◌∷◌, length, set, get_or, refl, sym, ◌∙◌, inl, inr}
use Rattle.std.specs.Prelude.{None, Some, unwrap_or}
use Rattle.std.specs.List.{filter_map, last_or, cons_option}
use Rattle.std.proofs.lemmas.Bool.{cases_eq, eq-eqb, ne_eqb}
use Rattle.std.proofs.lemmas.List.{length-set, get_or-set_same, get_or-set_other}
use Rattle.vm_patches.specs.declared.patch.ByteWrite.{ByteWrite}
use Rattle.vm_patches.specs.LastByte.{byte_at, last_byte}
use Rattle.vm_patches.specs.Patches.{patched}

-- where the list is not empty, what stands in for its last item is not asked for
same_last : (byte : ℕ) (bytes : List ℕ) (a b : ℕ) → unwrap_or (last_or (Some byte) bytes) a ≡ unwrap_or (last_or (Some byte) bytes) b
same_last byte [] a b = refl
same_last byte (next ∷ bytes) a b = same_last next bytes a b

last_after : (byte : ℕ) (bytes : List ℕ) (before : ℕ) → unwrap_or (last_or None bytes) byte ≡ unwrap_or (last_or (Some byte) bytes) before
last_after byte [] before = refl
last_after byte (next ∷ bytes) before = same_last next bytes byte before

-- one write comes before the others
after_one : (page : List ℕ) (write : ByteWrite) (bytes : List ℕ) (offset : ℕ) → offset < length page
    → unwrap_or (last_or None bytes) (get_or (set page write.offset write.byte) offset 0)
    ≡ unwrap_or (last_or None (cons_option (byte_at offset write) bytes)) (get_or page offset 0)
after_one page write bytes offset below =
    elim (cases_eq write.offset offset) [
      | inl same ↦ rw (eq-eqb write.offset offset same, same, get_or-set_same page offset write.byte 0 below) (last_after write.byte bytes (get_or page offset 0))
      | inr other ↦ rw (ne_eqb write.offset offset other, get_or-set_other page write.offset offset write.byte 0 (λ e. other (sym e))) refl
    ]

pub at-patched : (page : List ℕ) (writes : List ByteWrite) (offset : ℕ) → offset < length page
    → get_or (patched page writes) offset 0 ≡ last_byte writes offset (get_or page offset 0)
at-patched page [] offset below = refl
at-patched page (write ∷ writes) offset below =
    at-patched (set page write.offset write.byte) writes offset (rw (length-set page write.offset write.byte) below)
    ∙ after_one page write (filter_map (byte_at offset) writes) offset below
