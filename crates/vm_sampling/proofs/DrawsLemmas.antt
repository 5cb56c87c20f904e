-- Draws that were made, and that are due.
use Rattle.std.proofs.Common.{◌≡◌, ℕ, List, Option, Some, None, length, refl}
use Rattle.std.proofs.lemmas.List.FromFn.{length-map-range_with_len}
use Rattle.rand_pcg.specs.Lcg.{Lcg}
use Rattle.vm_sampling.specs.Drawn.{pages_drawn}
use Rattle.vm_sampling.specs.Words.{draw, draws, words_after}

-- as many pages are drawn as words are used
pub length-draws : (n size : ℕ) (g : Lcg) → length (draws n size g) ≡ n
length-draws n size g = length-map-range_with_len (λ k. draw (words_after k g) size) 0 n

-- draws that are due give as many pages as were drawn before
pub length-pages_drawn : (due : Option Lcg) (drawn : List ℕ) (size : ℕ) → length (pages_drawn due drawn size) ≡ length drawn
length-pages_drawn None drawn size = refl
length-pages_drawn (Some g) drawn size = length-draws (length drawn) size g
