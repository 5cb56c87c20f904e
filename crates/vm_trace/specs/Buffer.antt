-- How the bytes of a raw buffer lie in their buffer.
use Rattle.std.specs.Prelude.{◌≡◌, ℕ, ◌-◌, ◌≤◌, List, ◌++◌, length, take, drop, replicate}
use Rattle.std.proofs.Common.{sym, ap, ◌∙◌, arith}
use Rattle.std.proofs.lemmas.List.{length-take-le, take-append-drop}
use Rattle.vm_trace.specs.declared.buffer.Buffer.TheInside.{Inside}

-- the bytes, and zeros up to 1024
abbrev pub padded : List ℕ → Inside
padded bytes = record { len = length bytes; buffer = bytes ++ replicate (1024 - length bytes) 0 }

-- the buffer has the bytes, and then zeros
pub record IsPadded (b : Inside) : Type 0 where
  pub whole : length b.buffer ≡ 1024
  pub within : b.len ≤ 1024
  pub zeros : drop b.len b.buffer ≡ replicate (1024 - b.len) 0

-- the bytes give the buffer back
pub padded-take : (b : Inside) → IsPadded b → padded (take b.len b.buffer) ≡ b
padded-take b h =
    let len_is : length (take b.len b.buffer) ≡ b.len = let whole = h.whole in let within = h.within in length-take-le b.len b.buffer (omega arith) in
    let buffer_is : take b.len b.buffer ++ replicate (1024 - length (take b.len b.buffer)) 0 ≡ b.buffer =
    ap (λ n. take b.len b.buffer ++ replicate (1024 - n) 0) len_is ∙ ap (λ l. take b.len b.buffer ++ l) (sym h.zeros) ∙ take-append-drop b.len b.buffer in
    λ i. record { len = len_is i; buffer = buffer_is i }
