-- Bytes in a buffer, and zeros behind them.
use Rattle.std.proofs.Common.{◌≡◌, ℕ, ◌+◌, ◌-◌, ◌/◌, ◌≤◌, true, List, ◌++◌, length, take, drop, replicate, set, refl, ap, sym, subst, ◌∙◌, arith}
use Rattle.std.proofs.lemmas.List.{length-append, length-drop, drop-replicate, length-replicate, drop-set-lt, drop-drop}
use Rattle.std.proofs.lemmas.Slice.{drop-append-drop}
use Rattle.std.proofs.Math.Seq.{take-append_seam}
use Rattle.vm_trace.specs.Buffer as buffer
use Rattle.vm_trace.specs.Bytes.{IsPadded}
use Rattle.vm_trace.specs.Words.{hex_pairs, is_hex}
use Rattle.vm_trace.proofs.Hex.{length-hex_pairs, even_from_hex}

-- bytes written over the front of zeros leave zeros behind them
zeros_behind : (most : ℕ) (bytes front zeros : List ℕ) → front ≡ bytes → zeros ≡ replicate most 0 → drop (length bytes) (front ++ drop (length bytes) zeros) ≡ replicate (most - length bytes) 0
zeros_behind most bytes front zeros front_is zeros_are =
    drop-append-drop (length bytes) zeros front (length bytes) (omega arith) (ap length front_is)
    ∙ ap (drop (length bytes)) zeros_are
    ∙ drop-replicate (length bytes) most 0

-- and change no length
length_over : (most : ℕ) (bytes front zeros : List ℕ) → length bytes ≤ most → front ≡ bytes → zeros ≡ replicate most 0 → length (front ++ drop (length bytes) zeros) ≡ most
length_over most bytes front zeros few front_is zeros_are =
    let zeros_len : length zeros ≡ most = ap length zeros_are ∙ length-replicate {A = ℕ} most 0 in
    let front_len = ap length front_is in
    omega (arith, front_len, zeros_len, length-append front (drop (length bytes) zeros), length-drop (length bytes) zeros)

pub padded_copy : (bytes front zeros : List ℕ) → length bytes ≤ 64 → front ≡ bytes → zeros ≡ replicate 64 0 → IsPadded (record { len = length bytes; buffer = front ++ drop (length bytes) zeros })
padded_copy bytes front zeros few front_is zeros_are = record {
  whole = length_over 64 bytes front zeros few front_is zeros_are;
  within = few;
  zeros = zeros_behind 64 bytes front zeros front_is zeros_are;
}

-- the same in the buffer of a raw buffer
pub buffer_copy : (bytes front zeros : List ℕ) → length bytes ≤ 1024 → front ≡ bytes → zeros ≡ replicate 1024 0 → buffer.IsPadded (record { len = length bytes; buffer = front ++ drop (length bytes) zeros })
buffer_copy bytes front zeros few front_is zeros_are = record {
  whole = length_over 1024 bytes front zeros few front_is zeros_are;
  within = few;
  zeros = zeros_behind 1024 bytes front zeros front_is zeros_are;
}

-- the bytes of hexadecimal digits, written over the front of zeros
pairs_length : (digits : List ℕ) → is_hex digits ≡ true → length (hex_pairs digits) ≡ length digits / 2
pairs_length digits is = let all = length-hex_pairs digits in let even = even_from_hex digits is in omega arith

pub padded_pairs : (digits bs zeros : List ℕ) → is_hex digits ≡ true → length digits ≤ 128 → bs ≡ hex_pairs digits ++ drop (length digits / 2) zeros → zeros ≡ replicate 64 0
    → IsPadded (record { len = length digits / 2; buffer = bs })
padded_pairs digits bs zeros is few written zeros_are =
    let len = pairs_length digits is in
    let here : IsPadded (record { len = length (hex_pairs digits); buffer = hex_pairs digits ++ drop (length (hex_pairs digits)) zeros }) =
    padded_copy (hex_pairs digits) (hex_pairs digits) zeros (omega (arith, len, few)) refl zeros_are in
    let whole : hex_pairs digits ++ drop (length (hex_pairs digits)) zeros ≡ bs = ap (λ n. hex_pairs digits ++ drop n zeros) len ∙ sym written in
    subst IsPadded (λ i. record { len = len i; buffer = whole i }) here

pub buffer_pairs : (digits bs zeros : List ℕ) → is_hex digits ≡ true → length digits ≤ 2048 → bs ≡ hex_pairs digits ++ drop (length digits / 2) zeros → zeros ≡ replicate 1024 0
    → buffer.IsPadded (record { len = length digits / 2; buffer = bs })
buffer_pairs digits bs zeros is few written zeros_are =
    let len = pairs_length digits is in
    let here : buffer.IsPadded (record { len = length (hex_pairs digits); buffer = hex_pairs digits ++ drop (length (hex_pairs digits)) zeros }) =
    buffer_copy (hex_pairs digits) (hex_pairs digits) zeros (omega (arith, len, few)) refl zeros_are in
    let whole : hex_pairs digits ++ drop (length (hex_pairs digits)) zeros ≡ bs = ap (λ n. hex_pairs digits ++ drop n zeros) len ∙ sym written in
    subst buffer.IsPadded (λ i. record { len = len i; buffer = whole i }) here

-- the bytes are read again
pub taken_copy : (bytes front rest : List ℕ) → front ≡ bytes → take (length bytes) (front ++ rest) ≡ bytes
taken_copy bytes front rest is = ap (λ n. take n (front ++ rest)) (sym (ap length is)) ∙ take-append_seam front rest ∙ is

-- one byte more over the front
pub rest_more : (buffer old : List ℕ) (i byte : ℕ) → drop i buffer ≡ drop i old → drop (i + 1) (set buffer i byte) ≡ drop (i + 1) old
rest_more buffer old i byte rest =
    drop-set-lt (i + 1) buffer i byte (omega arith)
    ∙ sym (drop-drop 1 i buffer)
    ∙ ap (drop 1) rest
    ∙ drop-drop 1 i old
