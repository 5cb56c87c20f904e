-- A log, line by line.
use Rattle.std.proofs.Common.{◌≡◌, ℕ, suc, ◌+◌, ◌<◌, Bool, true, false, not, cond, List, [], ◌∷◌, length, take, drop, Option, refl, ap, arith}
use Rattle.std.specs.List.{after_first, before_first, onto_first, position_or_len}
use Rattle.vm_import.specs.Lines.{line_of, process_of}
use Rattle.vm_import.specs.Logs.{before, ended, first_process, is_line_end, lines_of, log_from, log_of_lines}

one_more : (n : ℕ) → 1 + n ≡ suc n
one_more n = omega arith

first-step : (t : Bool) (byte : ℕ) (bytes : List ℕ) (m : ℕ) → onto_first byte (lines_of bytes) ≡ (byte ∷ take m bytes) ∷ lines_of (drop (m + 1) bytes)
    → cond t ([] ∷ lines_of bytes) (onto_first byte (lines_of bytes))
    ≡ take (cond (not t) (1 + m) 0) (byte ∷ bytes) ∷ lines_of (drop (cond (not t) (1 + m) 0 + 1) (byte ∷ bytes))
first-step true byte bytes m inner = refl
first-step false byte bytes m inner = let two : 1 + m + 1 ≡ suc (m + 1) = omega arith in rw (two, one_more m) inner

-- the first of the lines
pub lines_of-first : (bytes : List ℕ) → 0 < length bytes → lines_of bytes ≡ before_first is_line_end bytes ∷ lines_of (after_first is_line_end bytes)
lines_of-first [] some = absurd (omega arith)
lines_of-first (byte ∷ []) some = first-step (is_line_end byte) byte [] 0 refl
lines_of-first (byte ∷ next ∷ bytes) some =
    first-step (is_line_end byte) byte (next ∷ bytes) (position_or_len is_line_end (next ∷ bytes)) (ap (onto_first byte) (lines_of-first (next ∷ bytes) (omega arith)))

pub log_from-end : (count : ℕ) (process : Option (List ℕ)) → log_from count process [] ≡ ended
unfolding log_of_lines
log_from-end count process = refl

pub log_from-line : (count : ℕ) (process : Option (List ℕ)) (bytes : List ℕ) → 0 < length bytes
    → log_from count process bytes
    ≡ before (count + 1) (line_of process (before_first is_line_end bytes))
    (log_from (count + 1) (first_process process (process_of (before_first is_line_end bytes))) (after_first is_line_end bytes))
unfolding log_of_lines
log_from-line count process bytes some = ap (log_of_lines count process) (lines_of-first bytes some)
