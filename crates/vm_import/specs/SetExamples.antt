-- Worked examples.
use Rattle.std.specs.Prelude.{◌≡◌, ℕ, Bool, true, false, List, [], ◌∷◌, ◌++◌}
use Rattle.vm_import.specs.declared.touch.Effect.TheVariants.{Read, Write, Modify}
use Rattle.vm_import.specs.declared.touch.RankedTouch.{RankedTouch}
use Rattle.vm_import.specs.Touches.{touch, touches_of}
use Rattle.vm_import.specs.WorkingSets.{WorkingSetView, working_set}

abbrev pub set_of : List ℕ → List RankedTouch → WorkingSetView
set_of pages kept = record { pages = pages; kept = kept }

abbrev pub step : ℕ → ℕ → Bool → RankedTouch
step rank offset writes = record { rank = rank; offset = offset; writes = writes }

-- the first touch and the first write of a page are kept
abbrev pub KeepsFirst : Type 0
KeepsFirst = working_set [] (touches_of Read 0x5010 8 ++ (touches_of Read 0x5020 8 ++ (touches_of Write 0x5030 4 ++ (touches_of Write 0x5040 4 ++ touches_of Read 0x5050 1)))) ≡ set_of (5 ∷ []) (step 0 16 false ∷ step 0 48 true ∷ [])

-- ranks go by first touches, and not by addresses
abbrev pub RanksByFirstTouch : Type 0
RanksByFirstTouch = working_set [] (touches_of Write 0x9fff 1 ++ (touches_of Read 0x3000 4 ++ touches_of Write 0x3002 2)) ≡ set_of (9 ∷ 3 ∷ []) (step 0 4095 true ∷ step 1 0 false ∷ step 1 2 true ∷ [])

-- a write covers the reads after it
abbrev pub WriteCovers : Type 0
WriteCovers = working_set [] (touches_of Write 0x7008 8 ++ (touches_of Read 0x7000 8 ++ touches_of Modify 0x7010 8)) ≡ set_of (7 ∷ []) (step 0 8 true ∷ [])

-- an access over the end of a page touches two
abbrev pub TouchesTwo : Type 0
TouchesTwo = working_set [] (touches_of Read 0x1ffc 8 ++ touches_of Write 0x1ffc 4) ≡ set_of (1 ∷ 2 ∷ []) (step 0 4092 false ∷ step 1 0 false ∷ step 0 4092 true ∷ [])

-- what modifies two pages reads both before it writes the first
abbrev pub ReadsBeforeWrites : Type 0
ReadsBeforeWrites = working_set [] (touches_of Modify 0x1fff 2) ≡ set_of (1 ∷ 2 ∷ []) (step 0 4095 false ∷ step 1 0 false ∷ step 0 4095 true ∷ step 1 0 true ∷ [])

-- in another interval nothing is covered, and ranks go on
abbrev pub ForgetsCovered : Type 0
ForgetsCovered = working_set (touches_of Write 0x9000 1 ++ touches_of Read 0x4000 1) (touches_of Read 0x3000 1 ++ (touches_of Read 0x9004 1 ++ touches_of Read 0x9008 1)) ≡ set_of (9 ∷ 4 ∷ 3 ∷ []) (step 2 0 false ∷ step 0 4 false ∷ [])

-- the last of all bytes
abbrev pub TouchesLast : Type 0
TouchesLast = touches_of Modify 0xffff_ffff_ffff_ffff 1 ≡ touch 0xf_ffff_ffff_ffff 4095 false ∷ touch 0xf_ffff_ffff_ffff 4095 true ∷ []
