-- What passes know, and what each step of theirs tells.
use Rattle.std.specs.Prelude.{◌≡◌, ◌<◌, ℕ, ◌+◌, ◌-◌, Bool, true, false, List, [], ◌∷◌, ◌++◌, Option, Some, None, nat_eq, nat_lt, if◌then◌else◌, slice_get}
use Rattle.std.specs.Bool.{MatchBool}
use Rattle.std.specs.List.{All}
use Rattle.atomic_table.specs.Table.{Me, Step, rest}
use Rattle.vm_board.specs.Sums.{one_if}
use Rattle.vm_board.specs.declared.plays.Hand.{Hand}

abbrev pub hand : ℕ → List ℕ → Option ℕ → Bool → Hand
hand weight drawn number over = record { weight = weight; drawn = drawn; number = number; over = over }

abbrev pub newcomer : ℕ → Hand
newcomer weight = hand weight [] None false

-- one of the passes that it stands for is cut off
abbrev pub one_less : Hand → Hand
one_less v = hand (v.weight - 1) v.drawn v.number v.over

abbrev pub merged : Hand → Hand → Hand
merged v w = hand (v.weight + w.weight) (v.drawn ++ w.drawn) v.number v.over

abbrev pub spent : Hand
spent = hand 0 [] None false

-- 1 where it is this number
abbrev pub has : ℕ → Option ℕ → ℕ
has n None = 0
has n (Some m) = one_if (nat_eq m n)

abbrev pub over_weight : Hand → ℕ
over_weight v = if v.over then v.weight else 0

-- what a seat knows, and the slots that it has
abbrev Seated : Type 0 → Type 0
Seated J = Me (Option J) Hand

module _ {J : Type 0} where
  -- the slot that is out with the pass, from which the job was taken
  abbrev pub out : Option ℕ → List (ℕ × Option J)
  out None = []
  out (Some n) = (n, None) ∷ []

  -- the seat of one pass, and whether the pass is over
  pub record IsSeated (me : Seated J) (over : Bool) : Type 0 where
    pub weight : me.0.weight ≡ 1
    pub ends : me.0.over ≡ over
    pub slots : me.1 ≡ out me.0.number

  -- the number goes to the pass, with the job that was put at it
  abbrev pub Drew : (J → Type 0) → List J → Seated J → ℕ → Seated J → Type 0
  Drew ready jobs m n m' = (j : J) × (slice_get jobs n ≡ Some j) × ready j × (m'.0 ≡ hand m.0.weight (m.0.drawn ++ n ∷ []) (Some n) m.0.over) × (m'.1 ≡ (n, Some j) ∷ m.1) × All (λ k. k < n) m.0.drawn

  abbrev pub Ended : Seated J → Seated J → Type 0
  Ended m m' = m' ≡ (hand m.0.weight m.0.drawn m.0.number true, m.1)

  abbrev pub drew : (J → Type 0) → List J → Step (Option J) → Seated J → ℕ → Seated J → Type 0
  drew ready jobs st m n m' = MatchBool (nat_lt n st.slots) (Drew ready jobs m n m') (Ended m m')

  abbrev pub finished_one : Step (Option J) → Seated J → ℕ → Seated J → Type 0
  finished_one st m n m' = m' ≡ (hand m.0.weight m.0.drawn None m.0.over, rest m.1)
