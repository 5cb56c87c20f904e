-- What an access touches: the pages that its bytes are in.
use Rattle.std.specs.Prelude.{ℕ, ◌+◌, ◌/◌, ◌%◌, Bool, true, false, List, [], ◌∷◌, ◌++◌, if◌then◌else◌, nat_lt}
use Rattle.vm_import.specs.declared.touch.Effect.{Effect}
use Rattle.vm_import.specs.declared.touch.Effect.TheVariants.{Read, Write, Modify}
use Rattle.vm_import.specs.declared.touch.Touch.{Touch}

abbrev pub touch : ℕ → ℕ → Bool → Touch
touch page offset writes = record { page = page; offset = offset; writes = writes }

-- the touches of at most 4096 bytes, all by reading or all by writing: of the page that they begin in, and of the next one where
-- they go past its end
abbrev pub touches_by : Bool → ℕ → ℕ → List Touch
touches_by writes address size =
    let page = address / 4096 in
    let offset = address % 4096 in
    let further : List Touch = if nat_lt 4096 (offset + size) then touch (page + 1) 0 writes ∷ [] else [] in
    touch page offset writes ∷ further

-- whether an access writes its bytes
abbrev pub writes_of : Effect → Bool
writes_of Read = false
writes_of Write = true
writes_of Modify = true

-- the touches of an access, in order
unfoldable pub touches_of : Effect → ℕ → ℕ → List Touch
touches_of Read address size = touches_by false address size
touches_of Write address size = touches_by true address size
touches_of Modify address size = touches_by false address size ++ touches_by true address size
