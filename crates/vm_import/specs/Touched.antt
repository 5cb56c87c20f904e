-- What the accesses of a log touch.
use Rattle.std.specs.Prelude.{Bool, true, false, not, ◌&&◌, List, [], if◌then◌else◌}
use Rattle.std.specs.List.{flat_map}
use Rattle.vm_import.specs.declared.access.Access.{Access}
use Rattle.vm_import.specs.declared.access.AccessKind.{AccessKind}
use Rattle.vm_import.specs.declared.access.AccessKind.TheVariants as kind
use Rattle.vm_import.specs.declared.touch.Effect.{Effect}
use Rattle.vm_import.specs.declared.touch.Effect.TheVariants as effect
use Rattle.vm_import.specs.declared.touch.Touch.{Touch}
use Rattle.vm_import.specs.Touches.{touches_of}

-- what an access does to the bytes that it reaches
abbrev pub effect_of : AccessKind → Effect
effect_of kind.Fetch = effect.Read
effect_of kind.Load = effect.Read
effect_of kind.Store = effect.Write
effect_of kind.Modify = effect.Modify

-- an instruction is fetched
abbrev pub is_fetch : AccessKind → Bool
is_fetch kind.Fetch = true
is_fetch _ = false

-- the touches of an access: a fetch has none where code isn't wanted
abbrev pub touched_by : Bool → Access → List Touch
touched_by has_code access =
    if is_fetch access.kind && not has_code then [] else touches_of (effect_of access.kind) access.address access.size

-- the touches of accesses, in order
abbrev pub touches_in : Bool → List Access → List Touch
touches_in has_code accesses = flat_map (touched_by has_code) accesses
