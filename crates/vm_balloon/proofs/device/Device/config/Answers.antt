use Rattle.std.proofs.Common.{ℕ, List, [], ◌∷◌, ◌++◌, get_or, ap, ◌∙◌}
use Rattle.std.specs.Int.{w32, to_le_bytes}
use Rattle.vm_balloon.specs.Device.{DeviceState}
use Rattle.vm_balloon.proofs.device.Device.config.Goals as goal

-- the four bytes of each of two numbers
abbrev eight : List ℕ → List ℕ → List ℕ
eight n a =
    get_or n 0 0 ∷ get_or n 1 0 ∷ get_or n 2 0 ∷ get_or n 3 0 ∷ get_or a 0 0 ∷ get_or a 1 0 ∷ get_or a 2 0 ∷ get_or a 3 0 ∷ []

pub returns : goal.returns
returns c =
    (λ i. eight (c.to_le_bytes.ensures i) (c.to_le_bytes-2.ensures i))
    ∙ ap (λ (d : DeviceState). to_le_bytes w32 d.num_pages ++ to_le_bytes w32 d.actual) c.self.view_is
