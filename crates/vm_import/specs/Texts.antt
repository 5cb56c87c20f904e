-- The configuration text of a guest.
use Rattle.std.specs.Prelude.{ℕ, ◌-◌, List, ◌++◌, codes, length, map}
use Rattle.std.specs.Fmt.{decimal}
use Rattle.std.specs.List.{join_with_byte}
use Rattle.vm_import.specs.Guests.{Guest, epochs_of, frames_for, min_of}
use Rattle.vm_import.specs.Settings.{Settings}

-- up to the first step
unfoldable pub head_of : Settings → List ℕ
head_of settings =
    codes "{\"version\":2,\"quantum\":" ++ (decimal settings.quantum ++ (codes ",\"guests\":[{\"name\":\"" ++ (settings.name
    ++ codes "\",\"trace\":[")))

-- a step in quotes
unfoldable pub quoted : List ℕ → List ℕ
quoted step = codes "\"" ++ (step ++ codes "\"")

-- behind the last step, of a guest of this size with so many steps
unfoldable pub tail_of : Settings → (size steps : ℕ) → List ℕ
tail_of settings size steps =
    codes "],\"size\":" ++ (decimal size ++ (codes ",\"min\":" ++ (decimal (min_of settings size) ++ (codes "}],\"frames\":"
    ++ (decimal (frames_for size) ++ (codes ",\"swap\":" ++ (decimal (size - min_of settings size) ++ (codes ",\"epochs\":"
    ++ (decimal (epochs_of settings.quantum steps) ++ codes "}\n")))))))))

-- the steps, with a comma between each two
abbrev pub listed : List (List ℕ) → List ℕ
listed steps = join_with_byte 44 (map quoted steps)

-- the whole text
unfoldable pub text_of : Settings → Guest → List ℕ
text_of settings guest =
    head_of settings ++ (listed guest.trace ++ tail_of settings guest.size (length guest.trace))
