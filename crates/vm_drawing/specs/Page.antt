-- What is told of a page.
use Rattle.std.specs.Prelude.{ℕ, ◌==◌, List, ◌++◌, codes, if◌then◌else◌}
use Rattle.std.specs.Fmt.{decimal}

-- what a page is that stands for so many KiB, and a frame with it
unfoldable pub page_words : (kib : ℕ) → List ℕ
page_words kib =
    if kib == 4 then codes "a frame and a page have 4096 bytes"
    else codes "a frame and a page stand for " ++ (decimal kib ++ codes " KiB")
