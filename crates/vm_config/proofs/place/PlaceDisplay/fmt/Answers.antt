use Rattle.std.proofs.Common.{List, ℕ, ◌++◌, sym, subst, ap, ◌∙◌}
use Rattle.std.specs.Prelude.{codes}
use Rattle.std.specs.Fmt.{decimal, HasWritten}
use Rattle.vm_config.specs.FaultTexts.{text_of, text_of_key}
use Rattle.vm_config.specs.declared.place.Part.{Part}
use Rattle.vm_config.specs.declared.place.Place.{Place}
use Rattle.vm_config.proofs.place.PlaceDisplay.fmt.Goals as goal

pub returns-in-Text-clause-writes : goal.returns-in-Text-clause-writes
returns-in-Text-clause-writes g c = λ plain ok.
    subst (λ (p : Place). HasWritten {W = g.row.W.Denot} g.W.Write.write_str_gives c.args.f.now (text_of p) c.write.new.self)
    (sym c.in-Text.is) (c.write.ensures.writes plain ok)

pub returns-in-Root-clause-writes : goal.returns-in-Root-clause-writes
returns-in-Root-clause-writes g c = λ plain ok.
    let key = c.in-Key.key in
    let place = ap text_of c.in-Key.is ∙ ap (λ (p : Part). text_of_key p key) c.in-Root.is in
    let told = ap (λ (k : List ℕ). codes "key \"" ++ (k ++ codes "\"")) c.name-key.ensures ∙ sym place in
    subst (λ (t : List ℕ). HasWritten {W = g.row.W.Denot} g.W.Write.write_str_gives c.args.f.now t c.write-in-Root.new.self) told
    (c.write-in-Root.ensures.writes plain ok)

pub returns-in-Guest-clause-writes : goal.returns-in-Guest-clause-writes
returns-in-Guest-clause-writes g c = λ plain ok.
    let key = c.in-Key.key in
    let place = ap text_of c.in-Key.is ∙ ap (λ (p : Part). text_of_key p key) c.in-Guest.is in
    let told = ap (λ (k : List ℕ). codes "guest " ++ (decimal c.in-Guest.guest ++ (codes ", key \"" ++ (k ++ codes "\""))))
    c.name-key.ensures ∙ sym place in
    subst (λ (t : List ℕ). HasWritten {W = g.row.W.Denot} g.W.Write.write_str_gives c.args.f.now t c.write-in-Guest.new.self) told
    (c.write-in-Guest.ensures.writes plain ok)

pub returns-in-Command-clause-writes : goal.returns-in-Command-clause-writes
returns-in-Command-clause-writes g c = λ plain ok.
    let key = c.in-Key.key in
    let place = ap text_of c.in-Key.is ∙ ap (λ (p : Part). text_of_key p key) c.in-Command.is in
    let told = ap (λ (k : List ℕ). codes "command " ++ (decimal c.in-Command.command ++ (codes ", key \"" ++ (k ++ codes "\""))))
    c.name-key.ensures ∙ sym place in
    subst (λ (t : List ℕ). HasWritten {W = g.row.W.Denot} g.W.Write.write_str_gives c.args.f.now t c.write-in-Command.new.self) told
    (c.write-in-Command.ensures.writes plain ok)
