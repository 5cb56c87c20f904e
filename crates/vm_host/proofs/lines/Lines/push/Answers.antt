use Rattle.std.proofs.Common.{◌≡◌, ◌∙◌, ℕ, List, [], ◌∷◌, ◌++◌, ap, map, rules, string_bytes}
use Rattle.vm_reclaim.proofs.DropLemmas.{map_push}
use Rattle.vm_host.proofs.lines.Lines.push.Goals as goal

-- the texts of lines with one more
pushed-as : {A : Type 0} (text : A → List ℕ) (old new : List A) (x : A) (before : List (List ℕ)) (line : List ℕ) → new ≡ old ++ x ∷ [] → map text old ≡ before → text x ≡ line
    → map text new ≡ before ++ line ∷ []
pushed-as text old new x before line pushed is same = ap (λ l. map text l) pushed ∙ (map_push text old x ∙ (λ i. is i ++ same i ∷ []))

pub returns-clause-ok : goal.returns-clause-ok
returns-clause-ok c = pushed-as string_bytes c.self.inside.lines.items _ c.in_ok-line.line c.args.self.now c.args.line.now (search rules) c.self.view_is c.in_ok-line.ensures.ok
