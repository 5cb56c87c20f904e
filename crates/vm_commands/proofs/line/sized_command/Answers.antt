use Rattle.std.proofs.Common.{◌≡◌, ℕ, true, List, codes, refl, sym, ◌∙◌}
use Rattle.vm_commands.specs.Lines.{is_domain, set_memory, sized_command}
use Rattle.vm_commands.proofs.line.sized_command.Goals as goal

of_memory : (page : ℕ) (a b : List ℕ) → is_domain a ≡ true → sized_command page (codes "setmem") a b ≡ set_memory page a b
unfolding sized_command
of_memory page a b domain = rw domain refl

pub returns-in-setmem : goal.returns-in-setmem
returns-in-setmem c =
    let domain = sym c.is_domain-2.ensures ∙ c.if-not-is_domain.false in
    rw (c.in-setmem.is, of_memory c.args.page c.args.a.now c.args.b.now domain) assumption
