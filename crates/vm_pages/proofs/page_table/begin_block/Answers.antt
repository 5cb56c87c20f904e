use Rattle.std.proofs.Common.{◌≡◌, ◌+◌, ◌-◌, ◌/◌, ◌++◌, ℕ, List, length, set, replicate, ap, ◌∙◌, arith}
use Rattle.std.proofs.lemmas.List.{length-append, length-replicate}
use Rattle.vm_pages.proofs.PlaceLemmas.{begins, begun, items_of-begun}
use Rattle.vm_pages.proofs.page_table.begin_block.Goals as goal

pub append-requires : goal.append-requires
append-requires g c =
    let begins = begins c.args.size c.args.blocks.now.items c.args.page (length c.args.items.now.items) c.min-pages.result c.requires.places c.requires.in_range c.requires.absent c.min-pages.ensures in
    omega (arith, begins.room, c.requires.room, c.args.items.now.ok.0)

pub overflow_cast-start : goal.overflow_cast-start
overflow_cast-start g c =
    let begins = begins c.args.size c.args.blocks.now.items c.args.page (length c.args.items.now.items) c.min-pages.result c.requires.places c.requires.in_range c.requires.absent c.min-pages.ensures in
    omega (arith, begins.room, c.len-start.ensures, c.args.items.now.ok.0, c.requires.places.few)

pub overflow_add-start : goal.overflow_add-start
overflow_add-start g c =
    let begins = begins c.args.size c.args.blocks.now.items c.args.page (length c.args.items.now.items) c.min-pages.result c.requires.places c.requires.in_range c.requires.absent c.min-pages.ensures in
    omega (arith, begins.room, c.len-start.ensures, c.args.items.now.ok.0, c.requires.places.few)

pub returns-clause-places : goal.returns-clause-places
returns-clause-places g c =
    let blocks = c.args.blocks.now.items in
    let items = c.args.items.now.items in
    let block = c.args.page / 256 in
    let start : c.len-start.result ≡ length items = c.len-start.ensures ∙ c.args.items.now.ok.0 in
    let reached : c.reach.new.blocks.items ≡ blocks ++ replicate (block + 1 - length blocks) 0 =
    c.reach.ensures.blocks ∙ ap (λ n. blocks ++ replicate (block + 1 - n) 0) c.args.blocks.now.ok.0 in
    let is : set c.reach.new.blocks.items block (c.len-start.result + 1) ≡ begun blocks block (length items) =
    ap (λ (list : List ℕ). set list block (c.len-start.result + 1)) reached
    ∙ ap (λ n. set (blocks ++ replicate (block + 1 - length blocks) 0) block n) (omega (arith, start)) in
    let begins = begins c.args.size blocks c.args.page (length items) c.min-pages.result c.requires.places c.requires.in_range c.requires.absent c.min-pages.ensures in
    let long : length c.append.new.items.items ≡ length items + c.min-pages.result =
    ap length c.append.ensures.items ∙ length-append items (replicate c.min-pages.result c.args.first) ∙ ap (λ n. length items + n) (length-replicate c.min-pages.result c.args.first) in
    rw (is, long) begins.places

pub returns-clause-there : goal.returns-clause-there
returns-clause-there g c =
    let blocks = c.args.blocks.now.items in
    let items = c.args.items.now.items in
    let block = c.args.page / 256 in
    let start : c.len-start.result ≡ length items = c.len-start.ensures ∙ c.args.items.now.ok.0 in
    let reached : c.reach.new.blocks.items ≡ blocks ++ replicate (block + 1 - length blocks) 0 =
    c.reach.ensures.blocks ∙ ap (λ n. blocks ++ replicate (block + 1 - n) 0) c.args.blocks.now.ok.0 in
    let is : set c.reach.new.blocks.items block (c.len-start.result + 1) ≡ begun blocks block (length items) =
    ap (λ (list : List ℕ). set list block (c.len-start.result + 1)) reached
    ∙ ap (λ n. set (blocks ++ replicate (block + 1 - length blocks) 0) block n) (omega (arith, start)) in
    let begins = begins c.args.size blocks c.args.page (length items) c.min-pages.result c.requires.places c.requires.in_range c.requires.absent c.min-pages.ensures in
    rw is (rw start begins.there)

pub returns-clause-same : goal.returns-clause-same
returns-clause-same g c =
    let blocks = c.args.blocks.now.items in
    let items = c.args.items.now.items in
    let block = c.args.page / 256 in
    let start : c.len-start.result ≡ length items = c.len-start.ensures ∙ c.args.items.now.ok.0 in
    let reached : c.reach.new.blocks.items ≡ blocks ++ replicate (block + 1 - length blocks) 0 =
    c.reach.ensures.blocks ∙ ap (λ n. blocks ++ replicate (block + 1 - n) 0) c.args.blocks.now.ok.0 in
    let is : set c.reach.new.blocks.items block (c.len-start.result + 1) ≡ begun blocks block (length items) =
    ap (λ (list : List ℕ). set list block (c.len-start.result + 1)) reached
    ∙ ap (λ n. set (blocks ++ replicate (block + 1 - length blocks) 0) block n) (omega (arith, start)) in
    rw (is, c.append.ensures.items) (items_of-begun c.args.size c.args.first blocks items c.args.page c.min-pages.result c.requires.places c.requires.absent)
