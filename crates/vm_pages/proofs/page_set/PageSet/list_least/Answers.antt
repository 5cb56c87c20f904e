use Rattle.std.proofs.Common.{◌<◌, length}
use Rattle.std.proofs.lemmas.List.Elements.{All-take}
use Rattle.vm_pages.proofs.Listings.{All-members}
use Rattle.vm_pages.proofs.page_set.PageSet.list_least.Goals as goal

pub returns-clause-in_range : goal.returns-clause-in_range
returns-clause-in_range c =
    rw (c.list_least_of.ensures.listed, c.deref-2.ensures.value, c.self.view_is) (All-take (λ page. page < length c.args.self.now) c.args.most _ (All-members c.args.self.now))
