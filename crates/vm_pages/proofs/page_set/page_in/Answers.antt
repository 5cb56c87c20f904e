use Rattle.std.proofs.Common.{arith}
use Rattle.vm_pages.proofs.Listings.{kth_page}
use Rattle.vm_pages.proofs.WordLemmas.{length-marked, is_page}
use Rattle.vm_pages.proofs.page_set.page_in.Goals as goal

pub returns-clause-in_range : goal.returns-clause-in_range
returns-clause-in_range c =
    let ensures = c.nth_bit.ensures in
    (is_page _ _ _ _ _ c.requires.begins ensures.in_range (rw c.word_at.ensures at ensures.set) (rw c.word_at.ensures at ensures.before) c.requires.there).in_range

pub returns-clause-there : goal.returns-clause-there
returns-clause-there c =
    let ensures = c.nth_bit.ensures in
    (is_page _ _ _ _ _ c.requires.begins ensures.in_range (rw c.word_at.ensures at ensures.set) (rw c.word_at.ensures at ensures.before) c.requires.there).there

pub returns-clause-listed : goal.returns-clause-listed
returns-clause-listed c =
    let ensures = c.nth_bit.ensures in
    let page = is_page _ _ _ _ _ c.requires.begins ensures.in_range (rw c.word_at.ensures at ensures.set) (rw c.word_at.ensures at ensures.before) c.requires.there in
    kth_page _ _ _ (omega (arith, page.in_range, length-marked c.args.words.now c.args.pages)) page.there page.before
