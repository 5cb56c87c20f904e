use Rattle.vm_sound.proofs.BooksLemmas.{books-all_granted, books-all_revoked, books-all_taken, books-epoch, books-granted, books-orders, books-released, books-released_at, books-revoked, books-serviced, books-spares, books-started, books-stopped, books-taken, books-with_cap, books-with_min, books-with_shares}
use Rattle.vm_sound.proofs.law.law_books.Goals as goal

pub returns-clause-serviced : goal.returns-clause-serviced
returns-clause-serviced c = books-serviced

pub returns-clause-spares : goal.returns-clause-spares
returns-clause-spares c = books-spares

pub returns-clause-orders : goal.returns-clause-orders
returns-clause-orders c = books-orders

pub returns-clause-epoch : goal.returns-clause-epoch
returns-clause-epoch c = books-epoch

pub returns-clause-released : goal.returns-clause-released
returns-clause-released c = books-released

pub returns-clause-released_at : goal.returns-clause-released_at
returns-clause-released_at c = books-released_at

pub returns-clause-revoked : goal.returns-clause-revoked
returns-clause-revoked c = books-revoked

pub returns-clause-taken : goal.returns-clause-taken
returns-clause-taken c = books-taken

pub returns-clause-granted : goal.returns-clause-granted
returns-clause-granted c = books-granted

pub returns-clause-with_cap : goal.returns-clause-with_cap
returns-clause-with_cap c = books-with_cap

pub returns-clause-with_shares : goal.returns-clause-with_shares
returns-clause-with_shares c = books-with_shares

pub returns-clause-all_revoked : goal.returns-clause-all_revoked
returns-clause-all_revoked c = books-all_revoked

pub returns-clause-all_taken : goal.returns-clause-all_taken
returns-clause-all_taken c = books-all_taken

pub returns-clause-all_granted : goal.returns-clause-all_granted
returns-clause-all_granted c = books-all_granted

pub returns-clause-started : goal.returns-clause-started
returns-clause-started c = books-started

pub returns-clause-stopped : goal.returns-clause-stopped
returns-clause-stopped c = books-stopped

pub returns-clause-with_min : goal.returns-clause-with_min
returns-clause-with_min c = books-with_min
