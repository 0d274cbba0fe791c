use Rattle.std.proofs.Common.{◌≡◌, ◌≤◌, ℕ, List, length, sym, ◌∙◌, ap, subst, arith}
use Rattle.limited_book.specs.setoff_model.specs.declared.limits.TheConstants.{MOST_JOURNAL_BYTES}
use Rattle.claim_history.specs.Pools.{IsLegal}
use Rattle.claim_history.specs.PoolNeeds.{used_bytes_of}
use Rattle.claim_history.proofs.PoolRoom.{room_law}
use Rattle.limited_book.specs.claim_book.specs.Pools.{BooksView}
use Rattle.group_loader.specs.Loading.{Loads}
use Rattle.group_loader.proofs.Kept.{loads_started, moments_started}
use Rattle.group_loader.proofs.loader.Loader.new.Goals as goal

pub invariant_of-result : goal.invariant_of-result
invariant_of-result g c =
    let books = c.args.books in
    let known = ap (λ (b : BooksView). b.members) c.books.ensures.books in
    let all : c.len-members.result ≡ length books.members = c.len-members.ensures.len ∙ ap length known in
    let room = room_law books.members (subst IsLegal known c.len-members.ensures.legal) c.books.ensures.within in
    let near : used_bytes_of books.members ≤ MOST_JOURNAL_BYTES = omega (arith, room.bytes) in
    subst (λ (n : ℕ). Loads g.D.Disk.seen (record { journal = c.args.journal; books = books; group = c.new.result; kept = n })) (sym all)
    (subst (λ (l : List ℕ). Loads g.D.Disk.seen (record { journal = c.args.journal; books = books; group = l; kept = length books.members })) (sym c.new.ensures)
    (loads_started g.D.Disk.seen c.args.journal books c.requires.kept c.requires.place near c.requires.keepable))

pub returns-clause-begins : goal.returns-clause-begins
returns-clause-begins g c told = moments_started g.D.Disk.seen c.args.journal c.args.books c.requires.kept told
