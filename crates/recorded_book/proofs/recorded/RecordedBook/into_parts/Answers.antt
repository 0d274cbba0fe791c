use Rattle.std.proofs.Common.{◌≡◌, true, [], All, IsTrue, sym, subst}
use Rattle.limited_book.specs.claim_history.specs.History.{is_accepted}
use Rattle.limited_book.specs.claim_history.specs.Pools.{accepted_calls}
use Rattle.round_journal.specs.Bytes.{Header}
use Rattle.round_journal.specs.Kept.{JournalView, IsKept}
use Rattle.recorded_book.specs.Acting.{RecordedView}
use Rattle.recorded_book.specs.Calls.{bodies_of_calls}
use Rattle.recorded_book.proofs.Parted.{kept_alone}
use Rattle.recorded_book.proofs.recorded.RecordedBook.into_parts.Goals as goal

pub returns-clause-kept : goal.returns-clause-kept
returns-clause-kept g c =
    let history = c.self.inside.books.members in
    let all : All (λ m. is_accepted m.entry ≡ true) history =
    subst (λ (s : RecordedView g.row.D.Denot). All (λ m. is_accepted m.entry ≡ true) s.books.members) (sym c.self.view_is) c.requires in
    subst (λ (j : JournalView g.row.D.Denot). IsTrue (g.D.Disk.seen j.disk).tells → (h : Header) × IsKept g.D.Disk.seen j h (bodies_of_calls (accepted_calls history)) []) (sym c.into_journal.ensures)
    (kept_alone g.D.Disk.seen c.self.inside.recorder history c.self.invariant all)
