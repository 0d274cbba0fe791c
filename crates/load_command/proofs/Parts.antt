-- A load that is begun with the parts of a desk.
use Rattle.std.specs.Prelude.{IsTrue}
use Rattle.std.proofs.Common.{◌≡◌, ◌∙◌, ℕ, [], length, sym, ap, subst}
use Rattle.disk_model.specs.Calls.{Seen}
use Rattle.journal_texts.specs.bureau_desk.specs.claim_history.specs.Pools.{accepted_calls}
use Rattle.journal_texts.specs.bureau_desk.specs.limited_book.specs.claim_book.specs.Pools.{BooksView}
use Rattle.journal_texts.specs.bureau_desk.specs.round_journal.specs.Kept.{JournalView}
use Rattle.journal_texts.specs.bureau_desk.specs.Desks.{DeskView, KeepsDesk}
use Rattle.journal_texts.specs.bureau_desk.specs.Opening.{IsDeskOpen}
use Rattle.group_runs.specs.group_loader.specs.Groups.{HasGroupMoments}
use Rattle.group_runs.specs.group_loader.specs.Loading.{LoadView}
use Rattle.group_runs.specs.Runs.{KeepsHistory}
use Rattle.load_command.specs.Due.{IsLoadBegun}

module _ {D : Type 0} (seen : D → Seen) (old : D) (desk : DeskView D) (from : ℕ) (l : LoadView D) (journal : JournalView D) (books : BooksView) where
  abbrev Begins : D → BooksView → Type 0
  Begins d b = IsTrue (seen d).tells → HasGroupMoments (seen d) (seen d).moment (accepted_calls b.members) [] []

  pub opened_so : IsDeskOpen seen old desk → from ≡ desk.opened_with → l.journal ≡ journal → l.books ≡ books → (l.kept ≡ length books.members) × (l.group ≡ []) → journal.disk ≡ desk.disk → books.members ≡ desk.history
      → KeepsDesk seen desk → Begins journal.disk books → IsLoadBegun seen old l from
  opened_so opening from_is j b all disk history keeps begins =
      let same : l.books.members ≡ desk.history = ap (λ (x : BooksView). x.members) b ∙ history in
      record {
        desk = desk;
        opening = opening;
        from_is = from_is;
        history = same;
        disk = ap (λ (x : JournalView D). x.disk) j ∙ disk;
        all = record { all = all.0 ∙ ap (λ (x : BooksView). length x.members) (sym b); empty = all.1 };
        keeps = subst KeepsHistory (sym same) (record { legal = keeps.legal; within = keeps.within; valid = keeps.valid; keepable = keeps.keepable });
        begins = subst (λ (d : D). Begins d l.books) (sym (ap (λ (x : JournalView D). x.disk) j)) (subst (Begins journal.disk) (sym b) begins);
      }
