use Rattle.std.proofs.Common.{◌≡◌, true, All, sym, subst}
use Rattle.recorded_book.specs.claim_history.specs.History.{is_accepted}
use Rattle.recorded_book.specs.Acting.{RecordedView}
use Rattle.bureau_desk.specs.Desks.{DeskView}
use Rattle.bureau_desk.proofs.desk.Desk.into_parts.Goals as goal

pub into_parts-requires : goal.into_parts-requires
into_parts-requires g c =
    subst (λ (b : RecordedView g.row.D.Denot). All (λ m. is_accepted m.entry ≡ true) b.books.members) (sym c.into_inner.ensures)
    (subst (λ (d : DeskView g.row.D.Denot). All (λ m. is_accepted m.entry ≡ true) d.history) (sym c.self.view_is) c.requires)
