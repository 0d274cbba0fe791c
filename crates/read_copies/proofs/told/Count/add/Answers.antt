use Rattle.std.proofs.Common.{sym, ◌∙◌, ap, length, drop, subst}
use mathlib.Core.List.{IsPrefix}
use Rattle.logbook.specs.Pages.{Named}
use Rattle.claim_book.specs.Book.{BookView}
use Rattle.read_copies.specs.Shown.{ToldView, shown_history}
use Rattle.read_copies.proofs.Adding.{adds_moves, ask_length}
use Rattle.read_copies.proofs.told.Count.add.Goals as goal

pub compare_exchange-found-requires : goal.compare_exchange-found-requires
compare_exchange-found-requires c =
    let word = c.self.invariant in
    let again = c.again-seen.ensures in
    let offer = c.plain-offer.ensures in
    let pen = c.no_pen-pen.ensures in
    let board = ap (λ s. s.book) again ∙ (ap (λ (t : ToldView). t.board) c.told.view_is ∙ (c.requires.board ∙ sym c.self.view_is)) in
    let begins : IsPrefix (shown_history c.told.inside.seen.log) c.args.book.now.history = subst (λ (t : ToldView). IsPrefix t.history c.args.book.now.history) (sym c.told.view_is) c.requires.begins in (
      ap (λ (w : Named). w.tracked) word,
      board,
      pen.0 ∙ board,
      offer.0,
      rw (ap (λ (w : Named). w.key) word, pen.1, offer.1, offer.3, again) (
          adds_moves c.told.inside.seen.log (drop c.told.inside.entries c.of.result.value.history) c.told.inside.entries (length c.history.result.now) (sym c.told.invariant)
          (ask_length (shown_history c.told.inside.seen.log) c.args.book.now.history c.of.result.value.history c.history.result.now c.told.inside.entries begins (ap (λ (b : BookView). b.history) c.of.ensures) c.history.ensures.entries c.told.invariant)
          ),
    )
