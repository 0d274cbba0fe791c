use Rattle.std.proofs.Common.{◌≡◌, List, [], ◌∷◌, ◌++◌, drop, fold, sym, ◌∙◌, ap, subst}
use Rattle.left_right.specs.Sides.{view}
use Rattle.read_copies.specs.declared.table.Showing.{Showing}
use Rattle.read_copies.specs.Tables.{TableView, IsShown, brought_up}
use Rattle.read_copies.proofs.Ruled.{shows}
use Rattle.read_copies.proofs.board.try_publish.Goals as goal

pub publish_as-writer-requires : goal.publish_as-writer-requires
publish_as-writer-requires g c next is =
    let w = c.append.new.self in
    let old = c.args.writer.desk.shown.value in
    let left : drop w.behind w.log.items ≡ c.args.showing ∷ [] =
    c.in-Ok.ensures.pending ∙ ap (λ (l : List Showing). l ++ c.args.showing ∷ []) c.requires.settled in
    let shown : w.desk.shown.value ≡ old = ap (λ d. d.shown.value) c.append.ensures.desk in
    let after : next ≡ brought_up old c.args.showing = is ∙ (ap (fold brought_up w.desk.shown.value) left ∙ ap (λ (t : TableView). brought_up t c.args.showing) shown) in
    shows w.desk.place.id (view w.desk.place) w.desk.shown.value next
    (ap (λ (t : TableView). t.board) after ∙ (c.requires.board ∙ sym (ap (λ (t : TableView). t.board) shown)))
    (subst IsShown (sym after) c.requires.shown)
