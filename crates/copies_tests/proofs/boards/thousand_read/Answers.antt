use Rattle.std.proofs.Common.{◌≡◌, All, sym, subst}
use Rattle.read_copies.specs.Shown.{ToldView}
use Rattle.copies_tests.proofs.boards.thousand_read.Goals as goal

pub one_sees-requires-clause-left : goal.one_sees-requires-clause-left
one_sees-requires-clause-left g c =
    subst (λ b. All (λ (r : ToldView). r.board ≡ b) c.args.left.now.items) (sym c.show_a_thousand.ensures.board) c.requires.left
