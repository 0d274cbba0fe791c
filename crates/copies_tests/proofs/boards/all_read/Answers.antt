use Rattle.std.proofs.Common.{◌≡◌, All, ◌∙◌, subst, arith}
use Rattle.read_copies.specs.Boards.{BoardView}
use Rattle.read_copies.specs.Shown.{ToldView}
use Rattle.copies_tests.proofs.boards.all_read.Goals as goal

pub loop-preserved : goal.loop-preserved
loop-preserved g c =
    let now = c.one_reads.ensures in
    let before = c.loop.invariant in
    record {
      same = now.same ∙ before.same;
      left = subst (λ (b : BoardView). All (λ (r : ToldView). r.board ≡ b.table.board) c.one_reads.new.left.items) before.same now.left;
      back = subst (λ (b : BoardView). All (λ (r : ToldView). r.board ≡ b.table.board) c.one_reads.new.back.items) before.same now.back;
      count = omega (arith, now.count, before.count);
    }
