use Rattle.std.proofs.Common.{◌≡◌, length, All}
use Rattle.read_copies.specs.Shown.{ToldView}
use Rattle.copies_tests.proofs.boards.all_read.Given as goal

abbrev pub invariant-loop : goal.invariant-loop
invariant-loop g l = record {
  same : l.board ≡ l.fn.board;
  left : All (λ (r : ToldView). r.board ≡ l.fn.board.table.board) l.left.items;
  back : All (λ (r : ToldView). r.board ≡ l.fn.board.table.board) l.back.items;
  count : length l.back.items ≡ l.counter;
}
