use Rattle.std.proofs.Common.{◌≡◌}
use Rattle.copies_tests.proofs.threads.show_each.Given as goal

abbrev pub invariant-loop-act : goal.invariant-loop-act
invariant-loop-act g l = record {
  same : l.board.table.history ≡ l.book.history;
  board : l.board.table.board ≡ l.fn.board.table.board;
  readers : l.board.readers ≡ l.fn.board.readers;
}
