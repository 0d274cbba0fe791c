use Rattle.std.proofs.Common.{◌≡◌}
use Rattle.copies_tests.proofs.boards.show_a_thousand.Given as goal

abbrev pub invariant-loop : goal.invariant-loop
invariant-loop g l = record {
  same : l.board.table.history ≡ l.book.history;
  board : l.board.table.board ≡ l.fn.board.table.board;
  readers : l.board.readers ≡ l.fn.board.readers;
}
