use Rattle.std.proofs.Common.{◌≡◌}
use Rattle.copies_tests.proofs.threads.reads_rise.Given as goal

abbrev pub invariant-loop : goal.invariant-loop
invariant-loop g l = l.reader.board ≡ l.initial.reader.board
