use Rattle.std.specs.Prelude.{sum_by}
use Rattle.std.proofs.Common.{◌≡◌, ◌≤◌, take}
use Rattle.printed_text.specs.Printing.{rounds_in}
use Rattle.journal_summaries.proofs.pool_list.publications.Given as goal

abbrev pub invariant-loop-i : goal.invariant-loop-i
invariant-loop-i l = record {
  sum : l.sum ≡ sum_by (λ e. rounds_in e.reply) (take l.i l.entries);
  few : l.sum ≤ l.i;
}
