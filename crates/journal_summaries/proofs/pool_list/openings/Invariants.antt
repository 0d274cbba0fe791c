use Rattle.std.specs.Prelude.{count_by}
use Rattle.std.proofs.Common.{◌≡◌, ◌≤◌, take}
use Rattle.printed_text.specs.claim_history.specs.History.{is_opening}
use Rattle.journal_summaries.proofs.pool_list.openings.Given as goal

abbrev pub invariant-loop-i : goal.invariant-loop-i
invariant-loop-i l = record {
  sum : l.sum ≡ count_by (λ e. is_opening e.reply) (take l.i l.entries);
  few : l.sum ≤ l.i;
}
