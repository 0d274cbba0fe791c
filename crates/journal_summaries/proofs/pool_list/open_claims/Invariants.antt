use Rattle.std.specs.Prelude.{count_by}
use Rattle.std.proofs.Common.{◌≡◌, ◌≤◌, take}
use Rattle.printed_text.specs.firm_notices.specs.Notices.{is_open}
use Rattle.journal_summaries.proofs.pool_list.open_claims.Given as goal

abbrev pub invariant-loop-i : goal.invariant-loop-i
invariant-loop-i l = record {
  sum : l.sum ≡ count_by is_open (take l.i l.claims);
  few : l.sum ≤ l.i;
}
