use Rattle.std.proofs.Common.{◌≡◌, ◌≤◌, length, take}
use Rattle.claim_history.specs.Pools.{entries_in}
use Rattle.history_text.proofs.since.entries_among.Given as goal

abbrev pub invariant-loop-place : goal.invariant-loop-place
invariant-loop-place l = record {
  counted : l.count ≡ length (entries_in l.pool (take l.place l.books.members));
  few : l.count ≤ l.place;
}
