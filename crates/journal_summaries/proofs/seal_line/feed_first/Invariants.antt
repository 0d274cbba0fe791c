use Rattle.std.proofs.Common.{◌≡◌, ◌≤◌, ◌*◌, ◌^◌, [], length, take}
use Rattle.sha2.specs.Hashers.{Holds256}
use Rattle.journal_summaries.specs.Seal.{records_of}
use Rattle.journal_summaries.proofs.seal_line.feed_first.Given as goal

-- the records so far were fed and counted
abbrev pub invariant-loop-place : goal.invariant-loop-place
invariant-loop-place l = record {
  fed : Holds256 l.fn.hasher [] → Holds256 l.hasher (records_of (take l.place l.books.members));
  bytes : l.bytes ≡ length (records_of (take l.place l.books.members));
  few : l.bytes ≤ l.place * 2 ^ 33;
}
