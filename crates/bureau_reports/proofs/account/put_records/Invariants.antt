use Rattle.std.proofs.Common.{◌≡◌, ℕ, List, [], ◌++◌}
use Rattle.std.specs.Vec.Iter.{into_iter_items}
use Rattle.journal_texts.specs.bureau_desk.specs.journal_replay.specs.Replays.{AreSound, history_of}
use Rattle.journal_summaries.specs.Replay.{IsRegister}
use Rattle.bureau_reports.proofs.account.put_records.Given as goal

-- the records so far are in the books, and their rows in the register
abbrev pub invariant-loop-kept : goal.invariant-loop-kept
invariant-loop-kept l = record {
  parts : l.yielded ++ into_iter_items l.kept-iterator ≡ l.fn.records.items;
  history : l.books.members ≡ history_of l.yielded;
  sound : AreSound l.yielded;
  rows : (pool firm : List ℕ) → IsRegister pool firm [] l.fn.register → IsRegister pool firm l.books.members l.register;
}
