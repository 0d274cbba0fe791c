-- What a batch does to a desk.
use Rattle.std.specs.Prelude.{◌≡◌, List, [], ◌++◌, length, Option, MatchOption, IsTrue}
use Rattle.shared_bureau.specs.disk_model.specs.Calls.{Seen, GoesOn}
use Rattle.shared_bureau.specs.claim_history.specs.declared.call.PoolEntry.{PoolEntry}
use Rattle.shared_bureau.specs.claim_history.specs.PoolRounds.{cuts_after}
use Rattle.served_lines.specs.request_text.specs.declared.request.Request.{Request}
use Rattle.shared_bureau.specs.recorded_book.specs.Moments.{HeldSince}
use Rattle.shared_bureau.specs.bureau_desk.specs.Desks.{DeskView, KeepsDesk, base_cleared, base_of}
use Rattle.served_lines.specs.declared.answer.Answer.{Answer}
use Rattle.served_lines.specs.Served.{IsServed}

-- The history is the old one and then what the lanes added; without answers nothing was added. The rounds are those that were
-- published since. The base is the old one, cleared when the batch began. The desk keeps what a desk keeps, on a disk that tells
-- its bytes as before: the images of passed moments stay, and each image since the batch began holds all that was accepted before
-- it.
pub record HasRunBatch {D : Type 0} (seen : D → Seen) (old new : DeskView D) (batch : List Request)
    (answers : Option (List Answer)) : Type 0 where
  pub added : List PoolEntry
  pub history : new.history ≡ old.history ++ added
  pub served : MatchOption answers (added ≡ []) (λ list. IsServed batch list old.history added)
  pub rounds : new.rounds ≡ cuts_after (length old.history) new.history
  pub base : base_of new ≡ base_cleared old
  pub keeps : KeepsDesk seen new
  pub same : (seen new.disk).tells ≡ (seen old.disk).tells
  pub stays : IsTrue (seen old.disk).tells → GoesOn (seen old.disk) (seen new.disk)
  pub held : IsTrue (seen old.disk).tells → HeldSince (seen old.disk).moment (length old.history) (seen new.disk) new.history
