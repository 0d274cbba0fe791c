use Rattle.std.proofs.Common.{◌≡◌, ◌∙◌, List, ap, subst}
use Rattle.weighed_round.specs.claim_history.specs.declared.call.PoolEntry.{PoolEntry}
use Rattle.weighed_round.specs.claim_history.specs.Pools.{answered, due_reply}
use Rattle.journal_texts.specs.bureau_desk.specs.limited_book.specs.claim_book.specs.Pools.{BooksView}
use Rattle.journal_texts.specs.bureau_desk.specs.journal_replay.specs.Replays.{recorded_call}
use Rattle.journal_summaries.specs.Replay.{IsRegister}
use Rattle.bureau_reports.proofs.account.put_record.Goals as goal

pub returns-clause-rows : goal.returns-clause-rows
returns-clause-rows c = λ pool firm is.
    let before = c.args.books.now.members in
    let call = recorded_call c.args.kept in
    let same : c.books.result.now.members ≡ c.replay_next.new.books.members = ap (λ (b : BooksView). b.members) c.books.ensures.books in
    subst (λ (ms : List PoolEntry). IsRegister pool firm ms c.put_last.new.self) same
    (c.in_ok-put_last.ensures pool firm before (answered call (due_reply before call)) (same ∙ c.in_ok-cut.ensures.done.history) is)
