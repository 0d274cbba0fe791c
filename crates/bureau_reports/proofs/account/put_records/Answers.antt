use Rattle.std.proofs.Common.{◌≡◌, ◌∷◌, [], ◌++◌, List, sym, subst, ◌∙◌, append_assoc}
use Rattle.std.specs.Vec.Iter.{into_iter_items}
use Rattle.std.proofs.lemmas.Result.{err_from_is_err_and}
use Rattle.journal_texts.specs.bureau_desk.specs.round_journal.specs.declared.record.Record.{Record}
use Rattle.journal_texts.specs.bureau_desk.specs.journal_replay.proofs.Replays.{replayed_more, stopped_at}
use Rattle.bureau_reports.proofs.account.put_records.Goals as goal

pub returns-in_err-put_record-clause-stopped : goal.returns-in_err-put_record-clause-stopped
returns-in_err-put_record-clause-stopped c =
    let at = c.loop-kept in
    let r = c.in-Some.kept in
    let parts : at.yielded ++ r ∷ into_iter_items c.next.new.self ≡ c.args.records.items =
    subst (λ (rs : List Record). at.yielded ++ rs ≡ c.args.records.items) c.in-Some.ensures.steps.0 at.invariant.parts in
    let end = stopped_at c.args.records.items at.yielded (into_iter_items c.next.new.self) r at.books.members c.in_err-put_record.field-0.0 (sym parts) at.invariant.history at.invariant.sound c.in_err-put_record.ensures.stopped in
    let p = err_from_is_err_and c.from_residual.result c.from_residual.ensures.1 in
    rw (p.1, p.2) end

pub loop-kept-preserved : goal.loop-kept-preserved
loop-kept-preserved c =
    let at = c.loop-kept in
    let r = c.in-Some.kept in
    let parts : at.yielded ++ r ∷ into_iter_items c.next.new.self ≡ c.args.records.items =
    subst (λ (rs : List Record). at.yielded ++ rs ≡ c.args.records.items) c.in-Some.ensures.steps.0 at.invariant.parts in
    let more = replayed_more at.yielded r at.books.members c.put_record.new.books.members at.invariant.history at.invariant.sound c.in_ok-put_record.ensures.done in
    record {
      parts = append_assoc at.yielded (r ∷ []) (into_iter_items c.next.new.self) ∙ parts;
      history = more.0;
      sound = more.1;
      rows = λ pool firm start. c.in_ok-put_record.ensures.rows pool firm (at.invariant.rows pool firm start);
    }
