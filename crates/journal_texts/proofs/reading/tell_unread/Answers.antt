use Rattle.std.proofs.Common.{subst, sym}
use Rattle.bureau_edge.specs.declared.whole.ReadEnd.{ReadEnd}
use Rattle.journal_texts.specs.Calls.{IsToldUnread}
use Rattle.journal_texts.proofs.reading.tell_unread.Goals as goal

pub returns-in-Memory-clause-written : goal.returns-in-Memory-clause-written
returns-in-Memory-clause-written g c =
    subst (λ (e : ReadEnd). IsToldUnread e (g.K.Sink.held c.args.sink.now) (g.K.Sink.held c.tell_no_memory.new.sink) c.tell_no_memory.result) (sym c.in-Memory.is) c.tell_no_memory.ensures.written

pub returns-in-Memory-clause-write_fault : goal.returns-in-Memory-clause-write_fault
returns-in-Memory-clause-write_fault g c = c.tell_no_memory.ensures.failed

pub returns-in-Failed-clause-written : goal.returns-in-Failed-clause-written
returns-in-Failed-clause-written g c =
    subst (λ (e : ReadEnd). IsToldUnread e (g.K.Sink.held c.args.sink.now) (g.K.Sink.held c.tell_read_fault.new.sink) c.tell_read_fault.result) (sym c.in-Failed.is) c.tell_read_fault.ensures.written

pub returns-in-Failed-clause-write_fault : goal.returns-in-Failed-clause-write_fault
returns-in-Failed-clause-write_fault g c = c.tell_read_fault.ensures.failed

pub returns-in-TooLong-clause-written : goal.returns-in-TooLong-clause-written
returns-in-TooLong-clause-written g c =
    subst (λ (e : ReadEnd). IsToldUnread e (g.K.Sink.held c.args.sink.now) (g.K.Sink.held c.tell_too_long.new.sink) c.tell_too_long.result) (sym c.in-TooLong.is) c.tell_too_long.ensures.written

pub returns-in-TooLong-clause-write_fault : goal.returns-in-TooLong-clause-write_fault
returns-in-TooLong-clause-write_fault g c = c.tell_too_long.ensures.failed
