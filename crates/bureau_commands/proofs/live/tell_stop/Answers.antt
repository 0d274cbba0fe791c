use Rattle.std.proofs.Common.{refl, subst, sym}
use Rattle.bureau_edge.proofs.Known.{Appends-none}
use Rattle.live_runs.specs.printed_text.specs.Writing.{IsWritten, whole}
use Rattle.live_runs.specs.live_reading.specs.declared.stop.Stop.{Stop}
use Rattle.bureau_commands.specs.Due.{stop_status, stop_text}
use Rattle.live_runs.specs.printed_text.proofs.Statuses.{none_told}
use Rattle.bureau_commands.proofs.live.tell_stop.Goals as goal

-- ---- no fault

pub returns-in-Fence-clause-written : goal.returns-in-Fence-clause-written
returns-in-Fence-clause-written g c =
    subst (λ (s : Stop). IsWritten (g.K.Sink.held c.args.sink.now) (g.K.Sink.held c.args.sink.now) (stop_status s c.args.due) (stop_text s) c.args.due) (sym c.in-Fence.is) (whole (Appends-none (g.K.Sink.held c.args.sink.now)))

pub returns-in-Fence-clause-write_fault : goal.returns-in-Fence-clause-write_fault
returns-in-Fence-clause-write_fault g c = none_told _ _ _ refl c.requires.due

pub returns-in-End-clause-written : goal.returns-in-End-clause-written
returns-in-End-clause-written g c =
    subst (λ (s : Stop). IsWritten (g.K.Sink.held c.args.sink.now) (g.K.Sink.held c.args.sink.now) (stop_status s c.args.due) (stop_text s) c.args.due) (sym c.in-End.is) (whole (Appends-none (g.K.Sink.held c.args.sink.now)))

pub returns-in-End-clause-write_fault : goal.returns-in-End-clause-write_fault
returns-in-End-clause-write_fault g c = none_told _ _ _ refl c.requires.due

-- ---- a fault

pub tell_line-requires-clause-empty : goal.tell_line-requires-clause-empty
tell_line-requires-clause-empty g c = c.requires.empty

pub tell_line-requires-clause-spare : goal.tell_line-requires-clause-spare
tell_line-requires-clause-spare g c = c.requires.spare

pub returns-in-BadLine-clause-written : goal.returns-in-BadLine-clause-written
returns-in-BadLine-clause-written g c =
    subst (λ (s : Stop). IsWritten (g.K.Sink.held c.args.sink.now) (g.K.Sink.held c.tell_line.new.sink) (stop_status s c.args.due) (stop_text s) c.tell_line.result) (sym c.in-BadLine.is) c.tell_line.ensures.written

pub returns-in-BadLine-clause-write_fault : goal.returns-in-BadLine-clause-write_fault
returns-in-BadLine-clause-write_fault g c = c.tell_line.ensures.write_fault

pub returns-in-Failed-clause-written : goal.returns-in-Failed-clause-written
returns-in-Failed-clause-written g c =
    subst (λ (s : Stop). IsWritten (g.K.Sink.held c.args.sink.now) (g.K.Sink.held c.tell_read_fault.new.sink) (stop_status s c.args.due) (stop_text s) c.tell_read_fault.result) (sym c.in-Failed.is) c.tell_read_fault.ensures.written

pub returns-in-Failed-clause-write_fault : goal.returns-in-Failed-clause-write_fault
returns-in-Failed-clause-write_fault g c = c.tell_read_fault.ensures.failed

pub returns-in-TooLong-clause-written : goal.returns-in-TooLong-clause-written
returns-in-TooLong-clause-written g c =
    subst (λ (s : Stop). IsWritten (g.K.Sink.held c.args.sink.now) (g.K.Sink.held c.tell_too_long.new.sink) (stop_status s c.args.due) (stop_text s) c.tell_too_long.result) (sym c.in-TooLong.is) c.tell_too_long.ensures.written

pub returns-in-TooLong-clause-write_fault : goal.returns-in-TooLong-clause-write_fault
returns-in-TooLong-clause-write_fault g c = c.tell_too_long.ensures.failed

pub returns-in-Memory-clause-written : goal.returns-in-Memory-clause-written
returns-in-Memory-clause-written g c =
    subst (λ (s : Stop). IsWritten (g.K.Sink.held c.args.sink.now) (g.K.Sink.held c.tell_no_memory.new.sink) (stop_status s c.args.due) (stop_text s) c.tell_no_memory.result) (sym c.in-Memory.is) c.tell_no_memory.ensures.written

pub returns-in-Memory-clause-write_fault : goal.returns-in-Memory-clause-write_fault
returns-in-Memory-clause-write_fault g c = c.tell_no_memory.ensures.failed
