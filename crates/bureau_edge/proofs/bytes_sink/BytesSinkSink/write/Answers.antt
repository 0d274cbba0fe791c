use Rattle.std.proofs.Common.{ap}
use Rattle.bureau_edge.specs.BytesSink.{SinkState}
use Rattle.bureau_edge.proofs.Counted.{sink_ok, sink_err}
use Rattle.bureau_edge.proofs.bytes_sink.BytesSinkSink.write.Goals as goal

pub returns-then-contains-clause-cause : goal.returns-then-contains-clause-cause
returns-then-contains-clause-cause c =
    let next = c.next_count-self-inside-then-contains.ensures in
    sink_err (ap (λ (s : SinkState). s.faults) c.self.view_is) next.later next.rose

pub returns-in-Err-clause-cause : goal.returns-in-Err-clause-cause
returns-in-Err-clause-cause c =
    let next = c.next_count-self-inside-in-Err-2.ensures in
    sink_err (ap (λ (s : SinkState). s.faults) c.self.view_is) next.later next.rose

pub returns-in-Ok-clause-cause : goal.returns-in-Ok-clause-cause
returns-in-Ok-clause-cause c = sink_ok (ap (λ (s : SinkState). s.faults) c.self.view_is)
