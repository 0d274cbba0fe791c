use Rattle.std.proofs.Common.{ap}
use Rattle.bureau_edge.specs.BytesSource.{SourceState}
use Rattle.bureau_edge.proofs.Counted.{counted_ok, counted_err}
use Rattle.bureau_edge.proofs.bytes_source.BytesSourceSource.read.Goals as goal

pub returns-then-contains-clause-cause : goal.returns-then-contains-clause-cause
returns-then-contains-clause-cause c =
    let next = c.next_count-self-inside-then-contains.ensures in
    counted_err (ap (λ (s : SourceState). s.faults) c.self.view_is) next.later next.rose

pub returns-clause-cause : goal.returns-clause-cause
returns-clause-cause c = rw c.read.ensures.sure (counted_ok (ap (λ (s : SourceState). s.faults) c.self.view_is))
