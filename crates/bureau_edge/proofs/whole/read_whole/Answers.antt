use Rattle.std.proofs.Common.{◌≡◌, ◌+◌, ◌≤◌, ◌++◌, length, take, arith, length-append, length-take}
use Rattle.std.proofs.lemmas.Result.{err_from_is_err_and}
use Rattle.bureau_edge.proofs.Known.{Consumes-then}
use Rattle.bureau_edge.proofs.whole.read_whole.Goals as goal

pub returns-then-count-room-clause-end : goal.returns-then-count-room-clause-end
returns-then-count-room-clause-end g c =
    let front = c.loop-bytes.bytes.items in
    let piece = take c.in_ok-count.count c.read.new.into in
    let more : length (front ++ piece) ≡ c.args.limit + 1 = omega (arith, length-append front piece, length-take c.in_ok-count.count c.read.new.into, length-take (c.min.result + 1) c.loop-bytes.piece, c.in_ok-count.ensures.bound) in (
      front ++ piece,
      Consumes-then (g.S.Source.left c.args.source.now) (g.S.Source.left c.loop-bytes.source) (g.S.Source.left c.read.new.self) front piece c.loop-bytes.invariant.taken c.in_ok-count.ensures.bytes.0,
      more,
    )

pub returns-in_err-extend_from_slice-clause-end : goal.returns-in_err-extend_from_slice-clause-end
returns-in_err-extend_from_slice-clause-end g c =
    let front = c.loop-bytes.bytes.items in
    let piece = take c.in_ok-count.count c.read.new.into in
    let within : length (front ++ piece) ≤ c.args.limit = omega (arith, length-append front piece, length-take c.in_ok-count.count c.read.new.into, c.in_ok-count.ensures.bound) in
    let p = err_from_is_err_and c.from_residual-in_err-extend_from_slice.result c.from_residual-in_err-extend_from_slice.ensures.1 in
    rw (p.1, p.2) (
      front ++ piece,
      Consumes-then (g.S.Source.left c.args.source.now) (g.S.Source.left c.loop-bytes.source) (g.S.Source.left c.read.new.self) front piece c.loop-bytes.invariant.taken c.in_ok-count.ensures.bytes.0,
      within,
    )
