use Rattle.std.proofs.Common.{drop, sym, arith, ap, ◌∙◌}
use Rattle.bureau_edge.proofs.Reading.{read_there}
use Rattle.bureau_edge.proofs.sure_source.SureSourceSource.read.Goals as goal

pub returns-clause-bytes : goal.returns-clause-bytes
returns-clause-bytes c =
    let all = c.self.inside.bytes.items in
    let n = c.copy_front-count.result in
    let buffer = c.copy_front-count.new.into in
    let r = read_there c.self.inside.bytes.items c.split_at.result.1.now c.args.into.now buffer c.self.inside.at n (c.split_at.ensures.back ∙ ap (drop c.self.inside.at) c.deref.ensures.value) c.copy_front-count.ensures.count (omega arith) c.copy_front-count.ensures.front in
    (sym c.self.view_is ∙ r.0, r.1)
