use Rattle.std.proofs.Common.{◌<◌, arith, sym, ap, ◌∙◌, length}
use Rattle.text_lines.proofs.Cutting.{cut_at, cut_none, some_bytes}
use Rattle.std.specs.Str.Lines.{strip_carriage_return}
use Rattle.text_lines.proofs.lines.next_line.Goals as goal

pub returns-then-at-rest : goal.returns-then-at-rest
returns-then-at-rest c = cut_none c.args.rest.now c.split_at.result.0.now c.split_at.result.1.now c.line_end-at.result c.if-at-rest.true c.line_end-at.ensures.before (some_bytes _ (sym c.is_empty.ensures ∙ c.if-is_empty.false)) c.split_at.ensures.front c.split_at.ensures.back

pub returns : goal.returns
returns c =
    let short : c.line_end-at.result < length c.args.rest.now = omega (arith, c.if-at-rest.false, c.line_end-at.ensures.within) in
    cut_at c.args.rest.now c.without_return.result.now c.split_at.result.1.now c.split_at-2.result.1.now c.line_end-at.result short c.line_end-at.ensures.before (c.line_end-at.ensures.found short)
    (c.without_return.ensures ∙ ap strip_carriage_return c.split_at.ensures.front) c.split_at.ensures.back c.split_at-2.ensures.back
