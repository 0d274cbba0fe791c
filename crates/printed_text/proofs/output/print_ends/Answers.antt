use Rattle.std.proofs.Common.{◌+◌, List, ℕ, ap, subst, drop, arith}
use Rattle.std.proofs.lemmas.List.{drop_all}
use Rattle.printed_text.specs.Printing.{answers_in, end_text, ends_text}
use Rattle.printed_text.proofs.Passing.{GoesThroughUpTo, prints_all, prints_up_to, up_begins, up_more}
use Rattle.printed_text.proofs.Printing.{ends_from}
use Rattle.printed_text.proofs.output.print_ends.Goals as goal

pub at-answer-requires : goal.at-answer-requires
at-answer-requires g c = omega (arith, c.loop-place-test.true, c.len-place-end.ensures)

pub returns-in_err-print_end : goal.returns-in_err-print_end
returns-in_err-print_end g c =
    let answers = answers_in c.args.answers in
    let i = c.loop-place.place in
    let a = c.at-answer.result in
    let rest = ends_text (drop (i + 1) answers) in
    let cut = ends_from answers i a c.at-answer.ensures in
    let up = subst (λ (r : List ℕ). GoesThroughUpTo (g.K.Sink.held c.args.sink.now) (g.K.Sink.held c.loop-place.sink) c.args.buffer.now.items c.loop-place.buffer.items r (ends_text answers)) cut c.loop-place.invariant.passes in
    prints_up_to (end_text a.line a.end) rest c.from_residual.ensures.0 up c.loop-place.invariant.kept c.in_err-print_end.ensures

pub loop-place-preserved : goal.loop-place-preserved
loop-place-preserved g c =
    let answers = answers_in c.args.answers in
    let i = c.loop-place.place in
    let a = c.at-answer.result in
    let rest = ends_text (drop (i + 1) answers) in
    let cut = ends_from answers i a c.at-answer.ensures in
    let up = subst (λ (r : List ℕ). GoesThroughUpTo (g.K.Sink.held c.args.sink.now) (g.K.Sink.held c.loop-place.sink) c.args.buffer.now.items c.loop-place.buffer.items r (ends_text answers)) cut c.loop-place.invariant.passes in
    record {
      passes = up_more (g.K.Sink.held c.args.sink.now) (g.K.Sink.held c.loop-place.sink) (g.K.Sink.held c.print_end.new.sink) c.args.buffer.now.items c.loop-place.buffer.items c.print_end.new.buffer.items (end_text a.line a.end) rest (ends_text answers) up c.in_ok-print_end.ensures.ok;
      room = c.in_ok-print_end.ensures.room;
      kept = omega (arith, c.loop-place.invariant.kept, c.in_ok-print_end.ensures.cause.kept);
    }

pub loop-place-init : goal.loop-place-init
loop-place-init g c = record {
  passes = up_begins (g.K.Sink.held c.args.sink.now) c.args.buffer.now.items (ends_text (answers_in c.args.answers));
  room = c.requires.spare;
  kept = omega arith;
}

pub returns : goal.returns
returns g c =
    let so_far = c.loop-place.invariant in
    prints_all so_far.passes (ap ends_text (drop_all c.loop-place.place (answers_in c.args.answers) (omega (arith, c.loop-place-test.false, c.len-place-end.ensures)))) so_far.kept so_far.room
