use Rattle.std.specs.Prelude.{pos}
use Rattle.std.proofs.Common.{◌<◌, ◌≤◌, ◌+◌, ℕ, List, ap, drop, get_or, length, subst, arith}
use Rattle.setoff_model.specs.declared.cut.Party.{Party}
use Rattle.setoff_model.proofs.Columns.{no_party}
use Rattle.printed_text.proofs.Passing.{GoesThroughUpTo, prints_all, prints_up_to, up_begins, up_more}
use Rattle.printed_text.proofs.Printing.{price_each}
use Rattle.history_text.specs.Pages.{page_text, pages_from, pages_text}
use Rattle.history_text.proofs.PageLines.{pages_end, pages_step}
use Rattle.history_text.proofs.pages.print_pages.Goals as goal

pub print_page-requires-clause-place : goal.print_page-requires-clause-place
print_page-requires-clause-place g c = omega (arith, c.loop-place-test.true, ap (λ (fs : List Party). length fs) c.parties-parties.ensures)

pub loop-place-init : goal.loop-place-init
loop-place-init g c = record {
  passes = up_begins (g.K.Sink.held c.args.sink.now) c.args.buffer.now.items (pages_text c.args.cut.now c.args.outcome.now);
  room = c.requires.spare;
  kept = omega arith;
}

pub returns-in_err-print_page : goal.returns-in_err-print_page
returns-in_err-print_page g c =
    let cut = c.args.cut.now in
    let d = c.args.outcome.now.discharges in
    let ps = c.args.outcome.now.prices in
    let i = c.loop-place.place in
    let lt : i < length cut.parties = omega (arith, c.loop-place-test.true, ap (λ (fs : List Party). length fs) c.parties-parties.ensures) in
    let page = page_text cut d i (get_or cut.parties i no_party) (get_or ps i (pos 0)) in
    let rest = pages_from cut d (i + 1) (drop (i + 1) cut.parties) (drop (i + 1) ps) in
    let all = pages_text cut c.args.outcome.now in
    let step = pages_step cut d cut.parties ps i no_party (pos 0) lt (omega (arith, lt, price_each cut c.args.outcome.now c.requires.printable)) in
    let up = subst (λ (r : List ℕ). GoesThroughUpTo (g.K.Sink.held c.args.sink.now) (g.K.Sink.held c.loop-place.sink) c.args.buffer.now.items c.loop-place.buffer.items r all) step c.loop-place.invariant.passes in
    prints_up_to page rest c.from_residual.ensures.0 up c.loop-place.invariant.kept (c.in_err-print_page.ensures no_party)

pub loop-place-preserved : goal.loop-place-preserved
loop-place-preserved g c =
    let cut = c.args.cut.now in
    let d = c.args.outcome.now.discharges in
    let ps = c.args.outcome.now.prices in
    let i = c.loop-place.place in
    let lt : i < length cut.parties = omega (arith, c.loop-place-test.true, ap (λ (fs : List Party). length fs) c.parties-parties.ensures) in
    let page = page_text cut d i (get_or cut.parties i no_party) (get_or ps i (pos 0)) in
    let rest = pages_from cut d (i + 1) (drop (i + 1) cut.parties) (drop (i + 1) ps) in
    let all = pages_text cut c.args.outcome.now in
    let step = pages_step cut d cut.parties ps i no_party (pos 0) lt (omega (arith, lt, price_each cut c.args.outcome.now c.requires.printable)) in
    let up = subst (λ (r : List ℕ). GoesThroughUpTo (g.K.Sink.held c.args.sink.now) (g.K.Sink.held c.loop-place.sink) c.args.buffer.now.items c.loop-place.buffer.items r all) step c.loop-place.invariant.passes in
    let printed = c.in_ok-print_page.ensures no_party in
    record {
      passes = up_more (g.K.Sink.held c.args.sink.now) (g.K.Sink.held c.loop-place.sink) (g.K.Sink.held c.print_page.new.sink) c.args.buffer.now.items c.loop-place.buffer.items c.print_page.new.buffer.items page rest all up printed.ok;
      room = printed.room;
      kept = omega (arith, c.loop-place.invariant.kept, printed.cause.kept);
    }

pub returns : goal.returns
returns g c =
    let cut = c.args.cut.now in
    let past : length cut.parties ≤ c.loop-place.place = omega (arith, c.loop-place-test.false, ap (λ (fs : List Party). length fs) c.parties-parties.ensures) in
    let so_far = c.loop-place.invariant in
    prints_all so_far.passes (pages_end cut c.args.outcome.now.discharges cut.parties c.args.outcome.now.prices c.loop-place.place past) so_far.kept so_far.room
