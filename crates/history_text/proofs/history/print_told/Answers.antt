use Rattle.std.proofs.Common.{List, ap, subst, take, arith}
use Rattle.std.proofs.lemmas.List.{drop_all}
use Rattle.setoff_model.proofs.Lists.{on_err}
use Rattle.claim_history.specs.declared.call.PoolEntry.{PoolEntry}
use Rattle.printed_text.specs.Printing.{added_text}
use Rattle.printed_text.proofs.Passing.{up_begins, up_ends, counted_later}
use Rattle.history_text.specs.Histories.{HasToldOne, text_from, told_members}
use Rattle.history_text.specs.declared.told.Told.{Told}
use Rattle.history_text.proofs.Printed.{told_breaks, told_more, told_short}
use Rattle.history_text.proofs.Replayed.{first_later, none_are_first}
use Rattle.history_text.proofs.history.print_told.Goals as goal

pub print_next-requires-clause-place : goal.print_next-requires-clause-place
print_next-requires-clause-place g c = omega (arith, c.loop-place-test.true, c.told_len-len.ensures.len)

pub loop-place-init : goal.loop-place-init
loop-place-init g c = record {
  passes = up_begins (g.K.Sink.held c.args.sink.now) c.args.buffer.now.items (text_from (told_members c.args.pool.now c.args.books.now.members) c.args.from);
  first = none_are_first c.args.from (told_members c.args.pool.now c.args.books.now.members) c.args.replayed.now.members c.requires.empty;
  room = c.requires.spare;
  kept = omega arith;
  low = omega arith;
}

pub returns-in_err-done-clause-part : goal.returns-in_err-done-clause-part
returns-in_err-done-clause-part g c =
    on_err _ _ (told_breaks (told_members c.args.pool.now c.args.books.now.members) c.args.from c.loop-place.place (omega (arith, c.loop-place-test.true, c.told_len-len.ensures.len))
    (g.K.Sink.held c.args.sink.now) (g.K.Sink.held c.loop-place.sink) (g.K.Sink.held c.print_next.new.sink) c.args.buffer.now.items c.loop-place.buffer.items c.print_next.new.buffer.items
    c.loop-place.invariant.passes c.in_err-done.ensures.part)

pub returns-in-Short-clause-ok : goal.returns-in-Short-clause-ok
returns-in-Short-clause-ok g c =
    let h = told_members c.args.pool.now c.args.books.now.members in
    let y = g.K.Sink.held c.loop-place.sink in
    let z = g.K.Sink.held c.print_next.new.sink in
    let short = subst (λ (t : Told). HasToldOne t y z c.loop-place.buffer.items c.print_next.new.buffer.items h c.loop-place.place) c.in-Short.is c.in_ok-done.ensures.ok in
    told_short h c.args.from c.loop-place.place (omega (arith, c.loop-place-test.true, c.told_len-len.ensures.len))
    (g.K.Sink.held c.args.sink.now) y z c.args.buffer.now.items c.loop-place.buffer.items c.print_next.new.buffer.items
    c.loop-place.invariant.passes c.loop-place.invariant.low short

pub returns-in-Short-clause-cause : goal.returns-in-Short-clause-cause
returns-in-Short-clause-cause g c = record { later = omega (arith, c.loop-place.invariant.kept, c.print_next.ensures.cause.later); cause = λ err. cc; kept = omega (arith, c.loop-place.invariant.kept, c.in_ok-done.ensures.cause.kept) }

pub loop-place-preserved : goal.loop-place-preserved
loop-place-preserved g c =
    let h = told_members c.args.pool.now c.args.books.now.members in
    let y = g.K.Sink.held c.loop-place.sink in
    let z = g.K.Sink.held c.print_next.new.sink in
    let passes = subst (λ (t : Told). HasToldOne t y z c.loop-place.buffer.items c.print_next.new.buffer.items h c.loop-place.place) c.in-Whole.is c.in_ok-done.ensures.ok in
    record {
      passes = told_more h c.args.from c.loop-place.place (omega (arith, c.loop-place-test.true, c.told_len-len.ensures.len)) (g.K.Sink.held c.args.sink.now) y z c.args.buffer.now.items c.loop-place.buffer.items c.print_next.new.buffer.items c.loop-place.invariant.passes passes;
      first = first_later c.loop-place.place h c.print_next.new.replayed.members (c.in_ok-done.ensures.first c.in-Whole.is);
      room = c.in_ok-done.ensures.room;
      kept = omega (arith, c.loop-place.invariant.kept, c.in_ok-done.ensures.cause.kept);
      low = omega (arith, c.loop-place.invariant.low);
    }

pub returns-clause-ok : goal.returns-clause-ok
returns-clause-ok g c =
    let h = told_members c.args.pool.now c.args.books.now.members in
    let i = c.loop-place.place in
    up_ends (g.K.Sink.held c.args.sink.now) (g.K.Sink.held c.loop-place.sink) c.args.buffer.now.items c.loop-place.buffer.items (text_from (told_members c.args.pool.now c.args.books.now.members) c.loop-place.place) (text_from (told_members c.args.pool.now c.args.books.now.members) c.args.from) c.loop-place.invariant.passes
    (ap (λ (rest : List PoolEntry). added_text (take i h) rest) (drop_all i h (omega (arith, c.loop-place-test.false, c.told_len-len.ensures.len))))

pub returns-in_err-done-clause-cause : goal.returns-in_err-done-clause-cause
returns-in_err-done-clause-cause g c = counted_later (g.K.Sink.faults c.args.sink.now) (g.K.Sink.faults c.loop-place.sink) (g.K.Sink.faults c.print_next.new.sink) _ c.from_residual.result c.from_residual.ensures.0 c.loop-place.invariant.kept c.in_err-done.ensures.cause
