use Rattle.std.proofs.Common.{◌≡◌, ◌+◌, ◌∙◌, ℕ, List, drop, length, take, subst, ap, arith, sym}
use Rattle.std.proofs.lemmas.List.{drop_all}
use Rattle.setoff_model.specs.CutView.{CutView}
use Rattle.served_lines.specs.claim_history.specs.declared.call.PoolEntry.{PoolEntry}
use Rattle.served_lines.specs.claim_history.specs.declared.entry.Reply.TheVariants as reply
use Rattle.served_lines.specs.claim_history.specs.Pools.{member_of}
use Rattle.printed_text.specs.Writing.{GoesThrough}
use Rattle.printed_text.specs.Printing.{added_text, member_text, rounds_in}
use Rattle.printed_text.proofs.Passing.{GoesThroughUpTo, prints_all, prints_as, prints_up_to, up_begins, up_more}
use Rattle.printed_text.proofs.Members.{IsNext, act_valid, added_from, member_text_is, next_more, none_first, published_at, reply_in_range}
use Rattle.printed_text.proofs.output.print_members.Goals as goal

pub member-pool-requires : goal.member-pool-requires
member-pool-requires g c = omega (arith, c.loop-place-test.true, c.len-len.ensures.len)

pub print_member-requires-clause-valid : goal.print_member-requires-clause-valid
print_member-requires-clause-valid g c =
    act_valid c.args.books.now.members c.len-len.ensures.legal c.len-len.ensures.valid c.loop-place.place (member_of c.member-pool.result.0 c.member-pool.result.1.now) c.member-pool.ensures

pub print_member-requires-clause-range : goal.print_member-requires-clause-range
print_member-requires-clause-range g c =
    reply_in_range c.args.books.now.members c.len-len.ensures.legal c.len-len.ensures.valid c.loop-place.place (member_of c.member-pool.result.0 c.member-pool.result.1.now) c.member-pool.ensures

pub print_member-requires-clause-publication : goal.print_member-requires-clause-publication
print_member-requires-clause-publication g c total is =
    let m = member_of c.member-pool.result.0 c.member-pool.result.1.now in
    (published_at c.args.from c.args.books.now.members c.loop-place.place m c.member-pool.ensures c.loop-place.invariant.from c.args.rounds.now c.loop-place.next total c.len-len.ensures.legal c.len-len.ensures.valid c.requires.rounds c.loop-place.invariant.next_is is).printable

pub returns-in_err-next : goal.returns-in_err-next
returns-in_err-next g c =
    let h = c.args.books.now.members in
    let i = c.loop-place.place in
    let m = member_of c.member-pool.result.0 c.member-pool.result.1.now in
    let before = take i h in
    let publication : (total : ℕ) → m.entry.reply ≡ reply.Published total → IsNext c.args.rounds.now c.loop-place.next before m =
    λ total is. published_at c.args.from h i m c.member-pool.ensures c.loop-place.invariant.from c.args.rounds.now c.loop-place.next total c.len-len.ensures.legal c.len-len.ensures.valid c.requires.rounds c.loop-place.invariant.next_is is in
    let all = added_text (take c.args.from h) (drop c.args.from h) in
    let rest = added_text (take (i + 1) h) (drop (i + 1) h) in
    let up = subst (λ (r : List ℕ). GoesThroughUpTo (g.K.Sink.held c.args.sink.now) (g.K.Sink.held c.loop-place.sink) c.args.buffer.now.items c.loop-place.buffer.items r all) (added_from h i m c.member-pool.ensures) c.loop-place.invariant.passes in
    prints_up_to (member_text before m) rest c.from_residual.ensures.0 up c.loop-place.invariant.kept (prints_as (member_text_is c.args.rounds.now c.loop-place.next before m publication) c.in_err-next.ensures.printed)

pub loop-place-init : goal.loop-place-init
loop-place-init g c = record {
  passes = up_begins (g.K.Sink.held c.args.sink.now) c.args.buffer.now.items (added_text (take c.args.from c.args.books.now.members) (drop c.args.from c.args.books.now.members));
  next_is = sym (ap (λ (cuts : List CutView). length cuts) (none_first c.args.from c.args.books.now.members));
  from = omega arith;
  room = c.requires.spare;
  kept = omega arith;
}

pub loop-place-preserved : goal.loop-place-preserved
loop-place-preserved g c =
    let h = c.args.books.now.members in
    let i = c.loop-place.place in
    let m = member_of c.member-pool.result.0 c.member-pool.result.1.now in
    let before = take i h in
    let publication : (total : ℕ) → m.entry.reply ≡ reply.Published total → IsNext c.args.rounds.now c.loop-place.next before m =
    λ total is. published_at c.args.from h i m c.member-pool.ensures c.loop-place.invariant.from c.args.rounds.now c.loop-place.next total c.len-len.ensures.legal c.len-len.ensures.valid c.requires.rounds c.loop-place.invariant.next_is is in
    let x = g.K.Sink.held c.args.sink.now in
    let y = g.K.Sink.held c.loop-place.sink in
    let z = g.K.Sink.held c.print_member.new.sink in
    let all = added_text (take c.args.from h) (drop c.args.from h) in
    let rest = added_text (take (i + 1) h) (drop (i + 1) h) in
    let passes : GoesThrough y z c.loop-place.buffer.items c.print_member.new.buffer.items (member_text before m) = subst (GoesThrough y z c.loop-place.buffer.items c.print_member.new.buffer.items) (member_text_is c.args.rounds.now c.loop-place.next before m publication) c.in_ok-next.ensures.printed.ok in
    let up = subst (λ (r : List ℕ). GoesThroughUpTo x y c.args.buffer.now.items c.loop-place.buffer.items r all) (added_from h i m c.member-pool.ensures) c.loop-place.invariant.passes in
    record {
      passes = up_more x y z c.args.buffer.now.items c.loop-place.buffer.items c.print_member.new.buffer.items (member_text before m) rest all up passes;
      next_is = c.in_ok-next.ensures.next ∙ ap (λ (n : ℕ). n + rounds_in m.entry.reply) c.loop-place.invariant.next_is ∙ sym (next_more c.args.rounds.now c.loop-place.next c.args.from h i m c.member-pool.ensures c.loop-place.invariant.from publication);
      from = omega (arith, c.loop-place.invariant.from);
      room = c.in_ok-next.ensures.printed.room;
      kept = omega (arith, c.loop-place.invariant.kept, c.in_ok-next.ensures.printed.cause.kept);
    }

pub returns : goal.returns
returns g c =
    let h = c.args.books.now.members in
    let i = c.loop-place.place in
    let so_far = c.loop-place.invariant in
    prints_all so_far.passes (ap (λ (rest : List PoolEntry). added_text (take i h) rest) (drop_all i h (omega (arith, c.loop-place-test.false, c.len-len.ensures.len)))) so_far.kept so_far.room
