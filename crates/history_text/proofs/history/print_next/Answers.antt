use Rattle.std.specs.Prelude.{is_some}
use Rattle.std.proofs.Common.{◌≡◌, ◌∙◌, ◌++◌, ◌∷◌, [], ℕ, List, Some, ap, subst, sym}
use Rattle.setoff_model.proofs.Lists.{on_err}
use Rattle.setoff_model.specs.CutView.{CutView}
use Rattle.bureau_edge.specs.Streams.{AppendsPart}
use Rattle.claim_history.specs.declared.call.PoolEntry.{PoolEntry}
use Rattle.claim_history.specs.Pools.{member_of}
use Rattle.claim_history.specs.PoolRounds.{open_cut_in}
use Rattle.printed_text.specs.Printing.{IsPrintableAt}
use Rattle.printed_text.specs.Writing.{GoesThrough}
use Rattle.printed_text.proofs.Members.{act_valid, reply_in_range}
use Rattle.history_text.specs.Histories.{told_members}
use Rattle.printed_text.proofs.Passing.{pass_none}
use Rattle.history_text.proofs.Printed.{shown_is}
use Rattle.history_text.proofs.Stated.{stated}
use Rattle.history_text.proofs.history.print_next.Goals as goal

pub print_shown-requires-clause-valid : goal.print_shown-requires-clause-valid
print_shown-requires-clause-valid g c =
    act_valid (told_members c.args.pool.now c.args.books.now.members) c.told_len-len.ensures.legal c.told_len-len.ensures.valid c.args.place (member_of c.told_at-shown.result.0 c.told_at-shown.result.1.now) c.told_at-shown.ensures

pub print_shown-requires-clause-range : goal.print_shown-requires-clause-range
print_shown-requires-clause-range g c =
    reply_in_range (told_members c.args.pool.now c.args.books.now.members) c.told_len-len.ensures.legal c.told_len-len.ensures.valid c.args.place (member_of c.told_at-shown.result.0 c.told_at-shown.result.1.now) c.told_at-shown.ensures

pub print_shown-requires-clause-open : goal.print_shown-requires-clause-open
print_shown-requires-clause-open g c = λ total published.
    let m : PoolEntry = member_of c.told_at-shown.result.0 c.told_at-shown.result.1.now in
    let s = stated (told_members c.args.pool.now c.args.books.now.members) c.args.place m c.told_at-shown.ensures c.told_len-len.ensures.legal c.told_len-len.ensures.valid total published in
    ap is_some (ap (λ (before : List PoolEntry). open_cut_in before m.pool) (c.in-Ok.ensures.all total published) ∙ s.was_open)

pub print_shown-requires-clause-printable : goal.print_shown-requires-clause-printable
print_shown-requires-clause-printable g c = λ total published cut is.
    let m : PoolEntry = member_of c.told_at-shown.result.0 c.told_at-shown.result.1.now in
    let s = stated (told_members c.args.pool.now c.args.books.now.members) c.args.place m c.told_at-shown.ensures c.told_len-len.ensures.legal c.told_len-len.ensures.valid total published in
    let both : Some s.given ≡ Some cut = sym s.was_open ∙ sym (ap (λ (before : List PoolEntry). open_cut_in before m.pool) (c.in-Ok.ensures.all total published)) ∙ is in
    let same : s.given ≡ cut = cc both in
    subst (λ (x : CutView). IsPrintableAt (x ∷ []) 0 m.entry.act) same s.printable

pub returns-in_err-print_shown-clause-part : goal.returns-in_err-print_shown-clause-part
returns-in_err-print_shown-clause-part g c =
    let m : PoolEntry = member_of c.told_at-shown.result.0 c.told_at-shown.result.1.now in
    let is = shown_is (told_members c.args.pool.now c.args.books.now.members) c.args.place m c.told_at-shown.ensures c.replay_for.new.replayed.members c.in-Ok.ensures.all in
    let y = g.K.Sink.held c.args.sink.now in
    let z = g.K.Sink.held c.print_shown.new.sink in
    on_err _ _ (subst (λ (t : List ℕ). AppendsPart y z (c.args.buffer.now.items ++ t)) is c.in_err-print_shown.ensures.part)

-- nothing was printed
pub returns-in_default-clause-ok : goal.returns-in_default-clause-ok
returns-in_default-clause-ok g c = (
  pass_none (g.K.Sink.held c.args.sink.now) c.args.buffer.now.items,
  record {
    member = member_of c.told_at-shown.result.0 c.told_at-shown.result.1.now;
    total = c.in_default.ensures.publishes.0;
    stands = c.told_at-shown.ensures;
    reply_is = c.in_default.ensures.publishes.1;
  },
)

pub returns-clause-ok : goal.returns-clause-ok
returns-clause-ok g c =
    let m : PoolEntry = member_of c.told_at-shown.result.0 c.told_at-shown.result.1.now in
    let is = shown_is (told_members c.args.pool.now c.args.books.now.members) c.args.place m c.told_at-shown.ensures c.replay_for.new.replayed.members c.in-Ok.ensures.all in
    let y = g.K.Sink.held c.args.sink.now in
    let z = g.K.Sink.held c.print_shown.new.sink in
    subst (GoesThrough y z c.args.buffer.now.items c.print_shown.new.buffer.items) is c.in_ok-print_shown.ensures.ok
