use Rattle.std.specs.Prelude.{slice_get, is_some}
use Rattle.std.proofs.Common.{◌≡◌, ◌<◌, ◌∙◌, List, Option, Some, ap, length, subst, sym, arith}
use Rattle.setoff_model.specs.CutView.{CutView}
use Rattle.claim_history.specs.declared.entry.Entry.{Entry}
use Rattle.claim_history.specs.Pools.{entries_in}
use Rattle.claim_history.specs.PoolRounds.{open_cut_in}
use Rattle.printed_text.specs.Printing.{IsPrintableAt}
use Rattle.history_text.specs.Histories.{text_in_form, told_members}
use Rattle.history_text.proofs.Due.{round_memory, wrote_done}
use Rattle.history_text.proofs.Replayed.{none_are_first}
use Rattle.history_text.proofs.Stated.{place_within, publishes_there, round_stated, stands_at, stated_at, told_within}
use Rattle.history_text.proofs.round.print_behind.Goals as goal

pub bounds-entries-place : goal.bounds-entries-place
bounds-entries-place g c =
    let same : c.history-entries.result.now ≡ entries_in c.args.pool c.args.books.now.members = c.history-entries.ensures.entries ∙ c.book.ensures in
    subst (λ (es : List Entry). c.args.place < length es) (sym same) (place_within c.args.round c.args.pool c.args.books.now.members c.args.place c.requires.place)

pub replay_to-requires-clause-place : goal.replay_to-requires-clause-place
replay_to-requires-clause-place g c = omega (arith, told_within c.args.round c.args.pool c.args.books.now.members c.args.place c.requires.place)

pub replay_to-requires-clause-first : goal.replay_to-requires-clause-first
replay_to-requires-clause-first g c = none_are_first c.args.place (told_members (Some c.args.pool) c.args.books.now.members) c.args.replayed.now.members c.requires.none

pub open_cut-rounds-requires : goal.open_cut-rounds-requires
open_cut-rounds-requires g c =
    let s = stated_at c.args.round c.args.pool c.args.books.now.members c.args.place c.requires.place c.len-len.ensures.legal c.len-len.ensures.valid c.replay_to.new.replayed.members c.in-Ok.ensures in
    ap is_some (ap (open_cut_in c.replay_to.new.replayed.members) c.main_pool_name.ensures ∙ s.was_open)

pub tell_round-requires-clause-published : goal.tell_round-requires-clause-published
tell_round-requires-clause-published g c =
    let same : c.history-entries.result.now ≡ entries_in c.args.pool c.args.books.now.members = c.history-entries.ensures.entries ∙ c.book.ensures in
    let e : Entry = c.index-entries-place.result in
    publishes_there c.args.round c.args.pool c.args.books.now.members c.args.place c.requires.place e
    (stands_at c.args.round c.args.pool c.args.books.now.members c.args.place c.requires.place c.history-entries.result.now e same c.index-entries-place.is)

pub tell_round-requires-clause-publication : goal.tell_round-requires-clause-publication
tell_round-requires-clause-publication g c =
    let s = stated_at c.args.round c.args.pool c.args.books.now.members c.args.place c.requires.place c.len-len.ensures.legal c.len-len.ensures.valid c.replay_to.new.replayed.members c.in-Ok.ensures in
    let same : c.history-entries.result.now ≡ entries_in c.args.pool c.args.books.now.members = c.history-entries.ensures.entries ∙ c.book.ensures in
    let e : Entry = c.index-entries-place.result in
    let stands = stands_at c.args.round c.args.pool c.args.books.now.members c.args.place c.requires.place c.history-entries.result.now e same c.index-entries-place.is in
    let one = c.open_cut-rounds.ensures s.given (ap (open_cut_in c.replay_to.new.replayed.members) c.main_pool_name.ensures ∙ s.was_open) in
    subst (λ (cuts : List CutView). IsPrintableAt cuts 0 e.act) (sym one) (s.printable e stands)

pub returns-in-Ok-clause-wrote : goal.returns-in-Ok-clause-wrote
returns-in-Ok-clause-wrote g c =
    let form = c.args.form in
    let pool = c.args.pool in
    let members = c.args.books.now.members in
    let s = stated_at c.args.round pool members c.args.place c.requires.place c.len-len.ensures.legal c.len-len.ensures.valid c.replay_to.new.replayed.members c.in-Ok.ensures in
    let same : c.history-entries.result.now ≡ entries_in pool members = c.history-entries.ensures.entries ∙ c.book.ensures in
    let e : Entry = c.index-entries-place.result in
    let stands = stands_at c.args.round pool members c.args.place c.requires.place c.history-entries.result.now e same c.index-entries-place.is in
    let one = c.open_cut-rounds.ensures s.given (ap (open_cut_in c.replay_to.new.replayed.members) c.main_pool_name.ensures ∙ s.was_open) in
    let text = text_in_form form (slice_get c.open_cut-rounds.result.now 0) e.act e.reply in
    wrote_done form c.args.round pool members _ _ text _
    (round_stated form c.args.round pool members c.args.place e text c.requires.place stands
    (ap (λ (o : Option CutView). text_in_form form o e.act e.reply) (ap (λ (cuts : List CutView). slice_get cuts 0) one ∙ sym s.was_there))) c.tell_round.ensures.wrote

pub returns-in-Ok-clause-write_fault : goal.returns-in-Ok-clause-write_fault
returns-in-Ok-clause-write_fault g c = c.tell_round.ensures.write_fault

pub returns-in-Err-clause-wrote : goal.returns-in-Err-clause-wrote
returns-in-Err-clause-wrote g c = round_memory c.args.form c.args.round c.args.pool c.args.books.now.members _ _ _ c.tell_no_memory.ensures.written

pub returns-in-Err-clause-write_fault : goal.returns-in-Err-clause-write_fault
returns-in-Err-clause-write_fault g c = c.tell_no_memory.ensures.failed
