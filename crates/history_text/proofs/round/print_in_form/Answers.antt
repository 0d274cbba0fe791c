use Rattle.std.specs.Prelude.{is_some, position}
use Rattle.std.proofs.Common.{◌≡◌, ◌∙◌, ◌++◌, ℕ, List, None, ap, subst, sym, arith}
use Rattle.claim_history.specs.Pools.{entries_in}
use Rattle.printed_text.specs.declared.exit_status.ExitStatus.TheVariants as statuses
use Rattle.printed_text.specs.Writing.{IsWritten}
use Rattle.history_text.specs.Histories.{no_round_text, publishes_round, was_published}
use Rattle.history_text.proofs.Due.{no_memory, wrote_none}
use Rattle.history_text.proofs.Stated.{none_stated}
use Rattle.history_text.proofs.round.print_in_form.Goals as goal

pub print_round_at-requires-clause-place : goal.print_round_at-requires-clause-place
print_round_at-requires-clause-place g c =
    let same : c.history-entries.result.now ≡ entries_in c.args.pool c.args.books.now.members = c.history-entries.ensures.entries ∙ c.book.ensures in
    ap (position (publishes_round c.args.round)) (sym same) ∙ sym c.place_of.ensures ∙ c.in-Some.is

pub returns-in-Some-clause-wrote : goal.returns-in-Some-clause-wrote
returns-in-Some-clause-wrote g c = c.print_round_at.ensures.wrote

pub returns-in-Some-clause-write_fault : goal.returns-in-Some-clause-write_fault
returns-in-Some-clause-write_fault g c = c.print_round_at.ensures.write_fault

pub write_no_round-requires : goal.write_no_round-requires
write_no_round-requires g c = omega (arith, c.requires.len, c.requires.spare)

pub end_with-requires : goal.end_with-requires
end_with-requires g c = λ sink. cc

pub returns-in-None-clause-wrote : goal.returns-in-None-clause-wrote
returns-in-None-clause-wrote g c =
    let same : c.history-entries.result.now ≡ entries_in c.args.pool c.args.books.now.members = c.history-entries.ensures.entries ∙ c.book.ensures in
    let none : position (publishes_round c.args.round) (entries_in c.args.pool c.args.books.now.members) ≡ None =
    ap (position (publishes_round c.args.round)) (sym same) ∙ sym c.place_of.ensures ∙ c.in-None.is in
    let line : c.as_slice.result.now ≡ no_round_text c.args.round =
    c.as_slice.ensures.value ∙ c.write_no_round.ensures ∙ ap (λ (front : List ℕ). front ++ no_round_text c.args.round) c.requires.empty in
    wrote_none c.args.form c.args.round c.args.pool c.args.books.now.members _ _ (no_round_text c.args.round) _
    (none_stated c.args.form c.args.round c.args.pool c.args.books.now.members none)
    (subst (λ (t : List ℕ). IsWritten (g.K.Sink.held c.args.sink.now) (g.K.Sink.held c.end_with.new.sink) statuses.No t c.end_with.result) line c.end_with.ensures.written)

pub returns-in-None-clause-write_fault : goal.returns-in-None-clause-write_fault
returns-in-None-clause-write_fault g c = c.end_with.ensures.failed

pub returns-in-Some-clause-memory : goal.returns-in-Some-clause-memory
returns-in-Some-clause-memory g c = λ memory.
    let same : c.history-entries.result.now ≡ entries_in c.args.pool c.args.books.now.members = c.history-entries.ensures.entries ∙ c.book.ensures in
    ap is_some (ap (position (publishes_round c.args.round)) (sym same) ∙ sym c.place_of.ensures ∙ c.in-Some.is)

pub returns-in-None-clause-memory : goal.returns-in-None-clause-memory
returns-in-None-clause-memory g c = no_memory _ _ _ _ (was_published c.args.round c.args.pool c.args.books.now.members) c.end_with.ensures.written
