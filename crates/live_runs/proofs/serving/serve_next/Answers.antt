use Rattle.std.proofs.Common.{◌≡◌, ◌∙◌, ◌+◌, ◌-◌, ◌||◌, ℕ, Bool, List, length, ap, subst, sym, arith, length-append}
use Rattle.batch_runs.specs.claim_history.specs.declared.call.PoolEntry.{PoolEntry}
use Rattle.batch_runs.specs.claim_history.specs.PoolRounds.{cuts_after}
use Rattle.batch_runs.specs.served_lines.specs.declared.answer.Answer.{Answer}
use Rattle.batch_runs.specs.served_lines.specs.Ends.{has_line_end, is_full_end, is_memory_end}
use Rattle.batch_runs.specs.printed_text.specs.Printing.{answers_in, unanswered_lines}
use Rattle.live_intake.specs.live_reading.specs.Reading.{AreNumbered}
use Rattle.batch_runs.specs.Serving.{answers_of, told_by}
use Rattle.batch_runs.proofs.Batches.{shown_at}
use Rattle.batch_runs.proofs.Told.{tells}
use Rattle.batch_runs.proofs.Unasked.{counted_ends}
use Rattle.live_runs.proofs.Counted.{told_same}
use Rattle.live_runs.proofs.serving.serve_next.Goals as goal

pub add-requires : goal.add-requires
add-requires g c =
    let now = c.args.desk in
    let ran = c.run_live-end.ensures.ran.ran in
    let place : c.len-from.result ≡ length now.history = c.len-from.ensures.len ∙ ap (λ (l : List PoolEntry). length l) c.books.ensures.history in
    let after : length c.books-2.result.now.members ≡ length c.run_live-end.result.end.desk.history = ap (λ (l : List PoolEntry). length l) c.books-2.ensures.history in
    omega (arith, place, after, ap (λ (l : List PoolEntry). length l) ran.history, length-append now.history ran.added)

pub print_added-printed-requires-clause-from : goal.print_added-printed-requires-clause-from
print_added-printed-requires-clause-from g c =
    let now = c.args.desk in
    let ran = c.run_live-end.ensures.ran.ran in
    let place : c.len-from.result ≡ length now.history = c.len-from.ensures.len ∙ ap (λ (l : List PoolEntry). length l) c.books.ensures.history in
    omega (arith, place, ap (λ (l : List PoolEntry). length l) ran.history, length-append now.history ran.added)

pub print_added-printed-requires-clause-rounds : goal.print_added-printed-requires-clause-rounds
print_added-printed-requires-clause-rounds g c =
    let place : c.len-from.result ≡ length c.args.desk.history = c.len-from.ensures.len ∙ ap (λ (l : List PoolEntry). length l) c.books.ensures.history in
    c.run_live-end.ensures.ran.ran.rounds ∙ sym (ap (λ (n : ℕ). cuts_after n c.run_live-end.result.end.desk.history) place)

pub print_added-printed-requires-clause-empty : goal.print_added-printed-requires-clause-empty
print_added-printed-requires-clause-empty g c = c.requires.empty

pub print_added-printed-requires-clause-spare : goal.print_added-printed-requires-clause-spare
print_added-printed-requires-clause-spare g c = c.requires.spare

pub returns-clause-told : goal.returns-clause-told
returns-clause-told g c =
    let live = c.run_live-end.ensures.ran in
    let new = c.run_live-end.result.end.desk in
    let answers = c.run_live-end.result.end.answers in
    let from = c.len-from.result in
    let before = c.args.tally.now in
    let first = c.lines-before.result + 1 in
    let count = c.saturating_sub-count.result in
    let same : told_by (unanswered_lines first count) answers ≡ answers_of live.batch answers =
    told_same first count live.batch answers (λ none.
    let k = live.counted none in
    (subst (λ (n : ℕ). AreNumbered (n + 1) live.batch) (sym c.lines-before.ensures) k.0, omega (arith, k.1, c.lines-before.ensures, c.lines.ensures, c.lines_behind.ensures, c.saturating_sub-count.ensures))) in
    let place = c.len-from.ensures.len ∙ ap (λ (l : List PoolEntry). length l) c.books.ensures.history in
    let memory = c.add.ensures.memory ∙ ap (λ (b : Bool). before.memory || b) (counted_ends is_memory_end first count answers)
    ∙ ap (λ (a : List Answer). before.memory || has_line_end is_memory_end a) same in
    let full = c.add.ensures.full ∙ ap (λ (b : Bool). before.full || b) (counted_ends is_full_end first count answers)
    ∙ ap (λ (a : List Answer). before.full || has_line_end is_full_end a) same in
    let many : first + count - first ≡ count = omega arith in
    let told = answers_in c.answers_or-told.result in
    let are : told ≡ answers_of live.batch answers = c.answers_or-told.ensures ∙ ap (λ (n : ℕ). told_by (unanswered_lines first n) answers) many ∙ same in
    let x = g.K.Sink.held c.args.sink.now in
    let y = g.K.Sink.held c.print_added-printed.new.sink in
    let v = g.W.Witness.shown c.args.witness.now in
    let w = g.W.Witness.shown c.show.new.self in
    record {
      answers = answers;
      live = live;
      told = tells g.D.Disk.seen c.args.desk new live.batch answers live.ran from place told are c.books-2.result.now.members c.books-2.ensures.history
          before c.add.new.self memory c.add.ensures.device full x y v w c.print_added-printed.result c.print_added-printed.ensures.ok c.print_added-printed.ensures.part
          (shown_at g.W.Witness.shown c.args.witness.now c.show.new.self x c.disk.result.now new.disk c.show.ensures c.disk.ensures);
      batches = c.batches-2.ensures.batches;
      held = c.batches-2.ensures.held;
    }

pub returns-clause-emptied : goal.returns-clause-emptied
returns-clause-emptied g c = c.print_added-printed.ensures.emptied

pub returns-clause-cause : goal.returns-clause-cause
returns-clause-cause g c = c.print_added-printed.ensures.cause

pub returns-clause-room : goal.returns-clause-room
returns-clause-room g c = c.print_added-printed.ensures.room
