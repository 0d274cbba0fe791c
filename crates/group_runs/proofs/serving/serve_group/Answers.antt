use Rattle.std.specs.Io.KnownBytes.{Appends}
use Rattle.std.proofs.Common.{◌≡◌, ◌∙◌, ◌||◌, List, [], ◌∷◌, ◌++◌, length, refl, sym, ap, subst}
use Rattle.bureau_edge.specs.Streams.{AppendsPart}
use Rattle.bureau_edge.proofs.Known.{Appends-none}
use Rattle.printed_text.specs.claim_book.specs.Pools.{BooksView}
use Rattle.group_loader.specs.round_journal.specs.Appends.{IsFaultOf}
use Rattle.group_loader.specs.round_journal.specs.Kept.{JournalView}
use Rattle.printed_text.specs.served_lines.specs.declared.answer.Answer.{Answer}
use Rattle.printed_text.specs.served_lines.specs.Ends.{has_line_end, is_full_end, is_memory_end}
use Rattle.group_loader.specs.Loading.{HasKept}
use Rattle.group_runs.specs.Runs.{KeepsHistory, calls_of_group}
use Rattle.claim_history.specs.Pools.{accepted_calls}
use Rattle.group_runs.proofs.Answered.{at_err, at_ok, group_kept, group_stopped, is_answered, told_rounds, told_text}
use Rattle.group_runs.proofs.serving.serve_group.Goals as goal

pub returns-in-Err-clause-broken : goal.returns-in-Err-clause-broken
returns-in-Err-clause-broken g c =
    let old = c.args.loader in
    let now = c.answer_lines.new.loader in
    let a = c.answer_lines.ensures.answered in
    let keeps : KeepsHistory c.answer_lines.new.loader.books.members = record { legal = c.books-answered.ensures.legal; within = c.books-answered.ensures.within; valid = c.books-answered.ensures.valid; keepable = c.books-answered.ensures.keepable } in
    record {
      lines = a.lines;
      is = is_answered g.D.Disk.seen old now c.args.requests.now c.answer_lines.new.answers.items a c.requires.all keeps;
      stops = group_stopped g.D.Disk.seen old now c.args.requests.now c.answer_lines.new.answers.items a c.requires.all c.in-Err.stopped.disk c.in-Err.ensures.stopped;
      fault = subst (λ (j : JournalView g.row.D.Denot). IsFaultOf (g.D.Disk.seen j.disk) (g.D.Disk.seen c.in-Err.stopped.disk) c.in-Err.stopped.device) a.journal c.in-Err.ensures.cause;
      unshown = refl;
      untold = Appends-none (g.K.Sink.held c.args.sink.now);
    }

pub print_batch-requires-clause-rounds : goal.print_batch-requires-clause-rounds
print_batch-requires-clause-rounds g c =
    let old = c.args.loader in
    let now = c.answer_lines.new.loader in
    let a = c.answer_lines.ensures.answered in
    let from : c.len-from.result ≡ length old.books.members = c.len-from.ensures.len ∙ ap (λ (b : BooksView). length b.members) c.books.ensures.books in
    let members : c.books-2.result.now.members ≡ now.books.members = ap (λ (b : BooksView). b.members) (c.books-2.ensures.books ∙ c.in-Ok.ensures.books) in
    told_rounds g.D.Disk.seen old now c.args.requests.now c.answer_lines.new.answers.items a c.requires.all c.len-from.result c.books-2.result.now.members from members c.requires.can

pub returns-then-is_err-clause-broken : goal.returns-then-is_err-clause-broken
returns-then-is_err-clause-broken g c =
    let old = c.args.loader in
    let now = c.answer_lines.new.loader in
    let a = c.answer_lines.ensures.answered in
    let keeps : KeepsHistory c.answer_lines.new.loader.books.members = record { legal = c.books-answered.ensures.legal; within = c.books-answered.ensures.within; valid = c.books-answered.ensures.valid; keepable = c.books-answered.ensures.keepable } in
    let from : c.len-from.result ≡ length old.books.members = c.len-from.ensures.len ∙ ap (λ (b : BooksView). length b.members) c.books.ensures.books in
    let members : c.books-2.result.now.members ≡ now.books.members = ap (λ (b : BooksView). b.members) (c.books-2.ensures.books ∙ c.in-Ok.ensures.books) in
    let x = g.K.Sink.held c.args.sink.now in
    let z = g.K.Sink.held c.print_batch.new.sink in
    let text = told_text g.D.Disk.seen old now c.args.requests.now c.answer_lines.new.answers.items a c.requires.all c.len-from.result c.books-2.result.now.members from members c.as_slice-2.result.now c.as_slice-2.ensures.value in
    record {
      lines = a.lines;
      is = is_answered g.D.Disk.seen old now c.args.requests.now c.answer_lines.new.answers.items a c.requires.all keeps;
      kept = subst (λ (d : g.row.D.Denot). HasKept g.D.Disk.seen old.journal.disk d (accepted_calls old.books.members) (calls_of_group old.books.members a.lines)) (sym c.close.ensures)
          (group_kept g.D.Disk.seen old now c.args.requests.now c.answer_lines.new.answers.items a c.requires.all c.in-Ok.loader.journal.disk c.in-Ok.ensures.kept);
      shown = c.show.ensures ∙ ap (λ (d : g.row.D.Denot). g.W.Witness.shown c.args.witness.now ++ (record { held = x; disk = d }) ∷ []) (c.disk.ensures ∙ sym c.close.ensures);
      part = subst (AppendsPart x z) text (at_err c.print_batch.result _ (sym c.is_err.ensures.value ∙ c.if-is_err.true) c.print_batch.ensures.part);
    }

pub returns-clause-served : goal.returns-clause-served
returns-clause-served g c =
    let old = c.args.loader in
    let now = c.answer_lines.new.loader in
    let new = c.in-Ok.loader in
    let a = c.answer_lines.ensures.answered in
    let keeps : KeepsHistory c.answer_lines.new.loader.books.members = record { legal = c.books-answered.ensures.legal; within = c.books-answered.ensures.within; valid = c.books-answered.ensures.valid; keepable = c.books-answered.ensures.keepable } in
    let from : c.len-from.result ≡ length old.books.members = c.len-from.ensures.len ∙ ap (λ (b : BooksView). length b.members) c.books.ensures.books in
    let members : c.books-2.result.now.members ≡ now.books.members = ap (λ (b : BooksView). b.members) (c.books-2.ensures.books ∙ c.in-Ok.ensures.books) in
    let x = g.K.Sink.held c.args.sink.now in
    let z = g.K.Sink.held c.print_batch.new.sink in
    let text = told_text g.D.Disk.seen old now c.args.requests.now c.answer_lines.new.answers.items a c.requires.all c.len-from.result c.books-2.result.now.members from members c.as_slice-2.result.now c.as_slice-2.ensures.value in
    let same : new.books.members ≡ now.books.members = ap (λ (b : BooksView). b.members) c.in-Ok.ensures.books in
    let told = c.as_slice.ensures.value ∙ a.answers_are in
    record {
      lines = a.lines;
      is = is_answered g.D.Disk.seen old now c.args.requests.now c.answer_lines.new.answers.items a c.requires.all keeps;
      kept = group_kept g.D.Disk.seen old now c.args.requests.now c.answer_lines.new.answers.items a c.requires.all new.journal.disk c.in-Ok.ensures.kept;
      members = same ∙ a.members;
      all = record { all = c.in-Ok.ensures.all.0 ∙ ap length (sym same); empty = c.in-Ok.ensures.all.1 };
      memory = c.add.ensures.memory ∙ ap (λ (list : List Answer). c.args.tally.now.memory || has_line_end is_memory_end list) told;
      full = c.add.ensures.full ∙ ap (λ (list : List Answer). c.args.tally.now.full || has_line_end is_full_end list) told;
      shown = c.show.ensures ∙ ap (λ (d : g.row.D.Denot). g.W.Witness.shown c.args.witness.now ++ (record { held = x; disk = d }) ∷ []) c.disk.ensures;
      written = subst (Appends x z) text (at_ok c.print_batch.result _ (sym c.is_err.ensures.value ∙ c.if-is_err.false) c.print_batch.ensures.ok);
    }
