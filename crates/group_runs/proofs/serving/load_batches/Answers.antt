use Rattle.std.proofs.Common.{rules, ◌≡◌, ◌∙◌, ◌+◌, ◌||◌, Bool, List, [], ◌∷◌, ◌++◌, length, take, drop, refl, sym, ap, ap₂, subst}
use Rattle.std.proofs.lemmas.List.{take_all, take_more}
use Rattle.claim_history.specs.Pools.{accepted_calls}
use Rattle.request_text.specs.declared.request.Request.{Request}
use Rattle.printed_text.specs.served_lines.specs.Ends.{is_full_end, is_memory_end}
use Rattle.group_runs.specs.Lines.{group_calls}
use Rattle.group_runs.specs.Order.{WereShown}
use Rattle.group_runs.specs.Runs.{HasBroken, HaveServedGroups, IsKeptBy, KeepsHistory, cut_batch, groups_of, load_status, some_end}
use Rattle.group_runs.proofs.Served.{broken_then, groups_in_order, groups_push, served_none, served_then}
use Rattle.group_runs.proofs.serving.load_batches.Goals as goal

pub loop-batch-init : goal.loop-batch-init
loop-batch-init g c = record {
  so_far = (c.new-tally.result, c.new-tally.ensures, served_none g.D.Disk.seen c.args.loader c.new-tally.result (g.K.Sink.held c.args.sink.now) (g.W.Witness.shown c.args.witness.now) c.requires.all);
  list = c.requires.list;
  empty = c.requires.empty;
  room = c.requires.spare;
  kept = refl;
}

pub returns-in-Err-clause-broken : goal.returns-in-Err-clause-broken
returns-in-Err-clause-broken g c =
    let bs = c.args.batches.now in
    let i = c.loop-batch.batch-index in
    let b = c.batch-item.result in
    let so = c.loop-batch.invariant.so_far in
    let x = g.K.Sink.held c.args.sink.now in
    let y = g.K.Sink.held c.loop-batch.sink in
    let z = g.K.Sink.held c.serve_batch.new.sink in
    let u = g.W.Witness.shown c.args.witness.now in
    let v = g.W.Witness.shown c.loop-batch.witness in
    let w = g.W.Witness.shown c.serve_batch.new.witness in
    let item : take (i + 1) bs ≡ take i bs ++ b ∷ [] = take_more bs i b c.loop-batch-test.true ∙ ap (λ (l : List Request). take i bs ++ l ∷ []) (sym c.batch-item.is) in
    let inner : HasBroken g.D.Disk.seen c.loop-batch.loader (cut_batch (length b) b) y z v w c.in-Err.broken =
    subst (λ (rs : List Request). HasBroken g.D.Disk.seen c.loop-batch.loader (cut_batch (length rs) rs) y z v w c.in-Err.broken) c.requests-requests.ensures.requests c.in-Err.ensures.broken in
    record {
      requests = groups_of (take i bs) ++ inner.requests;
      rest = inner.rest ++ groups_of (drop (i + 1) bs);
      in_order = groups_in_order bs i b inner.requests inner.rest item inner.in_order;
      breaks = broken_then g.D.Disk.seen c.args.loader c.loop-batch.loader (groups_of (take i bs)) so.0 c.loop-batch.tally x y u v so.2 inner.requests z w c.in-Err.broken inner.breaks;
    }

pub loop-batch-preserved : goal.loop-batch-preserved
loop-batch-preserved g c =
    let bs = c.args.batches.now in
    let i = c.loop-batch.batch-index in
    let b = c.batch-item.result in
    let so = c.loop-batch.invariant.so_far in
    let x = g.K.Sink.held c.args.sink.now in
    let y = g.K.Sink.held c.loop-batch.sink in
    let z = g.K.Sink.held c.serve_batch.new.sink in
    let u = g.W.Witness.shown c.args.witness.now in
    let v = g.W.Witness.shown c.loop-batch.witness in
    let w = g.W.Witness.shown c.serve_batch.new.witness in
    let item : take (i + 1) bs ≡ take i bs ++ b ∷ [] = take_more bs i b c.loop-batch-test.true ∙ ap (λ (l : List Request). take i bs ++ l ∷ []) (sym c.batch-item.is) in
    let served : HaveServedGroups g.D.Disk.seen c.loop-batch.loader c.in-Ok.loader (cut_batch (length b) b) c.loop-batch.tally c.serve_batch.new.tally y z v w =
    subst (λ (rs : List Request). HaveServedGroups g.D.Disk.seen c.loop-batch.loader c.in-Ok.loader (cut_batch (length rs) rs) c.loop-batch.tally c.serve_batch.new.tally y z v w) c.requests-requests.ensures.requests c.in-Ok.ensures.served in
    record {
      so_far = (
        so.0,
        so.1,
        subst (λ (l : List (List Request)). HaveServedGroups g.D.Disk.seen c.args.loader c.in-Ok.loader l so.0 c.serve_batch.new.tally x z u w) (sym (ap groups_of item ∙ groups_push (take i bs) b))
            (served_then g.D.Disk.seen c.args.loader c.loop-batch.loader (groups_of (take i bs)) so.0 c.loop-batch.tally x y u v so.2 c.in-Ok.loader (cut_batch (length b) b) c.serve_batch.new.tally z w served),
      );
      list = c.serve_batch.ensures.list;
      empty = c.in-Ok.ensures.emptied;
      room = c.serve_batch.ensures.room;
      kept = c.in-Ok.ensures.quiet ∙ c.loop-batch.invariant.kept;
    }

pub returns-clause-loaded : goal.returns-clause-loaded
returns-clause-loaded g c =
    let bs = c.args.batches.now in
    let so = c.loop-batch.invariant.so_far in
    let s = so.2 in
    let first = c.args.loader in
    let keeps : KeepsHistory c.loop-batch.loader.books.members = record { legal = c.books-loaded.ensures.legal; within = c.books-loaded.ensures.within; valid = c.books-loaded.ensures.valid; keepable = c.books-loaded.ensures.keepable } in
    let memory : c.loop-batch.tally.memory ≡ some_end is_memory_end s.groups = s.memory ∙ ap (λ (b : Bool). b || some_end is_memory_end s.groups) so.1.memory in
    let full : c.loop-batch.tally.full ≡ some_end is_full_end s.groups = s.full ∙ ap (λ (b : Bool). b || some_end is_full_end s.groups) so.1.full in
    record {
      groups = s.groups;
      requests_are = s.requests_are ∙ ap groups_of (take_all c.loop-batch.batch-index bs c.loop-batch-test.false);
      due = s.due;
      keeps = subst KeepsHistory s.members keeps;
      kept = subst (λ (d : g.row.D.Denot). IsKeptBy g.D.Disk.seen first.journal.disk d (accepted_calls first.books.members) (group_calls first.books.members s.groups) []) (sym c.close.ensures) s.kept;
      later = search rules;
      shown = subst (λ (d : g.row.D.Denot). WereShown g.D.Disk.seen d (g.K.Sink.held c.args.sink.now) (g.W.Witness.shown c.args.witness.now) (g.W.Witness.shown c.loop-batch.witness) first.books.members s.groups) (sym c.close.ensures) s.shown;
      written = s.written;
      status_is = c.status.ensures ∙ ap₂ load_status memory full;
    }
