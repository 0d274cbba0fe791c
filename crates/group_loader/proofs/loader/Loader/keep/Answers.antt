use Rattle.std.proofs.Common.{◌≡◌, ◌<◌, [], length, drop, sym, ◌∙◌, ap, subst, rules}
use Rattle.claim_history.specs.Pools.{accepted_calls}
use Rattle.limited_book.specs.claim_book.specs.Pools.{BooksView}
use Rattle.round_journal.specs.Appends.{IsFaultOf}
use Rattle.round_journal.specs.Kept.{JournalView}
use Rattle.round_journal.specs.Records.{bodies_of_calls}
use Rattle.group_loader.specs.Loading.{HasKept, HasStopped, LoadView, kept_calls, pending_calls}
use Rattle.group_loader.proofs.Kept.{empty_list, has_kept, has_stopped, kept_none, loads_as, loads_kept, loads_none, some_pending}
use Rattle.group_loader.proofs.loader.Loader.keep.Goals as goal
use Rattle.group_loader.proofs.loader.Loader.keep.Goals.{then-len-gt0+in_default, else-len-gt0}

pub returns-in-Err-clause-stopped : goal.returns-in-Err-clause-stopped
returns-in-Err-clause-stopped g c =
    let v : LoadView g.row.D.Denot = record { journal = c.self.inside.journal; books = c.self.inside.books; group = c.self.inside.group; kept = c.self.inside.kept } in
    let group = bodies_of_calls (accepted_calls (drop c.self.inside.kept c.self.inside.books.members)) in
    let some : 0 < length c.self.inside.group = search rules in
    subst (λ (s : LoadView g.row.D.Denot). HasStopped g.D.Disk.seen s.journal.disk c.close.result (kept_calls s) (pending_calls s)) c.self.view_is
    (subst (λ (d : g.row.D.Denot). HasStopped g.D.Disk.seen v.journal.disk d (kept_calls v) (pending_calls v)) (sym c.close.ensures)
    (has_stopped g.D.Disk.seen v c.self.invariant c.append_group.new.self (c.append_group.ensures.tried group c.self.invariant.group) (some_pending g.D.Disk.seen v c.self.invariant some)))

pub returns-in-Err-clause-cause : goal.returns-in-Err-clause-cause
returns-in-Err-clause-cause g c =
    subst (λ (s : LoadView g.row.D.Denot). IsFaultOf (g.D.Disk.seen s.journal.disk) (g.D.Disk.seen c.close.result) c.in-Err.device) c.self.view_is
    (subst (λ (d : g.row.D.Denot). IsFaultOf (g.D.Disk.seen c.self.inside.journal.disk) (g.D.Disk.seen d) c.in-Err.device) (sym c.close.ensures) c.in-Err.ensures.cause)

pub invariant_of-result : goal.invariant_of-result
invariant_of-result g c =
    let v : LoadView g.row.D.Denot = record { journal = c.self.inside.journal; books = c.self.inside.books; group = c.self.inside.group; kept = c.self.inside.kept } in
    let books = c.self.inside.books in
    let all : c.len-kept.result ≡ length books.members = c.len-kept.ensures.len ∙ ap (λ (b : BooksView). length b.members) c.books.ensures.books in
    let group = bodies_of_calls (accepted_calls (drop c.self.inside.kept books.members)) in
    elim c.if-len-gt0.branch [
      | then-len-gt0+in_default w ↦
          loads_as g.D.Disk.seen books w.append_group.new.self c.if-len-gt0.journal [] c.if-len-gt0.group (length books.members) c.len-kept.result
          (loads_kept g.D.Disk.seen v c.self.invariant w.append_group.new.self (w.append_group.ensures.tried group c.self.invariant.group) (w.in_default.ensures.done group c.self.invariant.group))
          w.journal-is (w.group-is ∙ w.clear.ensures) all
      | else-len-gt0 w ↦
          let zero : length c.self.inside.group ≡ 0 = search rules in
          let none : c.self.inside.group ≡ [] = empty_list c.self.inside.group zero in
          loads_as g.D.Disk.seen books c.self.inside.journal c.if-len-gt0.journal [] c.if-len-gt0.group (length books.members) c.len-kept.result
          (loads_none g.D.Disk.seen v c.self.invariant none)
          w.journal-is (w.group-is ∙ none) all
    ]

pub returns-clause-kept : goal.returns-clause-kept
returns-clause-kept g c =
    let v : LoadView g.row.D.Denot = record { journal = c.self.inside.journal; books = c.self.inside.books; group = c.self.inside.group; kept = c.self.inside.kept } in
    let group = bodies_of_calls (accepted_calls (drop c.self.inside.kept c.self.inside.books.members)) in
    subst (λ (s : LoadView g.row.D.Denot). HasKept g.D.Disk.seen s.journal.disk c.if-len-gt0.journal.disk (kept_calls s) (pending_calls s)) c.self.view_is
    (elim c.if-len-gt0.branch [
      | then-len-gt0+in_default w ↦
          let some : 0 < length c.self.inside.group = search rules in
          subst (λ (j : JournalView g.row.D.Denot). HasKept g.D.Disk.seen v.journal.disk j.disk (kept_calls v) (pending_calls v)) (sym w.journal-is)
          (has_kept g.D.Disk.seen v c.self.invariant w.append_group.new.self (w.append_group.ensures.tried group c.self.invariant.group)
          (w.in_default.ensures.done group c.self.invariant.group) (some_pending g.D.Disk.seen v c.self.invariant some))
      | else-len-gt0 w ↦
          let zero : length c.self.inside.group ≡ 0 = search rules in
          let none : c.self.inside.group ≡ [] = empty_list c.self.inside.group zero in
          subst (λ (j : JournalView g.row.D.Denot). HasKept g.D.Disk.seen v.journal.disk j.disk (kept_calls v) (pending_calls v)) (sym w.journal-is)
          (kept_none g.D.Disk.seen v c.self.invariant none)
    ])

pub returns-clause-all : goal.returns-clause-all
returns-clause-all g c =
    let all : c.len-kept.result ≡ length c.args.self.books.members = search rules in
    elim c.if-len-gt0.branch [
      | then-len-gt0+in_default w ↦ (all, w.group-is ∙ w.clear.ensures)
      | else-len-gt0 w ↦
          let zero : length c.self.inside.group ≡ 0 = search rules in
          (all, w.group-is ∙ empty_list c.self.inside.group zero)
    ]
