-- The lines of a group that were answered.
use Rattle.std.specs.Prelude.{All, Result, Ok, Err, OnErr, OnOk, is_err, drop, take}
use Rattle.std.proofs.Common.{◌≡◌, ◌∙◌, ℕ, true, false, List, [], ◌∷◌, ◌++◌, length, sym, ap, ap₂, subst, append_assoc, true≢false}
use Rattle.std.proofs.lemmas.List.{map-append}
use Rattle.std.proofs.Math.Seq.{take-append_seam, drop-append_seam}
use Rattle.disk_model.specs.Calls.{Seen}
use Rattle.claim_history.specs.declared.call.Call.{Call}
use Rattle.claim_history.specs.declared.call.PoolEntry.{PoolEntry}
use Rattle.claim_history.specs.Pools.{accepted_calls}
use Rattle.claim_history.specs.PoolRounds.{cuts_after}
use Rattle.request_text.specs.declared.request.Request.{Request}
use Rattle.group_loader.specs.round_journal.specs.Kept.{JournalView}
use Rattle.printed_text.specs.served_lines.specs.declared.answer.Answer.{Answer}
use Rattle.printed_text.specs.served_lines.specs.declared.line_end.LineEnd.{LineEnd}
use Rattle.printed_text.specs.served_lines.specs.Served.{Line}
use Rattle.printed_text.specs.Printing.{printed_of}
use Rattle.group_loader.specs.Loading.{HasKept, HasStopped, LoadView, kept_calls, pending_calls}
use Rattle.group_runs.specs.Lines.{CanBeLoaded, IsEndDue, answers_of_lines, end_adds, group_text, lines_add}
use Rattle.group_runs.specs.Runs.{HasAnswered, HasTakenLine, IsAllKept, IsAnswered, KeepsHistory}
use Rattle.group_runs.proofs.Lines.{due_more, lines_more, no_cuts}

-- one line more
pub answered_more : {D : Type 0} (first now new : LoadView D) (requests : List Request) (answers after : List Answer) (request : Request) (end : LineEnd)
    → HasAnswered first now requests answers → HasTakenLine now new request end → after ≡ answers ++ record { line = request.line; end = end } ∷ []
    → HasAnswered first new (requests ++ request ∷ []) after
answered_more first now new requests answers after request end was one pushed =
    let line : Line = record { request = request; end = end } in
    let before = first.books.members in
    record {
      lines = was.lines ++ line ∷ [];
      requests_are = map-append (λ (l : Line). l.request) was.lines (line ∷ []) ∙ ap (λ (rs : List Request). rs ++ request ∷ []) was.requests_are;
      answers_are = pushed ∙ ap (λ (list : List Answer). list ++ record { line = request.line; end = end } ∷ []) was.answers_are ∙ sym (answers_append was.lines line);
      members = one.members ∙ ap (λ (h : List PoolEntry). h ++ end_adds h request end) was.members
          ∙ append_assoc before (lines_add before was.lines) (end_adds (before ++ lines_add before was.lines) request end)
          ∙ ap (λ (l : List PoolEntry). before ++ l) (sym (lines_more before was.lines line));
      due = due_more before was.lines line was.due (subst (λ (h : List PoolEntry). IsEndDue h request end) was.members one.due);
      journal = one.journal ∙ was.journal;
      kept = one.kept ∙ was.kept;
    }
  where
    answers_append : (lines : List Line) (line : Line) → answers_of_lines (lines ++ line ∷ []) ≡ answers_of_lines lines ++ answers_of_lines (line ∷ [])
    answers_append lines line = map-append (λ (l : Line). record { line = l.request.line; end = l.end }) lines (line ∷ [])

-- what holds on an error, and what holds where there is none
pub at_err : {T E : Type 0} (r : Result T E) (P : Type 0) → is_err r ≡ true → OnErr r P → P
at_err (Err e) P is h = h
at_err (Ok v) P is h = absurd (true≢false (sym is))

pub at_ok : {T E : Type 0} (r : Result T E) (P : Type 0) → is_err r ≡ false → OnOk r P → P
at_ok (Err e) P is h = absurd (true≢false is)
at_ok (Ok v) P is h = h

-- a group that was answered on a load that had kept all
module _ {D : Type 0} (seen : D → Seen) (old now : LoadView D) (requests : List Request) (answers : List Answer) (a : HasAnswered old now requests answers) (all : IsAllKept old) where
  abbrev before : List PoolEntry
  before = old.books.members

  abbrev added : List PoolEntry
  added = lines_add old.books.members a.lines

  front : take now.kept now.books.members ≡ before
  front = ap₂ (λ (n : ℕ) (ms : List PoolEntry). take n ms) (a.kept ∙ all.all) a.members ∙ take-append_seam before added

  behind : drop now.kept now.books.members ≡ added
  behind = ap₂ (λ (n : ℕ) (ms : List PoolEntry). drop n ms) (a.kept ∙ all.all) a.members ∙ drop-append_seam before added

  pub is_answered : KeepsHistory now.books.members → IsAnswered before requests a.lines
  is_answered keeps = record { requests_are = a.requests_are; due = a.due; keeps = subst KeepsHistory a.members keeps }

  pub group_kept : (new : D) → HasKept seen now.journal.disk new (kept_calls now) (pending_calls now) → HasKept seen old.journal.disk new (accepted_calls before) (accepted_calls added)
  group_kept new has =
      subst (λ (j : JournalView D). HasKept seen j.disk new (accepted_calls before) (accepted_calls added)) a.journal
      (subst (λ (calls : List Call). HasKept seen now.journal.disk new calls (accepted_calls added)) (ap accepted_calls front)
      (subst (λ (calls : List Call). HasKept seen now.journal.disk new (kept_calls now) calls) (ap accepted_calls behind) has))

  pub group_stopped : (new : D) → HasStopped seen now.journal.disk new (kept_calls now) (pending_calls now) → HasStopped seen old.journal.disk new (accepted_calls before) (accepted_calls added)
  group_stopped new has =
      subst (λ (j : JournalView D). HasStopped seen j.disk new (accepted_calls before) (accepted_calls added)) a.journal
      (subst (λ (calls : List Call). HasStopped seen now.journal.disk new calls (accepted_calls added)) (ap accepted_calls front)
      (subst (λ (calls : List Call). HasStopped seen now.journal.disk new (kept_calls now) calls) (ap accepted_calls behind) has))

  -- what is printed of it
  module _ (from : ℕ) (members : List PoolEntry) (at : from ≡ length old.books.members) (same : members ≡ now.books.members) where
    pub told_text : (list : List Answer) → list ≡ answers → printed_of (take from members) (drop from members) list ≡ group_text before a.lines
    told_text list is =
        ap₂ (λ (n : ℕ) (ms : List PoolEntry). printed_of (take n ms) (drop n ms) list) at (same ∙ a.members)
        ∙ ap₂ (λ (l m : List PoolEntry). printed_of l m list) (take-append_seam before added) (drop-append_seam before added)
        ∙ ap (λ (told : List Answer). printed_of before added told) (is ∙ a.answers_are)

    pub told_rounds : All CanBeLoaded requests → [] ≡ cuts_after from members
    told_rounds can =
        sym (ap₂ (λ (n : ℕ) (ms : List PoolEntry). cuts_after n ms) at (same ∙ a.members)
        ∙ no_cuts before a.lines (subst (All CanBeLoaded) (sym a.requests_are) can))
