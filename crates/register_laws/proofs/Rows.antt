-- The rows of a register, one entry after another.
use Rattle.std.specs.Prelude.{Option, reverse, if◌then◌else◌, pos, ◌+ℤ◌, ◌-ℤ◌}
use Rattle.std.proofs.Common.{◌≡◌, ◌∙◌, ℕ, Bool, true, false, List, [], ◌∷◌, ◌++◌, length, refl, sym, ap, subst, subst₂, true≢false}
use Rattle.std.proofs.lemmas.List.{append-nil, reverse-reverse}
use Rattle.printed_text.specs.setoff_model.specs.CutView.{CutView}
use Rattle.printed_text.specs.claim_history.specs.declared.act.Act.{Act}
use Rattle.printed_text.specs.claim_history.specs.declared.call.PoolEntry.{PoolEntry}
use Rattle.printed_text.specs.claim_history.specs.declared.entry.Entry.{Entry}
use Rattle.printed_text.specs.claim_history.specs.declared.entry.Reply.{Reply}
use Rattle.printed_text.specs.claim_history.specs.declared.entry.Reply.TheVariants as reply
use Rattle.printed_text.specs.claim_history.specs.declared.fact.Position.{Position}
use Rattle.printed_text.specs.claim_history.specs.Facts.{Ledger, balance_of, position_of}
use Rattle.printed_text.specs.claim_history.specs.States.{state}
use Rattle.printed_text.specs.claim_history.specs.History as one
use Rattle.printed_text.specs.claim_history.specs.History.{is_accepted, is_no_refusal}
use Rattle.printed_text.specs.claim_history.specs.Pools.{IsLegal, IsLegalPast, entries_in, is_in}
use Rattle.printed_text.specs.claim_history.specs.Rounds.{open_cut}
use Rattle.printed_text.specs.claim_history.proofs.Pools.{in_reverse, legal_past, past_other, past_own}
use Rattle.journal_summaries.specs.Account.{AccountRow, account_rows, added, is_listed, is_listed_by, past_rows, row_of, rows_of, rows_with, taken}
use Rattle.journal_summaries.proofs.Running.{balance_law}
use Rattle.register_laws.specs.RowLaws.{LastRowLaw, NoRowLaw, RunOnFrom, RunningLaw, no_position}
use Rattle.register_laws.proofs.Unlisted.{turned, unlisted_same}

-- ---- rows

-- the position of the last row, or this one where there is none
abbrev last_or : Position → List AccountRow → Position
last_or p [] = p
last_or p (row ∷ rows) = last_or row.position rows

last_is : (p : Position) (rows : List AccountRow) (row : AccountRow) → last_or p (rows ++ row ∷ []) ≡ row.position
last_is p [] row = refl
last_is p (r ∷ rows) row = last_is r.position rows row

run_on : (p : Position) (rows : List AccountRow) (row : AccountRow) → RunOnFrom p.balance rows → row.position.balance ≡ ((last_or p rows).balance +ℤ pos row.added) -ℤ pos row.taken
    → RunOnFrom p.balance (rows ++ row ∷ [])
run_on p [] row run here = (here, tt)
run_on p (r ∷ rows) row run here = (run.0, run_on r.position rows row run.1 here)

-- ---- one more entry

listed_accepted : (firm : List ℕ) (cut : Option CutView) (l : Ledger) (a : Act) (r : Reply) → is_listed_by firm cut l a r ≡ true → is_no_refusal r ≡ true
listed_accepted firm cut l a (reply.Refused w) listed = absurd (true≢false (sym listed))
listed_accepted firm cut l a r listed = refl

balance_more : (firm : List ℕ) (e : Entry) (past : List Entry) → is_accepted e ≡ true
    → balance_of (state (e ∷ past)).ledger firm ≡ (balance_of (state past).ledger firm +ℤ pos (added firm (open_cut past) e)) -ℤ pos (taken firm (open_cut past) e)
balance_more firm e past accepted =
    subst (λ (p : List Entry). balance_of (state (e ∷ past)).ledger firm ≡ (balance_of (state p).ledger firm +ℤ pos (added firm (open_cut p) e)) -ℤ pos (taken firm (open_cut p) e)) (reverse-reverse past)
    (sym (ap (λ (p : List Entry). balance_of (state p).ledger firm) (turned e past)) ∙ balance_law (reverse past) e firm accepted)

module _ (pool firm : List ℕ) where
  -- the rows run on from 0 to where the firm stands after a past
  abbrev Reach : List Entry → List AccountRow → Type 0
  Reach past rows = (last_or no_position rows ≡ position_of (state past).ledger firm) × RunOnFrom (pos 0) rows

  entry_reached : (n : ℕ) (e : Entry) (past : List Entry) (rows : List AccountRow) (b : Bool) → is_listed firm (open_cut past) (state (e ∷ past)).ledger e ≡ b → one.IsLegalPoolPast (e ∷ past) → Reach past rows
      → Reach (e ∷ past) (rows ++ (if b then row_of firm n (open_cut past) (state (e ∷ past)).ledger e ∷ [] else []))
  entry_reached n e past rows true listed legal so_far =
      let row = row_of firm n (open_cut past) (state (e ∷ past)).ledger e in
      let accepted = listed_accepted firm (open_cut past) (state (e ∷ past)).ledger e.act e.reply listed in
      let from : position_of (state past).ledger firm ≡ last_or no_position rows = sym so_far.0 in
      let here : row.position.balance ≡ ((last_or no_position rows).balance +ℤ pos row.added) -ℤ pos row.taken =
      balance_more firm e past accepted ∙ ap (λ (p : Position). (p.balance +ℤ pos row.added) -ℤ pos row.taken) from in
      (last_is no_position rows row, run_on no_position rows row so_far.1 here)
  entry_reached n e past rows false listed legal so_far =
      subst (Reach (e ∷ past)) (sym (append-nil rows)) (so_far.0 ∙ sym (unlisted_same firm e past legal listed), so_far.1)

  -- ---- one more member

  member_reached : (m : PoolEntry) (past : List PoolEntry) (b : Bool) → is_in pool m ≡ b → one.IsLegalPoolPast (entries_in pool (m ∷ past))
      → Reach (entries_in pool past) (past_rows pool firm past) → Reach (entries_in pool (m ∷ past)) (past_rows pool firm (m ∷ past))
  member_reached m past true own legal so_far =
      let es = entries_in pool past in
      let n = length (m ∷ past) in
      let parts = past_own pool m past own in
      let listed : Bool = is_listed firm (open_cut es) (state (m.entry ∷ es)).ledger m.entry in
      let rows : rows_with pool firm m past ≡ rows_of firm n (open_cut es) (state (m.entry ∷ es)).ledger m.entry =
      ap (λ (b : Bool). if b then rows_of firm n (open_cut es) (state (entries_in pool (m ∷ past))).ledger m.entry else []) own
      ∙ ap (λ (xs : List Entry). rows_of firm n (open_cut es) (state xs).ledger m.entry) parts in
      subst₂ Reach (sym parts) (sym (ap (λ (more : List AccountRow). past_rows pool firm past ++ more) rows))
      (entry_reached n m.entry es (past_rows pool firm past) listed refl (subst one.IsLegalPoolPast parts legal) so_far)
  member_reached m past false other legal so_far =
      let es = entries_in pool past in
      let n = length (m ∷ past) in
      let rows : rows_with pool firm m past ≡ [] =
      ap (λ (b : Bool). if b then rows_of firm n (open_cut es) (state (entries_in pool (m ∷ past))).ledger m.entry else []) other in
      subst₂ Reach (sym (past_other pool m past other)) (sym (ap (λ (more : List AccountRow). past_rows pool firm past ++ more) rows ∙ append-nil (past_rows pool firm past))) so_far

  reached : (past : List PoolEntry) → IsLegalPast past → Reach (entries_in pool past) (past_rows pool firm past)
  reached [] legal = (refl, tt)
  reached (m ∷ past) legal = member_reached m past (is_in pool m) refl (legal_past pool (m ∷ past) legal) (reached past legal.1)

  whole : (history : List PoolEntry) → IsLegal history → Reach (reverse (entries_in pool history)) (account_rows pool firm history)
  whole history legal = subst (λ (past : List Entry). Reach past (account_rows pool firm history)) (in_reverse pool history) (reached (reverse history) legal)

-- ---- the laws

pub last_row_law : LastRowLaw
last_row_law history pool firm rows last legal is =
    sym (last_is no_position rows last) ∙ sym (ap (last_or no_position) is) ∙ (whole pool firm history legal).0

pub no_row_law : NoRowLaw
no_row_law history pool firm legal none = sym (whole pool firm history legal).0 ∙ ap (last_or no_position) none

pub running_law : RunningLaw
running_law history pool firm legal = (whole pool firm history legal).1
