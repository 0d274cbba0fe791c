-- The numbers of rounds that the replies of a legal history tell.
use Rattle.std.specs.Prelude.{if◌then◌else◌, not, Option, Some, None}
use Rattle.std.proofs.Common.{◌≡◌, ◌∙◌, ⊎_elim, ℕ, ◌+◌, ◌≤◌, Bool, true, false, cond, List, [], ◌∷◌, reverse, All, refl, sym, ap, subst, true≢false, arith}
use Rattle.std.proofs.lemmas.Bool.{cases_Bool}
use Rattle.std.proofs.lemmas.List.{reverse-reverse}
use Rattle.std.proofs.lemmas.List.Elements.{All-nil, All-cons, All-weaker}
use Rattle.std.proofs.lemmas.List.Sums.{sum_by-cons}
use Rattle.batch_runs.specs.setoff_model.specs.declared.limits.TheConstants.{MOST_ENTRIES}
use Rattle.batch_runs.specs.setoff_model.specs.declared.kind.Kind.{Kind}
use Rattle.batch_runs.specs.setoff_model.specs.CutView.{OutcomeView}
use Rattle.batch_runs.specs.setoff_model.specs.Setoff.{total_of}
use Rattle.batch_runs.specs.claim_history.specs.declared.act.Act.{Act}
use Rattle.batch_runs.specs.claim_history.specs.declared.act.Act.TheVariants as act
use Rattle.batch_runs.specs.claim_history.specs.declared.call.PoolEntry.{PoolEntry}
use Rattle.batch_runs.specs.claim_history.specs.declared.entry.Entry.{Entry}
use Rattle.batch_runs.specs.claim_history.specs.declared.entry.Reply.{Reply}
use Rattle.batch_runs.specs.claim_history.specs.declared.entry.Reply.TheVariants as reply
use Rattle.batch_runs.specs.claim_history.specs.declared.entry.Why.{Why}
use Rattle.batch_runs.specs.claim_history.specs.declared.entry.Why.TheVariants as why
use Rattle.batch_runs.specs.claim_history.specs.Facts.{Ledger, position_of}
use Rattle.batch_runs.specs.claim_history.specs.Needs.{is_counted, is_of_device}
use Rattle.batch_runs.specs.claim_history.specs.States.{OpenRound, State, after, number_of, state}
use Rattle.batch_runs.specs.claim_history.specs.History.{IsLegalPoolPast, IsReply, Refusals, abandon_answer, abandon_refusals, answer, close_answer, close_refusals, confirm_refusals, dispute_refusals, draw_refusals, failed, file_refusals, firm_refusals, fund_refusals, is_opening, limit_refusals, offer_refusals, position_refusals, publish_answer, publish_refusals, receive_refusals, refused_or, replied, withdraw_refusals}
use Rattle.batch_runs.specs.claim_history.specs.Pools.{IsLegal, entries_in, entries_of, is_in}
use Rattle.batch_runs.specs.claim_history.specs.PoolNeeds.{IsWithinLimits, used_entries}
use Rattle.batch_runs.specs.claim_history.proofs.Agreement.{reply_counts}
use Rattle.batch_runs.specs.claim_history.proofs.Histories.{answer_leaves, every_past}
use Rattle.batch_runs.specs.claim_history.proofs.Pasts.{all_reverse}
use Rattle.batch_runs.specs.claim_history.proofs.PoolRoom.{room_law}
use Rattle.batch_runs.specs.claim_history.proofs.Pools.{in_reverse, legal_past, past_other, past_own}
use Rattle.batch_runs.specs.claim_history.proofs.Rounds.{at_state}
use Rattle.batch_runs.specs.claim_history.proofs.Rows.{by_rows}

-- ---- the rounds of a reply are at most this

abbrev IsLowWhy : ℕ → Why → Type 0
IsLowWhy n (why.Frozen round) = round ≤ n
IsLowWhy n (why.RoundOpen round) = round ≤ n
IsLowWhy n (why.NotOwner round) = round ≤ n
IsLowWhy n _ = Unit {0}

abbrev pub IsLow : ℕ → Reply → Type 0
IsLow n (reply.Opened round) = round ≤ n
IsLow n (reply.Continued round) = round ≤ n
IsLow n (reply.Abandoned round) = round ≤ n
IsLow n (reply.Refused w) = IsLowWhy n w
IsLow n _ = Unit {0}

abbrev AreLow : ℕ → Refusals → Type 0
AreLow n [] = Unit {0}
AreLow n (row ∷ rows) = IsLowWhy n row.1 × AreLow n rows

low_row : (n : ℕ) (b : Bool) (w : Why) (rest : Reply) → IsLowWhy n w → IsLow n rest → IsLow n (if b then reply.Refused w else rest)
low_row n true w rest here later = here
low_row n false w rest here later = later

low_rows : (n : ℕ) (rows : Refusals) (otherwise : Reply) → AreLow n rows → IsLow n otherwise → IsLow n (refused_or rows otherwise)
low_rows n [] otherwise low last = last
low_rows n (row ∷ rows) otherwise low last = low_row n row.0 row.1 (refused_or rows otherwise) low.0 (low_rows n rows otherwise low.1 last)

low_why_more : (n m : ℕ) (w : Why) → n ≤ m → IsLowWhy n w → IsLowWhy m w
low_why_more n m (why.Frozen round) le low = omega (arith, le, low)
low_why_more n m (why.RoundOpen round) le low = omega (arith, le, low)
low_why_more n m (why.NotOwner round) le low = omega (arith, le, low)
low_why_more n m w le low = tt

low_more : (n m : ℕ) (r : Reply) → n ≤ m → IsLow n r → IsLow m r
low_more n m (reply.Opened round) le low = omega (arith, le, low)
low_more n m (reply.Continued round) le low = omega (arith, le, low)
low_more n m (reply.Abandoned round) le low = omega (arith, le, low)
low_more n m (reply.Refused w) le low = low_why_more n m w le low
low_more n m r le low = tt

-- ---- the one reply

close_low : (n : ℕ) (o : Option OpenRound) (caller : ℕ) (kind : Kind) (horizon : ℕ) → number_of o ≤ n → IsLow (n + 1) (close_answer n o caller kind horizon)
close_low n None caller kind horizon low = omega arith
close_low n (Some round) caller kind horizon low =
    let here : round.cut.round ≤ n + 1 = omega (arith, low) in
    low_rows (n + 1) (close_refusals round caller kind horizon) (reply.Continued round.cut.round) (here, tt) here

abandon_low : (n : ℕ) (o : Option OpenRound) (caller : ℕ) → number_of o ≤ n → IsLow (n + 1) (abandon_answer o caller)
abandon_low n None caller low = tt
abandon_low n (Some round) caller low =
    let here : round.cut.round ≤ n + 1 = omega (arith, low) in
    low_rows (n + 1) (abandon_refusals round caller) (reply.Abandoned round.cut.round) (here, tt) here

publish_low : (n : ℕ) (o : Option OpenRound) (caller number : ℕ) (outcome : OutcomeView) → number_of o ≤ n → IsLow (n + 1) (publish_answer o caller number outcome)
publish_low n None caller number outcome low = tt
publish_low n (Some round) caller number outcome low =
    let here : round.cut.round ≤ n + 1 = omega (arith, low) in
    low_rows (n + 1) (publish_refusals round caller number outcome) (reply.Published (total_of outcome.discharges)) (tt, (here, (tt, tt))) tt

module _ (s : State) (low : number_of s.open_round ≤ s.openings) where
  here : number_of s.open_round ≤ s.openings + 1
  here = omega (arith, low)

  answer_low : (caller : ℕ) (a : Act) → IsLow (s.openings + 1) (answer s caller a)
  answer_low caller (act.Firm firm) = low_rows (s.openings + 1) (firm_refusals s firm) reply.Done (tt, (tt, tt)) tt
  answer_low caller (act.File key debtor amount due) = low_rows (s.openings + 1) (file_refusals s key debtor) reply.Done (tt, (tt, (tt, (tt, tt)))) tt
  answer_low caller (act.Confirm key debtor agreed) = low_rows (s.openings + 1) (confirm_refusals s key debtor agreed) reply.Done (tt, (tt, (tt, (tt, tt)))) tt
  answer_low caller (act.Dispute key debtor) = low_rows (s.openings + 1) (dispute_refusals s key debtor) reply.Done (tt, (tt, (tt, (here, tt)))) tt
  answer_low caller (act.Withdraw key) = low_rows (s.openings + 1) (withdraw_refusals s key) reply.Done (tt, (tt, (here, tt))) tt
  answer_low caller (act.Receive key amount) = low_rows (s.openings + 1) (receive_refusals s key amount) reply.Done (tt, (tt, (here, (tt, tt)))) tt
  answer_low caller (act.Fund firm amount) = low_rows (s.openings + 1) (fund_refusals s firm amount) reply.Done (tt, (here, (tt, tt))) tt
  answer_low caller (act.Draw firm amount) = low_rows (s.openings + 1) (draw_refusals s firm amount) reply.Done (tt, (here, (tt, tt))) tt
  answer_low caller (act.Limit firm credit ceiling) = low_rows (s.openings + 1) (limit_refusals s firm credit ceiling) reply.Done (tt, (here, (tt, tt))) tt
  answer_low caller (act.Offer firm amount) = low_rows (s.openings + 1) (offer_refusals s firm) reply.Done (tt, (here, tt)) tt
  answer_low caller (act.Position firm) = low_rows (s.openings + 1) (position_refusals s firm) (reply.Position (position_of s.ledger firm)) (tt, tt) tt
  answer_low caller (act.Close kind horizon) = close_low s.openings s.open_round caller kind horizon low
  answer_low caller (act.Abandon) = abandon_low s.openings s.open_round caller low
  answer_low caller (act.Publish number outcome) = publish_low s.openings s.open_round caller number outcome low

reply_low : (n counted : ℕ) (due got : Reply) → IsReply counted due got → IsLow n due → IsLow n got
reply_low n counted due got (replied e) low = subst (IsLow n) (sym e) low
reply_low n counted due got (failed device) low = subst (IsLow n) (sym device.is) tt

-- ---- the open round is one of those that were opened

abbrev IsNumbered : State → Type 0
IsNumbered s = number_of s.open_round ≤ s.openings

close_numbered : (l : Ledger) (n : ℕ) (o : Option OpenRound) (caller : ℕ) (kind : Kind) (horizon : ℕ) → number_of o ≤ n → IsNumbered (after caller (act.Close kind horizon) (close_answer n o caller kind horizon) (at_state l n o))
close_numbered l n None caller kind horizon low = omega arith
close_numbered l n (Some round) caller kind horizon low =
    by_rows (λ r. IsNumbered (after caller (act.Close kind horizon) r (at_state l n (Some round)))) (close_refusals round caller kind horizon) (reply.Continued round.cut.round) (λ w. low) (λ none. low)

abandon_numbered : (l : Ledger) (n : ℕ) (o : Option OpenRound) (caller : ℕ) → number_of o ≤ n → IsNumbered (after caller act.Abandon (abandon_answer o caller) (at_state l n o))
abandon_numbered l n None caller low = low
abandon_numbered l n (Some round) caller low =
    by_rows (λ r. IsNumbered (after caller act.Abandon r (at_state l n (Some round)))) (abandon_refusals round caller) (reply.Abandoned round.cut.round) (λ w. low) (λ none. omega arith)

publish_numbered : (l : Ledger) (n : ℕ) (o : Option OpenRound) (caller number : ℕ) (outcome : OutcomeView) → number_of o ≤ n → IsNumbered (after caller (act.Publish number outcome) (publish_answer o caller number outcome) (at_state l n o))
publish_numbered l n None caller number outcome low = low
publish_numbered l n (Some round) caller number outcome low =
    by_rows (λ r. IsNumbered (after caller (act.Publish number outcome) r (at_state l n (Some round)))) (publish_refusals round caller number outcome) (reply.Published (total_of outcome.discharges)) (λ w. low) (λ none. omega arith)

numbered_step : (s : State) (caller : ℕ) (a : Act) → IsNumbered s → IsNumbered (after caller a (answer s caller a) s)
numbered_step s caller (act.Close kind horizon) low = close_numbered s.ledger s.openings s.open_round caller kind horizon low
numbered_step s caller (act.Abandon) low = abandon_numbered s.ledger s.openings s.open_round caller low
numbered_step s caller (act.Publish number outcome) low = publish_numbered s.ledger s.openings s.open_round caller number outcome low
numbered_step s caller a low = answer_leaves IsNumbered s caller a refl low low

past_numbered : (past : List Entry) → IsLegalPoolPast past → IsNumbered (state past)
past_numbered past legal = every_past IsNumbered (omega arith) numbered_step past legal

-- ---- so it is of each reply of a past

past_low : (past : List Entry) → IsLegalPoolPast past → All (λ (e : Entry). IsLow ((state past).openings + 1) e.reply) past
past_low [] legal = All-nil (λ (e : Entry). IsLow ((state []).openings + 1) e.reply)
past_low (e ∷ past) legal =
    let was = state past in
    let now = state (e ∷ past) in
    let grown : now.openings ≡ (if is_opening e.reply then 1 else 0) + was.openings = reply_counts was _ e.caller e.act e.reply legal.0 in
    let longer : was.openings + 1 ≤ now.openings + 1 = omega (arith, grown) in
    All-cons (λ (x : Entry). IsLow (now.openings + 1) x.reply) e past
    (low_more (was.openings + 1) (now.openings + 1) e.reply longer (reply_low (was.openings + 1) _ _ e.reply legal.0 (answer_low was (past_numbered past legal.1) e.caller e.act)))
    (All-weaker (λ (x : Entry). IsLow (was.openings + 1) x.reply) (λ (x : Entry). IsLow (now.openings + 1) x.reply) (λ x low. low_more (was.openings + 1) (now.openings + 1) x.reply longer low) past (past_low past legal.1))

-- ---- no more rounds are opened than there are entries

opening_counted : (r : Reply) → is_opening r ≡ true → is_of_device r ≡ false
opening_counted (reply.Opened round) is = refl
opening_counted r is = absurd (true≢false (sym is))

one_counted : (opens device : Bool) → (opens ≡ true → device ≡ false) → (if opens then 1 else 0) ≤ cond (not device) 1 0
one_counted true true h = absurd (true≢false (h refl))
one_counted true false h = omega arith
one_counted false device h = omega arith

openings_few : (pool : List ℕ) (past : List PoolEntry) → IsLegalPoolPast (entries_in pool past) → (state (entries_in pool past)).openings ≤ used_entries past
openings_few pool [] legal = omega arith
openings_few pool (m ∷ past) legal = ⊎_elim
    (λ mine.
    let parts = past_own pool m past mine in
    let here = subst IsLegalPoolPast parts legal in
    let s = state (entries_in pool past) in
    let grown : (state (m.entry ∷ entries_in pool past)).openings ≡ (if is_opening m.entry.reply then 1 else 0) + s.openings = reply_counts s _ m.entry.caller m.entry.act m.entry.reply here.0 in
    omega (arith, ap (λ (es : List Entry). (state es).openings) parts, grown, openings_few pool past here.1, one_counted (is_opening m.entry.reply) (is_of_device m.entry.reply) (opening_counted m.entry.reply), more))
    (λ other.
    let parts = past_other pool m past other in
    omega (arith, ap (λ (es : List Entry). (state es).openings) parts, openings_few pool past (subst IsLegalPoolPast parts legal), more))
    (cases_Bool (is_in pool m)) where
      more : used_entries (m ∷ past) ≡ cond (is_counted m.entry) 1 0 + used_entries past
      more = sum_by-cons (λ (e : Entry). cond (is_counted e) 1 0) m.entry (entries_of past)

-- the rounds that the entries of a pool tell are at most one more than there may be entries
pub rounds_low : (history : List PoolEntry) (pool : List ℕ) → IsLegal history → IsWithinLimits history → All (λ (e : Entry). IsLow (MOST_ENTRIES + 1) e.reply) (entries_in pool history)
rounds_low history pool legal within =
    let past = entries_in pool (reverse history) in
    let here = legal_past pool (reverse history) legal in
    let few = openings_few pool (reverse history) here in
    let room = room_law history legal within in
    let bound : (state past).openings + 1 ≤ MOST_ENTRIES + 1 = omega (arith, few, room.entries) in
    let low = All-weaker (λ (e : Entry). IsLow ((state past).openings + 1) e.reply) (λ (e : Entry). IsLow (MOST_ENTRIES + 1) e.reply) (λ e l. low_more ((state past).openings + 1) (MOST_ENTRIES + 1) e.reply bound l) past (past_low past here) in
    subst (All (λ (e : Entry). IsLow (MOST_ENTRIES + 1) e.reply)) (ap reverse (in_reverse pool history) ∙ reverse-reverse (entries_in pool history))
    (all_reverse (λ (e : Entry). IsLow (MOST_ENTRIES + 1) e.reply) past low)
