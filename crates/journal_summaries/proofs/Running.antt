-- The balance of a firm, entry by entry.
use Rattle.std.specs.Prelude.{Option, Some, None, reverse, filter_map, sum, sum_by, ℤ, pos, ◌+ℤ◌, ◌-ℤ◌}
use Rattle.std.specs.Option.{option_map}
use Rattle.std.specs.List.{cons_option}
use Rattle.std.proofs.Common.{◌≡◌, ◌∙◌, ℕ, ◌+◌, true, List, [], ◌∷◌, ap, ap₂, refl, sym, true≢false, arith}
use Rattle.std.proofs.lemmas.Int.{ints}
use Rattle.std.proofs.lemmas.List.{reverse-append}
use Rattle.std.proofs.lemmas.List.Sums.{sum_by-cons}
use Rattle.setoff_model.specs.CutView.{CutView}
use Rattle.printed_text.specs.claim_history.specs.declared.act.Act.{Act}
use Rattle.printed_text.specs.claim_history.specs.declared.act.Act.TheVariants as act
use Rattle.printed_text.specs.claim_history.specs.declared.entry.Entry.{Entry}
use Rattle.printed_text.specs.claim_history.specs.declared.entry.Reply.{Reply}
use Rattle.printed_text.specs.claim_history.specs.declared.entry.Reply.TheVariants as reply
use Rattle.printed_text.specs.claim_history.specs.Facts.{Ledger, Settled, amount_or, balance_of, discharged_by, discharged_to, gained, gained_by, spent, spent_by}
use Rattle.printed_text.specs.claim_history.specs.States.{OpenRound, State, after, discharges_of, open_as, settle, state, with_act}
use Rattle.printed_text.specs.claim_history.specs.History.{is_no_refusal}
use Rattle.printed_text.specs.claim_history.specs.Rounds.{open_cut_of}
use Rattle.journal_summaries.specs.Account.{added, settled_by, taken}
use Rattle.journal_summaries.specs.SummaryLaws.{BalanceLaw}

counted : (o : Option ℕ) (xs : List ℕ) → sum (cons_option o xs) ≡ amount_or 0 o + sum xs
counted None xs = omega arith
counted (Some n) xs = sum_by-cons (λ x. x) n xs

opened_ledger : (caller : ℕ) (a : Act) (s : State) → (open_as caller a s).ledger ≡ with_act a s.ledger
opened_ledger caller (act.Close kind horizon) s = refl
opened_ledger caller a s = refl

abbrev cut_in : Option OpenRound → Option CutView
cut_in o = option_map (λ round. round.cut) o

-- a sum over the acts and the published rounds
module _ (by : Act → Option ℕ) (flow : Settled → ℕ) where
  abbrev total : Ledger → ℕ
  total l = sum (filter_map by l.acts) + sum_by flow l.rounds

  abbrev more : Option CutView → Act → Reply → ℕ
  more cut a r = amount_or 0 (by a) + sum_by flow (settled_by cut a r)

  act_more : (a : Act) (l : Ledger) (rest : List Settled) → rest ≡ [] → total (with_act a l) ≡ total l + (amount_or 0 (by a) + sum_by flow rest)
  act_more a l rest none =
      let nothing : sum_by flow rest ≡ 0 = ap (λ (ss : List Settled). sum_by flow ss) none in
      omega (arith, counted (by a) (filter_map by l.acts), nothing)

  settle_more : (o : Option OpenRound) (a : Act) (t : ℕ) (rounds : List Settled) → sum_by flow (settle o (discharges_of a) rounds) ≡ sum_by flow rounds + sum_by flow (settled_by (cut_in o) a (reply.Published t))
  settle_more None a t rounds = omega arith
  settle_more (Some round) a t rounds =
      let new : Settled = record { cut = round.cut; discharges = discharges_of a } in
      omega (arith, sum_by-cons flow new rounds, sum_by-cons flow new [])

  none_done : (cut : Option CutView) (a : Act) → settled_by cut a reply.Done ≡ []
  none_done None a = refl
  none_done (Some cut) a = refl

  grown_by : (caller : ℕ) (a : Act) (r : Reply) (s : State) → is_no_refusal r ≡ true → total (after caller a r s).ledger ≡ total s.ledger + more (cut_in s.open_round) a r
  grown_by caller a (reply.Refused w) s accepted = absurd (true≢false (sym accepted))
  grown_by caller a (reply.Published t) s accepted = omega (arith, counted (by a) (filter_map by s.ledger.acts), settle_more s.open_round a t s.ledger.rounds)
  grown_by caller a reply.Done s accepted = act_more a s.ledger (settled_by (cut_in s.open_round) a reply.Done) (none_done (cut_in s.open_round) a)
  grown_by caller a (reply.Position p) s accepted = act_more a s.ledger (settled_by (cut_in s.open_round) a (reply.Position p)) (none_of (cut_in s.open_round)) where
    none_of : (cut : Option CutView) → settled_by cut a (reply.Position p) ≡ []
    none_of None = refl
    none_of (Some cut) = refl
  grown_by caller a (reply.Opened n) s accepted = ap total (opened_ledger caller a s) ∙ act_more a s.ledger (settled_by (cut_in s.open_round) a (reply.Opened n)) (none_of (cut_in s.open_round)) where
    none_of : (cut : Option CutView) → settled_by cut a (reply.Opened n) ≡ []
    none_of None = refl
    none_of (Some cut) = refl
  grown_by caller a (reply.Continued n) s accepted = act_more a s.ledger (settled_by (cut_in s.open_round) a (reply.Continued n)) (none_of (cut_in s.open_round)) where
    none_of : (cut : Option CutView) → settled_by cut a (reply.Continued n) ≡ []
    none_of None = refl
    none_of (Some cut) = refl
  grown_by caller a (reply.Abandoned n) s accepted = act_more a s.ledger (settled_by (cut_in s.open_round) a (reply.Abandoned n)) (none_of (cut_in s.open_round)) where
    none_of : (cut : Option CutView) → settled_by cut a (reply.Abandoned n) ≡ []
    none_of None = refl
    none_of (Some cut) = refl

less : (g s a t : ℕ) → pos (g + a) -ℤ pos (s + t) ≡ ((pos g -ℤ pos s) +ℤ pos a) -ℤ pos t
less g s a t = omega (arith, ints)

pub balance_law : BalanceLaw
balance_law history e firm accepted =
    let before = state (reverse history) in
    let puts = grown_by (gained_by firm) (discharged_to firm) e.caller e.act e.reply before accepted in
    let takes = grown_by (spent_by firm) (discharged_by firm) e.caller e.act e.reply before accepted in
    ap (λ (past : List Entry). balance_of (state past).ledger firm) (reverse-append history (e ∷ []))
    ∙ ap₂ (λ (x y : ℕ). pos x -ℤ pos y) puts takes
    ∙ less (gained before.ledger firm) (spent before.ledger firm) (added firm (open_cut_of history) e) (taken firm (open_cut_of history) e)
