-- The one round of a trial: its opening and its publication.
use Rattle.std.specs.Prelude.{reverse, Option, Some, None, drop, take}
use Rattle.std.specs.List.{list_any}
use Rattle.std.proofs.Common.{◌≡◌, ◌∙◌, ℕ, ◌+◌, false, List, [], ◌∷◌, ◌++◌, length, map, refl, sym, ap, ap₂, subst, append_assoc, arith}
use Rattle.std.specs.Prelude.{All}
use Rattle.std.proofs.lemmas.List.{reverse-append}
use Rattle.std.proofs.Math.Seq.{drop-nil}
use Rattle.std.proofs.lemmas.List.Elements.{All-head, All-tail}
use Rattle.setoff_model.specs.declared.kind.Kind.TheVariants.{Plain}
use Rattle.setoff_model.specs.CutView.{CutView, OutcomeView, obligations}
use Rattle.setoff_model.specs.Setoff.{Proves}
use Rattle.claim_history.specs.declared.act.Act.{Act}
use Rattle.claim_history.specs.declared.act.Act.TheVariants as act
use Rattle.claim_history.specs.declared.entry.Entry.{Entry}
use Rattle.claim_history.specs.declared.entry.Reply.{Reply}
use Rattle.claim_history.specs.declared.entry.Reply.TheVariants as reply
use Rattle.claim_history.specs.Cut.{cut_of}
use Rattle.claim_history.specs.Facts.{Settled}
use Rattle.claim_history.specs.History.{IsLegalPool, IsLegalPoolPast, answer, close_answer, last_count}
use Rattle.claim_history.specs.Laws.{GreatestLaw, IsGreatestPublication}
use Rattle.claim_history.specs.Rounds.{cut_published, pool_cuts_after, pool_cuts_of}
use Rattle.claim_history.specs.States.{OpenRound, State, after, state, state_of}
use Rattle.claim_history.proofs.Histories.{answer_leaves, is_of_rounds, reply_leaves}
use Rattle.claim_history.proofs.Pasts.{all_reverse, legal_first}
use Rattle.claim_history.proofs.Published.{cuts_more}
use Rattle.claim_history.proofs.Rounds.{same_open}
use Rattle.trial_round.specs.declared.days.TheConstants.{HORIZON_DAY}
use Rattle.trial_round.specs.Input.{close_act}
use Rattle.trial_round.proofs.Replayed.{has_device_reply, none_in_first, none_in_parts, reply_due}

-- ---- before the round

-- no round was opened
pub record IsFresh (s : State) : Type 0 where
  pub none_open : s.open_round ≡ None
  pub openings : s.openings ≡ 0
  pub rounds : s.ledger.rounds ≡ []

fresh_past : (past : List Entry) → IsLegalPoolPast past → All (λ e. is_of_rounds e.act ≡ false) past → IsFresh (state past)
fresh_past [] legal of = record { none_open = refl; openings = refl; rounds = refl }
fresh_past (e ∷ past) legal of =
    let was = fresh_past past legal.1 (All-tail (λ (x : Entry). is_of_rounds x.act ≡ false) e past of) in
    reply_leaves IsFresh (state past) (last_count past) e.caller e.act e.reply legal.0 was
    (answer_leaves IsFresh (state past) e.caller e.act (All-head (λ (x : Entry). is_of_rounds x.act ≡ false) e past of) was (record { none_open = was.none_open; openings = was.openings; rounds = was.rounds }))

pub fresh_history : (history : List Entry) → IsLegalPool history → All (λ e. is_of_rounds e.act ≡ false) history → IsFresh (state_of history)
fresh_history history legal of = fresh_past (reverse history) legal (all_reverse (λ (e : Entry). is_of_rounds e.act ≡ false) history of)

-- ---- the opening

fresh_answer : (s : State) (caller : ℕ) → IsFresh s → answer s caller close_act ≡ reply.Opened 1
fresh_answer s caller fresh = ap₂ (λ (n : ℕ) (o : Option OpenRound). close_answer n o caller Plain HORIZON_DAY) fresh.openings fresh.none_open

abbrev round_of : ℕ → State → OpenRound
round_of caller s = record { owner = caller; horizon = HORIZON_DAY; cut = cut_of 1 s.ledger Plain HORIZON_DAY }

fresh_opens : (s : State) (caller : ℕ) → IsFresh s → (after caller close_act (reply.Opened 1) s).open_round ≡ Some (round_of caller s)
fresh_opens s caller fresh = ap (λ (n : ℕ). Some (record { owner = caller; horizon = HORIZON_DAY; cut = cut_of (n + 1) s.ledger Plain HORIZON_DAY })) fresh.openings

-- a Close after acts that are not of rounds opens the first round
pub opens_first : (before later : List Entry) (close : Entry) → close.act ≡ close_act → IsLegalPool (before ++ close ∷ later) → list_any has_device_reply (before ++ close ∷ later) ≡ false → All (λ e. is_of_rounds e.act ≡ false) before
    → close.reply ≡ reply.Opened 1
opens_first before later close asks legal none of =
    let first = legal_first before later close legal in
    reply_due (last_count (reverse before)) (answer (state_of before) close.caller close.act) close.reply first.0
    (none_in_first close later (none_in_parts before (close ∷ later) none).1).0
    ∙ ap (answer (state_of before) close.caller) asks ∙ fresh_answer (state_of before) close.caller (fresh_history before first.1 of)

-- the cut of a round that is closed then
abbrev pub cut_after : List Entry → CutView
cut_after before = cut_of 1 (state_of before).ledger Plain HORIZON_DAY

-- the entries before a round, its opening and its publication
module _ (before : List Entry) (close publication : Entry) (asks : close.act ≡ close_act)
    (legal : IsLegalPool (before ++ close ∷ publication ∷ [])) (none : list_any has_device_reply (before ++ close ∷ publication ∷ []) ≡ false) (of : All (λ e. is_of_rounds e.act ≡ false) before) where
  pub legal_before : IsLegalPool before
  legal_before = (legal_first before (publication ∷ []) close legal).1

  fresh : IsFresh (state_of before)
  fresh = fresh_history before legal_before of

  pub opened : close.reply ≡ reply.Opened 1
  opened = opens_first before (publication ∷ []) close asks legal none of

  state_opened : state_of (before ++ close ∷ []) ≡ after close.caller close_act (reply.Opened 1) (state_of before)
  state_opened =
      ap state (reverse-append before (close ∷ [])) ∙ ap₂ (λ (a : Act) (r : Reply). after close.caller a r (state_of before)) asks opened

  pub was_open : (state_of (before ++ close ∷ [])).open_round ≡ Some (round_of close.caller (state_of before))
  was_open = ap (λ (s : State). s.open_round) state_opened ∙ fresh_opens (state_of before) close.caller fresh

  -- ---- the publication

  whole : (before ++ close ∷ []) ++ publication ∷ [] ≡ before ++ close ∷ publication ∷ []
  whole = append_assoc before (close ∷ []) (publication ∷ [])

  module _ (total : ℕ) (published : publication.reply ≡ reply.Published total) where
    found : GreatestLaw → IsGreatestPublication (before ++ close ∷ []) publication total
    found law = law (before ++ close ∷ []) [] publication total (subst IsLegalPool (sym whole) legal) published

    cut_found : (law : GreatestLaw) → (found law).round.cut ≡ (cut_after before)
    cut_found law = ap (λ (r : OpenRound). r.cut) (same_open (found law).round (round_of close.caller (state_of before)) (sym (found law).was_open ∙ was_open))

    pub proved : GreatestLaw → (number : ℕ) (outcome : OutcomeView) → publication.act ≡ act.Publish number outcome → Proves (obligations (cut_after before)) outcome.discharges outcome.prices
    proved law number outcome is =
        let asked : act.Publish number outcome ≡ act.Publish (found law).round.cut.round (found law).outcome = sym is ∙ (found law).asks in
        let same : (found law).outcome ≡ outcome = cc asked in
        subst (λ (o : OutcomeView). Proves (obligations (cut_after before)) o.discharges o.prices) same
        (subst (λ (c : CutView). Proves (obligations c) (found law).outcome.discharges (found law).outcome.prices) (cut_found law) (found law).proved)

    none_before : pool_cuts_after 0 before ≡ []
    none_before = ap (drop (length (pool_cuts_of (take 0 before)))) (ap (λ (rounds : List Settled). reverse (map (λ r. r.cut) rounds)) fresh.rounds) ∙ drop-nil (length (pool_cuts_of (take 0 before)))

    none_opened : pool_cuts_after 0 (before ++ close ∷ []) ≡ []
    none_opened = cuts_more 0 before close (omega arith) ∙ ap₂ (λ (l : List CutView) (r : Reply). l ++ cut_published (state_of before).open_round r) none_before opened

    pub one_cut : pool_cuts_after 0 (before ++ close ∷ publication ∷ []) ≡ (cut_after before) ∷ []
    one_cut =
        ap (pool_cuts_after 0) (sym whole)
        ∙ cuts_more 0 (before ++ close ∷ []) publication (omega arith)
        ∙ ap (λ (l : List CutView). l ++ cut_published (state_of (before ++ close ∷ [])).open_round publication.reply) none_opened
        ∙ ap₂ cut_published was_open published
