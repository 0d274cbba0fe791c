-- The history of a trial all of whose lines were replied to.
use Rattle.std.specs.List.{list_any}
use Rattle.std.proofs.Common.{◌≡◌, ◌∙◌, ◌⊎◌, inl, inr, ℕ, true, false, List, [], ◌∷◌, ◌++◌, map, refl, sym, ap, subst, append_assoc, true≢false, All}
use Rattle.setoff_model.specs.declared.kind.Kind.TheVariants.{Plain}
use Rattle.setoff_model.specs.CutView.{CutView, OutcomeView, WellFormed, obligations}
use Rattle.setoff_model.specs.Setoff.{Proves}
use Rattle.std.proofs.lemmas.List.{map-append}
use Rattle.setoff_model.proofs.Lists.{All-first}
use Rattle.claim_history.specs.declared.act.Act.{Act}
use Rattle.claim_history.specs.declared.act.Act.TheVariants as act
use Rattle.claim_history.specs.declared.call.PoolEntry.{PoolEntry}
use Rattle.claim_history.specs.declared.entry.Entry.{Entry}
use Rattle.claim_history.specs.declared.entry.Reply.{Reply}
use Rattle.claim_history.specs.declared.entry.Reply.TheVariants as reply
use Rattle.claim_history.specs.declared.entry.Why.TheVariants as why
use Rattle.claim_history.specs.Acts.{is_valid}
use Rattle.claim_history.specs.History.{AreValidEntries, IsLegalPool, is_accepted, is_no_refusal}
use Rattle.claim_history.proofs.Histories.{is_of_rounds}
use Rattle.claim_history.specs.Laws.{GreatestLaw}
use Rattle.claim_history.specs.Needs.{is_of_device}
use Rattle.claim_history.specs.Rounds.{pool_cuts_after}
use Rattle.claim_history.specs.PoolLaws.{MainLaw}
use Rattle.claim_history.specs.Pools as pools
use Rattle.claim_history.specs.Pools.{entries_in, entries_of, main_pool, member_of, replay_of}
use Rattle.claim_history.specs.PoolRounds as rounds
use Rattle.lane_runner.specs.round_cut.specs.CutLaw.{FormedLaw}
use Rattle.request_text.specs.declared.request.Request.{Request}
use Rattle.request_text.specs.Grammar.{numbered}
use Rattle.lane_runner.specs.served_lines.specs.declared.answer.Answer.{Answer}
use Rattle.lane_runner.specs.served_lines.specs.Ends.{has_line_end, is_full_end, is_memory_end}
use Rattle.lane_runner.specs.served_lines.specs.Served.{EndsAtOnce, IsEnding, IsOne, IsRound, IsServed}
use Rattle.trial_round.specs.declared.days.TheConstants.{HORIZON_DAY}
use Rattle.trial_round.specs.Input.{acts_before_close, by_lane_one, call_by_one, close_act, trial_acts}
use Rattle.trial_round.specs.Trial.{trial_batch, trial_cut}
use Rattle.trial_round.specs.Round.{HasRound}
use Rattle.trial_round.proofs.Acts.{acts_close_none, acts_of_none, entries_of_none}
use Rattle.trial_round.proofs.Lines.{AreParts, added_of_main, trial_parts}
use Rattle.trial_round.proofs.Main.{before_main, legal_front, main_cuts}
use Rattle.trial_round.proofs.Replayed.{has_device_reply, history_is_replay, none_in_first, none_in_front, none_in_parts, none_of_entries, tells_of_device}
use Rattle.trial_round.proofs.Rounded.{cut_after, legal_before, one_cut, opens_first, proved}

ended : (r : Reply) → IsEnding r → is_of_device r ≡ false → (total : ℕ) × (r ≡ reply.Published total)
ended (reply.Published total) ends none = (total, refl)
ended (reply.Refused (why.Device before counted)) ends none = absurd (true≢false none)
ended r ends none = absurd ends

batch_is : (firms claims seed : ℕ) → trial_batch firms claims seed ≡ numbered 1 (map by_lane_one (acts_before_close firms claims seed ++ close_act ∷ []))
unfolding trial_batch trial_acts
batch_is firms claims seed = refl

-- the entries before the Close, whose cut is the trial's, and what the Close did
module _ (firms claims seed : ℕ) (before : List Entry) (is_cut : cut_after before ≡ trial_cut firms claims seed) (of : All (λ e. is_of_rounds e.act ≡ false) before) (greatest : GreatestLaw) (formed : FormedLaw) where
  -- the Close was accepted
  not_refused : (close : Entry) (later : List Entry) → close.act ≡ close_act → IsLegalPool (before ++ close ∷ later) → list_any has_device_reply (before ++ close ∷ later) ≡ false → is_accepted close ≡ false → ⊥
  not_refused close later asks legal none refused = true≢false (sym (ap is_no_refusal (opens_first before later close asks legal none of)) ∙ refused)

  module _ (close publication : Entry) (asks : close.act ≡ close_act) (legal : IsLegalPool (before ++ close ∷ publication ∷ [])) (valid : AreValidEntries before)
      (none : list_any has_device_reply (before ++ close ∷ publication ∷ []) ≡ false) where
    published : (number : ℕ) (outcome : OutcomeView) → publication.act ≡ act.Publish number outcome → (total : ℕ) → publication.reply ≡ reply.Published total
        → HasRound (trial_cut firms claims seed) (before ++ close ∷ publication ∷ []) (pool_cuts_after 0 (before ++ close ∷ publication ∷ []))
    published number outcome asked total told = record {
      outcome = outcome;
      ends = record { front = before ++ close ∷ []; publication = publication; number = number; parts = sym (append_assoc before (close ∷ []) (publication ∷ [])); asks = asked };
      cuts_are = one_cut before close publication asks legal none of total told ∙ ap (λ (c : CutView). c ∷ []) is_cut;
      formed = subst WellFormed is_cut (formed before 1 Plain HORIZON_DAY (legal_before before close publication asks legal none of) valid);
      proved = subst (λ (c : CutView). Proves (obligations c) outcome.discharges outcome.prices) is_cut (proved before close publication asks legal none of total told greatest number outcome asked);
    }

  -- what came of the Close
  of_last : (whole last : List PoolEntry) (request : Request) → request.act ≡ close_act → (IsOne request last ⊎ IsRound whole request last) → IsLegalPool (before ++ entries_of last) → AreValidEntries before
      → list_any has_device_reply (before ++ entries_of last) ≡ false → HasRound (trial_cut firms claims seed) (before ++ entries_of last) (pool_cuts_after 0 (before ++ entries_of last))
  of_last whole last request closes (inl one) legal valid none =
      let asks : one.call.entry.act ≡ close_act = one.asks.asks ∙ closes in
      let refused : is_accepted one.call.entry ≡ false = subst (λ (a : Act). EndsAtOnce a one.call) closes one.ends in
      absurd (not_refused one.call.entry [] asks (subst (λ (l : List PoolEntry). IsLegalPool (before ++ entries_of l)) one.is legal) (subst (λ (l : List PoolEntry). list_any has_device_reply (before ++ entries_of l) ≡ false) one.is none) refused)
  of_last whole last request closes (inr round) legal valid none =
      let close = round.close.entry in
      let publication = round.publication.entry in
      let asks : close.act ≡ close_act = round.closes.call.asks ∙ closes in
      let legal_round = subst (λ (l : List PoolEntry). IsLegalPool (before ++ entries_of l)) round.is legal in
      let none_round = subst (λ (l : List PoolEntry). list_any has_device_reply (before ++ entries_of l) ≡ false) round.is none in
      let none_last = none_in_first publication [] (none_in_first close (publication ∷ []) (none_in_parts before (close ∷ publication ∷ []) none_round).1).1 in
      let told = ended publication.reply round.publishes.ends none_last.0 in
      subst (λ (l : List PoolEntry). HasRound (trial_cut firms claims seed) (before ++ entries_of l) (pool_cuts_after 0 (before ++ entries_of l))) (sym round.is)
      (published close publication asks legal_round valid none_round round.round round.publishes.outcome round.publishes.asks told.0 told.1)

-- the entries of the members before the Close have the trial's cut
before_cut : (firms claims seed : ℕ) (before : List PoolEntry) → map pools.call_of before ≡ map call_by_one (acts_before_close firms claims seed) → entries_in main_pool before ≡ entries_of before → pools.IsLegal before → list_any tells_of_device before ≡ false
    → cut_after (entries_of before) ≡ trial_cut firms claims seed
unfolding trial_cut
before_cut firms claims seed before calls main legal none =
    ap cut_after (sym main ∙ ap (entries_in main_pool) (history_is_replay before legal none ∙ ap replay_of calls))

-- a trial whose lines were all replied to, without a fault of a device, has its round
pub has_round : (firms claims seed : ℕ) (answers : List Answer) (added : List PoolEntry) → IsServed (trial_batch firms claims seed) answers [] added → has_line_end is_memory_end answers ≡ false → has_line_end is_full_end answers ≡ false
    → pools.IsLegal added → pools.AreValid added → list_any tells_of_device added ≡ false → MainLaw → GreatestLaw → FormedLaw → HasRound (trial_cut firms claims seed) (entries_in main_pool added) (rounds.cuts_after 0 added)
has_round firms claims seed answers added served memory full legal valid none law greatest formed =
    let acts = acts_before_close firms claims seed in
    let served_all : IsServed (numbered 1 (map by_lane_one (acts ++ close_act ∷ []))) answers [] added = subst (λ (batch : List Request). IsServed batch answers [] added) (batch_is firms claims seed) served in
    let p : AreParts added acts added = trial_parts acts answers added (acts_close_none firms claims seed) served_all memory full in
    let entries = entries_of added in
    let main : map (member_of main_pool) entries ≡ added = added_of_main (acts ++ close_act ∷ []) answers added served_all in
    let parts : entries ≡ entries_of p.before ++ entries_of p.last = ap entries_of p.parts ∙ map-append (λ (m : PoolEntry). m.entry) p.before p.last in
    let cut = before_cut firms claims seed p.before p.calls (before_main acts p.before p.calls) (legal_front p.before p.last (subst pools.IsLegal p.parts legal)) (none_in_front p.before p.last (subst (λ (l : List PoolEntry). list_any tells_of_device l ≡ false) p.parts none)) in
    let of = entries_of_none p.before acts p.calls (acts_of_none firms claims seed) in
    let legal_entries : IsLegalPool entries = (law.legal entries).0 (subst pools.IsLegal (sym main) legal) in
    let round = of_last firms claims seed (entries_of p.before) cut of greatest formed added p.last p.request p.closes p.ends (subst IsLegalPool parts legal_entries)
    (All-first (λ (e : Entry). is_valid e.act ≡ true) (entries_of p.before) (entries_of p.last) (subst AreValidEntries parts valid)) (subst (λ (l : List Entry). list_any has_device_reply l ≡ false) parts (none_of_entries added none)) in
    let told : HasRound (trial_cut firms claims seed) entries (pool_cuts_after 0 entries) = subst (λ (l : List Entry). HasRound (trial_cut firms claims seed) l (pool_cuts_after 0 l)) (sym parts) round in
    let in_main : entries ≡ entries_in main_pool added = sym (law.same entries) ∙ ap (entries_in main_pool) main in
    let cuts : pool_cuts_after 0 entries ≡ rounds.cuts_after 0 added = main_cuts law entries ∙ ap (rounds.cuts_after 0) main in
    subst (λ (l : List Entry). HasRound (trial_cut firms claims seed) l (rounds.cuts_after 0 added)) in_main (subst (HasRound (trial_cut firms claims seed) entries) cuts told)
