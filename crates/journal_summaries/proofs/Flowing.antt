-- What a publication adds to the balance of a firm and takes from it.
use Rattle.std.specs.Prelude.{Option, Some, slice_index, sum_by, if◌then◌else◌, ◌==◌}
use Rattle.std.proofs.Common.{◌≡◌, ℕ, ◌+◌, ◌^◌, ◌<◌, List, [], ◌∷◌, length, refl, sym, ◌∙◌, ap, ap₂, add-one, arith}
use Rattle.std.proofs.lemmas.List.Sums.{sum_by-cons}
use Rattle.setoff_model.specs.CutView.{CutView, WellFormed, obligations}
use Rattle.setoff_model.specs.Setoff.{IsLawful, flow_at}
use Rattle.setoff_model.proofs.Columns.{claims_long}
use Rattle.setoff_model.proofs.Flows.{flow_fits}
use Rattle.setoff_model.proofs.SumsBounded.{chosen, sums_are_bounded}
use Rattle.printed_text.specs.claim_history.specs.declared.act.Act.{Act}
use Rattle.printed_text.specs.claim_history.specs.declared.act.Act.TheVariants as act
use Rattle.printed_text.specs.claim_history.specs.declared.entry.Entry.{Entry}
use Rattle.printed_text.specs.claim_history.specs.declared.entry.Reply.{Reply}
use Rattle.printed_text.specs.claim_history.specs.Facts.{Settled, amount_or, discharged_by, discharged_to, gained_by, spent_by}
use Rattle.printed_text.specs.claim_history.specs.States.{discharges_of}
use Rattle.journal_summaries.specs.Account.{added, settled_by, taken}
use Rattle.journal_summaries.specs.Replay.{IsPublicationOf}

-- ---- the flow of the claims so far

pub sum_fits : (cut : CutView) (d places : List ℕ) → WellFormed cut → IsLawful (obligations cut) d → (i at place flow part : ℕ) → i < length cut.claims → flow ≡ flow_at i places d place → part ≡ (if at == place then slice_index d i else 0) → flow + part < 2 ^ 64
sum_fits cut d places formed lawful i at place flow part lt flow_is part_is =
    let there : i < length d = omega (arith, lt, lawful.one_each, claims_long cut) in
    omega (arith, flow_fits i places d place there, chosen (at == place) (slice_index d i) (slice_index d i) (omega arith), sums_are_bounded.total cut d formed lawful, flow_is, part_is)

pub flow_next : (d places : List ℕ) (i at place flow part : ℕ) → flow ≡ flow_at i places d place → at ≡ slice_index places i → part ≡ (if at == place then slice_index d i else 0) → flow + part ≡ flow_at (i + 1) places d place
flow_next d places i at place flow part flow_is at_is part_is = rw (add-one, flow_is, part_is, at_is) refl

-- ---- one publication

one_settled : (f : Settled → ℕ) (s : Settled) → f s ≡ 0 + sum_by f (s ∷ [])
one_settled f s = omega (arith, sum_by-cons f s [])

module _ (firm : List ℕ) (cut : CutView) (given : Option CutView) (e : Entry) (discharges : List ℕ) (of_it : IsPublicationOf cut e) (given_is : given ≡ Some cut) (discharges_are : discharges ≡ discharges_of e.act) where
  abbrev published : Act
  published = act.Publish of_it.number of_it.outcome

  settled_is : record { cut = cut; discharges = discharges } ∷ [] ≡ settled_by given e.act e.reply
  settled_is =
      ap (λ (d : List ℕ). record { cut = cut; discharges = d } ∷ []) discharges_are
      ∙ sym (ap (λ (r : Reply). settled_by (Some cut) e.act r) of_it.reply_is)
      ∙ sym (ap (λ (g : Option CutView). settled_by g e.act e.reply) given_is)

  pub added_is : discharged_to firm (record { cut = cut; discharges = discharges }) ≡ added firm given e
  added_is =
      one_settled (discharged_to firm) (record { cut = cut; discharges = discharges })
      ∙ ap₂ (λ (a : Act) (ss : List Settled). amount_or 0 (gained_by firm a) + sum_by (discharged_to firm) ss) (sym of_it.asks) settled_is

  pub taken_is : discharged_by firm (record { cut = cut; discharges = discharges }) ≡ taken firm given e
  taken_is =
      one_settled (discharged_by firm) (record { cut = cut; discharges = discharges })
      ∙ ap₂ (λ (a : Act) (ss : List Settled). amount_or 0 (spent_by firm a) + sum_by (discharged_by firm) ss) (sym of_it.asks) settled_is
