-- The facts of a history, and its cut.
use Rattle.std.specs.Prelude.{◌≡◌, ℕ, List, Some}
use Rattle.setoff_model.specs.declared.kind.Kind.{Kind}
use Rattle.setoff_model.specs.CutView.{WellFormed}
use Rattle.claim_history.specs.declared.entry.Entry.{Entry}
use Rattle.claim_history.specs.Facts.{claim_facts, account_facts}
use Rattle.claim_history.specs.States.{OpenRound, state_of}
use Rattle.claim_history.specs.History.{IsLegalPool, AreValidEntries}
use Rattle.claim_history.specs.Cut.{cut_of}
use Rattle.round_cut.specs.CutOfFacts.{cut_of_facts, AreFacts}

-- after a legal history of valid acts the cut of its facts is its cut
abbrev pub BuiltCutLaw : Type 0
BuiltCutLaw = (history : List Entry) (round : ℕ) (kind : Kind) (horizon : ℕ) → IsLegalPool history → AreValidEntries history →
    cut_of_facts round (claim_facts (state_of history).ledger) (account_facts (state_of history).ledger) kind horizon
    ≡ cut_of round (state_of history).ledger kind horizon

-- and its facts are such that a cut is made of them
abbrev pub FactsLaw : Type 0
FactsLaw = (history : List Entry) → IsLegalPool history → AreValidEntries history
    → AreFacts (claim_facts (state_of history).ledger) (account_facts (state_of history).ledger)

-- so its cut is well formed
abbrev pub FormedLaw : Type 0
FormedLaw = (history : List Entry) (round : ℕ) (kind : Kind) (horizon : ℕ) → IsLegalPool history → AreValidEntries history
    → WellFormed (cut_of round (state_of history).ledger kind horizon)

-- so the cut of its open round is well formed
abbrev pub OpenFormedLaw : Type 0
OpenFormedLaw = (history : List Entry) → IsLegalPool history → AreValidEntries history → (round : OpenRound)
    → (state_of history).open_round ≡ Some round → WellFormed round.cut
