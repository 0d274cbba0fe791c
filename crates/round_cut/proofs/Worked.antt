-- The definitions at worked cases.
use Rattle.std.specs.Prelude.{codes, pos, negsuc}
use Rattle.std.proofs.Common.{◌≡◌, ℕ, ◌^◌, List, [], ◌∷◌, refl}
use Rattle.setoff_model.specs.declared.kind.Kind.TheVariants.{Plain, Funded}
use Rattle.setoff_model.specs.declared.cut.Party.{Party}
use Rattle.setoff_model.specs.declared.cut.CutClaim.{CutClaim}
use Rattle.claim_history.specs.declared.fact.Status.{Status}
use Rattle.claim_history.specs.declared.fact.Status.TheVariants as status
use Rattle.claim_history.specs.declared.fact.ClaimFact.{ClaimFact}
use Rattle.claim_history.specs.declared.fact.AccountFact.{AccountFact}
use Rattle.round_cut.specs.Windows.{window_of}
use Rattle.round_cut.specs.CutOfFacts.{cut_of_facts}

abbrev A : List ℕ
A = codes "A"

abbrev B : List ℕ
B = codes "B"

abbrev C : List ℕ
C = codes "C"

-- ---- windows

abbrev account : List ℕ → ℕ → ℕ → ℕ → AccountFact
account firm balance ceiling offer = record { firm = firm; balance = pos balance; credit = 0; ceiling = ceiling; offer = offer }

funded_window : window_of Funded (account A 6000 (10 ^ 15) 6000) ≡ record { spend = 6000; room = 999999999994000 }
funded_window = refl

plain_window : window_of Plain (account A 6000 (10 ^ 15) 6000) ≡ record { spend = 0; room = 0 }
plain_window = refl

-- 20.00 below zero, of a credit of 50.00, with a ceiling of 10.00
owing_window : window_of Funded (record { firm = A; balance = negsuc 1999; credit = 5000; ceiling = 1000; offer = 10000 }) ≡ record { spend = 3000; room = 3000 }
owing_window = refl

-- ---- the triangle

-- a claim of a creditor, with its invoice, status, debtor, amount, open amount, part and due day
abbrev claim : List ℕ → List ℕ → Status → List ℕ → ℕ → ℕ → ℕ → ℕ → ClaimFact
claim creditor invoice st debtor amount left part due = record { key = record { creditor = creditor; invoice = invoice }; debtor = debtor; status = st; amount = amount; left = left; part = part; due = due }

abbrev placed : List ℕ → List ℕ → ℕ → ℕ → ℕ → CutClaim
placed firm invoice debtor creditor amount = record { key = record { creditor = firm; invoice = invoice }; debtor = debtor; creditor = creditor; amount = amount }

abbrev party : List ℕ → ℕ → ℕ → Party
party firm spend room = record { firm = firm; spend = spend; room = room }

-- registered in another order than that of the parties
abbrev accounts : List AccountFact
accounts = account C 6000 (10 ^ 15) 6000 ∷ account B 0 100 0 ∷ account A 500 800 900 ∷ []

abbrev triangle : List ClaimFact
triangle =
    claim B (codes "I-1") status.Confirmed A 1000 1000 1000 20119
    ∷ claim C (codes "I-2") status.Confirmed B 700 700 700 20119
    ∷ claim A (codes "I-3") status.Confirmed C 1200 1200 1200 20119
    ∷ []

triangle_cut : cut_of_facts 1 triangle accounts Plain 20119 ≡ record {
  round = 1;
  kind = Plain;
  parties = party A 0 0 ∷ party B 0 0 ∷ party C 0 0 ∷ [];
  claims = placed B (codes "I-1") 0 1 1000 ∷ placed C (codes "I-2") 1 2 700 ∷ placed A (codes "I-3") 2 0 1200 ∷ [];
}
triangle_cut = refl

-- after a round of 7.00 on each claim, with one more of A to B, of which A agrees to 2.00
abbrev later : List ClaimFact
later =
    claim B (codes "I-1") status.Confirmed A 1000 300 300 20119
    ∷ claim C (codes "I-2") status.Confirmed B 700 0 0 20119
    ∷ claim A (codes "I-3") status.Confirmed C 1200 500 500 20119
    ∷ claim B (codes "I-4") status.Confirmed A 250 250 200 20119
    ∷ []

later_cut : cut_of_facts 2 later accounts Funded 20119 ≡ record {
  round = 2;
  kind = Funded;
  parties = party A 500 300 ∷ party B 0 100 ∷ party C 6000 999999999994000 ∷ [];
  claims = placed B (codes "I-1") 0 1 300 ∷ placed A (codes "I-3") 2 0 500 ∷ placed B (codes "I-4") 0 1 200 ∷ [];
}
later_cut = refl

-- ---- what does not take part

abbrev left_out : List ClaimFact
left_out =
    claim B (codes "I-1") status.Filed A 1000 1000 0 20119
    ∷ claim B (codes "I-2") status.Disputed A 1000 1000 0 20119
    ∷ claim B (codes "I-3") status.Withdrawn A 1000 1000 0 20119
    ∷ claim B (codes "I-4") status.Confirmed A 1000 0 0 20119
    ∷ claim B (codes "I-5") status.Confirmed A 1000 2 1 20120
    ∷ claim B (codes "I-6") status.Confirmed A 1000 300 0 20119
    ∷ []

empty_cut : cut_of_facts 1 left_out accounts Funded 20119 ≡ record { round = 1; kind = Funded; parties = []; claims = [] }
empty_cut = refl

-- one day more
due_cut : cut_of_facts 1 left_out accounts Plain 20120 ≡ record { round = 1; kind = Plain; parties = party A 0 0 ∷ party B 0 0 ∷ []; claims = placed B (codes "I-5") 0 1 1 ∷ [] }
due_cut = refl
