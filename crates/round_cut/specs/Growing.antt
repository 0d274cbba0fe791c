-- How the parties of a cut grow, claim by claim.
use Rattle.std.specs.Prelude.{ℕ, Bool, List, [], ◌∷◌, ◌++◌, if◌then◌else◌}
use Rattle.std.specs.List.{list_any, position_or_len}
use Rattle.setoff_model.specs.declared.kind.Kind.{Kind}
use Rattle.setoff_model.specs.declared.cut.Party.{Party}
use Rattle.setoff_model.specs.declared.cut.CutClaim.{CutClaim}
use Rattle.setoff_model.specs.Same.{same_name}
use Rattle.claim_history.specs.declared.fact.ClaimFact.{ClaimFact}
use Rattle.claim_history.specs.declared.fact.AccountFact.{AccountFact}
use Rattle.round_cut.specs.CutOfFacts.{party_in}

-- the party is this firm
abbrev pub is_party : List ℕ → Party → Bool
is_party firm p = same_name firm p.firm

-- the parties with this one, at the end where its firm is none of them
abbrev pub with_party : Party → List Party → List Party
with_party p parties = if list_any (is_party p.firm) parties then parties else parties ++ p ∷ []

-- the parties with those of a claim, the debtor before the creditor
abbrev pub with_parties_of : List AccountFact → Kind → ClaimFact → List Party → List Party
with_parties_of accounts kind c parties = with_party (party_in accounts kind c.key.creditor)
    (with_party (party_in accounts kind c.debtor) parties)

-- the claim with its part, and the places of its debtor and its creditor among the parties
abbrev pub placed : List Party → ClaimFact → CutClaim
placed parties c = record {
  key = c.key;
  debtor = position_or_len (is_party c.debtor) parties;
  creditor = position_or_len (is_party c.key.creditor) parties;
  amount = c.part;
}
