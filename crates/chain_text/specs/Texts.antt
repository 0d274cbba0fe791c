-- The text of the chains that explain a round: a line for each.
use Rattle.std.specs.Prelude.{ℕ, Bool, List, [], ◌++◌, map, flat_map, codes, slice_index_or, if◌then◌else◌}
use Rattle.setoff_model.specs.declared.cut.CutClaim.{CutClaim}
use Rattle.setoff_model.specs.CutView.{CutView}
use Rattle.setoff_model.specs.Texts.{cents_text}
use Rattle.chain_explain.specs.Chains.{ChainView}

-- ` CREDITOR/INVOICE` of the claim at a place
abbrev pub claim_name : List CutClaim → ℕ → List ℕ
claim_name claims place =
    codes " " ++ slice_index_or (map (λ c. c.key.creditor) claims) place [] ++ codes "/"
    ++ slice_index_or (map (λ c. c.key.invoice) claims) place []

-- whether the chain is closed, and what it discharges of each of its claims
abbrev pub chain_head : Bool → ℕ → List ℕ
chain_head closed amount = (if closed then codes "CLOSED " else codes "OPEN ") ++ cents_text amount

-- `CLOSED AMOUNT CREDITOR/INVOICE ..`, or `OPEN ..`
abbrev pub chain_line : CutView → ChainView → List ℕ
chain_line cut x = chain_head x.closed x.amount ++ flat_map (λ place. claim_name cut.claims place) x.claims ++ codes "\n"

-- the lines of chains
abbrev pub chains_text : CutView → List ChainView → List ℕ
chains_text cut xs = flat_map (λ x. chain_line cut x) xs
