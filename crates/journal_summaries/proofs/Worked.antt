-- The definitions at worked cases.
use Rattle.std.specs.Prelude.{codes, None}
use Rattle.std.proofs.Common.{◌≡◌, ℕ, List, [], ◌∷◌, map, refl}
use Rattle.setoff_model.specs.declared.name.Key.{Key}
use Rattle.printed_text.specs.claim_history.specs.declared.act.Act.{Act}
use Rattle.printed_text.specs.claim_history.specs.declared.act.Act.TheVariants as act
use Rattle.printed_text.specs.claim_history.specs.declared.call.PoolEntry.{PoolEntry}
use Rattle.printed_text.specs.claim_history.specs.declared.entry.Reply.TheVariants as reply
use Rattle.journal_summaries.specs.Account.{account_rows}
use Rattle.journal_summaries.specs.PoolList.{counts_in, pools_of}
use Rattle.printed_text.specs.claim_history.specs.Pools.{entries_in}

-- two firms of MAIN, a claim that is filed and confirmed, funds of the creditor, and a firm of the same name in another pool
abbrev done : List ℕ → ℕ → Act → PoolEntry
done pool caller a = record { pool = pool; entry = record { caller = caller; act = a; reply = reply.Done } }

abbrev main : List ℕ
main = codes "MAIN"

abbrev east : List ℕ
east = codes "EAST"

abbrev claim : Key
claim = record { creditor = codes "A"; invoice = codes "I-1" }

abbrev history : List PoolEntry
history =
    done main 1 (act.Firm (codes "A")) ∷ done east 1 (act.Firm (codes "A")) ∷ done main 2 (act.Firm (codes "B"))
    ∷ done main 1 (act.File claim (codes "B") 500 20000) ∷ done main 2 (act.Confirm claim (codes "B") None) ∷ done main 1 (act.Fund (codes "A") 300) ∷ []

creditor_numbers : map (λ row. row.number) (account_rows main (codes "A") history) ≡ 1 ∷ 4 ∷ 5 ∷ 6 ∷ []
creditor_numbers = refl

debtor_numbers : map (λ row. row.number) (account_rows main (codes "B") history) ≡ 3 ∷ 4 ∷ 5 ∷ []
debtor_numbers = refl

other_pool : map (λ row. row.number) (account_rows east (codes "A") history) ≡ 2 ∷ []
other_pool = refl

funds : map (λ row. row.added) (account_rows main (codes "A") history) ≡ 0 ∷ 0 ∷ 0 ∷ 300 ∷ []
funds = refl

owed : map (λ row. row.position.receivable) (account_rows main (codes "A") history) ≡ 0 ∷ 0 ∷ 500 ∷ 500 ∷ []
owed = refl

pools : pools_of history ≡ main ∷ east ∷ []
pools = refl

counts : counts_in (entries_in main history) ≡ record { entries = 5; firms = 2; claims = 1; open_claims = 1; rounds = 0; published = 0 }
counts = refl
