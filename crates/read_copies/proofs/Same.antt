-- The `==` of rows.
use Rattle.std.specs.Prelude.{Option, Some, None}
use Rattle.std.specs.Option.{option_eq}
use Rattle.std.proofs.Common.{◌≡◌, ◌==◌, ◌&&◌, ℕ, true, refl, ap, true≢false, sym, int_eq}
use Rattle.std.proofs.lemmas.Bool.{and_parts}
use Rattle.std.proofs.lemmas.Bool.Decides.{Decides-int_eq, Decides-eqb}
use Rattle.setoff_model.specs.Same.{same_name}
use Rattle.setoff_model.proofs.SameNames.{same_name_is}
use Rattle.claim_history.specs.declared.fact.AccountFact.{AccountFact}
use Rattle.claim_history.specs.declared.fact.Position.{Position}
use Rattle.claim_history.specs.contracts.fact.AccountFactPartialEq.TheImpl as accounts
use Rattle.claim_history.specs.contracts.fact.PositionPartialEq.TheImpl as positions
use Rattle.read_copies.specs.contracts.row.RowPartialEq.TheImpl as rows
use Rattle.read_copies.specs.declared.row.Row.{Row}

number_same : (m n : ℕ) → (m == n) ≡ true → m ≡ n
number_same m n e = (Decides-eqb m n).0 e

account_same : (a b : AccountFact) → accounts.eq-value.it a b ≡ true → a ≡ b
account_same a b e =
    let p = and_parts (same_name a.firm b.firm) (int_eq a.balance b.balance && ((a.credit == b.credit) && ((a.ceiling == b.ceiling) && (a.offer == b.offer)))) e in
    let q = and_parts (int_eq a.balance b.balance) ((a.credit == b.credit) && ((a.ceiling == b.ceiling) && (a.offer == b.offer))) p.1 in
    let r = and_parts (a.credit == b.credit) ((a.ceiling == b.ceiling) && (a.offer == b.offer)) q.1 in
    let s = and_parts (a.ceiling == b.ceiling) (a.offer == b.offer) r.1 in
    let firm = (same_name_is a.firm b.firm).0 p.0 in
    let balance = (Decides-int_eq a.balance b.balance).0 q.0 in
    let credit = number_same a.credit b.credit r.0 in
    let ceiling = number_same a.ceiling b.ceiling s.0 in
    let offer = number_same a.offer b.offer s.1 in
    λ i. record { firm = firm i; balance = balance i; credit = credit i; ceiling = ceiling i; offer = offer i }

position_same : (a b : Position) → positions.eq-value.it a b ≡ true → a ≡ b
position_same a b e =
    let p = and_parts (int_eq a.balance b.balance) ((a.receivable == b.receivable) && (a.payable == b.payable)) e in
    let q = and_parts (a.receivable == b.receivable) (a.payable == b.payable) p.1 in
    let balance = (Decides-int_eq a.balance b.balance).0 p.0 in
    let receivable = number_same a.receivable b.receivable q.0 in
    let payable = number_same a.payable b.payable q.1 in
    λ i. record { balance = balance i; receivable = receivable i; payable = payable i }

row_same : (a b : Row) → rows.eq-value.it a b ≡ true → a ≡ b
row_same a b e =
    let p = and_parts (accounts.eq-value.it a.account b.account) (positions.eq-value.it a.position b.position) e in
    let account = account_same a.account b.account p.0 in
    let position = position_same a.position b.position p.1 in
    λ i. record { account = account i; position = position i }

-- two options of rows that pass `==` are one
pub rows_same : (o p : Option Row) → option_eq rows.eq-value.it o p ≡ true → o ≡ p
rows_same None None e = refl
rows_same None (Some y) e = absurd (true≢false (sym e))
rows_same (Some x) None e = absurd (true≢false (sym e))
rows_same (Some x) (Some y) e = ap (λ (r : Row). Some r) (row_same x y e)
