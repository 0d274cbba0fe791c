-- The firm of each account is registered.
use Rattle.std.proofs.Common.{◌≡◌, ℕ, ◌<◌, true, List, length, get_or, refl, sym, subst, All}
use Rattle.std.specs.Prelude.{reverse, Some}
use Rattle.std.proofs.lemmas.List.Folds.{list_any_at}
use Rattle.std.proofs.lemmas.List.Elements.{All-map}
use Rattle.setoff_model.specs.Same.{same_name}
use Rattle.setoff_model.proofs.SameNames.{name_same}
use Rattle.claim_book.specs.claim_history.specs.Facts.{Ledger, firms, is_registered, account_fact, account_facts, position_of}
use Rattle.claim_book.specs.claim_history.proofs.Pasts.{all_reverse}
use Rattle.claim_book.specs.Book.{position_in}
use Rattle.claim_book.specs.claim_history.specs.declared.fact.AccountFact.{AccountFact}

firms_known : (l : Ledger) → All (λ (firm : List ℕ). is_registered l firm ≡ true) (firms l)
firms_known l = λ i d lt. list_any_at (same_name (get_or (firms l) i d)) (firms l) i d lt (name_same (get_or (firms l) i d))

accounts_known : (l : Ledger) → All (λ (a : AccountFact). is_registered l a.firm ≡ true) (account_facts l)
accounts_known l =
    All-map (λ (a : AccountFact). is_registered l a.firm ≡ true) (account_fact l) (reverse (firms l))
    (all_reverse (λ (firm : List ℕ). is_registered l firm ≡ true) (firms l) (firms_known l))

-- the account at a place is that of a firm whose position is known
pub known_position : (l : Ledger) (accounts : List AccountFact) (i : ℕ) (a : AccountFact) → accounts ≡ account_facts l → i < length accounts → a ≡ get_or accounts i a
    → position_in l a.firm ≡ Some (position_of l a.firm)
known_position l accounts i a are lt is =
    let every : All (λ (x : AccountFact). is_registered l x.firm ≡ true) accounts = subst (λ xs. All (λ (x : AccountFact). is_registered l x.firm ≡ true) xs) (sym are) (accounts_known l) in
    let known : is_registered l a.firm ≡ true = subst (λ (x : AccountFact). is_registered l x.firm ≡ true) (sym is) (every i a lt) in
    rw known refl
