-- What a look-up says of the account of a firm, and of its party.
use Rattle.std.specs.Prelude.{position, Some, None, if◌then◌else◌}
use Rattle.setoff_model.proofs.SameNames.{name_same}
use Rattle.std.specs.List.{list_any, position_or_len}
use Rattle.std.proofs.Common.{◌≡◌, ℕ, Bool, true, false, List, [], ◌∷◌, ◌++◌, length, get_or, refl, sym, ◌∙◌, ap, ap₂}
use Rattle.setoff_model.proofs.Lists.{position_none}
use Rattle.setoff_model.specs.declared.kind.Kind.{Kind}
use Rattle.setoff_model.specs.declared.cut.Party.{Party}
use Rattle.setoff_model.specs.Same.{same_name}
use Rattle.claim_history.specs.declared.fact.ClaimFact.{ClaimFact}
use Rattle.claim_history.specs.declared.fact.AccountFact.{AccountFact}
use Rattle.round_cut.specs.Windows.{window_of}
use Rattle.round_cut.specs.CutOfFacts.{window_or_none, window_in, party_in}
use Rattle.round_cut.specs.Growing.{is_party, with_party, placed}
use Rattle.name_index.proofs.Places.{found_at, find_none, position_any, place_last, place_stays, any_joined}

-- ---- accounts

pub window_found : (accounts : List AccountFact) (kind : Kind) (firm : List ℕ) (i : ℕ) (x : AccountFact) → Some i ≡ position (λ (a : AccountFact). same_name firm a.firm) accounts → x ≡ get_or accounts i x → window_of kind x ≡ window_in accounts kind firm
window_found accounts kind firm i x place is =
    ap (window_of kind) is ∙ ap (window_or_none kind) (sym (found_at (λ (a : AccountFact). same_name firm a.firm) accounts i x (sym place)))

pub window_none : (accounts : List AccountFact) (kind : Kind) (firm : List ℕ) → None ≡ position (λ (a : AccountFact). same_name firm a.firm) accounts → window_or_none kind None ≡ window_in accounts kind firm
window_none accounts kind firm none =
    let p : AccountFact → Bool = λ a. same_name firm a.firm in
    ap (window_or_none kind) (sym (find_none p accounts (position_none p accounts (sym none))))

-- ---- parties

-- the party of a firm that is there
pub party_there : (p : Party) (found ps : List Party) (i : ℕ) → Some i ≡ position (is_party p.firm) found → found ≡ ps → ps ≡ with_party p ps
party_there p found ps i place is =
    let there : list_any (is_party p.firm) ps ≡ true = position_any (is_party p.firm) ps i p (ap (position (is_party p.firm)) (sym is) ∙ sym place) in
    ap (λ (b : Bool). if b then ps else ps ++ p ∷ []) (sym there)

new_one : (p : Party) (found ps : List Party) → None ≡ position (is_party p.firm) found → found ≡ ps → list_any (is_party p.firm) ps ≡ false
new_one p found ps none is = position_none (is_party p.firm) ps (ap (position (is_party p.firm)) (sym is) ∙ sym none)

-- the party of a firm that is not
pub party_new : (p : Party) (found ps : List Party) → None ≡ position (is_party p.firm) found → found ≡ ps → ps ++ p ∷ [] ≡ with_party p ps
party_new p found ps none is = ap (λ (b : Bool). if b then ps else ps ++ p ∷ []) (sym (new_one p found ps none is))

-- and its place
pub place_new : (p : Party) (found ps : List Party) → None ≡ position (is_party p.firm) found → found ≡ ps → position_or_len (is_party p.firm) (ps ++ p ∷ []) ≡ length ps
place_new p found ps none is = place_last (is_party p.firm) ps p (new_one p found ps none is) (name_same p.firm)

-- the claim's debtor was placed before its creditor was joined
pub both_placed : (accounts : List AccountFact) (kind : Kind) (c : ClaimFact) (old mid new : List Party) (debtor creditor : ℕ)
    → mid ≡ with_party (party_in accounts kind c.debtor) old → new ≡ with_party (party_in accounts kind c.key.creditor) mid → debtor ≡ position_or_len (is_party c.debtor) mid → creditor ≡ position_or_len (is_party c.key.creditor) new
    → record { key = c.key; debtor = debtor; creditor = creditor; amount = c.part } ≡ placed new c
both_placed accounts kind c old mid new debtor creditor first second by to =
    let q : Party → Bool = is_party c.debtor in
    let p : Party = party_in accounts kind c.debtor in
    let r : Party = party_in accounts kind c.key.creditor in
    let there : list_any q mid ≡ true = ap (list_any q) first ∙ any_joined q (list_any (is_party p.firm) old) old p refl (name_same c.debtor) in
    let stays : position_or_len q new ≡ position_or_len q mid = ap (position_or_len q) second ∙ place_stays q (list_any (is_party r.firm) mid) mid r there in
    ap₂ (λ (a b : ℕ). record { key = c.key; debtor = a; creditor = b; amount = c.part }) (by ∙ sym stays) to
