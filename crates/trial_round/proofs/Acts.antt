-- No act before the last opens or ends a round.
use Rattle.std.specs.Prelude.{None}
use Rattle.std.proofs.Common.{◌≡◌, ◌∙◌, ℕ, zero, suc, ◌+◌, false, List, [], ◌∷◌, map, refl, ap, All}
use Rattle.std.proofs.lemmas.List.Elements.{All-append, All-nil, All-cons, All-head, All-tail, All-weaker}
use Rattle.claim_history.specs.declared.act.Act.{Act}
use Rattle.claim_history.specs.declared.act.Act.TheVariants as act
use Rattle.claim_history.specs.declared.call.Call.{Call}
use Rattle.claim_history.specs.declared.call.PoolEntry.{PoolEntry}
use Rattle.claim_history.specs.declared.entry.Entry.{Entry}
use Rattle.claim_history.specs.Acts.{is_close}
use Rattle.claim_history.specs.Pools.{call_of, entries_of}
use Rattle.claim_history.proofs.Histories.{is_of_rounds}
use Rattle.trial_round.specs.declared.days.TheConstants.{DUE_DAY}
use Rattle.trial_round.specs.Input.{acts_before_close, call_by_one, claim_acts, claim_cents, claim_key, debtor_place, filed_and_confirmed, firm_acts, firm_name}

abbrev pub OfNoRound : Act → Type 0
OfNoRound a = is_of_rounds a ≡ false

firms_of_none : (firms : ℕ) → All OfNoRound (firm_acts firms)
unfolding firm_acts
firms_of_none zero = All-nil OfNoRound
firms_of_none (suc number) = All-append OfNoRound (firm_acts number) (act.Firm (firm_name (suc number)) ∷ []) (firms_of_none number) (All-cons OfNoRound (act.Firm (firm_name (suc number))) [] refl (All-nil OfNoRound))

claim_of_none : (firms seed claim : ℕ) → All OfNoRound (filed_and_confirmed firms seed claim)
unfolding filed_and_confirmed
claim_of_none firms seed claim =
    let confirmation = act.Confirm (claim_key firms seed claim) (firm_name (debtor_place firms seed claim + 1)) None in
    All-cons OfNoRound (act.File (claim_key firms seed claim) (firm_name (debtor_place firms seed claim + 1)) (claim_cents seed claim) DUE_DAY) (confirmation ∷ []) refl
    (All-cons OfNoRound confirmation [] refl (All-nil OfNoRound))

claims_of_none : (firms seed claims : ℕ) → All OfNoRound (claim_acts firms seed claims)
unfolding claim_acts
claims_of_none firms seed zero = All-nil OfNoRound
claims_of_none firms seed (suc claim) = All-append OfNoRound (claim_acts firms seed claim) (filed_and_confirmed firms seed (suc claim)) (claims_of_none firms seed claim) (claim_of_none firms seed (suc claim))

pub acts_of_none : (firms claims seed : ℕ) → All OfNoRound (acts_before_close firms claims seed)
unfolding acts_before_close
acts_of_none firms claims seed = All-append OfNoRound (firm_acts firms) (claim_acts firms seed claims) (firms_of_none firms) (claims_of_none firms seed claims)

no_close : (a : Act) → is_of_rounds a ≡ false → is_close a ≡ false
no_close (act.Close kind horizon) of = absurd (cc of)
no_close a of = refl

pub acts_close_none : (firms claims seed : ℕ) → All (λ a. is_close a ≡ false) (acts_before_close firms claims seed)
acts_close_none firms claims seed = All-weaker OfNoRound (λ (a : Act). is_close a ≡ false) no_close (acts_before_close firms claims seed) (acts_of_none firms claims seed)

-- the entries of members that ask such acts
pub entries_of_none : (members : List PoolEntry) (acts : List Act) → map call_of members ≡ map call_by_one acts → All OfNoRound acts → All (λ e. is_of_rounds e.act ≡ false) (entries_of members)
entries_of_none [] acts same of = All-nil (λ (e : Entry). is_of_rounds e.act ≡ false)
entries_of_none (m ∷ members) [] same of = absurd (cc same)
entries_of_none (m ∷ members) (a ∷ acts) same of =
    let first : call_of m ≡ call_by_one a = cc same in
    let asked : m.entry.act ≡ a = ap (λ (c : Call). c.act) first in
    All-cons (λ (x : Entry). is_of_rounds x.act ≡ false) m.entry (entries_of members) (ap is_of_rounds asked ∙ All-head OfNoRound a acts of) (entries_of_none members acts (cc same) (All-tail OfNoRound a acts of))
