-- The definitions at worked cases.
use Rattle.std.specs.Prelude.{codes, decimal, Some, None}
use Rattle.std.proofs.Common.{◌≡◌, ℕ, ◌+◌, ◌<◌, ◌≤◌, inl, inr, true≢false, List, [], ◌∷◌, ◌++◌, drop, refl, sym, ap, ap₂, arith}
use Rattle.std.proofs.lemmas.Fmt.{decimal_digit}
use Rattle.claim_history.specs.Pools.{main_pool}
use Rattle.claim_history.specs.declared.act.Act.{Act}
use Rattle.claim_history.specs.declared.act.Act.TheVariants as act
use Rattle.setoff_model.specs.declared.name.Key.{Key}
use Rattle.setoff_model.specs.Texts.{cents_text}
use Rattle.text_lines.specs.Fields.{fields}
use Rattle.request_text.specs.declared.error.LineCause.TheVariants as causes
use Rattle.request_text.specs.declared.request.Request.{Request}
use Rattle.request_text.specs.declared.verb.Verb.TheVariants as verbs
use Rattle.request_text.specs.Causes.{BeginsElsewhere, HasArgsCause, HasCause, forms_of}
use Rattle.request_text.proofs.Causes.{first_byte}
use Rattle.request_text.proofs.Words.{nothing}
use Rattle.request_text.specs.Grammar.{IsRequestText, IsLine}

abbrev firm : List ℕ → Act
firm name = act.Firm name

abbrev request : ℕ → ℕ → List ℕ → Act → Request
request line lane pool a = record { line = line; lane = lane; pool = pool; act = a }

-- the lines of a lane of one digit, in the pool MAIN and in another
registers : (lane : ℕ) → 1 ≤ lane → lane < 10 → IsLine ((48 + lane) ∷ codes " FIRM A") lane main_pool (firm (codes "A"))
registers lane some small = record { by = (some, omega arith); named = refl; valid = refl; spelled = sym (ap (λ (text : List ℕ). text ++ codes " FIRM A") (decimal_digit lane small)) }

in_east : (lane : ℕ) → 1 ≤ lane → lane < 10 → IsLine ((48 + lane) ∷ codes " @EAST FIRM A") lane (codes "EAST") (firm (codes "A"))
in_east lane some small = record { by = (some, omega arith); named = refl; valid = refl; spelled = sym (ap (λ (text : List ℕ). text ++ codes " @EAST FIRM A") (decimal_digit lane small)) }

-- a fence has a number, and begins a batch
two_lanes : IsRequestText (codes "1 FIRM A\nFENCE\n2 FIRM A") ((request 1 1 main_pool (firm (codes "A")) ∷ []) ∷ (request 3 2 main_pool (firm (codes "A")) ∷ []) ∷ [])
two_lanes = (refl, registers 1 (omega arith) (omega arith), (refl, (refl, registers 2 (omega arith) (omega arith), (refl, refl))))

-- one lane in two pools
two_pools : IsRequestText (codes "1 FIRM A\n1 @EAST FIRM A") ((request 1 1 main_pool (firm (codes "A")) ∷ request 2 1 (codes "EAST") (firm (codes "A")) ∷ []) ∷ [])
two_pools = (refl, registers 1 (omega arith) (omega arith), (refl, in_east 1 (omega arith) (omega arith), (refl, refl)))

-- an input without a line has one batch, which is empty; a fence alone has two
no_lines : IsRequestText [] ([] ∷ [])
no_lines = (refl, refl)

one_fence : IsRequestText (codes "FENCE") ([] ∷ [] ∷ [])
one_fence = (refl, (refl, refl))

-- ---- causes

-- an amount of nothing is the fourth field of a FILE, and the first that is out of range; the date after it is none
filing : List (List ℕ)
filing = fields (codes "1 FILE B I-1 A 0.00 2025-02-30")

zero_amount : HasCause filing (causes.Field 4)
unfolding filing
zero_amount =
    let one : codes "1" ≡ decimal 1 = sym (decimal_digit 1 (omega arith)) in
    let zero : codes "0.00" ≡ cents_text 0 = ap (λ (text : List ℕ). text ++ codes "." ++ codes "00") (sym (decimal_digit 0 (omega arith))) in
    let bad : HasArgsCause (forms_of verbs.File) (drop 2 filing) (causes.Field 4) = ((omega arith, omega arith), (refl, (refl, (refl, nothing (codes "0.00") 0 refl zero)))) in
    let elsewhere : BeginsElsewhere (drop 1 filing) = λ name others e. absurd (omega (arith, first_byte (codes "FILE") name (drop 2 filing) others e)) in
    (1, (drop 1 filing, ((omega arith, omega arith), ap (λ (field : List ℕ). field ∷ drop 1 filing) one, inl (elsewhere, (verbs.File, (drop 2 filing, (refl, bad)))))))

-- a CONFIRM agrees to all of the claim, or to an amount
claim : Key
claim = record { creditor = codes "B"; invoice = codes "I-1" }

confirmed : (lane : ℕ) → 1 ≤ lane → lane < 10 → IsLine ((48 + lane) ∷ codes " CONFIRM B I-1 A") lane main_pool (act.Confirm claim (codes "A") None)
unfolding claim
confirmed lane some small = record { by = (some, omega arith); named = refl; valid = refl; spelled = sym (ap (λ (text : List ℕ). text ++ codes " CONFIRM B I-1 A") (decimal_digit lane small)) }

part_confirmed : (lane : ℕ) → 1 ≤ lane → lane < 10 → IsLine ((48 + lane) ∷ codes " CONFIRM B I-1 A 6.00") lane main_pool (act.Confirm claim (codes "A") (Some 600))
unfolding claim
part_confirmed lane some small = record {
  by = (some, omega arith);
  named = refl;
  valid = refl;
  spelled = sym (ap₂ (λ (text digit : List ℕ). text ++ (codes " CONFIRM B I-1 A " ++ (digit ++ codes "." ++ codes "00"))) (decimal_digit lane small) (decimal_digit 6 (omega arith)));
}

-- that amount is not 0.00, and there is no field behind it
no_part : HasArgsCause (forms_of verbs.Confirm) (fields (codes "B I-1 A 0.00")) (causes.Field 4)
no_part =
    let zero : codes "0.00" ≡ cents_text 0 = ap (λ (text : List ℕ). text ++ codes "." ++ codes "00") (sym (decimal_digit 0 (omega arith))) in
    ((omega arith, omega arith), (refl, (refl, (refl, nothing (codes "0.00") 0 refl zero))))

part_twice : HasArgsCause (forms_of verbs.Confirm) (fields (codes "B I-1 A 6.00 6.00")) causes.Fields
part_twice = λ h. omega (arith, h.1)

no_debtor : HasArgsCause (forms_of verbs.Confirm) (fields (codes "B I-1")) causes.Fields
no_debtor = λ h. omega (arith, h.0)

-- MAIN is never named, nor is a pool without a name; behind a pool there is a verb
one : codes "1" ≡ decimal 1
one = sym (decimal_digit 1 (omega arith))

names_main : HasCause (fields (codes "1 @MAIN FIRM A")) causes.Pool
names_main = (1, (_, ((omega arith, omega arith), ap (λ (field : List ℕ). field ∷ codes "@MAIN" ∷ codes "FIRM" ∷ codes "A" ∷ []) one, (codes "MAIN", (_, (refl, λ other. true≢false other.1))))))

names_none : HasCause (fields (codes "1 @ FIRM A")) causes.Pool
names_none = (1, (_, ((omega arith, omega arith), ap (λ (field : List ℕ). field ∷ codes "@" ∷ codes "FIRM" ∷ codes "A" ∷ []) one, ([], (_, (refl, λ other. true≢false (sym other.0)))))))

no_verb : HasCause (fields (codes "1 @EAST")) causes.Verb
no_verb = (1, (_, ((omega arith, omega arith), ap (λ (field : List ℕ). field ∷ codes "@EAST" ∷ []) one, inr (codes "EAST", ([], ((refl, refl), refl, λ verb args e. absurd cc))))))
