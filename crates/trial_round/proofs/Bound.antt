-- No line of a trial is full.
use Rattle.std.specs.List.{fold}
use Rattle.std.proofs.Common.{◌≡◌, ◌∙◌, ℕ, zero, suc, ◌+◌, ◌*◌, ◌≤◌, Bool, true, false, List, [], ◌∷◌, ◌++◌, length, map, refl, sym, ap, subst, arith, All, length-append, cond}
use Rattle.std.proofs.lemmas.List.{append-nil, length-map}
use Rattle.std.proofs.lemmas.List.Elements.{All-nil, All-cons, All-head, All-tail}
use Rattle.std.proofs.lemmas.List.Sums.{count_by-le-length}
use Rattle.setoff_model.specs.declared.limits.TheConstants.{MOST_CLAIMS, MOST_FIRMS, MOST_JOURNAL_BYTES}
use Rattle.claim_history.specs.declared.act.Act.{Act}
use Rattle.claim_history.specs.declared.act.Act.TheVariants as act
use Rattle.claim_history.specs.declared.call.PoolEntry.{PoolEntry}
use Rattle.setoff_model.specs.Names.{is_name}
use Rattle.claim_history.specs.Acts.{is_close, is_filing, is_registration, is_request}
use Rattle.claim_history.specs.Pools.{AreValid, IsLegal, main_pool}
use Rattle.claim_history.specs.PoolNeeds.{reserved_bytes_of, used_bytes_of}
use Rattle.request_text.specs.declared.request.Request.{Request}
use Rattle.request_text.specs.Grammar.{Asked, numbered}
use Rattle.lane_runner.specs.served_lines.specs.declared.answer.Answer.{Answer}
use Rattle.lane_runner.specs.served_lines.specs.Bound.{AreRequests, BoundLaw, IsWithinBound, claims_with, closes, firms_with, most_endings, most_request_bytes}
use Rattle.lane_runner.specs.served_lines.specs.Ends.{has_line_end, is_full_end}
use Rattle.lane_runner.specs.served_lines.specs.Served.{IsServed}
use Rattle.trial_round.specs.Input.{acts_before_close, by_lane_one, claim_acts, close_act, filed_and_confirmed, firm_acts, firm_name, trial_acts}
use Rattle.trial_round.specs.Trial.{IsTrialSize, trial_batch}
use Rattle.trial_round.proofs.Acts.{acts_close_none}
use Rattle.trial_round.proofs.Asked.{IsAskable, acts_asked}

-- ---- how many lines there are

length-numbered : (number : ℕ) (batch : List Asked) → length (numbered number batch) ≡ length batch
length-numbered number [] = refl
length-numbered number (asked ∷ batch) = ap (λ (n : ℕ). suc n) (length-numbered (number + 1) batch)

count_firms : (firms : ℕ) → length (firm_acts firms) ≡ firms
unfolding firm_acts
count_firms zero = refl
count_firms (suc number) = omega (arith, length-append (firm_acts number) (act.Firm (firm_name (suc number)) ∷ []), count_firms number)

count_claims : (firms seed claims : ℕ) → length (claim_acts firms seed claims) ≡ 2 * claims
unfolding claim_acts filed_and_confirmed
count_claims firms seed zero = refl
count_claims firms seed (suc claim) = omega (arith, length-append (claim_acts firms seed claim) (filed_and_confirmed firms seed (suc claim)), count_claims firms seed claim)

count_lines : (firms claims seed : ℕ) → length (trial_batch firms claims seed) ≡ firms + 2 * claims + 1
unfolding trial_batch trial_acts acts_before_close
count_lines firms claims seed =
    let acts = firm_acts firms ++ claim_acts firms seed claims in
    length-numbered 1 (map by_lane_one (acts ++ close_act ∷ []))
    ∙ length-map (acts ++ close_act ∷ []) by_lane_one
    ∙ omega (arith, length-append acts (close_act ∷ []), length-append (firm_acts firms) (claim_acts firms seed claims), count_firms firms, count_claims firms seed claims)

-- ---- one of them is a Close

closes_more : (request : Request) (requests : List Request) → is_close request.act ≡ false → closes (request ∷ requests) ≡ closes requests
closes_more request requests other = ap (λ (b : Bool). fold (λ (n : ℕ) (r : Request). n + cond (is_close r.act) 1 0) (0 + cond b 1 0) requests) other

closes_of : (number : ℕ) (acts : List Act) → All (λ a. is_close a ≡ false) acts → closes (numbered number (map by_lane_one (acts ++ close_act ∷ []))) ≡ 1
closes_of number [] other = refl
closes_of number (a ∷ acts) other =
    closes_more (record { line = number; lane = 1; pool = main_pool; act = a }) (numbered (number + 1) (map by_lane_one (acts ++ close_act ∷ []))) (All-head (λ (x : Act). is_close x ≡ false) a acts other)
    ∙ closes_of (number + 1) acts (All-tail (λ (x : Act). is_close x ≡ false) a acts other)

count_closes : (firms claims seed : ℕ) → closes (trial_batch firms claims seed) ≡ 1
unfolding trial_batch trial_acts
count_closes firms claims seed = closes_of 1 (acts_before_close firms claims seed) (acts_close_none firms claims seed)

-- ---- each can be asked for

acts_are_named : (number : ℕ) (acts : List Act) → All (λ (r : Request). is_name r.pool ≡ true) (numbered number (map by_lane_one acts))
acts_are_named number [] = All-nil (λ (r : Request). is_name r.pool ≡ true)
acts_are_named number (a ∷ acts) =
    All-cons (λ (r : Request). is_name r.pool ≡ true) (record { line = number; lane = 1; pool = main_pool; act = a }) (numbered (number + 1) (map by_lane_one acts)) refl (acts_are_named (number + 1) acts)

acts_are_valid : (number : ℕ) (acts : List Act) → All IsAskable acts → All (λ (r : Request). is_request r.act ≡ true) (numbered number (map by_lane_one acts))
acts_are_valid number [] asked = All-nil (λ (r : Request). is_request r.act ≡ true)
acts_are_valid number (a ∷ acts) asked =
    All-cons (λ (r : Request). is_request r.act ≡ true) (record { line = number; lane = 1; pool = main_pool; act = a }) (numbered (number + 1) (map by_lane_one acts)) (All-head IsAskable a acts asked)
    (acts_are_valid (number + 1) acts (All-tail IsAskable a acts asked))

are_requests : (firms claims seed : ℕ) → IsTrialSize firms claims → AreRequests (trial_batch firms claims seed)
unfolding trial_batch
are_requests firms claims seed size = record {
  pools = acts_are_named 1 (trial_acts firms claims seed);
  valid = acts_are_valid 1 (trial_acts firms claims seed) (acts_asked firms claims seed size);
}

-- the most lines of a trial: one for each firm, two for each claim, and the Close
abbrev most_trial_lines : ℕ
most_trial_lines = MOST_FIRMS + 2 * MOST_CLAIMS + 1

few_bytes : (lines filings registrations one : ℕ) → lines ≤ most_trial_lines → filings ≤ lines → registrations ≤ lines → one ≡ 1
    → used_bytes_of [] + reserved_bytes_of [] + most_request_bytes * lines + most_endings filings registrations * one ≤ MOST_JOURNAL_BYTES
few_bytes lines filings registrations one few p q is =
    subst (λ (n : ℕ). used_bytes_of [] + reserved_bytes_of [] + most_request_bytes * lines + most_endings filings registrations * n ≤ MOST_JOURNAL_BYTES) (sym is)
    (omega (arith, few, p, q))

within : (batch : List Request) (firms claims : ℕ) → IsTrialSize firms claims → length batch ≡ firms + 2 * claims + 1 → closes batch ≡ 1 → IsWithinBound [] batch
within batch firms claims size lines one =
    let filings = count_by-le-length (λ (r : Request). is_filing r.act) batch in
    let registrations = count_by-le-length (λ (r : Request). is_registration r.act) batch in
    record {
      entries = omega (arith, lines, one, size.few_firms, size.few_claims);
      bytes = few_bytes (length batch) (claims_with [] batch) (firms_with [] batch) (closes batch) (omega (arith, lines, size.few_firms, size.few_claims)) (omega (arith, filings)) (omega (arith, registrations)) one;
    }

pub none_full : (firms claims seed : ℕ) (answers : List Answer) (added : List PoolEntry) → IsTrialSize firms claims → BoundLaw → IsServed (trial_batch firms claims seed) answers [] added → IsLegal added → AreValid added → has_line_end is_full_end answers ≡ false
none_full firms claims seed answers added size law served legal valid =
    let batch = trial_batch firms claims seed in
    let whole : IsWithinBound [] (batch ++ []) = subst (λ (l : List Request). IsWithinBound [] l) (sym (append-nil batch)) (within batch firms claims size (count_lines firms claims seed) (count_closes firms claims seed)) in
    (law batch [] answers [] added served legal valid (are_requests firms claims seed size) whole).0
