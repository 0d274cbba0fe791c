-- Batches of requests, line after line.
use Rattle.std.proofs.Common.{◌≡◌, ℕ, ◌+◌, List, [], ◌∷◌, ◌++◌, length, refl, sym, ap, ap₂, ◌∙◌, subst, append_assoc, arith, length-append}
use Rattle.std.proofs.lemmas.List.{append-nil}
use Rattle.std.specs.Str.Lines.{lines}
use Rattle.text_lines.specs.Fields.{fields}
use Rattle.request_text.specs.declared.error.LineCause.{LineCause}
use Rattle.request_text.specs.declared.error.RequestError.{RequestError}
use Rattle.request_text.specs.declared.error.RequestError.TheVariants as errors
use Rattle.request_text.specs.declared.request.Request.{Request}
use Rattle.request_text.specs.Lanes.{fence}
use Rattle.request_text.specs.Causes.{HasCause, IsBadLine}
use Rattle.request_text.specs.Grammar.{AreBatches, IsRequestText, IsNoRequestText, IsLine, IsFirstBadLine, OnBadLine}
use Rattle.request_text.proofs.Causes.{asks_nothing}

-- what is read of an input up to a rest
pub record ReadUpTo (input rest : List ℕ) (number : ℕ) (batches : List (List Request)) : Type 0 where
  pub before : List (List ℕ)
  pub cut : lines input ≡ before ++ lines rest
  pub number_is : number ≡ length before + 1
  pub spelled : AreBatches 1 before batches

pub begins : (input : List ℕ) → ReadUpTo input input 1 ([] ∷ [])
begins input = record { before = []; cut = refl; number_is = refl; spelled = (refl, refl) }

-- one more request of the last batch
one_more : (number place : ℕ) (before : List (List ℕ)) (ended : List (List Request)) (batch : List Request) (line : List ℕ) (request : Request) → AreBatches number before (ended ++ batch ∷ []) → place ≡ number + length before
    → request.line ≡ place → IsLine line request.lane request.pool request.act → AreBatches number (before ++ line ∷ []) (ended ++ (batch ++ request ∷ []) ∷ [])
one_more number place [] [] [] line request h p n l = (n ∙ omega (arith, p), l, (refl, refl))
one_more number place [] [] (r ∷ batch) line request h p n l = absurd (let e = h.0 in cc)
one_more number place [] ([] ∷ []) batch line request h p n l = absurd (let e = h.1 in cc)
one_more number place [] ([] ∷ next ∷ ended) batch line request h p n l = absurd (let e = h.1 in cc)
one_more number place [] ((r ∷ rs) ∷ ended) batch line request h p n l = absurd (let e = h.0 in cc)
one_more number place (b ∷ before) [] [] line request h p n l = absurd h.1
one_more number place (b ∷ before) [] (r ∷ batch) line request h p n l = (h.0, h.1, one_more (number + 1) place before [] batch line request h.2 (omega (arith, p)) n l)
one_more number place (b ∷ before) ([] ∷ ended) batch line request h p n l = (h.0, one_more (number + 1) place before ended batch line request h.1 (omega (arith, p)) n l)
one_more number place (b ∷ before) ((r ∷ rs) ∷ ended) batch line request h p n l = (h.0, h.1, one_more (number + 1) place before (rs ∷ ended) batch line request h.2 (omega (arith, p)) n l)

-- a fence, and the batch that it begins
one_fence : (number : ℕ) (before : List (List ℕ)) (batches : List (List Request)) (line : List ℕ) → AreBatches number before batches → line ≡ fence → AreBatches number (before ++ line ∷ []) (batches ++ [] ∷ [])
one_fence number before [] line h f = absurd h
one_fence number [] ([] ∷ []) line h f = (f, (refl, refl))
one_fence number [] ([] ∷ batch ∷ batches) line h f = absurd (let e = h.1 in cc)
one_fence number [] ((r ∷ rs) ∷ batches) line h f = absurd (let e = h.0 in cc)
one_fence number (b ∷ before) ([] ∷ batches) line h f = (h.0, one_fence (number + 1) before batches line h.1 f)
one_fence number (b ∷ before) ((r ∷ rs) ∷ batches) line h f = (h.0, h.1, one_fence (number + 1) before (rs ∷ batches) line h.2 f)

goes_on : (input rest line after : List ℕ) (number : ℕ) (batches more : List (List Request)) → ReadUpTo input rest number batches → lines rest ≡ line ∷ lines after
    → ((before : List (List ℕ)) → number ≡ length before + 1 → AreBatches 1 before batches → AreBatches 1 (before ++ line ∷ []) more) → ReadUpTo input after (number + 1) more
goes_on input rest line after number batches more so_far cut step = record {
  before = so_far.before ++ line ∷ [];
  cut = so_far.cut ∙ ap (λ (ls : List (List ℕ)). so_far.before ++ ls) cut ∙ sym (append_assoc so_far.before (line ∷ []) (lines after));
  number_is = omega (arith, so_far.number_is, length-append so_far.before (line ∷ []));
  spelled = step so_far.before so_far.number_is so_far.spelled;
}

-- a request is added to the last batch
pub adds : (input rest line after : List ℕ) (number : ℕ) (ended ended' : List (List Request)) (batch batch' : List Request) (request : Request) → ReadUpTo input rest number (ended ++ batch ∷ []) → lines rest ≡ line ∷ lines after
    → request.line ≡ number → IsLine line request.lane request.pool request.act → ended' ≡ ended → batch' ≡ batch ++ request ∷ [] → ReadUpTo input after (number + 1) (ended' ++ batch' ∷ [])
adds input rest line after number ended ended' batch batch' request so_far cut numbered spelled same more =
    let now : ended ++ (batch ++ request ∷ []) ∷ [] ≡ ended' ++ batch' ∷ [] = ap₂ (λ (bs : List (List Request)) (b : List Request). bs ++ b ∷ []) (sym same) (sym more) in
    subst (ReadUpTo input after (number + 1)) now
    (goes_on input rest line after number (ended ++ batch ∷ []) (ended ++ (batch ++ request ∷ []) ∷ []) so_far cut
    (λ before n h. one_more 1 number before ended batch line request h (omega (arith, n)) numbered spelled))

-- a fence ends the last batch
pub fences : (input rest line after : List ℕ) (number : ℕ) (ended ended' : List (List Request)) (batch batch' new : List Request) → ReadUpTo input rest number (ended ++ batch ∷ []) → lines rest ≡ line ∷ lines after
    → line ≡ fence → new ≡ batch → ended' ≡ ended ++ new ∷ [] → batch' ≡ [] → ReadUpTo input after (number + 1) (ended' ++ batch' ∷ [])
fences input rest line after number ended ended' batch batch' new so_far cut f same more begun =
    let now : ended ++ batch ∷ [] ++ [] ∷ [] ≡ ended' ++ batch' ∷ [] =
    ap₂ (λ (bs : List (List Request)) (b : List Request). bs ++ b ∷ []) (ap (λ (b : List Request). ended ++ b ∷ []) (sym same) ∙ sym more) (sym begun) in
    subst (ReadUpTo input after (number + 1)) now
    (goes_on input rest line after number (ended ++ batch ∷ []) (ended ++ batch ∷ [] ++ [] ∷ []) so_far cut (λ before n h. one_fence 1 before (ended ++ batch ∷ []) line h f))

ends : (input rest : List ℕ) (number : ℕ) (batches : List (List Request)) → ReadUpTo input rest number batches → lines rest ≡ [] → IsRequestText input batches
ends input rest number batches so_far e =
    subst (λ (ls : List (List ℕ)). AreBatches 1 ls batches) (sym (so_far.cut ∙ ap (λ (ls : List (List ℕ)). so_far.before ++ ls) e ∙ append-nil so_far.before)) so_far.spelled

-- the input ends the last batch
pub ends_with : (input rest : List ℕ) (number : ℕ) (ended all : List (List Request)) (batch new : List Request) → ReadUpTo input rest number (ended ++ batch ∷ []) → lines rest ≡ [] → new ≡ batch → all ≡ ended ++ new ∷ [] → IsRequestText input all
ends_with input rest number ended all batch new so_far e same whole =
    subst (IsRequestText input) (ap (λ (b : List Request). ended ++ b ∷ []) (sym same) ∙ sym whole) (ends input rest number (ended ++ batch ∷ []) so_far e)

breaks : (input rest line after : List ℕ) (number : ℕ) (cause : LineCause) (batches : List (List Request)) → ReadUpTo input rest number batches → lines rest ≡ line ∷ lines after → IsBadLine line cause → IsFirstBadLine input number cause
breaks input rest line after number cause batches so_far cut bad = record {
  before = so_far.before;
  line = line;
  after = lines after;
  cut = so_far.cut ∙ ap (λ (ls : List (List ℕ)). so_far.before ++ ls) cut;
  number_is = so_far.number_is;
  batches = batches;
  spelled = so_far.spelled;
  bad = bad;
}

none_with : (number : ℕ) (before : List (List ℕ)) (line : List ℕ) (after : List (List ℕ)) (cause : LineCause) (all : List (List Request)) → IsBadLine line cause → AreBatches number (before ++ line ∷ after) all → ⊥
none_with number before line after cause [] bad h = h
none_with number [] line after cause ([] ∷ batches) bad h = bad.no_fence h.0
none_with number [] line after cause ((request ∷ requests) ∷ batches) bad h = asks_nothing line cause bad.why request.lane request.pool request.act h.1
none_with number (b ∷ before) line after cause ([] ∷ batches) bad h = none_with (number + 1) before line after cause batches bad h.1
none_with number (b ∷ before) line after cause ((request ∷ requests) ∷ batches) bad h = none_with (number + 1) before line after cause (requests ∷ batches) bad h.2

no_text : (input : List ℕ) (number : ℕ) (cause : LineCause) → IsFirstBadLine input number cause → IsNoRequestText input
no_text input number cause b = λ all h. none_with 1 b.before b.line b.after cause all b.bad (subst (λ (ls : List (List ℕ)). AreBatches 1 ls all) b.cut h)

-- what holds of a line and a cause holds of those of an error
pub weaker : (P Q : ℕ → LineCause → Type 0) → ((n : ℕ) (cause : LineCause) → Q n cause → P n cause) → (e : RequestError) → OnBadLine Q e → OnBadLine P e
weaker P Q f errors.Memory h = tt
weaker P Q f (errors.BadLine line cause) h = f line cause h

pub breaks_at : (input rest line after : List ℕ) (number n : ℕ) (cause : LineCause) (batches : List (List Request)) → ReadUpTo input rest number batches → lines rest ≡ line ∷ lines after
    → (line ≡ fence → ⊥) → (n ≡ number) × HasCause (fields line) cause → IsFirstBadLine input n cause × IsNoRequestText input
breaks_at input rest line after number n cause batches so_far cut no_fence bad =
    let here = breaks input rest line after number cause batches so_far cut (record { no_fence = no_fence; why = bad.1 }) in
    let first = subst (λ (m : ℕ). IsFirstBadLine input m cause) (sym bad.0) here in
    (first, no_text input n cause first)
