-- The cuts of the published rounds of all pools, and how large they are.
use Rattle.std.specs.Prelude.{count_by, filter, reverse, take, drop, Option, Some, None, if◌then◌else◌}
use Rattle.std.proofs.Common.{◌≡◌, ◌∙◌, ℕ, ◌+◌, ◌≤◌, Bool, true, false, cond, List, [], ◌∷◌, ◌++◌, length, refl, sym, ap, arith, append_assoc, length-append}
use Rattle.std.proofs.lemmas.List.{reverse-append, take-append-le, take-append-drop, drop-append-le}
use Rattle.std.proofs.lemmas.List.Sums.{sum_by-cons}
use Rattle.setoff_model.specs.CutView.{CutView}
use Rattle.claim_history.specs.declared.entry.Entry.{Entry}
use Rattle.claim_history.specs.declared.call.PoolEntry.{PoolEntry}
use Rattle.claim_history.specs.declared.entry.Reply.{Reply}
use Rattle.claim_history.specs.declared.entry.Reply.TheVariants as reply
use Rattle.claim_history.specs.Acts.{is_filing, is_registration}
use Rattle.claim_history.specs.States.{OpenRound, state}
use Rattle.claim_history.specs.Pools.{entries_in, entries_of, is_in, open_round_in}
use Rattle.claim_history.specs.PoolNeeds.{open_in}
use Rattle.claim_history.specs.PoolRounds.{CutBoundLaw, CutsLaw, cuts_of, past_cuts}
use Rattle.claim_history.specs.Rounds.{cut_published, open_cuts}
use Rattle.claim_history.proofs.Bounds.{cut_bounded}
use Rattle.claim_history.proofs.Pools.{in_reverse, legal_in, valid_in}

one_reversed : (o : Option OpenRound) → reverse (open_cuts o) ≡ open_cuts o
one_reversed None = refl
one_reversed (Some round) = refl

published_reversed : (o : Option OpenRound) (r : Reply) → reverse (cut_published o r) ≡ cut_published o r
published_reversed o (reply.Published total) = one_reversed o
published_reversed o r = refl

-- the cut of the last member is the last
pub cuts_of_more : (history : List PoolEntry) (m : PoolEntry) → cuts_of (history ++ m ∷ []) ≡ cuts_of history ++ cut_published (open_round_in history m.pool) m.entry.reply
cuts_of_more history m =
    let o = open_in (reverse history) m.pool in
    let is : o ≡ open_round_in history m.pool = ap (λ (es : List Entry). (state es).open_round) (in_reverse m.pool history) in
    ap (λ (past : List PoolEntry). reverse (past_cuts past)) (reverse-append history (m ∷ []))
    ∙ reverse-append (cut_published o m.entry.reply) (past_cuts (reverse history))
    ∙ ap (λ (cuts : List CutView). cuts_of history ++ cuts) (published_reversed o m.entry.reply ∙ ap (λ (x : Option OpenRound). cut_published x m.entry.reply) is)

-- the cuts of later members after a past, newest first
abbrev later_cuts : List PoolEntry → List PoolEntry → List CutView
later_cuts [] past = []
later_cuts (m ∷ later) past = cut_published (open_in (later ++ past) m.pool) m.entry.reply ++ later_cuts later past

past_cuts_longer : (later past : List PoolEntry) → past_cuts (later ++ past) ≡ later_cuts later past ++ past_cuts past
past_cuts_longer [] past = refl
past_cuts_longer (m ∷ later) past =
    let here = cut_published (open_in (later ++ past) m.pool) m.entry.reply in
    ap (λ (cuts : List CutView). here ++ cuts) (past_cuts_longer later past) ∙ sym (append_assoc here (later_cuts later past) (past_cuts past))

-- the cuts of the first members are the first cuts
begins : (history more : List PoolEntry) → (rest : List CutView) × (cuts_of (history ++ more) ≡ cuts_of history ++ rest)
begins history more =
    let later = later_cuts (reverse more) (reverse history) in
    (reverse later, ap (λ (past : List PoolEntry). reverse (past_cuts past)) (reverse-append history more) ∙ ap (λ (cuts : List CutView). reverse cuts) (past_cuts_longer (reverse more) (reverse history)) ∙ reverse-append later (past_cuts (reverse history)))

few_first : (count : ℕ) (history : List PoolEntry) → length (cuts_of (take count history)) ≤ length (cuts_of history)
few_first count history =
    let b = begins (take count history) (drop count history) in
    omega (arith, ap (λ (h : List PoolEntry). length (cuts_of h)) (take-append-drop count history), ap length b.1, length-append (cuts_of (take count history)) b.0)

pub cuts_law : CutsLaw
cuts_law count history m le =
    ap (λ (first : List PoolEntry). drop (length (cuts_of first)) (cuts_of (history ++ m ∷ []))) (take-append-le count history (m ∷ []) le)
    ∙ ap (drop (length (cuts_of (take count history)))) (cuts_of_more history m)
    ∙ drop-append-le (length (cuts_of (take count history))) (cuts_of history) (cut_published (open_round_in history m.pool) m.entry.reply) (few_first count history)

-- ---- counts of a pool are at most those of all

count_step : (p : Entry → Bool) (b : Bool) (m : PoolEntry) (ms : List PoolEntry) (all : ℕ) → count_by p (entries_of ms) ≤ all → count_by p (entries_of (if b then m ∷ ms else ms)) ≤ cond (p m.entry) 1 0 + all
count_step p true m ms all le = omega (arith, le, sum_by-cons (λ (e : Entry). cond (p e) 1 0) m.entry (entries_of ms))
count_step p false m ms all le = omega (arith, le)

count_in : (p : Entry → Bool) (pool : List ℕ) (ms : List PoolEntry) → count_by p (entries_in pool ms) ≤ count_by (λ m. p m.entry) ms
count_in p pool [] = omega arith
count_in p pool (m ∷ ms) =
    omega (arith, count_step p (is_in pool m) m (filter (is_in pool) ms) (count_by (λ x. p x.entry) ms) (count_in p pool ms), sum_by-cons (λ (x : PoolEntry). cond (p x.entry) 1 0) m ms)

pub cut_bound_law : CutBoundLaw
cut_bound_law history pool number cut legal valid is =
    let bounded = cut_bounded (entries_in pool history) number cut (legal_in history pool legal) (valid_in history pool valid) is in
    record {
      claims = omega (arith, bounded.claims, count_in (λ e. is_filing e.act) pool history);
      parties = omega (arith, bounded.parties, count_in (λ e. is_registration e.act) pool history);
    }
