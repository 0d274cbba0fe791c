-- The requests that a load reads can be loaded.
use Rattle.std.proofs.Common.{◌≡◌, ℕ, ◌+◌, false, List, [], ◌∷◌, All, ap₂, subst, sym}
use Rattle.std.proofs.lemmas.List.Elements.{All-cons, All-head, All-nil, All-tail}
use Rattle.std.specs.Str.Lines.{lines}
use Rattle.journal_texts.specs.printed_text.specs.request_text.specs.claim_history.specs.Acts.{is_close}
use Rattle.journal_texts.specs.printed_text.specs.request_text.specs.declared.request.Request.{Request}
use Rattle.journal_texts.specs.printed_text.specs.request_text.specs.Grammar.{AreBatches}
use Rattle.load_reading.specs.Reading.{HaveNoClose, IsLoadText}
use Rattle.group_runs.specs.Lines.{CanBeLoaded}
use Rattle.group_runs.specs.Runs.{CanAllBeLoaded}

abbrev IsOther : Request → Type 0
IsOther request = is_close request.act ≡ false

abbrev AreOther : List Request → Type 0
AreOther batch = All IsOther batch

abbrev CanEach : List Request → Type 0
CanEach batch = All CanBeLoaded batch

each_loadable : (number : ℕ) (ls : List (List ℕ)) (batches : List (List Request)) → AreBatches number ls batches → HaveNoClose batches → CanAllBeLoaded batches
each_loadable number ls [] h none = absurd h
each_loadable number [] (batch ∷ batches) h none = subst CanAllBeLoaded (sym (ap₂ (λ (b : List Request) (bs : List (List Request)). b ∷ bs) h.0 h.1)) (All-cons CanEach [] [] (All-nil CanBeLoaded) (All-nil CanEach))
each_loadable number (line ∷ ls) ([] ∷ batches) h none = All-cons CanEach [] batches (All-nil CanBeLoaded) (each_loadable (number + 1) ls batches h.1 (All-tail AreOther [] batches none))
each_loadable number (line ∷ ls) ((r ∷ rs) ∷ batches) h none =
    let here = All-head AreOther (r ∷ rs) batches none in
    let more = each_loadable (number + 1) ls (rs ∷ batches) h.2 (All-cons AreOther rs batches (All-tail IsOther r rs here) (All-tail AreOther (r ∷ rs) batches none)) in
    let can : CanBeLoaded r = record { lane = h.1.by; named = h.1.named; valid = h.1.valid; other = All-head IsOther r rs here } in
    All-cons CanEach (r ∷ rs) batches (All-cons CanBeLoaded r rs can (All-head CanEach rs batches more)) (All-tail CanEach rs batches more)

pub all_loadable : (input : List ℕ) (batches : List (List Request)) → IsLoadText input batches → CanAllBeLoaded batches
all_loadable input batches text = each_loadable 1 (lines input) batches text.0 text.1
