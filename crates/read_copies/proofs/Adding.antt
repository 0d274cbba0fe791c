-- The exchange that adds a showing keeps the rule of the word.
use Rattle.std.proofs.Common.{◌≡◌, ℕ, ◌+◌, ◌<◌, ◌==◌, Bool, true, false, List, [], ◌∷◌, ◌++◌, length, drop, refl, sym, ◌∙◌, ap, subst, arith, inl, length-append, None}
use Rattle.std.proofs.lemmas.List.{append-nil}
use Rattle.std.proofs.lemmas.Bool.Decides.{nat_tests}
use mathlib.Core.List.{IsPrefix}
use prog.Atomic.{either}
use Rattle.logbook.specs.Pages.{Cell, cell, keeps, no_nib, step, Moves, Goes}
use Rattle.claim_history.specs.declared.entry.Entry.{Entry}
use Rattle.read_copies.specs.Shown.{shown_history, IsKept, HasAdded}
use Rattle.read_copies.proofs.Beginnings.{prefix_whole, prefix_rest, history-append, history_begins}

abbrev pub none_shown : List (List Entry) → List (List Entry)
none_shown log = []

abbrev pub none_moved : List (List Entry) → List (List Entry) → Unit {0} → Type 0
none_moved xs ys n = Unit {0}

abbrev words : ℕ → List Cell
words n = (n, true) ∷ (0, true) ∷ []

adds_goes : (log v : List (List Entry)) (ask : List Entry) (old new : ℕ) → length (shown_history v) ≡ old → old + length ask ≡ new → IsPrefix v log
    → (b : Bool) → (length (shown_history log) == old) ≡ b
    → Goes IsKept none_shown none_moved 0 (v, (no_nib, None)) (λ n. either (n == old) new n) (HasAdded (step 0 old new ask) (v, (no_nib, None))) (words (length (shown_history log))) log
adds_goes log v ask old new len sum pre true is =
    let here : length (shown_history log) ≡ old = grind (arith, nat_tests) in
    let same : shown_history v ≡ shown_history log = prefix_whole (shown_history v) (shown_history log) (history_begins v log pre) (omega arith) in
    let one : shown_history (ask ∷ []) ≡ ask = append-nil ask in
    let all : shown_history (log ++ ask ∷ []) ≡ shown_history log ++ ask = history-append log (ask ∷ []) ∙ ap (λ es. shown_history log ++ es) one in
    let n : either (length (shown_history log) == old) new (length (shown_history log)) ≡ length (shown_history (log ++ ask ∷ [])) =
    rw is (omega (arith, ap length all, length-append (shown_history log) ask)) in (
      keeps,
      ask ∷ [],
      None,
      tt,
      ap words n,
      inl (refl, refl),
      rw is (all ∙ ap (λ es. es ++ ask) (sym same)),
    )
adds_goes log v ask old new len sum pre false is =
    let n : either (length (shown_history log) == old) new (length (shown_history log)) ≡ length (shown_history (log ++ [])) =
    rw is (ap (λ l. length (shown_history l)) (sym (append-nil log))) in (
      keeps,
      [],
      None,
      tt,
      ap words n,
      inl (refl, refl),
      rw is tt,
    )

-- whatever the board has shown, the exchange adds the showing to all that was seen, or finds that more was shown
pub adds_moves : (v : List (List Entry)) (ask : List Entry) (old new : ℕ) → length (shown_history v) ≡ old → old + length ask ≡ new
    → Moves IsKept none_shown none_moved 0 (v, (no_nib, None)) (λ n. either (n == old) new n) (HasAdded (step 0 old new ask) (v, (no_nib, None)))
adds_moves v ask old new len sum cs log kept pre away =
    let P : List Cell → Type 0 = λ c. (0 < length c) × ((cell c 0).1 ≡ true) × Goes IsKept none_shown none_moved 0 (v, (no_nib, None)) (λ n. either (n == old) new n) (HasAdded (step 0 old new ask) (v, (no_nib, None))) c log in
    subst P (sym kept) (omega arith, refl, adds_goes log v ask old new len sum pre (length (shown_history log) == old) refl)

-- what a book has beyond its beginning makes up the length
pub ask_length : (old all copy shown : List Entry) (n : ℕ) → IsPrefix old all → copy ≡ all → shown ≡ all → n ≡ length old → n + length (drop n copy) ≡ length shown
ask_length old all copy shown n pre same read len =
    let rest : old ++ drop (length old) all ≡ all = prefix_rest old all pre in
    rw (same, read, len) (sym (length-append old (drop (length old) all)) ∙ ap length rest)
