-- The order of sink and disk, one batch after another.
use Rattle.std.specs.Prelude.{Option, take, drop, IsTrue}
use Rattle.std.proofs.Common.{◌≡◌, ◌∙◌, ◌≤◌, inl, inr, ⊎_elim, ℕ, List, [], ◌∷◌, ◌++◌, length, sym, ap, subst, append_assoc, arith, length-append}
use Rattle.std.proofs.lemmas.Bool.{cases_lt}
use Rattle.std.proofs.lemmas.List.{append-nil, take-append-le, take-append-drop}
use Rattle.std.proofs.lemmas.List.Concat.{flat_map-cons}
use Rattle.std.proofs.Math.Seq.{take-length}
use Rattle.std.specs.Io.KnownBytes.{Appends}
use Rattle.bureau_edge.proofs.Known.{Appends-then}
use Rattle.disk_model.specs.Calls.{Seen, GoesOn, IsPresent}
use Rattle.disk_witness.specs.Shown.{Shown}
use Rattle.lane_runner.specs.claim_history.specs.declared.call.Call.{Call}
use Rattle.lane_runner.specs.claim_history.specs.declared.call.PoolEntry.{PoolEntry}
use Rattle.lane_runner.specs.claim_history.specs.Pools.{accepted_calls}
use Rattle.lane_runner.specs.claim_history.proofs.Calls.{accepted_append}
use Rattle.lane_runner.specs.recorded_book.specs.Calls.{HoldsCalls, HoldsFirst}
use Rattle.lane_runner.specs.recorded_book.specs.Moments.{HeldSince}
use Rattle.printed_text.specs.Printing.{printed_of}
use Rattle.batch_runs.specs.Runs.{Done, all_added, text_of}
use Rattle.batch_runs.specs.Order.{AreInOrder, HasNoText, IsHeldFrom, IsShownAt}

-- what begins with the calls accepted in a history begins with those accepted among its first members
held_first : (history : List PoolEntry) (count : ℕ) (c : List ℕ) → HoldsFirst (accepted_calls history) c → HoldsFirst (accepted_calls (take count history)) c
held_first history count c holds =
    let front = accepted_calls (take count history) in
    let back = accepted_calls (drop count history) in
    let split : accepted_calls history ≡ front ++ back = ap accepted_calls (sym (take-append-drop count history)) ∙ accepted_append (take count history) (drop count history) in
    (back ++ holds.0, subst (HoldsCalls c) (ap (λ (l : List Call). l ++ holds.0) split ∙ append_assoc front back holds.0) holds.1)

-- the members up to the end of some batches, the first of them apart
whole : (before : List PoolEntry) (b : Done) (done : List Done) → before ++ all_added (b ∷ done) ≡ (before ++ b.added) ++ all_added done
whole before b done =
    ap (λ (l : List PoolEntry). before ++ l) (flat_map-cons (λ (d : Done). d.added) b done) ∙ sym (append_assoc before b.added (all_added done))

fewer : {n : ℕ} (before : List PoolEntry) (b : Done) (done : List Done) → length (before ++ all_added (b ∷ done)) ≤ n → length ((before ++ b.added) ++ all_added done) ≤ n
fewer {n} before b done few = subst (λ (l : List PoolEntry). length l ≤ n) (whole before b done) few

-- ---- time

goes_now : (a : Seen) → GoesOn a a
goes_now a = record { later = omega arith; no_more = λ t d le is. is; no_fewer = λ t d le is. is; since = λ t d after until is. tt }

goes_then : (a b c : Seen) → GoesOn a b → GoesOn b c → GoesOn a c
goes_then a b c p q = record {
  later = omega (arith, p.later, q.later);
  no_more = λ t d le is. p.no_more t d le (q.no_more t d (omega (arith, le, p.later)) is);
  no_fewer = λ t d le is. q.no_fewer t d (omega (arith, le, p.later)) (p.no_fewer t d le is);
  since = λ t d after until is. tt;
}

module _ {D : Type 0} (seen : D → Seen) where
  -- what each present image holds is held from now on
  pub held_now : (now : D) (history : List PoolEntry) → ((c : List ℕ) → IsPresent (seen now) c → HoldsFirst (accepted_calls history) c) → IsHeldFrom seen now now (length history) history
  held_now now history present = record {
    stays = goes_now (seen now);
    held = λ t c from until is.
        let at : t ≡ (seen now).moment = omega (arith, from, until) in
        subst (λ (l : List PoolEntry). HoldsFirst (accepted_calls l) c) (sym (take-length history)) (present c (subst (λ (n : ℕ). (seen now).image n c) at is));
  }

  -- What was held from a moment on is held while more is added, where all of it is held from the end on.
  held_longer : (since count : ℕ) (now new : D) (history added : List PoolEntry) → count ≤ length history → HeldSince since count (seen now) history → GoesOn (seen now) (seen new)
      → HeldSince (seen now).moment (length history) (seen new) (history ++ added) → HeldSince since count (seen new) (history ++ added)
  held_longer since count now new history added few was goes later t c from until is =
      subst (λ (h : List PoolEntry). HoldsFirst (accepted_calls h) c) (sym (take-append-le count history added few))
      (⊎_elim
      (λ late. held_first history count c
      (subst (λ (h : List PoolEntry). HoldsFirst (accepted_calls h) c) (take-append-le (length history) history added (omega arith) ∙ take-length history) (later t c (omega (arith, late)) until is)))
      (λ early. was t c from early (goes.no_more t c early is))
      (cases_lt (seen now).moment t))

  module _ (now new : D) (history added : List PoolEntry) (goes : GoesOn (seen now) (seen new)) (held : HeldSince (seen now).moment (length history) (seen new) (history ++ added)) where
    pub from_longer : (shown : D) (count : ℕ) → count ≤ length history → IsHeldFrom seen shown now count history → IsHeldFrom seen shown new count (history ++ added)
    from_longer shown count few was = record {
      stays = goes_then (seen shown) (seen now) (seen new) was.stays goes;
      held = held_longer (seen shown).moment count now new history added few was.held goes held;
    }

  module _ (now new : D) (history added : List PoolEntry) (tells : IsTrue (seen new).tells → IsTrue (seen now).tells) (goes : IsTrue (seen now).tells → GoesOn (seen now) (seen new))
      (held : IsTrue (seen now).tells → HeldSince (seen now).moment (length history) (seen new) (history ++ added)) (x : Option (List ℕ)) where
    shown_longer : (text : List ℕ) (count : ℕ) (s : Shown D) → count ≤ length history → IsShownAt seen now history x text count s → IsShownAt seen new (history ++ added) x text count s
    shown_longer text count s few is = (is.0, λ told. from_longer now new history added (goes (tells told)) (held (tells told)) s.disk count few (is.1 (tells told)))

    -- what was in order is so when more is added
    pub order_longer : (text : List ℕ) (before : List PoolEntry) (done : List Done) (shown : List (Shown D)) → length (before ++ all_added done) ≤ length history
        → AreInOrder seen now history x text before done shown → AreInOrder seen new (history ++ added) x text before done shown
    order_longer text before [] [] few is = tt
    order_longer text before [] (s ∷ shown) few is = absurd is
    order_longer text before (b ∷ done) [] few is = (is.0, order_longer text (before ++ b.added) done [] (fewer before b done few) is.1)
    order_longer text before (b ∷ done) (s ∷ shown) few (inl none) = inl (none.0, order_longer text (before ++ b.added) done (s ∷ shown) (fewer before b done few) none.1)
    order_longer text before (b ∷ done) (s ∷ shown) few (inr is) =
        inr (
          shown_longer text (length (before ++ b.added)) s (omega (arith, fewer before b done few, length-append (before ++ b.added) (all_added done))) is.0,
          order_longer (text ++ printed_of before b.added b.answers) (before ++ b.added) done shown (fewer before b done few) is.1,
        )

  module _ (new : D) (history : List PoolEntry) (x : Option (List ℕ)) (b : Done) (s : Shown D) where
    abbrev Behind : List ℕ → List PoolEntry → List Done → Type 0
    Behind text before done = Appends x s.held (text ++ text_of before done) × (IsTrue (seen new).tells → IsHeldFrom seen s.disk new (length ((before ++ all_added done) ++ b.added)) history)

    -- behind one batch more
    behind_next : (text : List ℕ) (before : List PoolEntry) (d : Done) (done : List Done) → Behind text before (d ∷ done) → Behind (text ++ printed_of before d.added d.answers) (before ++ d.added) done
    behind_next text before d done is = (
      subst (Appends x s.held) (sym (append_assoc text (printed_of before d.added d.answers) (text_of (before ++ d.added) done))) is.0,
      subst (λ (l : List PoolEntry). IsTrue (seen new).tells → IsHeldFrom seen s.disk new (length (l ++ b.added)) history) (whole before d done) is.1,
    )

    -- behind one without text
    behind_none : (text : List ℕ) (before : List PoolEntry) (d : Done) (done : List Done) → HasNoText before d → Behind text before (d ∷ done) → Behind text (before ++ d.added) done
    behind_none text before d done none is =
        subst (λ (t : List ℕ). Behind t (before ++ d.added) done) (ap (λ (t : List ℕ). text ++ t) none ∙ append-nil text) (behind_next text before d done is)

    -- one batch more, before whose text they were shown
    pub order_more : (text : List ℕ) (before : List PoolEntry) (done : List Done) (shown : List (Shown D)) → AreInOrder seen new history x text before done shown → Behind text before done
        → AreInOrder seen new history x text before (done ++ b ∷ []) (shown ++ s ∷ [])
    order_more text before [] [] is at =
        inr ((subst (Appends x s.held) (append-nil text) at.0, subst (λ (l : List PoolEntry). IsTrue (seen new).tells → IsHeldFrom seen s.disk new (length (l ++ b.added)) history) (append-nil before) at.1), tt)
    order_more text before [] (u ∷ shown) is at = absurd is
    order_more text before (d ∷ done) [] is at = inl (is.0, order_more text (before ++ d.added) done [] is.1 (behind_none text before d done is.0 at))
    order_more text before (d ∷ done) (u ∷ shown) (inl none) at = inl (none.0, order_more text (before ++ d.added) done (u ∷ shown) none.1 (behind_none text before d done none.0 at))
    order_more text before (d ∷ done) (u ∷ shown) (inr is) at =
        inr (is.0, order_more (text ++ printed_of before d.added d.answers) (before ++ d.added) done shown is.1 (behind_next text before d done at))

  module _ (new : D) (history : List PoolEntry) where
    -- one batch more, without text
    pub order_untold : (x : Option (List ℕ)) (b : Done) (text : List ℕ) (before : List PoolEntry) (done : List Done) (shown : List (Shown D)) → AreInOrder seen new history x text before done shown → HasNoText (before ++ all_added done) b
        → AreInOrder seen new history x text before (done ++ b ∷ []) shown
    order_untold x b text before [] [] is none = (subst (λ (l : List PoolEntry). HasNoText l b) (append-nil before) none, tt)
    order_untold x b text before [] (u ∷ shown) is none = absurd is
    order_untold x b text before (d ∷ done) [] is none =
        (is.0, order_untold x b text (before ++ d.added) done [] is.1 (subst (λ (l : List PoolEntry). HasNoText l b) (whole before d done) none))
    order_untold x b text before (d ∷ done) (u ∷ shown) (inl untold) none =
        inl (untold.0, order_untold x b text (before ++ d.added) done (u ∷ shown) untold.1 (subst (λ (l : List PoolEntry). HasNoText l b) (whole before d done) none))
    order_untold x b text before (d ∷ done) (u ∷ shown) (inr is) none =
        inr (is.0, order_untold x b (text ++ printed_of before d.added d.answers) (before ++ d.added) done shown is.1 (subst (λ (l : List PoolEntry). HasNoText l b) (whole before d done) none))

    -- counted from where the sink had taken a text less
    pub order_from : (x y : Option (List ℕ)) (first : List ℕ) → Appends x y first → (text : List ℕ) (before : List PoolEntry) (done : List Done) (shown : List (Shown D)) → AreInOrder seen new history y text before done shown
        → AreInOrder seen new history x (first ++ text) before done shown
    order_from x y first took text before [] [] is = tt
    order_from x y first took text before [] (u ∷ shown) is = absurd is
    order_from x y first took text before (d ∷ done) [] is = (is.0, order_from x y first took text (before ++ d.added) done [] is.1)
    order_from x y first took text before (d ∷ done) (u ∷ shown) (inl none) = inl (none.0, order_from x y first took text (before ++ d.added) done (u ∷ shown) none.1)
    order_from x y first took text before (d ∷ done) (u ∷ shown) (inr is) =
        let here = printed_of before d.added d.answers in
        inr (
          (Appends-then x y u.held first text took is.0.0, is.0.1),
          subst (λ (t : List ℕ). AreInOrder seen new history x t (before ++ d.added) done shown) (sym (append_assoc first text here))
              (order_from x y first took (text ++ here) (before ++ d.added) done shown is.1),
        )
