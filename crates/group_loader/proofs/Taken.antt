-- What a call that is taken leaves.
use Rattle.std.proofs.Common.{◌≡◌, ⊎_elim, true≢false, ℕ, ◌+◌, ◌≤◌, true, false, List, [], ◌∷◌, ◌++◌, length, take, drop, reverse, All, refl, sym, ◌∙◌, ap, subst, arith, length-append}
use Rattle.std.proofs.lemmas.List.{drop-append-le, map-append, take-append-le}
use Rattle.std.proofs.lemmas.List.Elements.{All-push}
use Rattle.std.proofs.lemmas.Bool.{cases_Bool, false_from_ne_true}
use Rattle.limited_book.specs.setoff_model.specs.declared.limits.TheConstants.{MOST_JOURNAL_BYTES}
use Rattle.disk_model.specs.Calls.{Seen}
use Rattle.claim_history.specs.declared.call.Call.{Call}
use Rattle.claim_history.specs.declared.call.PoolEntry.{PoolEntry}
use Rattle.claim_history.specs.declared.entry.Reply.{Reply}
use Rattle.claim_history.specs.Pools.{accepted_calls, answered, call_of, due_of_past, due_reply, state_in}
use Rattle.claim_history.specs.PoolNeeds.{is_full, own_bytes, used_bytes_of}
use Rattle.claim_history.specs.History.{is_no_refusal, is_opening, replied}
use Rattle.claim_history.specs.Acts.{is_close}
use Rattle.claim_history.proofs.Replies.{opens}
use Rattle.claim_history.proofs.Calls.{accepted_more, accepted_same}
use Rattle.claim_history.proofs.PoolRoom.{accepted_owns, due_is, full_law, use_law}
use Rattle.act_bodies.specs.Bodies.{body_of, is_keepable}
use Rattle.limited_book.specs.claim_book.specs.Pools.{BooksView}
use Rattle.round_journal.specs.Kept.{IsGroup}
use Rattle.round_journal.specs.Records.{bodies_of_calls}
use Rattle.group_loader.specs.Loading.{Holding, KeepsCalls, LoadView, Loads}

module _ {D : Type 0} (seen : D → Seen) (v : LoadView D) (has : Loads seen v) where
  -- only the rooms of the books changed
  pub loads_same : (books : BooksView) → books.members ≡ v.books.members → Loads seen (record { journal = v.journal; books = books; group = v.group; kept = v.kept })
  loads_same books same = record {
    few = omega (arith, has.few, ap length same);
    place = has.place ∙ sym (ap used_bytes_of same);
    near = omega (arith, has.near, ap used_bytes_of same);
    keepable = subst (All (λ m. is_keepable (call_of m) ≡ true)) (sym same) has.keepable;
    group = subst (λ (ms : List PoolEntry). IsGroup (bodies_of_calls (accepted_calls (drop v.kept ms))) v.group) (sym same) has.group;
    kept = λ told. subst (λ (ms : List PoolEntry). KeepsCalls seen v.journal (accepted_calls (take v.kept ms))) (sym same) (has.kept told);
  }

  module _ (call : Call) (can : is_keepable call ≡ true) (due : Reply) (due_was : due ≡ due_reply v.books.members call) (fits : is_full v.books.members call ≡ false)
      (books : BooksView) (more : books.members ≡ v.books.members ++ answered call due ∷ []) where
    abbrev m : PoolEntry
    m = answered call due

    abbrev history : List PoolEntry
    history = v.books.members

    use_more : used_bytes_of books.members ≡ used_bytes_of history + own_bytes call due
    use_more = ap used_bytes_of more ∙ (use_law history m).bytes

    near_more : used_bytes_of books.members ≤ MOST_JOURNAL_BYTES
    near_more =
        let own : own_bytes call (due_of_past (reverse history) call) ≡ own_bytes call due = ap (own_bytes call) (due_is history call ∙ sym due_was) in
        omega (arith, use_more, own, ((full_law history call).0 fits).bytes)

    take_same : take v.kept books.members ≡ take v.kept history
    take_same = ap (λ (ms : List PoolEntry). take v.kept ms) more ∙ take-append-le v.kept history (m ∷ []) has.few

    drop_more : drop v.kept books.members ≡ drop v.kept history ++ m ∷ []
    drop_more = ap (λ (ms : List PoolEntry). drop v.kept ms) more ∙ drop-append-le v.kept history (m ∷ []) has.few

    with_group : (group : List ℕ) → length group ≡ length v.group + own_bytes call due → IsGroup (bodies_of_calls (accepted_calls (drop v.kept history ++ m ∷ []))) group
        → Loads seen (record { journal = v.journal; books = books; group = group; kept = v.kept })
    with_group group long is = record {
      few = omega (arith, has.few, ap length more, length-append history (m ∷ []));
      place = omega (arith, has.place, use_more, long);
      near = near_more;
      keepable = subst (All (λ x. is_keepable (call_of x) ≡ true)) (sym more) (All-push (λ x. is_keepable (call_of x) ≡ true) history m has.keepable can);
      group = subst (λ (ms : List PoolEntry). IsGroup (bodies_of_calls (accepted_calls ms)) group) (sym drop_more) is;
      kept = λ told. subst (λ (ms : List PoolEntry). KeepsCalls seen v.journal (accepted_calls ms)) (sym take_same) (has.kept told);
    }

    pub loads_refused : is_no_refusal due ≡ false → Loads seen (record { journal = v.journal; books = books; group = v.group; kept = v.kept })
    loads_refused refused =
        let none : own_bytes call due ≡ 0 = rw refused refl in
        with_group v.group (omega (arith, none))
        (subst (λ (calls : List Call). IsGroup (bodies_of_calls calls) v.group) (sym (accepted_same (drop v.kept history) m refused)) has.group)

    pub loads_accepted : (group : List ℕ) → is_no_refusal due ≡ true → Holding v.group group call
        → Loads seen (record { journal = v.journal; books = books; group = group; kept = v.kept })
    loads_accepted group accepted holding =
        let pending = accepted_calls (drop v.kept history) in
        let same : bodies_of_calls pending ++ body_of call ∷ [] ≡ bodies_of_calls (accepted_calls (drop v.kept history ++ m ∷ [])) =
        sym (map-append body_of pending (call ∷ [])) ∙ ap bodies_of_calls (sym (accepted_more (drop v.kept history) m accepted)) in
        with_group group (holding.long ∙ ap (λ (n : ℕ). length v.group + n) (sym (accepted_owns call due accepted)))
        (subst (λ (bs : List (List ℕ)). IsGroup bs group) same (holding.group (bodies_of_calls pending) has.group))

    -- a reply accepts, or it does not
    pub loads_held : (group : List ℕ) → (is_no_refusal due ≡ true → Holding v.group group call) → (is_no_refusal due ≡ false → group ≡ v.group)
        → Loads seen (record { journal = v.journal; books = books; group = group; kept = v.kept })
    loads_held group held same = ⊎_elim
        (λ accepted. loads_accepted group accepted (held accepted))
        (λ refused. subst (λ (l : List ℕ). Loads seen (record { journal = v.journal; books = books; group = l; kept = v.kept })) (sym (same refused)) (loads_refused refused))
        (cases_Bool (is_no_refusal due))

-- an act that is no Close opens no round
pub other_opens_none : (history : List PoolEntry) (call : Call) (due : Reply) → due ≡ due_reply history call → is_close call.act ≡ false → is_opening due ≡ false
other_opens_none history call due is other =
    false_from_ne_true (is_opening due) (λ e. true≢false (sym (ap is_close (opens (state_in history call.pool) 0 call.caller call.act due (replied is) e).act_is ∙ refl) ∙ other))
