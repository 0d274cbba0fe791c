-- What a keeping leaves.
use Rattle.std.proofs.Common.{◌≡◌, inl, inr, ⊎_elim, ℕ, ◌+◌, ◌<◌, ◌≤◌, true, List, [], ◌∷◌, ◌++◌, length, take, drop, All, IsTrue, refl, sym, ◌∙◌, ap, subst, arith}
use Rattle.std.proofs.lemmas.List.{append-nil, drop_all, map-append, take-append-drop, take_all}
use Rattle.limited_book.specs.setoff_model.specs.declared.limits.TheConstants.{MOST_JOURNAL_BYTES}
use Rattle.claim_history.specs.PoolNeeds.{used_bytes_of}
use Rattle.disk_model.specs.Calls.{Seen, IsPresent, Passes}
use Rattle.disk_model.proofs.Moments.{passes_still, passes_wide, present_has}
use Rattle.claim_history.specs.declared.call.Call.{Call}
use Rattle.claim_history.specs.declared.call.PoolEntry.{PoolEntry}
use Rattle.claim_history.specs.Pools.{accepted_calls, call_of}
use Rattle.claim_history.proofs.Calls.{accepted_append}
use Rattle.act_bodies.specs.Bodies.{body_of, is_keepable}
use Rattle.limited_book.specs.claim_book.specs.Pools.{BooksView}
use Rattle.round_journal.specs.Bytes.{StandsFor}
use Rattle.round_journal.specs.Kept.{JournalView, HoldsMore, IsGroup, IsKept}
use Rattle.round_journal.specs.Appends.{HasAppended, HasTried}
use Rattle.round_journal.specs.Records.{bodies_of_calls}
use Rattle.round_journal.proofs.Groups.{empty_group, length-group, no_group}
use Rattle.group_loader.specs.Groups.{HasGroupMoments, StandsForCalls, StandsForWhole, calls_after, joined}
use Rattle.group_loader.specs.Loading.{GoesOnBy, HasKept, HasStopped, KeepsCalls, LoadView, Loads, kept_calls, pending_calls}
use Rattle.group_loader.proofs.Grown.{calls_whole, groups_grow, groups_tried}

bodies_append : (calls more : List Call) → bodies_of_calls (calls ++ more) ≡ bodies_of_calls calls ++ bodies_of_calls more
bodies_append calls more = map-append body_of calls more

-- what an append of a group may leave
whole_of_more : (calls group : List Call) (c : List ℕ) → HoldsMore (bodies_of_calls calls) [] (bodies_of_calls group) c → StandsForWhole calls group c
whole_of_more calls group c more = ⊎_elim
    (λ alone. inl alone)
    (λ rest. ⊎_elim
    (λ new. inr (subst (StandsFor c) (sym (bodies_append calls group)) new))
    (λ other. inl (subst (StandsFor c) (append-nil (bodies_of_calls calls)) other))
    rest)
    more

-- all calls are those that are kept and those that gather
split_calls : (kept : ℕ) (members : List PoolEntry) → accepted_calls members ≡ accepted_calls (take kept members) ++ accepted_calls (drop kept members)
split_calls kept members = ap accepted_calls (sym (take-append-drop kept members)) ∙ accepted_append (take kept members) (drop kept members)

no_calls : (calls : List Call) → bodies_of_calls calls ≡ [] → calls ≡ []
no_calls [] is = refl
no_calls (call ∷ calls) is = absurd (cc is)

-- a journal that keeps calls stands for them
pub stands_kept : {D : Type 0} (seen : D → Seen) (j : JournalView D) (calls : List Call) → KeepsCalls seen j calls → (c : List ℕ) → IsPresent (seen j.disk) c → StandsForCalls c calls
stands_kept seen j calls kept c there = record { short = kept.1.short; begins = kept.0; ends = kept.1.images c there }

module _ {D : Type 0} (seen : D → Seen) (v : LoadView D) (has : Loads seen v) where
  abbrev members : List PoolEntry
  members = v.books.members

  abbrev kept : List Call
  kept = kept_calls v

  abbrev pending : List Call
  pending = pending_calls v

  abbrev view_after : JournalView D → LoadView D
  view_after j = record { journal = j; books = v.books; group = []; kept = length v.books.members }

  all_kept : take (length members) members ≡ members
  all_kept = take_all (length members) members (omega arith)

  none_pending : IsGroup (bodies_of_calls (accepted_calls (drop (length members) members))) []
  none_pending = subst (λ (ms : List PoolEntry). IsGroup (bodies_of_calls (accepted_calls ms)) []) (sym (drop_all (length members) members (omega arith))) empty_group

  -- the calls of the groups so far are those that are kept
  calls_are : (base : List Call) (groups : List (List Call)) → kept ≡ base ++ joined groups → calls_after base groups (length groups) ≡ kept
  calls_are base groups is = calls_whole base groups ∙ sym is

  -- one group more
  grown : (new : Seen) → Passes (seen v.journal.disk) new (StandsForWhole kept pending)
      → ((c : List ℕ) → IsPresent new c → StandsForCalls c (kept ++ pending))
      → GoesOnBy (seen v.journal.disk) new kept (λ groups. groups ++ pending ∷ []) []
  grown new passes durable started base groups is was =
      let same = calls_are base groups is in
      groups_grow (seen v.journal.disk) new started base groups pending was
      (subst (λ (calls : List Call). Passes (seen v.journal.disk) new (StandsForWhole calls pending)) (sym same) passes)
      (λ c there. subst (λ (calls : List Call). StandsForCalls c (calls ++ pending)) (sym same) (durable c there))

  module _ (j : JournalView D) (tried : HasTried seen v.journal j (bodies_of_calls pending)) where
    pub keeping : IsTrue (seen v.journal.disk).tells → Passes (seen v.journal.disk) (seen j.disk) (StandsForWhole kept pending)
    keeping told =
        let was = has.kept told in
        passes_wide (seen v.journal.disk) (seen j.disk) (HoldsMore (bodies_of_calls kept) [] (bodies_of_calls pending)) (StandsForWhole kept pending)
        (tried.crash was.0 (bodies_of_calls kept) [] was.1)
        (λ c more. whole_of_more kept pending c more)

    pub has_stopped : (pending ≡ [] → ⊥) → HasStopped seen v.journal.disk j.disk kept pending
    has_stopped some = record {
      during = keeping;
      stands = λ told. present_has (seen v.journal.disk) (seen j.disk) (StandsForWhole kept pending) (keeping told)
          (λ c there. inl (stands_kept seen v.journal kept (has.kept told) c there));
      tried = λ told started base groups is was.
          groups_tried (seen v.journal.disk) (seen j.disk) started base groups pending was
          (subst (λ (calls : List Call). Passes (seen v.journal.disk) (seen j.disk) (StandsForWhole calls pending)) (sym (calls_are base groups is)) (keeping told));
      some = some;
      tells = tried.tells;
    }

    module _ (done : HasAppended seen v.journal j (bodies_of_calls pending)) where
      now : IsTrue (seen v.journal.disk).tells → KeepsCalls seen j (kept ++ pending)
      now told =
          let was = has.kept told in
          (was.0, subst (λ (bs : List (List ℕ)). IsKept seen j was.0 bs []) (sym (bodies_append kept pending)) (done.kept was.0 (bodies_of_calls kept) [] was.1))

      durable : IsTrue (seen v.journal.disk).tells → (c : List ℕ) → IsPresent (seen j.disk) c → StandsForCalls c (kept ++ pending)
      durable told c there = stands_kept seen j (kept ++ pending) (now told) c there

      pub has_kept : (pending ≡ [] → ⊥) → HasKept seen v.journal.disk j.disk kept pending
      has_kept some = record {
        during = keeping;
        stands = durable;
        grows = λ told. grown (seen j.disk) (keeping told) (durable told);
        quiet = λ none. absurd (some none);
        tells = tried.tells;
        later = tried.counts;
      }

      pub loads_kept : Loads seen (view_after j)
      loads_kept = record {
        few = omega arith;
        place = omega (arith, has.place, done.gate, length-group (bodies_of_calls pending) v.group has.group);
        near = has.near;
        keepable = has.keepable;
        group = none_pending;
        kept = λ told_now.
            let told = subst (λ (b : _). IsTrue b) tried.tells told_now in
            subst (λ (calls : List Call). KeepsCalls seen j calls) (sym (split_calls v.kept members) ∙ ap accepted_calls (sym all_kept)) (now told);
      }

  -- a group with a record has a call
  pub some_pending : 0 < length v.group → pending ≡ [] → ⊥
  some_pending some none =
      let is : v.group ≡ [] = (subst (λ (calls : List Call). IsGroup (bodies_of_calls calls) v.group) none has.group).is in
      absurd (omega (arith, ap length is, some))

  -- where no call gathers
  module _ (none : v.group ≡ []) where
    no_pending : pending ≡ []
    no_pending = no_calls pending (no_group (bodies_of_calls pending) v.group none has.group)

    all_are : accepted_calls members ≡ kept
    all_are = split_calls v.kept members ∙ ap (λ (l : List Call). kept ++ l) no_pending ∙ append-nil kept

    nothing_more : kept ++ pending ≡ kept
    nothing_more = ap (λ (l : List Call). kept ++ l) no_pending ∙ append-nil kept

    alone : IsTrue (seen v.journal.disk).tells → (c : List ℕ) → IsPresent (seen v.journal.disk) c → StandsForCalls c kept
    alone told c there = stands_kept seen v.journal kept (has.kept told) c there

    pub kept_none : HasKept seen v.journal.disk v.journal.disk kept pending
    kept_none = record {
      during = λ told. passes_still (seen v.journal.disk) (StandsForWhole kept pending);
      stands = λ told c there. subst (StandsForCalls c) (sym nothing_more) (alone told c there);
      grows = λ told. grown (seen v.journal.disk) (passes_still (seen v.journal.disk) (StandsForWhole kept pending))
          (λ c there. subst (StandsForCalls c) (sym nothing_more) (alone told c there));
      quiet = λ none. refl;
      tells = refl;
      later = omega arith;
    }

    pub loads_none : Loads seen (view_after v.journal)
    loads_none = record {
      few = omega arith;
      place = omega (arith, has.place, ap length none);
      near = has.near;
      keepable = has.keepable;
      group = none_pending;
      kept = λ told. subst (λ (calls : List Call). KeepsCalls seen v.journal calls) (sym (ap accepted_calls all_kept ∙ all_are)) (has.kept told);
    }

-- the same load, of what its parts are equal to
pub loads_as : {D : Type 0} (seen : D → Seen) (books : BooksView) (j j' : JournalView D) (group group' : List ℕ) (kept kept' : ℕ)
    → Loads seen (record { journal = j; books = books; group = group; kept = kept }) → j' ≡ j → group' ≡ group → kept' ≡ kept
    → Loads seen (record { journal = j'; books = books; group = group'; kept = kept' })
loads_as {D} seen books j j' group group' kept kept' has j_is group_is kept_is =
    subst (λ (k : ℕ). Loads seen (record { journal = j'; books = books; group = group'; kept = k })) (sym kept_is)
    (subst (λ (g : List ℕ). Loads seen (record { journal = j'; books = books; group = g; kept = kept })) (sym group_is)
    (subst (λ (v : JournalView D). Loads seen (record { journal = v; books = books; group = group; kept = kept })) (sym j_is) has))

pub empty_list : (xs : List ℕ) → length xs ≡ 0 → xs ≡ []
empty_list [] is = refl
empty_list (x ∷ xs) is = absurd (omega (arith, is))

-- a load that begins
module _ {D : Type 0} (seen : D → Seen) (journal : JournalView D) (books : BooksView)
    (kept : IsTrue (seen journal.disk).tells → KeepsCalls seen journal (accepted_calls books.members)) where
  abbrev started : LoadView D
  started = record { journal = journal; books = books; group = []; kept = length books.members }

  pub loads_started : journal.gate + 1 ≡ used_bytes_of books.members → used_bytes_of books.members ≤ MOST_JOURNAL_BYTES
      → All (λ m. is_keepable (call_of m) ≡ true) books.members → Loads seen started
  loads_started place near keepable = record {
    few = omega arith;
    place = omega (arith, place);
    near = near;
    keepable = keepable;
    group = subst (λ (ms : List PoolEntry). IsGroup (bodies_of_calls (accepted_calls ms)) []) (sym (drop_all (length books.members) books.members (omega arith))) empty_group;
    kept = λ told. subst (λ (ms : List PoolEntry). KeepsCalls seen journal (accepted_calls ms)) (sym (take_all (length books.members) books.members (omega arith))) (kept told);
  }

  -- its groups have their moments, of which there is none yet
  pub moments_started : IsTrue (seen journal.disk).tells → HasGroupMoments (seen journal.disk) (seen journal.disk).moment (accepted_calls books.members) [] []
  moments_started told =
      let calls = accepted_calls books.members in
      record {
        at = λ i. (seen journal.disk).moment;
        begins = refl;
        rises = λ i high. omega arith;
        below = λ i le. omega arith;
        spans = λ i t c high since until there. absurd (omega (arith, high));
        last = λ t c since le there.
            let here : t ≡ (seen journal.disk).moment = omega (arith, since, le) in
            inl (subst (StandsForCalls c) (sym (append-nil calls)) (stands_kept seen journal calls (kept told) c (subst (λ (m : ℕ). (seen journal.disk).image m c) here there)));
      }
