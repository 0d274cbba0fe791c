-- The order of sink and disk, one group after another.
use Rattle.std.specs.Prelude.{Option, IsTrue}
use Rattle.std.specs.Io.KnownBytes.{Appends}
use Rattle.std.proofs.Common.{◌≡◌, ◌∙◌, ⊎_elim, inl, inr, ℕ, Bool, List, [], ◌∷◌, ◌++◌, sym, ap, subst, append_assoc, arith}
use Rattle.std.proofs.lemmas.Bool.{cases_lt}
use Rattle.std.proofs.lemmas.List.{append-nil}
use Rattle.bureau_edge.proofs.Known.{Appends-none, Appends-then}
use Rattle.disk_model.specs.Calls.{Seen, IsPresent, Passes}
use Rattle.disk_model.proofs.Moments.{passes_on, passes_still, passes_wide}
use Rattle.disk_witness.specs.Shown.{Shown}
use Rattle.claim_history.specs.declared.call.Call.{Call}
use Rattle.claim_history.specs.declared.call.PoolEntry.{PoolEntry}
use Rattle.claim_history.specs.Pools.{accepted_calls}
use Rattle.claim_history.proofs.Calls.{accepted_append}
use Rattle.printed_text.specs.served_lines.specs.Served.{Line}
use Rattle.group_loader.specs.Groups.{StandsForCalls, StandsForFirst, StandsForWhole}
use Rattle.group_runs.specs.Lines.{group_text, groups_add, groups_text, lines_add}
use Rattle.group_runs.specs.Order.{AreInOrder, IsHeldFrom, WereShown}

-- ---- lists that begin with some calls

-- these alone, or with a whole group
pub whole_first : (calls group : List Call) (c : List ℕ) → StandsForWhole calls group c → StandsForFirst calls c
whole_first calls group c (inl alone) = ([], subst (StandsForCalls c) (sym (append-nil calls)) alone)
whole_first calls group c (inr more) = (group, more)

-- fewer of them
pub fewer_first : (calls more : List Call) (c : List ℕ) → StandsForFirst (calls ++ more) c → StandsForFirst calls c
fewer_first calls more c holds = (more ++ holds.0, subst (StandsForCalls c) (append_assoc calls more holds.0) holds.1)

-- ---- what is held of a disk that was shown

module _ {D : Type 0} (seen : D → Seen) where
  -- what each present image stands for is held from now on
  pub held_now : (now : D) (calls : List Call) → ((c : List ℕ) → IsPresent (seen now) c → StandsForCalls c calls) → IsHeldFrom seen now now calls
  held_now now calls present = record {
    stays = passes_still (seen now) (λ c. Unit {0});
    held = λ t c from until is.
        ([], subst (StandsForCalls c) (sym (append-nil calls)) (present c (subst (λ (n : ℕ). (seen now).image n c) (omega (arith, from, until)) is)));
  }

  -- and goes on to be, while each image holds it and more
  pub held_longer : (shown now new : D) (calls more : List Call) → IsHeldFrom seen shown now calls → Passes (seen now) (seen new) (StandsForFirst (calls ++ more)) → IsHeldFrom seen shown new calls
  held_longer shown now new calls more was goes = record {
    stays = passes_on (seen shown) (seen now) (seen new) (λ c. Unit {0}) was.stays (passes_wide (seen now) (seen new) (StandsForFirst (calls ++ more)) (λ c. Unit {0}) goes (λ c holds. tt));
    held = λ t c from until is. ⊎_elim
        (λ late. fewer_first calls more c (goes.since t c late until is))
        (λ early. was.held t c from early (goes.no_more t c early is))
        (cases_lt (seen now).moment t);
  }

  -- ---- groups in turn

  -- what was in order is so when more is kept
  module _ (now new : D) (after : List PoolEntry) (tells : IsTrue (seen new).tells → IsTrue (seen now).tells)
      (goes : IsTrue (seen now).tells → Passes (seen now) (seen new) (StandsForFirst (accepted_calls after))) (x : Option (List ℕ)) where
    order_longer : (text : List ℕ) (before : List PoolEntry) (groups : List (List Line)) (shown : List (Shown D)) → after ≡ before ++ groups_add before groups
        → AreInOrder seen now x text before groups shown → AreInOrder seen new x text before groups shown
    order_longer text before [] [] is order = tt
    order_longer text before [] (s ∷ shown) is order = absurd order
    order_longer text before (g ∷ groups) [] is order = absurd order
    order_longer text before (g ∷ groups) (s ∷ shown) is order =
        let here = before ++ lines_add before g in
        let later = groups_add here groups in
        let parts : after ≡ here ++ later = is ∙ sym (append_assoc before (lines_add before g) later) in
        let calls : accepted_calls after ≡ accepted_calls here ++ accepted_calls later = ap accepted_calls parts ∙ accepted_append here later in (
          (
            order.0.0,
            λ told. held_longer s.disk now new (accepted_calls here) (accepted_calls later) (order.0.1 (tells told))
                (subst (λ (l : List Call). Passes (seen now) (seen new) (StandsForFirst l)) calls (goes (tells told))),
          ),
          order_longer (text ++ group_text before g) here groups shown parts order.1,
        )

  module _ (new : D) where
    -- counted from where the sink had taken a text less
    order_from : (x y : Option (List ℕ)) (first : List ℕ) → Appends x y first → (text : List ℕ) (before : List PoolEntry) (groups : List (List Line)) (shown : List (Shown D)) → AreInOrder seen new y text before groups shown
        → AreInOrder seen new x (first ++ text) before groups shown
    order_from x y first took text before [] [] order = tt
    order_from x y first took text before [] (s ∷ shown) order = absurd order
    order_from x y first took text before (g ∷ groups) [] order = absurd order
    order_from x y first took text before (g ∷ groups) (s ∷ shown) order =
        let here = group_text before g in (
          (Appends-then x y s.held first text took order.0.0, order.0.1),
          subst (λ (t : List ℕ). AreInOrder seen new x t (before ++ lines_add before g) groups shown) (sym (append_assoc first text here))
              (order_from x y first took (text ++ here) (before ++ lines_add before g) groups shown order.1),
        )

    pub order_behind : (x y : Option (List ℕ)) (first : List ℕ) → Appends x y first → (before : List PoolEntry) (groups : List (List Line)) (shown : List (Shown D)) → AreInOrder seen new y [] before groups shown
        → AreInOrder seen new x first before groups shown
    order_behind x y first took before groups shown order =
        subst (λ (t : List ℕ). AreInOrder seen new x t before groups shown) (append-nil first) (order_from x y first took [] before groups shown order)

    -- later groups behind these
    order_then : (x : Option (List ℕ)) (text : List ℕ) (before : List PoolEntry) (groups later : List (List Line)) (shown more : List (Shown D)) → AreInOrder seen new x text before groups shown
        → AreInOrder seen new x (text ++ groups_text before groups) (before ++ groups_add before groups) later more → AreInOrder seen new x text before (groups ++ later) (shown ++ more)
    order_then x text before [] later [] more order next =
        subst (λ (t : List ℕ). AreInOrder seen new x t before later more) (append-nil text)
        (subst (λ (h : List PoolEntry). AreInOrder seen new x (text ++ []) h later more) (append-nil before) next)
    order_then x text before [] later (s ∷ shown) more order next = absurd order
    order_then x text before (g ∷ groups) later [] more order next = absurd order
    order_then x text before (g ∷ groups) later (s ∷ shown) more order next =
        let here = before ++ lines_add before g in
        let said = group_text before g in (
          order.0,
          order_then x (text ++ said) here groups later shown more order.1
              (subst (λ (t : List ℕ). AreInOrder seen new x t (here ++ groups_add here groups) later more) (sym (append_assoc text said (groups_text here groups)))
              (subst (λ (h : List PoolEntry). AreInOrder seen new x (text ++ (said ++ groups_text here groups)) h later more) (sym (append_assoc before (lines_add before g) (groups_add here groups))) next)),
        )

  -- ---- what was shown

  pub shown_none : (now : D) (x : Option (List ℕ)) (v : List (Shown D)) (before : List PoolEntry) → WereShown seen now x v v before []
  shown_none now x v before = record { shown = []; were_shown = sym (append-nil v); order = tt }

  -- one group, all of which is kept
  pub shown_one : (new : D) (x : Option (List ℕ)) (v w : List (Shown D)) (before : List PoolEntry) (lines : List Line) → w ≡ v ++ (record { held = x; disk = new }) ∷ []
      → (IsTrue (seen new).tells → (c : List ℕ) → IsPresent (seen new) c → StandsForCalls c (accepted_calls before ++ accepted_calls (lines_add before lines)))
      → WereShown seen new x v w before (lines ∷ [])
  shown_one new x v w before lines is present = record {
    shown = (record { held = x; disk = new }) ∷ [];
    were_shown = is;
    order = (
      (
        Appends-none x,
        λ told. held_now new (accepted_calls (before ++ lines_add before lines))
            (subst (λ (calls : List Call). (c : List ℕ) → IsPresent (seen new) c → StandsForCalls c calls) (sym (accepted_append before (lines_add before lines))) (present told)),
      ),
      tt,
    );
  }

  -- groups, and then later ones
  pub shown_then : (now new : D) (x y : Option (List ℕ)) (u v w : List (Shown D)) (before after : List PoolEntry) (groups later : List (List Line)) → after ≡ before ++ groups_add before groups
      → (seen new).tells ≡ (seen now).tells → (IsTrue (seen now).tells → Passes (seen now) (seen new) (StandsForFirst (accepted_calls after))) → Appends x y (groups_text before groups)
      → WereShown seen now x u v before groups → WereShown seen new y v w after later → WereShown seen new x u w before (groups ++ later)
  shown_then now new x y u v w before after groups later is same goes took p q =
      let tells : IsTrue (seen new).tells → IsTrue (seen now).tells = λ told. subst (λ (b : Bool). IsTrue b) same told in
      let text = groups_text before groups in
      record {
        shown = p.shown ++ q.shown;
        were_shown = q.were_shown ∙ ap (λ (l : List (Shown D)). l ++ q.shown) p.were_shown ∙ append_assoc u p.shown q.shown;
        order = order_then new x [] before groups later p.shown q.shown (order_longer now new after tells goes x [] before groups p.shown is p.order)
            (subst (λ (h : List PoolEntry). AreInOrder seen new x text h later q.shown) is (order_behind new x y text took after later q.shown q.order));
      }
