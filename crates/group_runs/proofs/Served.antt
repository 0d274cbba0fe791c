-- Groups that are served in turn.
use Rattle.std.specs.Prelude.{◌==◌, Option, min}
use Rattle.std.specs.Io.KnownBytes.{Appends}
use Rattle.std.proofs.Common.{◌≡◌, ◌∙◌, ⊎_elim, ℕ, zero, suc, ◌+◌, ◌<◌, ◌≤◌, Bool, true, false, ◌||◌, List, [], ◌∷◌, ◌++◌, length, map, take, drop, IsTrue, refl, sym, ap, ap₂, subst, append_assoc, arith}
use Rattle.std.proofs.lemmas.List.{append-nil, drop_all, length-drop, map-append, take-append-drop}
use Rattle.std.proofs.lemmas.List.Folds.{list_any-append}
use Rattle.std.proofs.lemmas.List.Concat.{flat_map-append}
use Rattle.std.proofs.lemmas.Bool.{cases_lt}
use Rattle.std.proofs.Math.Bool.{or_assoc}
use Rattle.bureau_edge.specs.Streams.{AppendsPart}
use Rattle.bureau_edge.proofs.Known.{Appends-none, Appends-then, AppendsPart-after}
use Rattle.disk_model.specs.Calls.{Seen}
use Rattle.disk_model.proofs.Moments.{passes_on, passes_still, passes_wide}
use Rattle.disk_witness.specs.Shown.{Shown}
use Rattle.claim_history.specs.declared.call.Call.{Call}
use Rattle.claim_history.specs.declared.call.PoolEntry.{PoolEntry}
use Rattle.claim_history.specs.Pools.{accepted_calls}
use Rattle.request_text.specs.declared.request.Request.{Request}
use Rattle.printed_text.specs.served_lines.specs.declared.line_end.LineEnd.{LineEnd}
use Rattle.printed_text.specs.served_lines.specs.Ends.{has_line_end, is_full_end, is_memory_end}
use Rattle.printed_text.specs.served_lines.specs.Served.{Line}
use Rattle.group_loader.specs.Groups.{HasGroupMoments, StandsForFirst, StandsForWhole, joined}
use Rattle.group_loader.specs.Loading.{HasKept, HasStopped, LoadView}
use Rattle.group_runs.specs.declared.limits.TheConstants.{GROUP_LINES}
use Rattle.group_runs.specs.declared.load_break.LoadBreak.{LoadBreak}
use Rattle.group_runs.specs.declared.load_break.LoadBreak.TheVariants as breaks
use Rattle.group_runs.specs.declared.tally.Tally.{Tally}
use Rattle.group_runs.specs.Lines.{GroupsAreDue, answers_of_lines, group_calls, groups_add, groups_text, lines_add, requests_of_lines}
use Rattle.group_runs.specs.Order.{WereShown}
use Rattle.group_runs.specs.Runs.{HasBrokenAt, HasServedGroup, HaveBroken, HaveServedGroups, IsAllKept, IsKeptBy, KeepsHistory, calls_of_group, cut_batch, groups_of, some_end}
use Rattle.group_runs.proofs.Lines.{calls_after_groups, calls_more, groups_due, groups_more, text_more}
use Rattle.group_runs.proofs.Order.{fewer_first, shown_none, shown_one, shown_then, whole_first}

-- ---- how a batch is cut

pub cut_step : (times : ℕ) (rest : List Request) → 0 < length rest → length rest ≤ times
    → (next : ℕ) × (cut_batch times rest ≡ take GROUP_LINES rest ∷ cut_batch next (drop GROUP_LINES rest)) × (length (drop GROUP_LINES rest) ≤ next)
cut_step times [] some few = absurd (omega (arith, some))
cut_step zero (r ∷ rest) some few = absurd (omega (arith, few))
cut_step (suc times) (r ∷ rest) some few = (times, refl, omega (arith, few, length-drop GROUP_LINES (r ∷ rest)))

pub cut_none : (times : ℕ) (rest : List Request) → length rest ≡ 0 → cut_batch times rest ≡ []
cut_none zero rest none = refl
cut_none (suc times) [] none = refl
cut_none (suc times) (r ∷ rest) none = absurd (omega (arith, none))

pub not_empty : {X : Type 0} (xs : List X) (b : Bool) → b ≡ (length xs == 0) → b ≡ false → 0 < length xs
not_empty [] b is test = absurd (cc (is, test))
not_empty (x ∷ xs) b is test = omega arith

pub drop_min : {X : Type 0} (n : ℕ) (xs : List X) → drop (min n (length xs)) xs ≡ drop n xs
drop_min n xs = ⊎_elim
    (λ lt. ap (λ (k : ℕ). drop k xs) (omega (arith, lt)))
    (λ ge. drop_all (min n (length xs)) xs (omega (arith, ge)) ∙ sym (drop_all n xs ge))
    (cases_lt n (length xs))

-- the groups of one batch more
pub groups_push : (bs : List (List Request)) (b : List Request) → groups_of (bs ++ b ∷ []) ≡ groups_of bs ++ cut_batch (length b) b
groups_push bs b =
    flat_map-append (λ (batch : List Request). cut_batch (length batch) batch) bs (b ∷ [])
    ∙ ap (λ (l : List (List Request)). groups_of bs ++ l) (append-nil (cut_batch (length b) b))

-- those of all batches, of which one was begun
pub groups_in_order : (bs : List (List Request)) (i : ℕ) (b : List Request) (first rest : List (List Request)) → take (i + 1) bs ≡ take i bs ++ b ∷ []
    → cut_batch (length b) b ≡ first ++ rest → groups_of bs ≡ (groups_of (take i bs) ++ first) ++ (rest ++ groups_of (drop (i + 1) bs))
groups_in_order bs i b first rest item cut =
    let before = groups_of (take i bs) in
    let after = groups_of (drop (i + 1) bs) in
    ap groups_of (sym (take-append-drop (i + 1) bs))
    ∙ flat_map-append (λ (batch : List Request). cut_batch (length batch) batch) (take (i + 1) bs) (drop (i + 1) bs)
    ∙ ap (λ (l : List (List Request)). l ++ after) (ap groups_of item ∙ groups_push (take i bs) b ∙ ap (λ (l : List (List Request)). before ++ l) cut ∙ sym (append_assoc before first rest))
    ∙ append_assoc (before ++ first) rest after

-- ---- what is kept of the disk

module _ {D : Type 0} (seen : D → Seen) where
  none_kept : (d : D) (kept : List Call) → IsKeptBy seen d d kept [] []
  none_kept d kept = record {
    tells = refl;
    goes = λ told. passes_still (seen d) (StandsForFirst kept);
    grows = λ told started base groups is has. subst (λ (gs : List (List Call)). HasGroupMoments (seen d) started base gs []) (sym (append-nil groups)) has;
  }

  one_kept : (old new : D) (kept pending : List Call) → HasKept seen old new kept pending → IsKeptBy seen old new kept (pending ∷ []) []
  one_kept old new kept pending has = record {
    tells = has.tells;
    goes = λ told. passes_wide (seen old) (seen new) (StandsForWhole kept pending) (StandsForFirst kept) (has.during told) (whole_first kept pending);
    grows = has.grows;
  }

  one_stopped : (old new : D) (kept pending : List Call) → HasStopped seen old new kept pending → IsKeptBy seen old new kept [] pending
  one_stopped old new kept pending has = record {
    tells = has.tells;
    goes = λ told. passes_wide (seen old) (seen new) (StandsForWhole kept pending) (StandsForFirst kept) (has.during told) (whole_first kept pending);
    grows = λ told started base groups is was.
        subst (λ (gs : List (List Call)). HasGroupMoments (seen new) started base gs pending) (sym (append-nil groups)) (has.tried told started base groups is was);
  }

  kept_then : (a b c : D) (kept : List Call) (gs hs : List (List Call)) (tried : List Call) → IsKeptBy seen a b kept gs []
      → IsKeptBy seen b c (kept ++ joined gs) hs tried → IsKeptBy seen a c kept (gs ++ hs) tried
  kept_then a b c kept gs hs tried p q =
      let told_at : IsTrue (seen a).tells → IsTrue (seen b).tells = λ told. subst (λ (x : Bool). IsTrue x) (sym p.tells) told in
      record {
        tells = q.tells ∙ p.tells;
        goes = λ told. passes_on (seen a) (seen b) (seen c) (StandsForFirst kept) (p.goes told)
            (passes_wide (seen b) (seen c) (StandsForFirst (kept ++ joined gs)) (StandsForFirst kept) (q.goes (told_at told)) (fewer_first kept (joined gs)));
        grows = λ told started base groups is was.
            let now : kept ++ joined gs ≡ base ++ joined (groups ++ gs) =
            ap (λ (l : List Call). l ++ joined gs) is ∙ append_assoc base (joined groups) (joined gs)
            ∙ ap (λ (l : List Call). base ++ l) (sym (flat_map-append (λ (g : List Call). g) groups gs)) in
            subst (λ (l : List (List Call)). HasGroupMoments (seen c) started base l tried) (append_assoc groups gs hs)
            (q.grows (told_at told) started base (groups ++ gs) now (p.grows told started base groups is was));
      }

  -- behind the groups of a history
  groups_then : (a b c : D) (before after : List PoolEntry) (gs : List (List Line)) (hs : List (List Call)) (tried : List Call) → after ≡ before ++ groups_add before gs
      → IsKeptBy seen a b (accepted_calls before) (group_calls before gs) [] → IsKeptBy seen b c (accepted_calls after) hs tried
      → IsKeptBy seen a c (accepted_calls before) (group_calls before gs ++ hs) tried
  groups_then a b c before after gs hs tried is p q =
      kept_then a b c (accepted_calls before) (group_calls before gs) hs tried p
      (subst (λ (calls : List Call). IsKeptBy seen b c calls hs tried) (ap accepted_calls is ∙ calls_after_groups before gs) q)

  -- ---- tallies

  or_false : (c : Bool) → (c || false) ≡ c
  or_false true = refl
  or_false false = refl

  end_then : (test : LineEnd → Bool) (a b c : Bool) (gs hs : List (List Line)) → b ≡ (a || some_end test gs) → c ≡ (b || some_end test hs)
      → c ≡ (a || some_end test (gs ++ hs))
  end_then test a b c gs hs p q =
      q ∙ ap (λ (x : Bool). x || some_end test hs) p ∙ or_assoc a (some_end test gs) (some_end test hs)
      ∙ ap (λ (x : Bool). a || x) (sym (list_any-append (λ (g : List Line). has_line_end test (answers_of_lines g)) gs hs))

  -- ---- groups in turn

  pub served_none : (v : LoadView D) (tally : Tally) (x : Option (List ℕ)) (w : List (Shown D)) → IsAllKept v → HaveServedGroups seen v v [] tally tally x x w w
  served_none v tally x w all = record {
    groups = [];
    requests_are = refl;
    due = tt;
    members = sym (append-nil v.books.members);
    all = all;
    kept = none_kept v.journal.disk (accepted_calls v.books.members);
    later = omega arith;
    memory = sym (or_false tally.memory);
    full = sym (or_false tally.full);
    shown = shown_none seen v.journal.disk x w v.books.members;
    written = Appends-none x;
  }

  pub served_one : (old new : LoadView D) (requests : List Request) (before after : Tally) (x y : Option (List ℕ)) (v w : List (Shown D))
      → HasServedGroup seen old new requests before after x y v w → HaveServedGroups seen old new (requests ∷ []) before after x y v w
  served_one old new requests before after x y v w s =
      let added = lines_add old.books.members s.lines in
      let ends : LineEnd → Bool → Bool = λ e b. b in
      record {
        groups = s.lines ∷ [];
        requests_are = ap (λ (r : List Request). r ∷ []) s.is.requests_are;
        due = (s.is.due, tt);
        members = s.members ∙ ap (λ (l : List PoolEntry). old.books.members ++ l) (sym (append-nil added));
        all = s.all;
        kept = one_kept old.journal.disk new.journal.disk (accepted_calls old.books.members) (accepted_calls added) s.kept;
        later = s.kept.later;
        memory = s.memory ∙ ap (λ (c : Bool). before.memory || c) (sym (or_false (has_line_end is_memory_end (answers_of_lines s.lines))));
        full = s.full ∙ ap (λ (c : Bool). before.full || c) (sym (or_false (has_line_end is_full_end (answers_of_lines s.lines))));
        shown = shown_one seen new.journal.disk x v w old.books.members s.lines s.shown (λ told. s.kept.stands (sym s.kept.tells ∙ told));
        written = subst (Appends x y) (sym (append-nil _)) s.written;
      }

  module _ (a b : LoadView D) (rs : List (List Request)) (t0 t1 : Tally) (x y : Option (List ℕ)) (u v : List (Shown D)) (p : HaveServedGroups seen a b rs t0 t1 x y u v) where
    abbrev first : List PoolEntry
    first = a.books.members

    calls_are : (later : List (List Line)) → group_calls first p.groups ++ group_calls b.books.members later ≡ group_calls first (p.groups ++ later)
    calls_are later = ap (λ (h : List PoolEntry). group_calls first p.groups ++ group_calls h later) p.members ∙ sym (calls_more first p.groups later)

    text_is : (later : List (List Line)) → groups_text first p.groups ++ groups_text b.books.members later ≡ groups_text first (p.groups ++ later)
    text_is later = ap (λ (h : List PoolEntry). groups_text first p.groups ++ groups_text h later) p.members ∙ sym (text_more first p.groups later)

    members_are : (later : List (List Line)) → b.books.members ++ groups_add b.books.members later ≡ first ++ groups_add first (p.groups ++ later)
    members_are later =
        ap (λ (h : List PoolEntry). h ++ groups_add h later) p.members
        ∙ append_assoc first (groups_add first p.groups) (groups_add (first ++ groups_add first p.groups) later)
        ∙ ap (λ (l : List PoolEntry). first ++ l) (sym (groups_more first p.groups later))

    due_are : (later : List (List Line)) → GroupsAreDue b.books.members later → GroupsAreDue first (p.groups ++ later)
    due_are later due = groups_due first p.groups later p.due (subst (λ (h : List PoolEntry). GroupsAreDue h later) p.members due)

    requests_of : (later : List (List Line)) (qs : List (List Request)) → map requests_of_lines later ≡ qs → map requests_of_lines (p.groups ++ later) ≡ rs ++ qs
    requests_of later qs is = map-append requests_of_lines p.groups later ∙ ap₂ (λ (l m : List (List Request)). l ++ m) p.requests_are is

    kept_on : (c : D) (hs : List (List Line)) (tried : List Call) → IsKeptBy seen b.journal.disk c (accepted_calls b.books.members) (group_calls b.books.members hs) tried
        → IsKeptBy seen a.journal.disk c (accepted_calls first) (group_calls first (p.groups ++ hs)) tried
    kept_on c hs tried q =
        subst (λ (gs : List (List Call)). IsKeptBy seen a.journal.disk c (accepted_calls first) gs tried) (calls_are hs)
        (groups_then a.journal.disk b.journal.disk c first b.books.members p.groups (group_calls b.books.members hs) tried p.members p.kept q)

    shown_on : (c : D) (hs : List (List Line)) (calls : List (List Call)) (tried : List Call) (w : List (Shown D)) → IsKeptBy seen b.journal.disk c (accepted_calls b.books.members) calls tried
        → WereShown seen c y v w b.books.members hs → WereShown seen c x u w first (p.groups ++ hs)
    shown_on c hs calls tried w q shown =
        shown_then seen b.journal.disk c x y u v w first b.books.members p.groups hs p.members q.tells q.goes p.written p.shown shown

    pub served_then : (c : LoadView D) (qs : List (List Request)) (t2 : Tally) (z : Option (List ℕ)) (w : List (Shown D)) → HaveServedGroups seen b c qs t1 t2 y z v w → HaveServedGroups seen a c (rs ++ qs) t0 t2 x z u w
    served_then c qs t2 z w q = record {
      groups = p.groups ++ q.groups;
      requests_are = requests_of q.groups qs q.requests_are;
      due = due_are q.groups q.due;
      members = q.members ∙ members_are q.groups;
      all = q.all;
      kept = kept_on c.journal.disk q.groups [] q.kept;
      later = omega (arith, p.later, q.later);
      memory = end_then is_memory_end t0.memory t1.memory t2.memory p.groups q.groups p.memory q.memory;
      full = end_then is_full_end t0.full t1.full t2.full p.groups q.groups p.full q.full;
      shown = shown_on c.journal.disk q.groups (group_calls b.books.members q.groups) [] w q.kept q.shown;
      written = subst (Appends x z) (text_is q.groups) (Appends-then x y z (groups_text first p.groups) (groups_text b.books.members q.groups) p.written q.written);
    }

    -- it ends at a later group
    pub broken_then : (qs : List (List Request)) (z : Option (List ℕ)) (w : List (Shown D)) (e : LoadBreak D) → HaveBroken seen b qs y z v w e → HaveBroken seen a (rs ++ qs) x z u w e
    broken_then qs z w (breaks.Sink disk) q =
        let whole : (p.groups ++ q.groups) ++ q.last ∷ [] ≡ p.groups ++ (q.groups ++ q.last ∷ []) = append_assoc p.groups q.groups (q.last ∷ []) in
        let all = q.groups ++ q.last ∷ [] in
        record {
          groups = p.groups ++ q.groups;
          last = q.last;
          requests_are = ap (map requests_of_lines) whole ∙ requests_of all qs q.requests_are;
          due = subst (GroupsAreDue first) (sym whole) (due_are all q.due);
          keeps = subst (λ (gs : List (List Line)). KeepsHistory (first ++ groups_add first gs)) (sym whole) (subst KeepsHistory (members_are all) q.keeps);
          kept = subst (λ (gs : List (List Line)). IsKeptBy seen a.journal.disk disk (accepted_calls first) (group_calls first gs) []) (sym whole) (kept_on disk all [] q.kept);
          shown = subst (WereShown seen disk x u w first) (sym whole) (shown_on disk all (group_calls b.books.members all) [] w q.kept q.shown);
          part = subst (λ (gs : List (List Line)). AppendsPart x z (groups_text first gs)) (sym whole)
              (subst (AppendsPart x z) (text_is all) (AppendsPart-after x y z (groups_text first p.groups) (groups_text b.books.members all) p.written q.part));
          more = q.more;
          told = subst (Appends x z) (sym (append_assoc (groups_text first p.groups) (groups_text b.books.members q.groups) q.more) ∙ ap (λ (t : List ℕ). t ++ q.more) (text_is q.groups))
              (Appends-then x y z (groups_text first p.groups) (groups_text b.books.members q.groups ++ q.more) p.written q.told);
        }
    broken_then qs z w (breaks.Disk stopped) q =
        let whole : (p.groups ++ q.groups) ++ q.last ∷ [] ≡ p.groups ++ (q.groups ++ q.last ∷ []) = append_assoc p.groups q.groups (q.last ∷ []) in
        let all = q.groups ++ q.last ∷ [] in
        record {
          groups = p.groups ++ q.groups;
          last = q.last;
          requests_are = ap (map requests_of_lines) whole ∙ requests_of all qs q.requests_are;
          due = subst (GroupsAreDue first) (sym whole) (due_are all q.due);
          keeps = subst (λ (gs : List (List Line)). KeepsHistory (first ++ groups_add first gs)) (sym whole) (subst KeepsHistory (members_are all) q.keeps);
          kept = subst (λ (h : List PoolEntry). IsKeptBy seen a.journal.disk stopped.disk (accepted_calls first) (group_calls first (p.groups ++ q.groups)) (calls_of_group h q.last))
              (members_are q.groups) (kept_on stopped.disk q.groups (calls_of_group (b.books.members ++ groups_add b.books.members q.groups) q.last) q.kept);
          shown = shown_on stopped.disk q.groups (group_calls b.books.members q.groups) (calls_of_group (b.books.members ++ groups_add b.books.members q.groups) q.last) w q.kept q.shown;
          written = subst (Appends x z) (text_is q.groups) (Appends-then x y z (groups_text first p.groups) (groups_text b.books.members q.groups) p.written q.written);
          low = omega (arith, p.later, q.low);
          now = q.now;
          risen = q.risen;
        }

  -- the first group
  pub broken_one : (old : LoadView D) (requests : List Request) (x y : Option (List ℕ)) (v w : List (Shown D)) (e : LoadBreak D) → HasBrokenAt seen old requests x y v w e
      → HaveBroken seen old (requests ∷ []) x y v w e
  broken_one old requests x y v w (breaks.Sink disk) s =
      let before = old.books.members in
      let added = lines_add before s.lines in
      record {
        groups = [];
        last = s.lines;
        requests_are = ap (λ (r : List Request). r ∷ []) s.is.requests_are;
        due = (s.is.due, tt);
        keeps = subst (λ (l : List PoolEntry). KeepsHistory (before ++ l)) (sym (append-nil added)) s.is.keeps;
        kept = one_kept old.journal.disk disk (accepted_calls before) (accepted_calls added) s.kept;
        shown = shown_one seen disk x v w before s.lines s.shown (λ told. s.kept.stands (sym s.kept.tells ∙ told));
        part = subst (AppendsPart x y) (sym (append-nil _)) s.part;
        more = s.part.0;
        told = s.part.3;
      }
  broken_one old requests x y v w (breaks.Disk stopped) s =
      let before = old.books.members in
      let added = lines_add before s.lines in
      record {
        groups = [];
        last = s.lines;
        requests_are = ap (λ (r : List Request). r ∷ []) s.is.requests_are;
        due = (s.is.due, tt);
        keeps = subst (λ (l : List PoolEntry). KeepsHistory (before ++ l)) (sym (append-nil added)) s.is.keeps;
        kept = subst (λ (h : List PoolEntry). IsKeptBy seen old.journal.disk stopped.disk (accepted_calls before) [] (calls_of_group h s.lines)) (sym (append-nil before))
            (one_stopped old.journal.disk stopped.disk (accepted_calls before) (accepted_calls added) s.stops);
        shown = subst (λ (l : List (Shown D)). WereShown seen stopped.disk x v l before []) (sym s.unshown) (shown_none seen stopped.disk x v before);
        written = s.untold;
        low = omega (arith, s.fault.before);
        now = s.fault.after;
        risen = s.fault.risen;
      }
