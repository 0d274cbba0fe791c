-- What is told behind the first acts of a history.
use Rattle.std.specs.Prelude.{slice_get, if◌then◌else◌, Option, Some, None}
use Rattle.std.proofs.Common.{◌≡◌, ◌∙◌, ℕ, ◌+◌, ◌<◌, ◌≤◌, Bool, true, false, List, [], ◌∷◌, ◌++◌, drop, length, map, take, refl, sym, ap, ap₂, subst, length-append, arith}
use Rattle.std.proofs.lemmas.Bool.{le-ltb, lt-ltb}
use Rattle.std.proofs.lemmas.List.{map-append, take-append-drop}
use Rattle.std.proofs.Math.Seq.{drop-append_seam, drop-length, take-append_seam}
use Rattle.claim_history.specs.declared.call.PoolEntry.{PoolEntry}
use Rattle.claim_history.specs.declared.entry.Entry.{Entry}
use Rattle.claim_history.specs.Pools.{entries_in, is_in, main_pool, member_of}
use Rattle.claim_history.proofs.Pools.{in_append, in_other, past_own}
use Rattle.printed_text.specs.declared.exit_status.ExitStatus.{ExitStatus}
use Rattle.printed_text.specs.declared.exit_status.ExitStatus.TheVariants as statuses
use Rattle.printed_text.specs.Printing.{added_text}
use Rattle.printed_text.specs.Writing.{IsWritten, Wrote}
use Rattle.printed_text.proofs.Members.{added_both, one_more}
use Rattle.history_text.specs.Histories.{IsToldDue, all_told, cut_short, told_members}
use Rattle.history_text.specs.Since.{IsSinceDue, SinceLaw, has_fewer, news_short, news_told, no_act_text, since_text}

-- ---- the members that are told of a history and of its parts

told_both : (pool : Option (List ℕ)) (xs ys : List PoolEntry) → told_members pool (xs ++ ys) ≡ told_members pool xs ++ told_members pool ys
told_both None xs ys = refl
told_both (Some pool) xs ys = ap (map (member_of main_pool)) (in_append pool xs ys) ∙ map-append (member_of main_pool) (entries_in pool xs) (entries_in pool ys)

told_none : (pool : Option (List ℕ)) → told_members pool [] ≡ []
told_none None = refl
told_none (Some pool) = refl

told_parts : (pool : Option (List ℕ)) (history : List PoolEntry) (acts : ℕ) → told_members pool history ≡ told_members pool (take acts history) ++ told_members pool (drop acts history)
told_parts pool history acts = ap (told_members pool) (sym (take-append-drop acts history)) ∙ told_both pool (take acts history) (drop acts history)

module _ (pool : Option (List ℕ)) (history : List PoolEntry) (acts from : ℕ) (is : from ≡ length (told_members pool (take acts history))) where
  pub told_first : take from (told_members pool history) ≡ told_members pool (take acts history)
  told_first = ap₂ (λ (n : ℕ) (ms : List PoolEntry). take n ms) is (told_parts pool history acts) ∙ take-append_seam (told_members pool (take acts history)) (told_members pool (drop acts history))

  pub told_behind : drop from (told_members pool history) ≡ told_members pool (drop acts history)
  told_behind = ap₂ (λ (n : ℕ) (ms : List PoolEntry). drop n ms) is (told_parts pool history acts) ∙ drop-append_seam (told_members pool (take acts history)) (told_members pool (drop acts history))

  pub told_few : from ≤ length (told_members pool history)
  told_few = omega (arith, is, ap (λ (ms : List PoolEntry). length ms) (told_parts pool history acts), length-append (told_members pool (take acts history)) (told_members pool (drop acts history)))

-- ---- the entries of a pool among the first members

module _ (history : List PoolEntry) (i : ℕ) (m : PoolEntry) (stands : slice_get history i ≡ Some m) (pool : List ℕ) where
  pub own_counted : is_in pool m ≡ true → length (entries_in pool (take (i + 1) history)) ≡ length (entries_in pool (take i history)) + 1
  own_counted own =
      let before = entries_in pool (take i history) in
      ap (λ (ms : List PoolEntry). length (entries_in pool ms)) (one_more history i m stands)
      ∙ ap (λ (es : List Entry). length es) (in_append pool (take i history) (m ∷ []) ∙ ap (λ (es : List Entry). before ++ es) (past_own pool m [] own))
      ∙ length-append before (m.entry ∷ [])

  pub other_counted : is_in pool m ≡ false → length (entries_in pool (take (i + 1) history)) ≡ length (entries_in pool (take i history))
  other_counted other = ap (λ (ms : List PoolEntry). length (entries_in pool ms)) (one_more history i m stands) ∙ ap (λ (es : List Entry). length es) (in_other (take i history) m pool other)

-- ---- what is due

module _ (acts : ℕ) (pool : Option (List ℕ)) (history : List PoolEntry) where
  due_where : (b : Bool) → has_fewer acts history ≡ b → IsSinceDue acts pool history (if b then statuses.No else statuses.Done) (if b then no_act_text acts else since_text acts pool history)
  due_where b is = subst (λ (c : Bool). IsSinceDue acts pool history (if c then statuses.No else statuses.Done) (if c then no_act_text acts else since_text acts pool history)) is news_told

  due_behind : acts ≤ length history → (due : ExitStatus) (text : List ℕ) → IsToldDue (told_members pool (take acts history)) (told_members pool (drop acts history)) due text → IsSinceDue acts pool history due text
  due_behind enough due text all_told = due_where false (le-ltb (length history) acts enough)
  due_behind enough due text (cut_short printed ends) = news_short printed ends

module _ (acts : ℕ) (pool : Option (List ℕ)) (history : List PoolEntry) (x y : Option (List ℕ)) (status : ExitStatus) where
  pub wrote_no_act : (text : List ℕ) → length history < acts → text ≡ no_act_text acts → IsWritten x y statuses.No text status → Wrote (IsSinceDue acts pool history) x y status
  wrote_no_act text few is written = record {
    due = statuses.No;
    text = no_act_text acts;
    is_due = due_where acts pool history true (lt-ltb (length history) acts few);
    is_written = subst (λ (t : List ℕ). IsWritten x y statuses.No t status) is written;
  }

  pub wrote_since : (before members : List PoolEntry) → acts ≤ length history → before ≡ told_members pool (take acts history) → members ≡ told_members pool (drop acts history) → Wrote (IsToldDue before members) x y status
      → Wrote (IsSinceDue acts pool history) x y status
  wrote_since before members enough before_is members_are w = record {
    due = w.due;
    text = w.text;
    is_due = due_behind acts pool history enough w.due w.text (subst (λ (ms : List PoolEntry). IsToldDue (told_members pool (take acts history)) ms w.due w.text) members_are (subst (λ (ms : List PoolEntry). IsToldDue ms members w.due w.text) before_is w.is_due));
    is_written = w.is_written;
  }

-- ---- the law

pub since_law : SinceLaw
since_law = record {
  parts = λ acts pool history. ap (added_text []) (told_parts pool history acts) ∙ added_both [] (told_members pool (take acts history)) (told_members pool (drop acts history));
  since_none = λ pool history. ap (λ (before : List PoolEntry). added_text before (told_members pool history)) (told_none pool);
  since_all = λ pool history. ap (λ (ms : List PoolEntry). added_text (told_members pool (take (length history) history)) ms) (ap (told_members pool) (drop-length history) ∙ told_none pool);
}
