-- The text of members that are printed one by one.
use Rattle.std.specs.Prelude.{slice_get, get_or, is_some, Option, Some, None}
use Rattle.std.proofs.Common.{◌≡◌, ◌∙◌, ℕ, ◌+◌, ◌-◌, ◌<◌, ◌≤◌, List, [], ◌∷◌, ◌++◌, length, take, drop, true, refl, sym, ap, ap₂, subst, true≢false, arith}
use Rattle.std.specs.Io.KnownBytes.{Appends}
use Rattle.std.proofs.lemmas.List.{append-nil, append_cancel_right, drop-drop, get_or-drop, length-drop, take-append-drop}
use Rattle.std.proofs.lemmas.Option.{get_or_from_slice_get, slice_get-get_or, slice_get_within}
use Rattle.std.proofs.Math.Seq.{take-add}
use Rattle.setoff_model.specs.CutView.{CutView}
use Rattle.bureau_edge.specs.Streams.{AppendsPart}
use Rattle.claim_history.specs.declared.call.PoolEntry.{PoolEntry}
use Rattle.claim_history.specs.declared.act.Act.{Act}
use Rattle.claim_history.specs.declared.act.Act.TheVariants as act
use Rattle.claim_history.specs.declared.entry.Reply.TheVariants as reply
use Rattle.claim_history.specs.Pools.{main_pool, member_of}
use Rattle.claim_history.specs.PoolRounds.{open_cut_in}
use Rattle.printed_text.specs.entry_text.specs.Entries.{entry_line}
use Rattle.printed_text.specs.Printing.{IsPrintableAt, added_text, member_text, statement_of}
use Rattle.printed_text.specs.Writing.{GoesThrough}
use Rattle.printed_text.proofs.Members.{added_both, added_from, from_it}
use Rattle.printed_text.proofs.Printing.{same_statement}
use Rattle.printed_text.proofs.Passing.{GoesThroughUpTo, part_left, part_more, part_of_text, pass_then, pass_whole, up_breaks, up_more}
use Rattle.history_text.specs.Histories.{EndsBehind, HasPrinted, HasTold, HasToldOne, PublishesAt, text_from, told_text}
use Rattle.history_text.specs.declared.told.Told.{Told}
use Rattle.history_text.specs.declared.told.Told.TheVariants as told

-- ---- the text of one more member

-- the text of the member at a place
pub told_is : (history : List PoolEntry) (i : ℕ) (m : PoolEntry) → slice_get history i ≡ Some m → told_text history i ≡ member_text (take i history) m
told_is history i m is = ap (λ (l : List PoolEntry). added_text (take i history) (take 1 l)) (from_it history i m is) ∙ append-nil (member_text (take i history) m)

-- as after members that are those before it, where it publishes a round
pub shown_is : (history : List PoolEntry) (i : ℕ) (m : PoolEntry) → slice_get history i ≡ Some m → (members : List PoolEntry)
    → ((total : ℕ) → m.entry.reply ≡ reply.Published total → members ≡ take i history) → member_text members m ≡ told_text history i
shown_is history i m is members own =
    ap (λ (t : List ℕ). entry_line m ++ t) (same_statement (open_cut_in members m.pool) (open_cut_in (take i history) m.pool) m.entry.act m.entry.reply
    (λ total published. ap (λ (before : List PoolEntry). open_cut_in before m.pool) (own total published)))
    ∙ sym (told_is history i m is)

-- the text of a member by its line and the cuts of the round that it publishes
pub line_shown : (before : List PoolEntry) (m : PoolEntry) (rounds : List CutView) → ((total : ℕ) → m.entry.reply ≡ reply.Published total → slice_get rounds 0 ≡ open_cut_in before m.pool)
    → entry_line m ++ statement_of (slice_get rounds 0) m.entry.act m.entry.reply ≡ member_text before m
line_shown before m rounds own = ap (λ (t : List ℕ). entry_line m ++ t) (same_statement (slice_get rounds 0) (open_cut_in before m.pool) m.entry.act m.entry.reply own)

-- the cut that is open is the one of the list
one_open : (o : Option CutView) (rounds : List CutView) → is_some o ≡ true → ((cut : CutView) → o ≡ Some cut → rounds ≡ cut ∷ []) → slice_get rounds 0 ≡ o
one_open (Some cut) rounds is_open one = ap (λ (cuts : List CutView). slice_get cuts 0) (one cut refl)
one_open None rounds is_open one = absurd (true≢false (sym is_open))

open_printable : (o : Option CutView) (rounds : List CutView) (a : Act) → is_some o ≡ true → ((cut : CutView) → o ≡ Some cut → rounds ≡ cut ∷ []) → ((cut : CutView) → o ≡ Some cut → IsPrintableAt (cut ∷ []) 0 a) → IsPrintableAt rounds 0 a
open_printable (Some cut) rounds a is_open one printable = subst (λ (cuts : List CutView). IsPrintableAt cuts 0 a) (sym (one cut refl)) (printable cut refl)
open_printable None rounds a is_open one printable = absurd (true≢false (sym is_open))

pub shown_printable : (before : List PoolEntry) (m : PoolEntry) (rounds : List CutView) → is_some (open_cut_in before m.pool) ≡ true → ((cut : CutView) → open_cut_in before m.pool ≡ Some cut → rounds ≡ cut ∷ [])
    → ((cut : CutView) → open_cut_in before m.pool ≡ Some cut → IsPrintableAt (cut ∷ []) 0 m.entry.act) → IsPrintableAt rounds 0 m.entry.act
shown_printable before m rounds is_open one printable = open_printable (open_cut_in before m.pool) rounds m.entry.act is_open one printable

pub open_shown : (before : List PoolEntry) (m : PoolEntry) (rounds : List CutView) → is_some (open_cut_in before m.pool) ≡ true → ((cut : CutView) → open_cut_in before m.pool ≡ Some cut → rounds ≡ cut ∷ [])
    → entry_line m ++ statement_of (slice_get rounds 0) m.entry.act m.entry.reply ≡ member_text before m
open_shown before m rounds is_open one = line_shown before m rounds (λ total published. one_open (open_cut_in before m.pool) rounds is_open one)

-- ---- the text of the members from a place on

-- it is that of the first of them, and then that of the others
text_parts : (history : List PoolEntry) (from count : ℕ) → text_from history from ≡ added_text (take from history) (take count (drop from history)) ++ text_from history (from + count)
text_parts history from count =
    let first = take from history in
    let next = take count (drop from history) in
    ap (added_text first) (sym (take-append-drop count (drop from history))) ∙ added_both first next (drop count (drop from history))
    ∙ ap₂ (λ (before rest : List PoolEntry). added_text first next ++ added_text before rest) (sym (take-add from count history)) (drop-drop count from history)

-- a publication among them
published_behind : (history : List PoolEntry) (from count : ℕ) → PublishesAt history (from + count) → PublishesAt (drop from history) count
published_behind history from count p =
    let within : from + count < length history = slice_get_within history (from + count) p.member p.stands in
    record {
      member = p.member;
      total = p.total;
      stands = slice_get-get_or (drop from history) count p.member (omega (arith, within, length-drop from history))
          ∙ ap (λ (m : PoolEntry). Some m) (get_or-drop from history count p.member ∙ get_or_from_slice_get history (from + count) p.member p.member p.stands);
      reply_is = p.reply_is;
    }

module _ (history : List PoolEntry) (from i : ℕ) (within : i < length history) (x y z : Option (List ℕ)) (a b c : List ℕ)
    (up : GoesThroughUpTo x y a b (text_from history i) (text_from history from)) where
  any : PoolEntry
  any = member_of main_pool (record { caller = 0; act = act.Abandon; reply = reply.Done })

  parts : text_from history i ≡ told_text history i ++ text_from history (i + 1)
  parts =
      let m = get_or history i any in
      let is : slice_get history i ≡ Some m = slice_get-get_or history i any within in
      added_from history i m is ∙ ap (λ (t : List ℕ). t ++ text_from history (i + 1)) (sym (told_is history i m is))

  up_to : GoesThroughUpTo x y a b (told_text history i ++ text_from history (i + 1)) (text_from history from)
  up_to = subst (λ (t : List ℕ). GoesThroughUpTo x y a b t (text_from history from)) parts up

  pub told_more : GoesThrough y z b c (told_text history i) → GoesThroughUpTo x z a c (text_from history (i + 1)) (text_from history from)
  told_more passes = up_more x y z a b c (told_text history i) (text_from history (i + 1)) (text_from history from) up_to passes

  -- up to here the text is that of the members before
  so_far_is : (count : ℕ) → from + count ≡ i → up.so_far ≡ added_text (take from history) (take count (drop from history))
  so_far_is count is =
      append_cancel_right up.so_far (added_text (take from history) (take count (drop from history))) (text_from history i)
      (up.whole ∙ text_parts history from count ∙ ap (λ (n : ℕ). added_text (take from history) (take count (drop from history)) ++ text_from history n) is)

  ends_here : (count : ℕ) → from + count ≡ i → PublishesAt history i → EndsBehind (take from history) (drop from history) up.so_far
  ends_here count is publishes = record {
    place = count;
    publishes = published_behind history from count (subst (PublishesAt history) (sym is) publishes);
    text_is = so_far_is count is;
  }

  pub told_short : from ≤ i → HasToldOne told.Short y z b c history i → HasTold told.Short x z a c history from
  told_short low (none, publishes) = (
    up.so_far,
    ends_here (i - from) (omega arith) publishes,
    subst (GoesThrough x z a c) (append-nil up.so_far) (pass_then x y z a b c up.so_far [] up.passes none),
  )

  pub told_breaks : AppendsPart y z (b ++ told_text history i) → AppendsPart x z (a ++ text_from history from)
  told_breaks part = up_breaks x y z a b (told_text history i) (text_from history (i + 1)) (text_from history from) up_to part

-- ---- the end

taken_whole : (x y z : Option (List ℕ)) (a b c text : List ℕ) → a ≡ [] → GoesThrough x y a b text → GoesThrough y z b c [] → c ≡ [] → Appends x z text
taken_whole x y z a b c text none passes out left =
    pass_whole x z c text (subst (λ (w : List ℕ). GoesThrough x z w c text) none (subst (GoesThrough x z a c) (append-nil text) (pass_then x y z a b c text [] passes out))) left

-- what was told, and what was left in the buffer
pub told_flushed : (done : Told) (x y z : Option (List ℕ)) (a b c : List ℕ) (members : List PoolEntry) (from : ℕ) → a ≡ [] → HasTold done x y a b members from → GoesThrough y z b c [] → c ≡ [] → HasPrinted done x z members from
told_flushed told.Whole x y z a b c members from none passes out left = taken_whole x y z a b c (text_from members from) none passes out left
told_flushed told.Short x y z a b c members from none short out left = (short.0, short.1, taken_whole x y z a b c short.0 none short.2 out left)

-- the sink failed at what was left
pub told_unflushed : (done : Told) (x y z : Option (List ℕ)) (a b : List ℕ) (members : List PoolEntry) (from : ℕ) → a ≡ [] → HasTold done x y a b members from → AppendsPart y z b → AppendsPart x z (text_from members from)
told_unflushed told.Whole x y z a b members from none passes part = part_of_text x z a (text_from members from) none (part_left x y z a b (text_from members from) passes part)
told_unflushed told.Short x y z a b members from none short part =
    let rest = text_from members (from + short.1.place) in
    let whole : text_from members from ≡ short.0 ++ rest = text_parts members from short.1.place ∙ ap (λ (t : List ℕ). t ++ rest) (sym short.1.text_is) in
    subst (AppendsPart x z) (sym whole) (part_more x z short.0 rest (part_of_text x z a short.0 none (part_left x y z a b short.0 short.2 part)))

-- a publication is a member
pub ends_within : (before members : List PoolEntry) (text : List ℕ) → EndsBehind before members text → 0 < length members
ends_within before members text ends = omega (arith, slice_get_within members ends.place ends.publishes.member ends.publishes.stands)
