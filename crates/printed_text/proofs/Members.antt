-- The text of the members of a history.
use Rattle.std.specs.Prelude.{reverse, slice_get, Option, Some}
use Rattle.std.specs.Option.{option_map}
use Rattle.std.proofs.Common.{◌≡◌, ℕ, zero, suc, ◌+◌, ◌<◌, ◌≤◌, true, List, [], ◌∷◌, ◌++◌, length, get_or, drop, take, All, refl, sym, ◌∙◌, ap, ap₂, subst, append_assoc, length-append, arith}
use Rattle.std.proofs.lemmas.Option.{slice_get-get_or, slice_get_within}
use Rattle.std.proofs.lemmas.List.{append-nil, drop_more, get_or_at, take-append-drop, take_more, length-take-le}
use Rattle.std.proofs.lemmas.List.Elements.{All-head, All-tail}
use Rattle.std.proofs.Math.Seq.{drop-length}
use Rattle.setoff_model.specs.CutView.{CutView}
use Rattle.setoff_model.proofs.Lists.{All-first}
use Rattle.setoff_model.proofs.SameNames.{name_same}
use Rattle.served_lines.specs.claim_history.specs.declared.call.PoolEntry.{PoolEntry}
use Rattle.served_lines.specs.claim_history.specs.declared.entry.Entry.{Entry}
use Rattle.served_lines.specs.claim_history.specs.declared.entry.Reply.{Reply}
use Rattle.served_lines.specs.claim_history.specs.declared.entry.Reply.TheVariants as reply
use Rattle.served_lines.specs.claim_history.specs.Acts.{is_valid}
use Rattle.served_lines.specs.claim_history.specs.Laws.{IsReplyInRange}
use Rattle.served_lines.specs.claim_history.specs.States.{OpenRound}
use Rattle.served_lines.specs.claim_history.specs.History as one
use Rattle.served_lines.specs.claim_history.specs.Pools.{AreValid, IsLegal, entries_in, open_round_in}
use Rattle.served_lines.specs.claim_history.specs.PoolRounds.{cuts_after, cuts_of, open_cut_in}
use Rattle.served_lines.specs.claim_history.specs.Rounds.{cut_published}
use Rattle.served_lines.specs.claim_history.proofs.Greatest.{greatest_law}
use Rattle.served_lines.specs.claim_history.proofs.Open.{number_from}
use Rattle.served_lines.specs.claim_history.proofs.Pasts.{legal_first}
use Rattle.served_lines.specs.claim_history.proofs.PoolCuts.{cuts_law}
use Rattle.served_lines.specs.claim_history.proofs.Pools.{in_append, legal_in, past_own, valid_in}
use Rattle.served_lines.specs.claim_history.proofs.Ranges.{replies_law}
use Rattle.served_lines.specs.round_cut.proofs.OpenCut.{open_formed_law}
use Rattle.entry_text.specs.Entries.{entry_line}
use Rattle.printed_text.specs.Printing.{IsPrintableAt, added_text, member_text, rounds_in, statement_of}
use Rattle.printed_text.proofs.Printing.{same_statement}

-- ---- the text of members

-- members that were added one after another
pub added_both : (before xs ys : List PoolEntry) → added_text before (xs ++ ys) ≡ added_text before xs ++ added_text (before ++ xs) ys
added_both before [] ys = ap (λ (h : List PoolEntry). added_text h ys) (sym (append-nil before))
added_both before (m ∷ xs) ys =
    ap (λ (t : List ℕ). member_text before m ++ t) (added_both (before ++ m ∷ []) xs ys ∙ ap (λ (h : List PoolEntry). added_text (before ++ m ∷ []) xs ++ added_text h ys) (append_assoc before (m ∷ []) xs))
    ∙ sym (append_assoc (member_text before m) (added_text (before ++ m ∷ []) xs) (added_text (before ++ (m ∷ xs)) ys))

-- that of a history is that of its first members, and that of the others behind them
pub added_parts : (history : List PoolEntry) (i : ℕ) → added_text [] history ≡ added_text [] (take i history) ++ added_text (take i history) (drop i history)
added_parts history i = ap (added_text []) (sym (take-append-drop i history)) ∙ added_both [] (take i history) (drop i history)

-- ---- a history at a place

module _ (history : List PoolEntry) (i : ℕ) (m : PoolEntry) (is : slice_get history i ≡ Some m) where
  within : i < length history
  within = slice_get_within history i m is

  at_place : get_or history i m ≡ m
  at_place = let same : Some (get_or history i m) ≡ Some m = sym (slice_get-get_or history i m within) ∙ is in cc same

  -- the members up to it, and from it on
  pub one_more : take (i + 1) history ≡ take i history ++ m ∷ []
  one_more = take_more history i m within ∙ ap (λ (x : PoolEntry). take i history ++ x ∷ []) at_place

  pub from_it : drop i history ≡ m ∷ drop (i + 1) history
  from_it = drop_more history i m within ∙ ap (λ (x : PoolEntry). x ∷ drop (i + 1) history) at_place

  pub whole : history ≡ take i history ++ m ∷ drop (i + 1) history
  whole = sym (take-append-drop i history) ∙ ap (λ (rest : List PoolEntry). take i history ++ rest) from_it

  -- the entries of its pool
  whole_pool : entries_in m.pool history ≡ entries_in m.pool (take i history) ++ m.entry ∷ entries_in m.pool (drop (i + 1) history)
  whole_pool =
      ap (entries_in m.pool) whole ∙ in_append m.pool (take i history) (m ∷ drop (i + 1) history)
      ∙ ap (λ (es : List Entry). entries_in m.pool (take i history) ++ es) (past_own m.pool m (drop (i + 1) history) (name_same m.pool))

  -- the text of the members from it on
  pub added_from : added_text (take i history) (drop i history) ≡ member_text (take i history) m ++ added_text (take (i + 1) history) (drop (i + 1) history)
  added_from =
      ap (λ (l : List PoolEntry). added_text (take i history) l) from_it
      ∙ ap (λ (l : List PoolEntry). member_text (take i history) m ++ added_text l (drop (i + 1) history)) (sym one_more)

each_in : (P : Entry → Type 0) (front later : List Entry) (e : Entry) → All P (front ++ e ∷ later) → P e
each_in P [] later e all = All-head P e later all
each_in P (x ∷ front) later e all = each_in P front later e (All-tail P x (front ++ e ∷ later) all)

-- its act is valid, and its reply in range
module _ (history : List PoolEntry) (legal : IsLegal history) (valid : AreValid history) (i : ℕ) (m : PoolEntry) (is : slice_get history i ≡ Some m) where
  of_pool : (P : Entry → Type 0) → All P (entries_in m.pool history) → P m.entry
  of_pool P all = each_in P (entries_in m.pool (take i history)) (entries_in m.pool (drop (i + 1) history)) m.entry (subst (All P) (whole_pool history i m is) all)

  pub act_valid : is_valid m.entry.act ≡ true
  act_valid = of_pool (λ e. is_valid e.act ≡ true) (valid_in history m.pool valid)

  pub reply_in_range : IsReplyInRange m.entry.reply
  reply_in_range = of_pool (λ e. IsReplyInRange e.reply) (replies_law (entries_in m.pool history) (legal_in history m.pool legal) (valid_in history m.pool valid))

-- ---- cuts of published rounds

-- the cuts of a longer history begin with those of a shorter one
cuts_begin : (count : ℕ) (history more : List PoolEntry) → count ≤ length history → (rest : List CutView) × (cuts_after count (history ++ more) ≡ cuts_after count history ++ rest)
cuts_begin count history [] le = ([], ap (cuts_after count) (append-nil history) ∙ sym (append-nil (cuts_after count history)))
cuts_begin count history (m ∷ more) le =
    let published = cut_published (open_round_in history m.pool) m.entry.reply in
    let later = cuts_begin count (history ++ m ∷ []) more (omega (arith, le, length-append history (m ∷ []))) in (
      published ++ later.0,
      ap (cuts_after count) (sym (append_assoc history (m ∷ []) more)) ∙ later.1
          ∙ ap (λ (cuts : List CutView). cuts ++ later.0) (cuts_law count history m le) ∙ append_assoc (cuts_after count history) published later.0,
    )

-- none is published between a place and itself
pub none_first : (from : ℕ) (history : List PoolEntry) → cuts_after from (take from history) ≡ []
none_first from history =
    ap (λ (first : List PoolEntry). drop (length (cuts_of first)) (cuts_of (take from history))) (take-take from history) ∙ drop-length (cuts_of (take from history)) where
      take-take : (n : ℕ) (h : List PoolEntry) → take n (take n h) ≡ take n h
      take-take zero h = refl
      take-take (suc n) [] = refl
      take-take (suc n) (m ∷ h) = ap (λ (l : List PoolEntry). m ∷ l) (take-take n h)

-- the element behind a list
get_behind : {X : Type 0} (xs ys : List X) (x : X) → slice_get (xs ++ x ∷ ys) (length xs) ≡ Some x
get_behind xs ys x =
    slice_get-get_or (xs ++ x ∷ ys) (length xs) x (omega (arith, length-append xs (x ∷ ys))) ∙ ap (λ y. Some y) (get_or_at xs x ys x (length xs) refl)

-- the round that a member publishes after a history: its cut is the next one, and its statement can be written
pub record IsNext (rounds : List CutView) (next : ℕ) (before : List PoolEntry) (m : PoolEntry) : Type 0 where
  pub round : OpenRound
  pub was_open : open_round_in before m.pool ≡ Some round
  pub cut_is : slice_get rounds next ≡ Some round.cut
  pub printable : IsPrintableAt rounds next m.entry.act

module _ (from : ℕ) (history : List PoolEntry) (i : ℕ) (m : PoolEntry) (is : slice_get history i ≡ Some m) (le : from ≤ i) where
  few : from ≤ length (take i history)
  few = omega (arith, length-take-le i history (omega (arith, within history i m is)), le)

  -- the cuts up to it
  pub cuts_more : cuts_after from (take (i + 1) history) ≡ cuts_after from (take i history) ++ cut_published (open_round_in (take i history) m.pool) m.entry.reply
  cuts_more = ap (cuts_after from) (one_more history i m is) ∙ cuts_law from (take i history) m few

  next_cut : (total : ℕ) (round : OpenRound) → m.entry.reply ≡ reply.Published total → open_round_in (take i history) m.pool ≡ Some round → slice_get (cuts_after from history) (length (cuts_after from (take i history))) ≡ Some round.cut
  next_cut total round published was_open =
      let before = take i history in
      let so_far = cuts_after from before in
      let longer = cuts_begin from (before ++ m ∷ []) (drop (i + 1) history) (omega (arith, few, length-append before (m ∷ []))) in
      let parts : cuts_after from history ≡ so_far ++ round.cut ∷ longer.0 =
      ap (cuts_after from) (whole history i m is ∙ sym (append_assoc before (m ∷ []) (drop (i + 1) history))) ∙ longer.1
      ∙ ap (λ (cuts : List CutView). cuts ++ longer.0) (cuts_law from before m few ∙ ap₂ (λ (o : Option OpenRound) (r : Reply). so_far ++ cut_published o r) was_open published)
      ∙ append_assoc so_far (round.cut ∷ []) longer.0 in
      ap (λ (cuts : List CutView). slice_get cuts (length so_far)) parts ∙ get_behind so_far longer.0 round.cut

  pub published_at : (rounds : List CutView) (next total : ℕ) → IsLegal history → AreValid history → rounds ≡ cuts_after from history → next ≡ length (cuts_after from (take i history)) → m.entry.reply ≡ reply.Published total → IsNext rounds next (take i history) m
  published_at rounds next total legal valid rounds_are next_is published =
      let before = entries_in m.pool (take i history) in
      let later = entries_in m.pool (drop (i + 1) history) in
      let legal_pool = subst one.IsLegalPool (whole_pool history i m is) (legal_in history m.pool legal) in
      let valid_before = All-first (λ (e : Entry). is_valid e.act ≡ true) before (m.entry ∷ later) (subst one.AreValidEntries (whole_pool history i m is) (valid_in history m.pool valid)) in
      let p = greatest_law before later m.entry total legal_pool published in
      let legal_before = (legal_first before later m.entry legal_pool).1 in
      let cut_is : slice_get rounds next ≡ Some p.round.cut = ap₂ (λ (cuts : List CutView) (n : ℕ). slice_get cuts n) rounds_are next_is ∙ next_cut total p.round published p.was_open in
      record {
        round = p.round;
        was_open = p.was_open;
        cut_is = cut_is;
        printable = record {
          number = p.round.cut.round;
          outcome = p.outcome;
          cut = p.round.cut;
          asks = p.asks;
          cut_is = cut_is;
          printable = record {
            well_formed = open_formed_law before legal_before valid_before p.round p.was_open;
            round_from = number_from (reverse before) p.round p.was_open;
            proved = p.proved;
          };
        };
      }

-- ---- one member

-- the text of a member, with the cut at a place for that of the round that is open in its pool
pub member_text_is : (rounds : List CutView) (next : ℕ) (before : List PoolEntry) (m : PoolEntry) → ((total : ℕ) → m.entry.reply ≡ reply.Published total → IsNext rounds next before m)
    → entry_line m ++ statement_of (slice_get rounds next) m.entry.act m.entry.reply ≡ member_text before m
member_text_is rounds next before m publication =
    ap (λ (t : List ℕ). entry_line m ++ t) (same_statement (slice_get rounds next) (open_cut_in before m.pool) m.entry.act m.entry.reply (λ total is.
    let p = publication total is in
    p.cut_is ∙ ap (λ (o : Option OpenRound). option_map (λ (round : OpenRound). round.cut) o) (sym p.was_open)))

count_more : (r : Reply) (o : Option OpenRound) (cuts : List CutView) → ((total : ℕ) → r ≡ reply.Published total → (round : OpenRound) × (o ≡ Some round)) → length (cuts ++ cut_published o r) ≡ length cuts + rounds_in r
count_more (reply.Published total) o cuts published =
    ap (λ (q : Option OpenRound). length (cuts ++ cut_published q (reply.Published total))) (published total refl).1 ∙ length-append cuts _
count_more r o cuts published = length-append cuts []

-- the number of rounds that were published grows by those of the member
pub next_more : (rounds : List CutView) (next from : ℕ) (history : List PoolEntry) (i : ℕ) (m : PoolEntry) → slice_get history i ≡ Some m → from ≤ i → ((total : ℕ) → m.entry.reply ≡ reply.Published total → IsNext rounds next (take i history) m)
    → length (cuts_after from (take (i + 1) history)) ≡ length (cuts_after from (take i history)) + rounds_in m.entry.reply
next_more rounds next from history i m is le publication =
    ap (λ (cuts : List CutView). length cuts) (cuts_more from history i m is le)
    ∙ count_more m.entry.reply (open_round_in (take i history) m.pool) (cuts_after from (take i history)) (λ total published. ((publication total published).round, (publication total published).was_open))
