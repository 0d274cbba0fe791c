-- What is kept of a history is told again.
use Rattle.std.specs.Prelude.{position, slice_get, is_some, reverse, nat_lt, if◌then◌else◌, Option, Some, None}
use Rattle.std.specs.List.{position_or_len}
use Rattle.std.specs.Option.{option_map}
use Rattle.std.proofs.Common.{◌≡◌, ◌∙◌, ℕ, ◌+◌, ◌<◌, Bool, true, false, not, cond, ◌&&◌, ◌||◌, List, [], ◌∷◌, ◌++◌, length, take, All, refl, sym, ap, ap₂, subst, true≢false, append_assoc, length-append, arith}
use Rattle.std.proofs.lemmas.Bool.{eqb-true, false_from_ne_true, lt-ltb, or_left, or_right}
use Rattle.std.proofs.lemmas.List.{append-nil, reverse-reverse}
use Rattle.std.proofs.lemmas.List.Elements.{All-nil, All-cons, All-head, All-tail}
use Rattle.std.proofs.lemmas.List.Folds.{list_any-append}
use Rattle.std.proofs.lemmas.Option.{same_Some, slice_get-get_or}
use Rattle.std.proofs.Math.Seq.{get_or-append_seam, take-append_seam}
use Rattle.claim_history.specs.declared.act.Act.{Act}
use Rattle.claim_history.specs.declared.act.Act.TheVariants as act
use Rattle.claim_history.specs.declared.call.PoolEntry.{PoolEntry}
use Rattle.claim_history.specs.declared.entry.Entry.{Entry}
use Rattle.claim_history.specs.declared.entry.Reply.{Reply}
use Rattle.claim_history.specs.declared.entry.Reply.TheVariants as reply
use Rattle.claim_history.specs.Acts.{is_abandonment, is_publication}
use Rattle.claim_history.specs.States.{OpenRound, State, number_of, state, state_of}
use Rattle.claim_history.specs.History as one
use Rattle.claim_history.specs.History.{is_accepted, is_no_refusal}
use Rattle.claim_history.specs.Rounds.{ends_round, has_end, open_cut_of}
use Rattle.claim_history.specs.Pools.{IsLegal, accepted_members, entries_in}
use Rattle.claim_history.specs.PoolRounds.{open_cut_in}
use Rattle.claim_history.proofs.Kept.{kept_append, kept_reverse, kept_step, replayed_past, same_state}
use Rattle.claim_history.proofs.Agreement.{cut_law}
use Rattle.claim_history.proofs.Greatest.{greatest_law}
use Rattle.claim_history.proofs.Open.{open_law}
use Rattle.claim_history.proofs.Pasts.{legal_first}
use Rattle.claim_history.proofs.Pools.{in_append, in_reverse, legal_in, past_own}
use Rattle.setoff_model.specs.CutView.{CutView, OutcomeView}
use Rattle.setoff_model.proofs.SameNames.{name_same}
use Rattle.printed_text.specs.entry_text.specs.Entries.{entry_line}
use Rattle.printed_text.specs.Printing.{added_text, member_text, statement_of}
use Rattle.history_text.specs.declared.round_form.RoundForm.TheVariants as forms
use Rattle.history_text.specs.Histories.{IsFormOf, IsRoundText, IsTextWhere, is_published_by, publication_place, publishes_round}
use Rattle.history_text.specs.Accepted.{ReplayedLaw, RetoldLaw, StatementLaw, accepted_text}

-- ---- the replay

pub replayed_law : ReplayedLaw
replayed_law history legal = ap reverse (replayed_past history legal ∙ kept_reverse history) ∙ reverse-reverse (accepted_members history)

-- ---- the text

same_cut : (before : List PoolEntry) (pool : List ℕ) → open_cut_in (accepted_members before) pool ≡ open_cut_in before pool
same_cut before pool =
    ap (λ (s : State). option_map (λ (r : OpenRound). r.cut) s.open_round)
    (ap state (sym (in_reverse pool (accepted_members before))) ∙ ap (λ (ms : List PoolEntry). state (entries_in pool ms)) (sym (kept_reverse before))
    ∙ same_state pool (reverse before) ∙ ap state (in_reverse pool before))

-- a member is told as after all members
pub same_text : (before : List PoolEntry) (m : PoolEntry) → member_text (accepted_members before) m ≡ member_text before m
same_text before m = ap (λ (o : Option CutView). entry_line m ++ statement_of o m.entry.act m.entry.reply) (same_cut before m.pool)

retold_by : (before added : List PoolEntry) (m : PoolEntry) (b : Bool) → is_accepted m.entry ≡ b
    → added_text (accepted_members (before ++ m ∷ [])) (accepted_members added) ≡ accepted_text (before ++ m ∷ []) added
    → added_text (accepted_members before) (accepted_members (m ∷ added)) ≡ accepted_text before (m ∷ added)
retold_by before added m true is rest =
    let more : accepted_members before ++ m ∷ [] ≡ accepted_members (before ++ m ∷ []) = ap (λ (l : List PoolEntry). accepted_members before ++ l) (sym (kept_step m [] true is)) ∙ sym (kept_append before (m ∷ [])) in
    ap (added_text (accepted_members before)) (kept_step m added true is)
    ∙ ap₂ (λ (s t : List ℕ). s ++ t) (same_text before m) (ap (λ (l : List PoolEntry). added_text l (accepted_members added)) more ∙ rest)
    ∙ ap (λ (b : Bool). (if b then member_text before m else []) ++ accepted_text (before ++ m ∷ []) added) (sym is)
retold_by before added m false is rest =
    let less : accepted_members before ≡ accepted_members (before ++ m ∷ []) =
    sym (append-nil (accepted_members before)) ∙ ap (λ (l : List PoolEntry). accepted_members before ++ l) (sym (kept_step m [] false is)) ∙ sym (kept_append before (m ∷ [])) in
    ap (added_text (accepted_members before)) (kept_step m added false is)
    ∙ ap (λ (l : List PoolEntry). added_text l (accepted_members added)) less ∙ rest
    ∙ ap (λ (b : Bool). (if b then member_text before m else []) ++ accepted_text (before ++ m ∷ []) added) (sym is)

pub retold_law : RetoldLaw
retold_law before [] = refl
retold_law before (m ∷ added) = retold_by before added m (is_accepted m.entry) refl (retold_law (before ++ m ∷ []) added)

-- ---- a round is published once

-- what an act says that publishes a round, and its reply
record Publishes (round : ℕ) (a : Act) (r : Reply) : Type 0 where
  number : ℕ
  outcome : OutcomeView
  total : ℕ
  asks : a ≡ act.Publish number outcome
  told : r ≡ reply.Published total
  number_is : number ≡ round

publishes_so : (round : ℕ) (a : Act) (r : Reply) → is_published_by round a r ≡ true → Publishes round a r
publishes_so round (act.Publish number outcome) (reply.Published total) is =
    record { number = number; outcome = outcome; total = total; asks = refl; told = refl; number_is = eqb-true number round is }
publishes_so round (act.Publish number outcome) r is = absurd (true≢false (sym is))
publishes_so round a r is = absurd (true≢false (sym is))

same_number : (a b : ℕ) (x y : OutcomeView) → act.Publish a x ≡ act.Publish b y → a ≡ b
same_number a b x y e = cc e

-- the round was open before it
open_before : (before later : List Entry) (e : Entry) (round : ℕ) → one.IsLegalPool (before ++ e ∷ later) → publishes_round round e ≡ true
    → (o : OpenRound) × ((state_of before).open_round ≡ Some o) × (o.cut.round ≡ round)
open_before before later e round legal is =
    let p = publishes_so round e.act e.reply is in
    let g = greatest_law before later e p.total legal p.told in
    (g.round, g.was_open, same_number g.round.cut.round p.number g.outcome p.outcome (sym g.asks ∙ p.asks) ∙ p.number_is)

-- and it ends the round
ends_it : (round : ℕ) (e : Entry) → publishes_round round e ≡ true → ends_round e ≡ true
ends_it round e is =
    let p = publishes_so round e.act e.reply is in
    ap₂ (λ (a : Act) (r : Reply). is_no_refusal r && (is_publication a || is_abandonment a)) p.asks p.told

-- it is accepted
pub publication_accepted : (round : ℕ) (e : Entry) → publishes_round round e ≡ true → is_accepted e ≡ true
publication_accepted round e is = ap is_no_refusal (publishes_so round e.act e.reply is).told

published_twice : (front mid later : List Entry) (first second : Entry) (round : ℕ) → one.IsLegalPool ((front ++ first ∷ mid) ++ second ∷ later)
    → publishes_round round first ≡ true → publishes_round round second ≡ true → ⊥
published_twice front mid later first second round legal is again_ =
    let between = front ++ first ∷ mid in
    let now = open_before between later second round legal again_ in
    let legal_between = (legal_first between later second legal).1 in
    let was = open_before front mid first round legal_between is in
    let o = cut_law front (legal_first front mid first legal_between).1 was.0 was.1 in
    let rest = o.later ++ first ∷ mid in
    let parts : between ≡ o.before ++ o.opening ∷ rest = ap (λ (l : List Entry). l ++ first ∷ mid) o.parts ∙ append_assoc o.before (o.opening ∷ o.later) (first ∷ mid) in
    let still : number_of (state_of (o.before ++ o.opening ∷ rest)).open_round ≡ was.0.cut.round =
    ap (λ (es : List Entry). number_of (state_of es).open_round) (sym parts) ∙ ap number_of now.1 ∙ now.2 ∙ sym was.2 in
    let none : has_end rest ≡ false = (open_law o.before rest o.opening was.0.cut.round (subst one.IsLegalPool parts legal_between) o.opens).0 still in
    let some : has_end rest ≡ true =
    list_any-append ends_round o.later (first ∷ mid) ∙ or_right (has_end o.later) (has_end (first ∷ mid)) (or_left (ends_round first) (has_end mid) (ends_it round first is)) in
    true≢false (sym some ∙ none)

-- ---- the place of its publication

first_passes : (p : Entry → Bool) (xs ys : List Entry) (x : Entry) → All (λ y. p y ≡ false) xs → p x ≡ true → position_or_len p (xs ++ x ∷ ys) ≡ length xs
first_passes p [] ys x all is = ap (λ (b : Bool). cond (not b) (1 + position_or_len p ys) 0) is
first_passes p (z ∷ xs) ys x all is =
    let rest : position_or_len p (xs ++ x ∷ ys) ≡ length xs = first_passes p xs ys x (All-tail (λ y. p y ≡ false) z xs all) is in
    let here : cond (not (p z)) (1 + position_or_len p (xs ++ x ∷ ys)) 0 ≡ 1 + position_or_len p (xs ++ x ∷ ys) =
    ap (λ (b : Bool). cond (not b) (1 + position_or_len p (xs ++ x ∷ ys)) 0) (All-head (λ y. p y ≡ false) z xs all) in
    here ∙ omega (arith, rest)

each_part : (P : Entry → Type 0) (xs : List Entry) → ((front later : List Entry) (x : Entry) → xs ≡ front ++ x ∷ later → P x) → All P xs
each_part P [] h = All-nil P
each_part P (x ∷ xs) h = All-cons P x xs (h [] xs x refl) (each_part P xs (λ front later y e. h (x ∷ front) later y (ap (λ (l : List Entry). x ∷ l) e)))

module _ (front later : List Entry) (e : Entry) (round : ℕ) (legal : one.IsLegalPool (front ++ e ∷ later)) (is : publishes_round round e ≡ true) where
  place_is : position (publishes_round round) (front ++ e ∷ later) ≡ Some (length front)
  place_is =
      let none : All (λ y. publishes_round round y ≡ false) front =
      each_part (λ y. publishes_round round y ≡ false) front (λ f m y parts.
      false_from_ne_true (publishes_round round y) (λ yes_. published_twice f m later y e round (subst (λ (l : List Entry). one.IsLegalPool (l ++ e ∷ later)) parts legal) yes_ is)) in
      let at : position_or_len (publishes_round round) (front ++ e ∷ later) ≡ length front = first_passes (publishes_round round) front later e none is in
      let within : length front < length (front ++ e ∷ later) = omega (arith, length-append front (e ∷ later)) in
      ap (λ (n : ℕ). cond (nat_lt n (length (front ++ e ∷ later))) (Some n) None) at
      ∙ ap (λ (b : Bool). cond b (Some (length front)) None) (lt-ltb (length front) (length (front ++ e ∷ later)) within)

  stands_there : slice_get (front ++ e ∷ later) (length front) ≡ Some e
  stands_there =
      slice_get-get_or (front ++ e ∷ later) (length front) e (omega (arith, length-append front (e ∷ later)))
      ∙ ap (λ (x : Entry). Some x) (get_or-append_seam front e later e)

-- what is told of it is the statement of its publication
module _ (round : ℕ) (pool : List ℕ) (history : List PoolEntry) (front later : List Entry) (e : Entry) (text : List ℕ) (parts : entries_in pool history ≡ front ++ e ∷ later) (legal : one.IsLegalPool (front ++ e ∷ later)) (is : publishes_round round e ≡ true) (told : IsRoundText round pool history text) where
  found : publication_place round pool history ≡ Some (length front)
  found = ap (position (publishes_round round)) parts ∙ place_is front later e round legal is

  statement_told : IsFormOf forms.Statement round pool history text
  statement_told = subst (λ (b : Bool). IsTextWhere b forms.Statement round pool history text) (ap is_some found) told

  told_place : statement_told.place ≡ length front
  told_place = same_Some statement_told.place (length front) (sym statement_told.found ∙ found)

  told_entry : statement_told.entry ≡ e
  told_entry =
      same_Some statement_told.entry e (sym statement_told.stands ∙ ap₂ (λ (es : List Entry) (n : ℕ). slice_get es n) parts told_place ∙ stands_there front later e round legal is)

  told_cut : open_cut_of (take statement_told.place (entries_in pool history)) ≡ open_cut_of front
  told_cut = ap₂ (λ (es : List Entry) (n : ℕ). open_cut_of (take n es)) parts told_place ∙ ap open_cut_of (take-append_seam front (e ∷ later))

  told_is : text ≡ statement_of (open_cut_of front) e.act e.reply
  told_is = statement_told.text_is ∙ ap₂ (λ (o : Option CutView) (x : Entry). statement_of o x.act x.reply) told_cut told_entry

one_statement : (before later : List PoolEntry) (m : PoolEntry) (round : ℕ) (text : List ℕ) → IsLegal (before ++ m ∷ later)
    → publishes_round round m.entry ≡ true → IsRoundText round m.pool (before ++ m ∷ later) text
    → text ≡ statement_of (open_cut_in before m.pool) m.entry.act m.entry.reply
one_statement before later m round text legal is told =
    let front = entries_in m.pool before in
    let rest = entries_in m.pool later in
    let parts : entries_in m.pool (before ++ m ∷ later) ≡ front ++ m.entry ∷ rest =
    in_append m.pool before (m ∷ later) ∙ ap (λ (es : List Entry). front ++ es) (past_own m.pool m later (name_same m.pool)) in
    told_is round m.pool (before ++ m ∷ later) front rest m.entry text parts (subst one.IsLegalPool parts (legal_in (before ++ m ∷ later) m.pool legal)) is told

pub statement_law : StatementLaw
statement_law = record {
  one = one_statement;
  kept = λ before m. ap (λ (o : Option CutView). statement_of o m.entry.act m.entry.reply) (same_cut before m.pool);
}
