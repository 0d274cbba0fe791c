-- The printed text of batches fixes their entries.
use Rattle.std.specs.Prelude.{codes, decimal, slice_get, reverse, if◌then◌else◌, Option, Some, ◌⊎◌}
use Rattle.std.specs.Option.{option_map}
use Rattle.std.specs.List.{AllZip, list_all, slice_index_or}
use Rattle.std.proofs.Common.{◌≡◌, ◌∙◌, ⊎_elim, inl, inr, ℕ, Bool, true, false, not, ◌&&◌, List, [], ◌∷◌, ◌++◌, length, get_or, take, drop, All, refl, sym, ap, ap₂, subst, subst₂, true≢false, append_assoc, length-append, arith}
use Rattle.std.proofs.lemmas.Bool.{cases_Bool, not-true}
use Rattle.std.proofs.lemmas.List.{append-nil, reverse-append}
use Rattle.std.proofs.lemmas.List.Elements.{All-append, All-head, All-tail}
use Rattle.std.proofs.lemmas.List.Sums.{AllPass-from_list_all}
use Rattle.std.proofs.lemmas.Option.{same_Some, slice_get-get_or}
use Rattle.std.proofs.Math.Seq.{get_or-append_seam, take-append_seam}
use Rattle.batch_runs.specs.setoff_model.specs.CutView.{CutView, OutcomeView}
use Rattle.batch_runs.specs.setoff_model.specs.Same.{same_name}
use Rattle.batch_runs.specs.setoff_model.specs.Setoff.{total_of}
use Rattle.batch_runs.specs.setoff_model.proofs.SameNames.{name_same}
use Rattle.batch_runs.specs.claim_history.specs.declared.act.Act.{Act}
use Rattle.batch_runs.specs.claim_history.specs.declared.act.Act.TheVariants as act
use Rattle.batch_runs.specs.claim_history.specs.declared.call.PoolEntry.{PoolEntry}
use Rattle.batch_runs.specs.claim_history.specs.declared.entry.Entry.{Entry}
use Rattle.batch_runs.specs.claim_history.specs.declared.entry.Reply.{Reply}
use Rattle.batch_runs.specs.claim_history.specs.declared.entry.Reply.TheVariants as reply
use Rattle.batch_runs.specs.claim_history.specs.Acts.{is_publication}
use Rattle.batch_runs.specs.claim_history.specs.States.{OpenRound, State, after, state, state_of}
use Rattle.batch_runs.specs.claim_history.specs.History as one
use Rattle.batch_runs.specs.claim_history.specs.History.{IsReply, answer, is_accepted, is_no_refusal}
use Rattle.batch_runs.specs.claim_history.specs.Pools.{AreValid, IsLegal, entries_in, entries_of, is_in, state_in}
use Rattle.batch_runs.specs.claim_history.specs.PoolRounds.{open_cut_in}
use Rattle.batch_runs.specs.claim_history.proofs.Pasts.{legal_first}
use Rattle.batch_runs.specs.claim_history.proofs.Pools.{in_append, legal_in, past_own}
use Rattle.batch_runs.specs.claim_history.proofs.Replies.{publishes}
use Rattle.batch_runs.specs.limited_book.specs.declared.room.Room.{Room}
use Rattle.batch_runs.specs.limited_book.specs.declared.room.Room.TheVariants.{Entries, Bytes}
use Rattle.batch_runs.specs.text_lines.proofs.Cutting.{feed}
use Rattle.batch_runs.specs.statement_text.specs.Statements.{statement_bytes}
use Rattle.batch_runs.specs.served_lines.specs.declared.answer.Answer.{Answer}
use Rattle.batch_runs.specs.served_lines.specs.declared.line_end.LineEnd.{LineEnd}
use Rattle.batch_runs.specs.served_lines.specs.declared.line_end.LineEnd.TheVariants as ends
use Rattle.batch_runs.specs.entry_text.specs.Entries.{entry_line, entry_text}
use Rattle.batch_runs.specs.request_text.specs.Pools.{pool_text}
use Rattle.batch_runs.specs.printed_text.specs.Printing.{IsPrintable, added_text, end_text, ends_text, member_text, rounds_in, statement_of}
use Rattle.batch_runs.specs.printed_text.specs.Texts.{room_text}
use Rattle.batch_runs.specs.printed_text.proofs.Printing.{none_stated}
use Rattle.batch_runs.specs.Runs.{Done, all_added, text_of}
use Rattle.history_text.proofs.Stated.{stated}
use Rattle.entry_reading.specs.Shown.{IsEntry, ShowSame, shown_act}
use Rattle.entry_reading.specs.Texts.{MayBeAdded, ReadSame, TextLaw, is_untold}
use Rattle.entry_reading.proofs.Lines.{NoFeed, line_law, word_no_feed}
use Rattle.entry_reading.proofs.Replies.{Digit, all_digits}
use Rattle.entry_reading.proofs.Statements.{cut_at_feed, statement_fixes}

-- ---- what a publication says of its history

abbrev IsPublished : PoolEntry → Type 0
IsPublished m = (total : ℕ) × (m.entry.reply ≡ reply.Published total)

-- its statement
record HasStatement (before : List PoolEntry) (m : PoolEntry) : Type 0 where
  cut : CutView
  was_open : open_cut_in before m.pool ≡ Some cut
  number : ℕ
  outcome : OutcomeView
  asks : m.entry.act ≡ act.Publish number outcome
  printable : IsPrintable cut outcome
  text : statement_of (open_cut_in before m.pool) m.entry.act m.entry.reply ≡ statement_bytes cut outcome

module _ (before later : List PoolEntry) (m : PoolEntry) (legal : IsLegal (before ++ m ∷ later)) where
  stands : slice_get (before ++ m ∷ later) (length before) ≡ Some m
  stands =
      slice_get-get_or (before ++ m ∷ later) (length before) m (omega (arith, length-append before (m ∷ later)))
      ∙ ap (λ (x : PoolEntry). Some x) (get_or-append_seam before m later m)

  has_statement : AreValid (before ++ m ∷ later) → IsPublished m → HasStatement before m
  has_statement valid p =
      let s = stated (before ++ m ∷ later) (length before) m stands legal valid p.0 p.1 in
      let first : take (length before) (before ++ m ∷ later) ≡ before = take-append_seam before (m ∷ later) in
      let was : open_cut_in before m.pool ≡ Some s.given = ap (λ (h : List PoolEntry). open_cut_in h m.pool) (sym first) ∙ s.was_open in
      let same : s.given ≡ s.printable.cut = same_Some s.given s.printable.cut s.printable.cut_is in
      record {
        cut = s.given;
        was_open = was;
        number = s.printable.number;
        outcome = s.printable.outcome;
        asks = s.printable.asks;
        printable = subst (λ (c : CutView). IsPrintable c s.printable.outcome) (sym same) s.printable.printable;
        text = ap (λ (o : Option CutView). statement_of o m.entry.act m.entry.reply) was
            ∙ ap₂ (λ (a : Act) (r : Reply). statement_of (Some s.given) a r) s.printable.asks p.1;
      }

  -- what may stand next in its pool
  pool_legal : IsReply (one.last_count (reverse (entries_in m.pool before))) (one.answer_of (entries_in m.pool before) m.entry.caller m.entry.act) m.entry.reply
  pool_legal =
      let parts : entries_in m.pool (before ++ m ∷ later) ≡ entries_in m.pool before ++ m.entry ∷ entries_in m.pool later =
      in_append m.pool before (m ∷ later) ∙ ap (λ (es : List Entry). entries_in m.pool before ++ es) (past_own m.pool m later (name_same m.pool)) in
      (legal_first (entries_in m.pool before) (entries_in m.pool later) m.entry (subst one.IsLegalPool parts (legal_in (before ++ m ∷ later) m.pool legal))).0

-- an accepted publication is replied with its total
total_of_act : (s : State) (counted caller : ℕ) (a : Act) (r : Reply) → IsReply counted (answer s caller a) r → is_publication a ≡ true → is_no_refusal r ≡ true → (total : ℕ) × (r ≡ reply.Published total)
total_of_act s counted caller (act.Publish number outcome) r legal p accepted = (total_of outcome.discharges, publishes s counted caller number outcome r legal accepted)
total_of_act s counted caller a r legal p accepted = absurd (true≢false (sym p))

-- ---- acts that are shown alike

shown_kind : (a : Act) → is_publication (shown_act a) ≡ is_publication a
shown_kind (act.Publish number outcome) = refl
shown_kind a = refl

shown_whole : (a : Act) → is_publication a ≡ false → shown_act a ≡ a
shown_whole (act.Publish number outcome) p = absurd (true≢false p)
shown_whole a p = refl

same_kind : (a b : Act) → shown_act a ≡ shown_act b → is_publication a ≡ is_publication b
same_kind a b e = sym (shown_kind a) ∙ ap is_publication e ∙ shown_kind b

same_member : (m n : PoolEntry) → ShowSame m n → m.entry.act ≡ n.entry.act → m ≡ n
same_member m n s e = λ i. record { pool = s.pool i; entry = record { caller = s.caller i; act = e i; reply = s.reply i } }

same_other : (m n : PoolEntry) → ShowSame m n → is_publication m.entry.act ≡ false → m ≡ n
same_other m n s p =
    same_member m n s (sym (shown_whole m.entry.act p) ∙ s.act ∙ shown_whole n.entry.act (sym (same_kind m.entry.act n.entry.act s.act) ∙ p))

same_round : (a b : ℕ) (o q : OutcomeView) → shown_act (act.Publish a o) ≡ shown_act (act.Publish b q) → a ≡ b
same_round a b o q e = cc e

-- ---- states that are one

abbrev SameStates : List PoolEntry → List PoolEntry → Type 0
SameStates before other = (pool : List ℕ) → state_in before pool ≡ state_in other pool

same_cut : (before other : List PoolEntry) (pool : List ℕ) → SameStates before other → open_cut_in before pool ≡ open_cut_in other pool
same_cut before other pool same = ap (λ (s : State). option_map (λ (r : OpenRound). r.cut) s.open_round) (same pool)

state_step : (b : Bool) (m : PoolEntry) (es : List Entry) → state_of (es ++ entries_of (if b then m ∷ [] else [])) ≡ (if b then after m.entry.caller m.entry.act m.entry.reply (state_of es) else state_of es)
state_step true m es = ap state (reverse-append es (m.entry ∷ []))
state_step false m es = ap state_of (append-nil es)

state_more : (before : List PoolEntry) (m : PoolEntry) (pool : List ℕ)
    → state_in (before ++ m ∷ []) pool ≡ (if is_in pool m then after m.entry.caller m.entry.act m.entry.reply (state_in before pool) else state_in before pool)
state_more before m pool = ap state_of (in_append pool before (m ∷ [])) ∙ state_step (is_in pool m) m (entries_in pool before)

refused_same : (caller : ℕ) (a : Act) (r : Reply) (s : State) → is_no_refusal r ≡ false → after caller a r s ≡ s
refused_same caller a (reply.Refused w) s none = refl
refused_same caller a r s none = absurd (true≢false none)

-- two that are read as one lead to one state
after_same : (m n : PoolEntry) (s : State) → ReadSame m n → after m.entry.caller m.entry.act m.entry.reply s ≡ after n.entry.caller n.entry.act n.entry.reply s
after_same m n s same = ⊎_elim
    (λ accepted.
    let told : is_untold m.entry ≡ false = ap (λ (b : Bool). is_publication m.entry.act && not b) accepted ∙ none_with (is_publication m.entry.act) in
    ap (λ (x : PoolEntry). after x.entry.caller x.entry.act x.entry.reply s) (same.one told))
    (λ refused. refused_same m.entry.caller m.entry.act m.entry.reply s refused ∙ sym (refused_same n.entry.caller n.entry.act n.entry.reply s (sym (ap is_no_refusal same.shown.reply) ∙ refused)))
    (cases_Bool (is_accepted m.entry))
  where
    none_with : (b : Bool) → (b && not true) ≡ false
    none_with true = refl
    none_with false = refl

states_more : (before other : List PoolEntry) (m n : PoolEntry) → SameStates before other → ReadSame m n → SameStates (before ++ m ∷ []) (other ++ n ∷ [])
states_more before other m n same read pool =
    let s = state_in before pool in
    let mine : is_in pool m ≡ is_in pool n = ap (same_name pool) read.shown.pool in
    state_more before m pool
    ∙ ap₂ (λ (b : Bool) (t : State). if b then t else s) mine (after_same m n s read)
    ∙ ap (λ (t : State). if is_in pool n then after n.entry.caller n.entry.act n.entry.reply t else t) (same pool)
    ∙ sym (state_more other n pool)

-- ---- one member

published_or : (r : Reply) → ((total : ℕ) × (r ≡ reply.Published total)) ⊎ (rounds_in r ≡ 0)
published_or (reply.Published total) = inl (total, refl)
published_or r = inr refl

no_total : (total : ℕ) (r : Reply) → r ≡ reply.Published total → rounds_in r ≡ 0 → ⊥
no_total total r is none = let one : 1 ≡ 0 = ap rounds_in (sym is) ∙ none in omega (arith, one)

untold_so : (p accepted : Bool) → (p && not accepted) ≡ false → p ≡ true → accepted ≡ true
untold_so p true e is = refl
untold_so true false e is = absurd (true≢false e)
untold_so false false e is = absurd (true≢false (sym is))

module _ (before other a b : List PoolEntry) (m n : PoolEntry) (same : SameStates before other)
    (legal : IsLegal (before ++ m ∷ a)) (valid : AreValid (before ++ m ∷ a)) (here : IsEntry m)
    (legal_other : IsLegal (other ++ n ∷ b)) (valid_other : AreValid (other ++ n ∷ b)) (there : IsEntry n) where
  abbrev stated_text : PoolEntry → List PoolEntry → List ℕ
  stated_text x h = statement_of (open_cut_in h x.pool) x.entry.act x.entry.reply

  -- of two publications
  both_published : (rest more : List ℕ) → ShowSame m n → IsPublished m → stated_text m before ++ rest ≡ stated_text n other ++ more → ReadSame m n × (rest ≡ more)
  both_published rest more shown p e =
      let h = has_statement before a m legal valid p in
      let k = has_statement other b n legal_other valid_other (p.0, sym shown.reply ∙ p.1) in
      let cut : h.cut ≡ k.cut =
      same_Some h.cut k.cut (sym h.was_open ∙ same_cut before other m.pool same ∙ ap (open_cut_in other) shown.pool ∙ k.was_open) in
      let fixed = statement_fixes k.cut h.outcome k.outcome rest more (subst (λ (c : CutView). IsPrintable c h.outcome) cut h.printable) k.printable
      (ap (λ (c : CutView). statement_bytes c h.outcome ++ rest) (sym cut) ∙ ap (λ (t : List ℕ). t ++ rest) (sym h.text) ∙ e ∙ ap (λ (t : List ℕ). t ++ more) k.text) in
      let rounds : h.number ≡ k.number = same_round h.number k.number h.outcome k.outcome (sym (ap shown_act h.asks) ∙ shown.act ∙ ap shown_act k.asks) in
      let acts : m.entry.act ≡ n.entry.act = h.asks ∙ ap₂ (λ (x : ℕ) (o : OutcomeView). act.Publish x o) rounds fixed.0 ∙ sym k.asks in
      (record { shown = shown; one = λ told. same_member m n shown acts }, fixed.1)

  -- of two others
  none_published : (rest more : List ℕ) → ShowSame m n → rounds_in m.entry.reply ≡ 0 → stated_text m before ++ rest ≡ stated_text n other ++ more → ReadSame m n × (rest ≡ more)
  none_published rest more shown none e =
      let first : stated_text m before ≡ [] = none_stated (open_cut_in before m.pool) m.entry.act m.entry.reply none in
      let second : stated_text n other ≡ [] = none_stated (open_cut_in other n.pool) n.entry.act n.entry.reply (sym (ap rounds_in shown.reply) ∙ none) in (
        record {
          shown = shown;
          one = λ told. same_other m n shown (⊎_elim
              (λ p.
              let t = total_of_act (state_of (entries_in m.pool before)) _ m.entry.caller m.entry.act m.entry.reply (pool_legal before a m legal) p (untold_so (is_publication m.entry.act) (is_accepted m.entry) told p) in
              absurd (no_total t.0 m.entry.reply t.1 none))
              (λ p. p)
              (cases_Bool (is_publication m.entry.act)));
        },
        ap (λ (t : List ℕ). t ++ rest) (sym first) ∙ e ∙ ap (λ (t : List ℕ). t ++ more) second,
      )

  one_read : (rest more : List ℕ) → member_text before m ++ rest ≡ member_text other n ++ more → ReadSame m n × (rest ≡ more)
  one_read rest more e =
      let line = line_law m n (stated_text m before ++ rest) (stated_text n other ++ more) here there
      (sym (append_assoc (entry_line m) (stated_text m before) rest) ∙ e ∙ append_assoc (entry_line n) (stated_text n other) more) in
      ⊎_elim (λ p. both_published rest more line.0 p line.1) (λ none. none_published rest more line.0 none line.1) (published_or m.entry.reply)

-- ---- lines of batches that have no entry

-- a line that begins with `!`, with its line feed
record IsMark (text : List ℕ) : Type 0 where
  more : List ℕ
  is : text ≡ 33 ∷ (more ++ 10 ∷ [])
  no_feed : All NoFeed more

abbrev marks_at : ℕ → LineEnd → List (List ℕ)
marks_at line ends.Replied = []
marks_at line ends.Memory = end_text line ends.Memory ∷ []
marks_at line (ends.Full what needed limit) = end_text line (ends.Full what needed limit) ∷ []

number_no_feed : (n : ℕ) → All NoFeed (decimal n)
number_no_feed n = word_no_feed (decimal n) (λ k d lt. let above = (all_digits n k d lt).0 in omega (arith, above))

known_no_feed : (text : List ℕ) → list_all (λ b. not (feed b)) text ≡ true → All NoFeed text
known_no_feed text h = λ k d lt. not-true (feed (slice_index_or text k d)) (AllPass-from_list_all (λ b. not (feed b)) text h k d lt)

both : (a b : List ℕ) → All NoFeed a → All NoFeed b → All NoFeed (a ++ b)
both a b h k = All-append NoFeed a b h k

room_no_feed : (what : Room) → All NoFeed (room_text what)
room_no_feed Entries = known_no_feed (codes "entries") refl
room_no_feed Bytes = known_no_feed (codes "bytes") refl

memory_mark : (line : ℕ) → IsMark (end_text line ends.Memory)
memory_mark line = record {
  more = codes " line " ++ decimal line ++ codes " memory";
  is = simp append_assoc;
  no_feed = both (codes " line " ++ decimal line) (codes " memory") (both (codes " line ") (decimal line) (known_no_feed (codes " line ") refl) (number_no_feed line)) (known_no_feed (codes " memory") refl);
}

abbrev full_words : List ℕ → List ℕ → List ℕ → List ℕ → List ℕ
full_words line what needed limit = codes " line " ++ line ++ codes " full " ++ what ++ codes " " ++ needed ++ codes " " ++ limit

full_is : (line what needed limit : List ℕ) → codes "! line " ++ line ++ codes " full " ++ what ++ codes " " ++ needed ++ codes " " ++ limit ++ codes "\n" ≡ 33 ∷ (full_words line what needed limit ++ 10 ∷ [])
full_is line what needed limit = simp append_assoc

full_no_feed : (line what needed limit : List ℕ) → All NoFeed line → All NoFeed what → All NoFeed needed → All NoFeed limit → All NoFeed (full_words line what needed limit)
full_no_feed line what needed limit a b c d =
    let one = both (codes " line ") line (known_no_feed (codes " line ") refl) a in
    let two = both (codes " line " ++ line) (codes " full ") one (known_no_feed (codes " full ") refl) in
    let three = both (codes " line " ++ line ++ codes " full ") what two b in
    let four = both (codes " line " ++ line ++ codes " full " ++ what) (codes " ") three (known_no_feed (codes " ") refl) in
    let five = both (codes " line " ++ line ++ codes " full " ++ what ++ codes " ") needed four c in
    let six = both (codes " line " ++ line ++ codes " full " ++ what ++ codes " " ++ needed) (codes " ") five (known_no_feed (codes " ") refl) in
    both (codes " line " ++ line ++ codes " full " ++ what ++ codes " " ++ needed ++ codes " ") limit six d

full_mark : (line : ℕ) (what : Room) (needed limit : ℕ) → IsMark (end_text line (ends.Full what needed limit))
full_mark line what needed limit = record {
  more = full_words (decimal line) (room_text what) (decimal needed) (decimal limit);
  is = full_is (decimal line) (room_text what) (decimal needed) (decimal limit);
  no_feed = full_no_feed (decimal line) (room_text what) (decimal needed) (decimal limit) (number_no_feed line) (room_no_feed what) (number_no_feed needed) (number_no_feed limit);
}

-- ---- pieces of a text: members, and such lines

data Piece : Type 0 where
  member : PoolEntry → Piece
  mark : List ℕ → Piece

abbrev pieces_text : List PoolEntry → List Piece → List ℕ
pieces_text before [] = []
pieces_text before (member m ∷ ps) = member_text before m ++ pieces_text (before ++ m ∷ []) ps
pieces_text before (mark text ∷ ps) = text ++ pieces_text before ps

abbrev members_of : List Piece → List PoolEntry
members_of [] = []
members_of (member m ∷ ps) = m ∷ members_of ps
members_of (mark text ∷ ps) = members_of ps

abbrev AreMarked : List Piece → Type 0
AreMarked [] = Unit {0}
AreMarked (member m ∷ ps) = AreMarked ps
AreMarked (mark text ∷ ps) = IsMark text × AreMarked ps

abbrev marks_before : List (List ℕ) → List Piece → List Piece
marks_before [] ps = ps
marks_before (text ∷ texts) ps = mark text ∷ marks_before texts ps

abbrev answers_before : List Answer → List Piece → List Piece
answers_before [] ps = ps
answers_before (answer ∷ answers) ps = marks_before (marks_at answer.line answer.end) (answers_before answers ps)

abbrev members_before : List PoolEntry → List Piece → List Piece
members_before [] ps = ps
members_before (m ∷ ms) ps = member m ∷ members_before ms ps

abbrev pieces_of : List Done → List Piece
pieces_of [] = []
pieces_of (b ∷ bs) = members_before b.added (answers_before b.answers (pieces_of bs))

-- ---- the text of batches, in pieces

marks_flat : (before : List PoolEntry) (line : ℕ) (end : LineEnd) (ps : List Piece) → pieces_text before (marks_before (marks_at line end) ps) ≡ end_text line end ++ pieces_text before ps
marks_flat before line ends.Replied ps = refl
marks_flat before line ends.Memory ps = refl
marks_flat before line (ends.Full what needed limit) ps = refl

answers_flat : (before : List PoolEntry) (answers : List Answer) (ps : List Piece) → pieces_text before (answers_before answers ps) ≡ ends_text answers ++ pieces_text before ps
answers_flat before [] ps = refl
answers_flat before (a ∷ answers) ps =
    marks_flat before a.line a.end (answers_before answers ps) ∙ ap (λ (t : List ℕ). end_text a.line a.end ++ t) (answers_flat before answers ps)
    ∙ sym (append_assoc (end_text a.line a.end) (ends_text answers) (pieces_text before ps))

members_flat : (before ms : List PoolEntry) (ps : List Piece) → pieces_text before (members_before ms ps) ≡ added_text before ms ++ pieces_text (before ++ ms) ps
members_flat before [] ps = ap (λ (h : List PoolEntry). pieces_text h ps) (sym (append-nil before))
members_flat before (m ∷ ms) ps =
    ap (λ (t : List ℕ). member_text before m ++ t)
    (members_flat (before ++ m ∷ []) ms ps ∙ ap (λ (h : List PoolEntry). added_text (before ++ m ∷ []) ms ++ pieces_text h ps) (append_assoc before (m ∷ []) ms))
    ∙ sym (append_assoc (member_text before m) (added_text (before ++ m ∷ []) ms) (pieces_text (before ++ m ∷ ms) ps))

pieces_flat : (before : List PoolEntry) (done : List Done) → pieces_text before (pieces_of done) ≡ text_of before done
pieces_flat before [] = refl
pieces_flat before (b ∷ bs) =
    members_flat before b.added (answers_before b.answers (pieces_of bs))
    ∙ ap (λ (t : List ℕ). added_text before b.added ++ t)
    (answers_flat (before ++ b.added) b.answers (pieces_of bs) ∙ ap (λ (t : List ℕ). ends_text b.answers ++ t) (pieces_flat (before ++ b.added) bs))
    ∙ sym (append_assoc (added_text before b.added) (ends_text b.answers) (text_of (before ++ b.added) bs))

members_marks : (texts : List (List ℕ)) (ps : List Piece) → members_of (marks_before texts ps) ≡ members_of ps
members_marks [] ps = refl
members_marks (text ∷ texts) ps = members_marks texts ps

members_answers : (answers : List Answer) (ps : List Piece) → members_of (answers_before answers ps) ≡ members_of ps
members_answers [] ps = refl
members_answers (a ∷ answers) ps = members_marks (marks_at a.line a.end) (answers_before answers ps) ∙ members_answers answers ps

members_added : (ms : List PoolEntry) (ps : List Piece) → members_of (members_before ms ps) ≡ ms ++ members_of ps
members_added [] ps = refl
members_added (m ∷ ms) ps = ap (λ (rest : List PoolEntry). m ∷ rest) (members_added ms ps)

members_all : (done : List Done) → members_of (pieces_of done) ≡ all_added done
members_all [] = refl
members_all (b ∷ bs) =
    members_added b.added (answers_before b.answers (pieces_of bs))
    ∙ ap (λ (rest : List PoolEntry). b.added ++ rest) (members_answers b.answers (pieces_of bs) ∙ members_all bs)

marked_end : (line : ℕ) (end : LineEnd) (ps : List Piece) → AreMarked ps → AreMarked (marks_before (marks_at line end) ps)
marked_end line ends.Replied ps k = k
marked_end line ends.Memory ps k = (memory_mark line, k)
marked_end line (ends.Full what needed limit) ps k = (full_mark line what needed limit, k)

marked_answers : (answers : List Answer) (ps : List Piece) → AreMarked ps → AreMarked (answers_before answers ps)
marked_answers [] ps k = k
marked_answers (a ∷ answers) ps k = marked_end a.line a.end (answers_before answers ps) (marked_answers answers ps k)

marked_added : (ms : List PoolEntry) (ps : List Piece) → AreMarked ps → AreMarked (members_before ms ps)
marked_added [] ps k = k
marked_added (m ∷ ms) ps k = marked_added ms ps k

marked_all : (done : List Done) → AreMarked (pieces_of done)
marked_all [] = tt
marked_all (b ∷ bs) = marked_added b.added (answers_before b.answers (pieces_of bs)) (marked_answers b.answers (pieces_of bs) (marked_all bs))

-- ---- how a piece begins

-- with digits and a space
abbrev Begins : List ℕ → List ℕ → Type 0
Begins ds text = (more : List ℕ) × (text ≡ ds ++ 32 ∷ more)

begins_more : (ds text rest : List ℕ) → Begins ds text → Begins ds (text ++ rest)
begins_more ds text rest h = (h.0 ++ rest, ap (λ (t : List ℕ). t ++ rest) h.1 ∙ append_assoc ds (32 ∷ h.0) rest)

begins_so : (before : List PoolEntry) (m : PoolEntry) (rest : List ℕ) → Begins (decimal m.entry.caller) (member_text before m ++ rest)
begins_so before m rest =
    let d = decimal m.entry.caller in
    let first : Begins d (d ++ codes " ") = ([], refl) in
    let second = begins_more d (d ++ codes " ") (pool_text m.pool) first in
    let third = begins_more d (d ++ codes " " ++ pool_text m.pool) (entry_text m.entry) second in
    let line = begins_more d (d ++ codes " " ++ pool_text m.pool ++ entry_text m.entry) (codes "\n") third in
    let own = begins_more d (entry_line m) (statement_of (open_cut_in before m.pool) m.entry.act m.entry.reply) line in
    begins_more d (member_text before m) rest own

-- with `!`, or it is none
abbrev IsEnd : List ℕ → Type 0
IsEnd text = (text ≡ []) ⊎ ((more : List ℕ) × (text ≡ 33 ∷ more))

mark_end : (text rest : List ℕ) → IsMark text → IsEnd (text ++ rest)
mark_end text rest h = inr ((h.more ++ 10 ∷ []) ++ rest, ap (λ (t : List ℕ). t ++ rest) h.is)

no_end : (ds text : List ℕ) → All Digit ds → IsEnd text → Begins ds text → ⊥
no_end [] text h end begins = ⊎_elim
    (λ none. let long : length text ≡ length (32 ∷ begins.0) = ap length begins.1 in omega (arith, long, ap length none))
    (λ mark. let is : ◌≡◌ {A = ℕ} 33 32 = ap (λ (t : List ℕ). get_or t 0 0) (sym mark.1 ∙ begins.1) in omega (arith, is))
    end
no_end (d ∷ ds) text h end begins = ⊎_elim
    (λ none. let long : length text ≡ length (d ∷ (ds ++ 32 ∷ begins.0)) = ap length begins.1 in omega (arith, long, ap length none))
    (λ mark. let is : 33 ≡ d = ap (λ (t : List ℕ). get_or t 0 0) (sym mark.1 ∙ begins.1) in omega (arith, is, All-head Digit d ds h))
    end

no_member : (before : List PoolEntry) (m : PoolEntry) (text rest : List ℕ) → IsEntry m → IsEnd text → text ≡ member_text before m ++ rest → ⊥
no_member before m text rest here end e =
    let begins = begins_so before m rest in
    no_end (decimal m.entry.caller) text (all_digits m.entry.caller) end (begins.0, e ∙ begins.1)

no_mark : (text rest : List ℕ) → IsMark text → ◌≡◌ {A = List ℕ} [] (text ++ rest) → ⊥
no_mark text rest h e =
    let long : length {A = ℕ} [] ≡ length (33 ∷ ((h.more ++ 10 ∷ []) ++ rest)) = ap length (e ∙ ap (λ (t : List ℕ). t ++ rest) h.is) in
    omega (arith, long)

mark_is : (text rest : List ℕ) (h : IsMark text) → text ++ rest ≡ 33 ∷ (h.more ++ 10 ∷ rest)
mark_is text rest h = ap (λ (t : List ℕ). t ++ rest) h.is ∙ ap (λ (t : List ℕ). 33 ∷ t) (append_assoc h.more (10 ∷ []) rest)

same_marks : (text other rest more : List ℕ) → IsMark text → IsMark other → text ++ rest ≡ other ++ more → rest ≡ more
same_marks text other rest more h k e =
    (cut_at_feed h.more k.more rest more h.no_feed k.no_feed (ap (drop 1) (sym (mark_is text rest h) ∙ e ∙ mark_is other more k))).1

-- ---- the law

one_less : (before added : List PoolEntry) (m : PoolEntry) → before ++ m ∷ added ≡ (before ++ m ∷ []) ++ added
one_less before added m = sym (append_assoc before (m ∷ []) added)

added_less : (before added : List PoolEntry) (m : PoolEntry) → MayBeAdded before (m ∷ added) → MayBeAdded (before ++ m ∷ []) added
added_less before added m h = record {
  legal = subst IsLegal (one_less before added m) h.legal;
  valid = subst AreValid (one_less before added m) h.valid;
  entries = All-tail IsEntry m added h.entries;
}

fixes : (ps qs : List Piece) (before other : List PoolEntry) → SameStates before other → MayBeAdded before (members_of ps) → AreMarked ps → MayBeAdded other (members_of qs) → AreMarked qs
    → pieces_text before ps ≡ pieces_text other qs → AllZip ReadSame (members_of ps) (members_of qs)
fixes [] [] before other same h p k q e = tt
fixes [] (member n ∷ qs) before other same h p k q e =
    absurd (no_member other n [] (pieces_text (other ++ n ∷ []) qs) (All-head IsEntry n (members_of qs) k.entries) (inl refl) e)
fixes [] (mark u ∷ qs) before other same h p k q e = absurd (no_mark u (pieces_text other qs) q.0 e)
fixes (member m ∷ ps) [] before other same h p k q e =
    absurd (no_member before m [] (pieces_text (before ++ m ∷ []) ps) (All-head IsEntry m (members_of ps) h.entries) (inl refl) (sym e))
fixes (mark t ∷ ps) [] before other same h p k q e = absurd (no_mark t (pieces_text before ps) p.0 (sym e))
fixes (member m ∷ ps) (member n ∷ qs) before other same h p k q e =
    let a = members_of ps in
    let b = members_of qs in
    let step = one_read before other a b m n same h.legal h.valid (All-head IsEntry m a h.entries) k.legal k.valid (All-head IsEntry n b k.entries) (pieces_text (before ++ m ∷ []) ps) (pieces_text (other ++ n ∷ []) qs) e in
    (step.0, fixes ps qs (before ++ m ∷ []) (other ++ n ∷ []) (states_more before other m n same step.0) (added_less before a m h) p (added_less other b n k) q step.1)
fixes (member m ∷ ps) (mark u ∷ qs) before other same h p k q e =
    absurd (no_member before m (u ++ pieces_text other qs) (pieces_text (before ++ m ∷ []) ps) (All-head IsEntry m (members_of ps) h.entries) (mark_end u (pieces_text other qs) q.0) (sym e))
fixes (mark t ∷ ps) (member n ∷ qs) before other same h p k q e =
    absurd (no_member other n (t ++ pieces_text before ps) (pieces_text (other ++ n ∷ []) qs) (All-head IsEntry n (members_of qs) k.entries) (mark_end t (pieces_text before ps) p.0) e)
fixes (mark t ∷ ps) (mark u ∷ qs) before other same h p k q e =
    fixes ps qs before other same h p.1 k q.1 (same_marks t u (pieces_text before ps) (pieces_text other qs) p.0 q.0 e)

pub text_law : TextLaw
text_law before done other h k e =
    let ps = pieces_of done in
    let qs = pieces_of other in
    let first : MayBeAdded before (members_of ps) = subst (MayBeAdded before) (sym (members_all done)) h in
    let second : MayBeAdded before (members_of qs) = subst (MayBeAdded before) (sym (members_all other)) k in
    let read = fixes ps qs before before (λ pool. refl) first (marked_all done) second (marked_all other) (pieces_flat before done ∙ e ∙ sym (pieces_flat before other)) in
    subst₂ (AllZip ReadSame) (members_all done) (members_all other) read
