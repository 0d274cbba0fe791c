-- The rows of a register, entry by entry.
use Rattle.std.specs.Prelude.{◌-◌, Option, Some, None, reverse, slice_get, if◌then◌else◌, Result, Ok, Err, IfOk, OnOk, Vec}
use Rattle.std.specs.declared.alloc.Global.{Global}
use Rattle.std.specs.declared.alloc.AllocError.{AllocError}
use Rattle.csv.specs.declared.writer.Writer.{Writer}
use Rattle.std.specs.Option.{option_map}
use Rattle.std.proofs.Common.{◌≡◌, ℕ, ◌+◌, Bool, true, false, List, [], ◌∷◌, ◌++◌, length, map, refl, sym, ◌∙◌, ap, ap₂, subst, length-append, arith}
use Rattle.std.proofs.lemmas.List.{append-nil, get_or_at, length-reverse, map-append, reverse-append, reverse-reverse}
use Rattle.std.proofs.lemmas.Option.{slice_get-get_or}
use Rattle.csv.specs.Writing.{row_text, default_writer}
use Rattle.setoff_model.specs.CutView.{CutView, obligations}
use Rattle.setoff_model.proofs.Deciding.{proof_test_law}
use Rattle.setoff_model.proofs.Lists.{All-first}
use Rattle.setoff_model.proofs.SameNames.{same_name_is}
use Rattle.printed_text.specs.claim_history.specs.declared.act.Act.{Act}
use Rattle.printed_text.specs.claim_history.specs.declared.call.PoolEntry.{PoolEntry}
use Rattle.printed_text.specs.claim_history.specs.declared.entry.Entry.{Entry}
use Rattle.printed_text.specs.claim_history.specs.declared.entry.Reply.{Reply}
use Rattle.printed_text.specs.claim_history.specs.declared.entry.Reply.TheVariants as reply
use Rattle.printed_text.specs.claim_history.specs.declared.fact.Position.{Position}
use Rattle.printed_text.specs.claim_history.specs.Facts.{Ledger, is_registered, position_of}
use Rattle.printed_text.specs.claim_history.specs.States.{OpenRound, state, state_of}
use Rattle.printed_text.specs.claim_history.specs.History as one
use Rattle.printed_text.specs.claim_history.specs.History.{MayFollowInPool, is_accepted}
use Rattle.printed_text.specs.claim_history.specs.Pools.{AreValid, IsLegal, entries_in, is_in, ledger_in}
use Rattle.printed_text.specs.claim_history.specs.Acts.{is_publication, is_valid}
use Rattle.printed_text.specs.claim_history.specs.PoolRounds.{open_cut_in}
use Rattle.printed_text.specs.claim_history.specs.Rounds.{open_cut, open_cut_of}
use Rattle.printed_text.specs.claim_history.proofs.Greatest.{reply_published}
use Rattle.printed_text.specs.claim_history.proofs.Pasts.{entry_of, legal_first}
use Rattle.printed_text.specs.claim_history.proofs.Pools.{in_append, in_reverse, legal_in, past_own, valid_in}
use Rattle.printed_text.specs.claim_book.specs.Book.{ledger_of, position_in}
use Rattle.printed_text.specs.firm_notices.specs.Tables.{HoldsText, csv_text}
use Rattle.printed_text.specs.firm_notices.proofs.Growing.{one_more}
use Rattle.printed_text.specs.round_cut.proofs.OpenCut.{open_formed_law}
use Rattle.journal_summaries.specs.Account.{AccountRow, account_names, account_rows, account_text, added, is_listed, no_firm_text, past_rows, register_text, row_fields, row_of, rows_of, rows_with, settled_by, taken}
use Rattle.journal_summaries.specs.Replay.{EndsWith, IsCutOf, IsLast, IsPublicationOf, IsRegister, cut_ended}
use Rattle.journal_summaries.specs.declared.firm_account.Register.{Register}
use Rattle.journal_summaries.proofs.Listed.{listed_known}
use Rattle.journal_summaries.proofs.Replayed.{ended_is}

-- the element behind a list
get_behind : (xs ys : List PoolEntry) (x : PoolEntry) → slice_get (xs ++ x ∷ ys) (length xs) ≡ Some x
get_behind xs ys x =
    slice_get-get_or (xs ++ x ∷ ys) (length xs) x (omega (arith, length-append xs (x ∷ ys))) ∙ ap (λ (y : PoolEntry). Some y) (get_or_at xs x ys x (length xs) refl)

-- ---- the text

pub row_more : (rows : List AccountRow) (row : AccountRow) → register_text (rows ++ row ∷ []) ≡ register_text rows ++ row_text default_writer (row_fields row)
row_more rows row = ap (λ (fields : List (List (List ℕ))). csv_text (account_names ∷ fields)) (map-append row_fields rows (row ∷ [])) ∙ one_more (account_names ∷ map row_fields rows) (row_fields row)

-- what is written of an entry is its row
pub row_is : (firm : List ℕ) (number : ℕ) (cut : Option CutView) (l : Ledger) (e : Entry) (a t : ℕ) (p : Position) → a ≡ added firm cut e → t ≡ taken firm cut e → p ≡ position_of l firm
    → record { number = number; entry = e; added = a; taken = t; position = p } ≡ row_of firm number cut l e
row_is firm number cut l e a t p adds takes stands =
    ap (λ (x : ℕ). record { number = number; entry = e; added = x; taken = t; position = p }) adds
    ∙ ap (λ (x : ℕ). record { number = number; entry = e; added = added firm cut e; taken = x; position = p }) takes
    ∙ ap (λ (x : Position). record { number = number; entry = e; added = added firm cut e; taken = taken firm cut e; position = x }) stands

-- the position of a registered firm
pub position_known : (l : Ledger) (firm : List ℕ) (p : Position) → is_registered l firm ≡ true → Some p ≡ position_in l firm → p ≡ position_of l firm
position_known l firm p known is =
    let both : Some p ≡ Some (position_of l firm) = is ∙ ap (λ (b : Bool). if b then Some (position_of l firm) else None) known in
    cc both

-- ---- one more member

module _ (pool firm : List ℕ) (xs : List PoolEntry) (m : PoolEntry) where
  pushed : account_rows pool firm (xs ++ m ∷ []) ≡ account_rows pool firm xs ++ rows_with pool firm m (reverse xs)
  pushed = ap (past_rows pool firm) (reverse-append xs (m ∷ []))

  abbrev own_rows : ℕ → List Entry → List Entry → List AccountRow
  own_rows number past with_it = rows_of firm number (open_cut past) (state with_it).ledger m.entry

  pub rows_other : is_in pool m ≡ false → account_rows pool firm (xs ++ m ∷ []) ≡ account_rows pool firm xs
  rows_other other =
      pushed
      ∙ ap (λ (b : Bool). account_rows pool firm xs ++ (if b then own_rows (length (m ∷ reverse xs)) (entries_in pool (reverse xs)) (entries_in pool (m ∷ reverse xs)) else [])) other
      ∙ append-nil (account_rows pool firm xs)

  many : length (m ∷ reverse xs) ≡ length xs + 1
  many = omega (arith, length-reverse xs)

  pub rows_own : is_in pool m ≡ true
      → account_rows pool firm (xs ++ m ∷ []) ≡ account_rows pool firm xs ++ rows_of firm (length xs + 1) (open_cut_of (entries_in pool xs)) (ledger_of (entries_in pool xs ++ m.entry ∷ [])) m.entry
  rows_own own =
      let before = entries_in pool (reverse xs) in
      let with_it = entries_in pool (m ∷ reverse xs) in
      let longer : with_it ≡ reverse (entries_in pool xs ++ m.entry ∷ []) =
      past_own pool m (reverse xs) own ∙ ap (λ (es : List Entry). m.entry ∷ es) (in_reverse pool xs) ∙ sym (reverse-append (entries_in pool xs) (m.entry ∷ [])) in
      pushed
      ∙ ap (λ (b : Bool). account_rows pool firm xs ++ (if b then own_rows (length (m ∷ reverse xs)) before with_it else [])) own
      ∙ ap (λ (n : ℕ). account_rows pool firm xs ++ own_rows n before with_it) many
      ∙ ap (λ (es : List Entry). account_rows pool firm xs ++ own_rows (length xs + 1) es with_it) (in_reverse pool xs)
      ∙ ap (λ (es : List Entry). account_rows pool firm xs ++ own_rows (length xs + 1) (reverse (entries_in pool xs)) es) longer

-- ---- the cut that is given

settled_ended : (cut : Option CutView) (a : Act) (r : Reply) → settled_by (cut_ended cut r) a r ≡ settled_by cut a r
settled_ended None a (reply.Published total) = refl
settled_ended (Some cut) a (reply.Published total) = refl
settled_ended None a r = refl
settled_ended (Some cut) a r = refl

-- the register has the entry by the cut that was open where it has it by the cut that is given
pub listed_ended : (firm : List ℕ) (cut : Option CutView) (l : Ledger) (caller : ℕ) (a : Act) (r : Reply) → is_listed firm (cut_ended cut r) l (entry_of caller a r) ≡ is_listed firm cut l (entry_of caller a r)
listed_ended firm cut l caller a (reply.Published total) = refl
listed_ended firm cut l caller a r = refl

-- and in one row
pub rows_ended : (firm : List ℕ) (n : ℕ) (cut : Option CutView) (l : Ledger) (caller : ℕ) (a : Act) (r : Reply) → rows_of firm n (cut_ended cut r) l (entry_of caller a r) ≡ rows_of firm n cut l (entry_of caller a r)
rows_ended firm n cut l caller a (reply.Published total) = refl
rows_ended firm n None l caller a r = refl
rows_ended firm n (Some cut) l caller a r = refl

-- ---- an entry that may stand next

ended_some : (cut : Option CutView) (r : Reply) (view : CutView) → cut_ended cut r ≡ Some view → (total : ℕ) × (r ≡ reply.Published total) × (cut ≡ Some view)
ended_some cut (reply.Published total) view is = (total, refl, is)
ended_some cut r view is = absurd (none_some view is) where
  none_some : (v : CutView) → None ≡ Some v → ⊥
  none_some v e = cc e

module _ (history : List Entry) (legal : one.IsLegalPool history) (valid : one.AreValidEntries history) (e : Entry) (next : MayFollowInPool history e) where
  -- the cut that is given is that of the round that it publishes
  pub cut_given : (given : Option CutView) → given ≡ cut_ended (open_cut_of history) e.reply → IsCutOf given e
  cut_given given given_is = λ view is.
      let some = ended_some (open_cut_of history) e.reply view (sym given_is ∙ is) in
      let p = reply_published (state_of history) _ e.caller e.act e.reply some.0 next some.1 in
      let both : Some view ≡ Some p.round.cut = sym some.2 ∙ ap (option_map (λ (round : OpenRound). round.cut)) p.was_open in
      let same : p.round.cut ≡ view = cc both in
      let of_round : IsPublicationOf p.round.cut e = record {
        number = p.round.cut.round;
        outcome = p.outcome;
        total = some.0;
        asks = p.asks;
        reply_is = some.1;
        formed = open_formed_law history legal valid p.round p.was_open;
        lawful = ((proof_test_law (obligations p.round.cut) p.outcome.discharges p.outcome.prices).0 p.proved).lawful;
      } in
      subst (λ (x : CutView). IsPublicationOf x e) same of_round

  -- the firm is registered after it, where the register has it
  pub known_after : (firm : List ℕ) (given : Option CutView) (later : List Entry) → given ≡ cut_ended (open_cut_of history) e.reply → later ≡ history ++ e ∷ [] → is_listed firm given (ledger_of later) e ≡ true → is_registered (ledger_of later) firm ≡ true
  known_after firm given later given_is later_is listed =
      let past : reverse later ≡ e ∷ reverse history = ap reverse later_is ∙ reverse-append history (e ∷ []) in
      let by_open : is_listed firm (open_cut_of history) (ledger_of later) e ≡ true =
      sym (ap (λ (g : Option CutView). is_listed firm g (ledger_of later) e) given_is ∙ listed_ended firm (open_cut_of history) (ledger_of later) e.caller e.act e.reply) ∙ listed in
      let here : is_listed firm (open_cut_of history) (state (e ∷ reverse history)).ledger e ≡ true = subst (λ (p : List Entry). is_listed firm (open_cut_of history) (state p).ledger e ≡ true) past by_open in
      subst (λ (p : List Entry). is_registered (state p).ledger firm ≡ true) (sym past) (listed_known firm e (reverse history) (next, legal) here)

-- ---- one more row

-- a row that was written behind any text stands behind the rows so far
pub rows_written : (result : Result (Unit {0}) AllocError) (old new : Writer (Vec ℕ Global)) (written row : AccountRow) → written ≡ row
    → OnOk result ((text : List ℕ) → HoldsText old text → HoldsText new (text ++ row_text default_writer (row_fields written)))
    → OnOk result ((rows : List AccountRow) → HoldsText old (register_text rows) → HoldsText new (register_text (rows ++ row ∷ [])))
rows_written (Ok done) old new written row same puts = λ rows held.
    subst (HoldsText new) (sym (row_more rows row)) (subst (λ (r : AccountRow). HoldsText new (register_text rows ++ row_text default_writer (row_fields r))) same (puts (register_text rows) held))
rows_written (Err e) old new written row same puts = tt

-- ---- the last member

same_reverse : (xs ys : List PoolEntry) (x y : PoolEntry) → x ∷ reverse xs ≡ y ∷ reverse ys → (xs ≡ ys) × (x ≡ y)
same_reverse xs ys x y same =
    let rest : reverse xs ≡ reverse ys = cc same in
    let head : x ≡ y = cc same in
    (sym (reverse-reverse xs) ∙ ap reverse rest ∙ reverse-reverse ys, head)

-- a history has one last member, behind the same members
pub one_last : (xs ys : List PoolEntry) (x y : PoolEntry) → xs ++ x ∷ [] ≡ ys ++ y ∷ [] → (xs ≡ ys) × (x ≡ y)
one_last xs ys x y same = same_reverse xs ys x y (sym (reverse-append xs (x ∷ [])) ∙ ap reverse same ∙ reverse-append ys (y ∷ []))

module _ (history before : List PoolEntry) (last : PoolEntry) (parts : history ≡ before ++ last ∷ []) where
  pub many_is : length history ≡ length before + 1
  many_is = ap length parts ∙ length-append before (last ∷ [])

  pub last_is : (i : ℕ) (m : PoolEntry) → i + 1 ≡ length history → slice_get history i ≡ Some m → last ≡ m
  last_is i m count is =
      let place : length before ≡ i = omega (arith, many_is, count) in
      let both : Some last ≡ Some m = sym (get_behind before [] last) ∙ ap (λ (n : ℕ). slice_get (before ++ last ∷ []) n) place ∙ ap (λ (h : List PoolEntry). slice_get h i) (sym parts) ∙ is in
      cc both

  module _ (pool firm : List ℕ) where
    pub other_rows : is_in pool last ≡ false → account_rows pool firm history ≡ account_rows pool firm before
    other_rows other = ap (account_rows pool firm) parts ∙ rows_other pool firm before last other

    -- of the pool of the member
    module _ (own : is_in pool last ≡ true) where
      pub entries_are : entries_in pool history ≡ entries_in pool before ++ last.entry ∷ []
      entries_are = ap (entries_in pool) parts ∙ in_append pool before (last ∷ []) ∙ ap (λ (es : List Entry). entries_in pool before ++ es) (past_own pool last [] own)

      -- its row, by the cut that is given
      pub own_rows_are : (number : ℕ) (cut : Option CutView) (l : Ledger) → number ≡ length history → cut ≡ cut_ended (open_cut_of (entries_in pool before)) last.entry.reply → l ≡ ledger_of (entries_in pool history)
          → account_rows pool firm history ≡ account_rows pool firm before ++ rows_of firm number cut l last.entry
      own_rows_are number cut l number_is cut_is l_is =
          let so_far = account_rows pool firm before in
          let was_open = open_cut_of (entries_in pool before) in
          let e = last.entry in
          ap (account_rows pool firm) parts ∙ rows_own pool firm before last own
          ∙ ap (λ (es : List Entry). so_far ++ rows_of firm (length before + 1) was_open (ledger_of es) e) (sym entries_are)
          ∙ ap (λ (n : ℕ). so_far ++ rows_of firm n was_open (ledger_of (entries_in pool history)) e) (sym (number_is ∙ many_is))
          ∙ ap (λ (x : Ledger). so_far ++ rows_of firm number was_open x e) (sym l_is)
          ∙ ap (λ (rows : List AccountRow). so_far ++ rows) (sym (rows_ended firm number was_open l e.caller e.act e.reply))
          ∙ ap (λ (c : Option CutView). so_far ++ rows_of firm number c l e) (sym cut_is)

      module _ (cut : Option CutView) (legal : IsLegal history) (accepted : is_accepted last.entry ≡ true)
          (cut_is : cut ≡ (if is_publication last.entry.act then open_cut_in before last.pool else None)) where
        abbrev es : List Entry
        es = entries_in pool before

        may_follow : MayFollowInPool es last.entry × one.IsLegalPool es
        may_follow = legal_first es [] last.entry (subst one.IsLegalPool entries_are (legal_in history pool legal))

        -- the cut of the round that the entry ends by its reply
        pub cut_ends : cut ≡ cut_ended (open_cut_of es) last.entry.reply
        cut_ends =
            let here : pool ≡ last.pool = (same_name_is pool last.pool).0 own in
            cut_is ∙ ap (λ (p : List ℕ). if is_publication last.entry.act then open_cut_in before p else None) (sym here) ∙ ended_is es last.entry may_follow.0 accepted

        pub is_last : AreValid history → IsLast (entries_in pool history) last.entry cut
        is_last valid = record {
          before = es;
          parts = entries_are;
          legal = may_follow.1;
          valid = All-first (λ (e : Entry). is_valid e.act ≡ true) es (last.entry ∷ []) (subst one.AreValidEntries entries_are (valid_in history pool valid));
          next = may_follow.0;
          cut_is = cut_ends;
        }

-- ---- the member at the last place

abbrev pub EndsAt : List PoolEntry → Option CutView → List PoolEntry → PoolEntry → Type 0
EndsAt history cut before m = (history ≡ before ++ m ∷ []) × (is_accepted m.entry ≡ true) × (cut ≡ (if is_publication m.entry.act then open_cut_in before m.pool else None))

module _ (history : List PoolEntry) (cut : Option CutView) (ends : EndsWith history cut) (len : ℕ) (len_is : len ≡ length history) (m : PoolEntry) (is : slice_get history (len - 1) ≡ Some m) where
  pub ends_at : EndsAt history cut ends.before m
  ends_at =
      subst (EndsAt history cut ends.before) (last_is history ends.before ends.last ends.parts (len - 1) m (omega (arith, len_is, many_is history ends.before ends.last ends.parts)) is)
      (ends.parts, ends.accepted, ends.cut_is)

  module _ (pool firm : List ℕ) (before : List PoolEntry) (last : PoolEntry) (parts : history ≡ before ++ last ∷ []) (table : Writer (Vec ℕ Global))
      (held : HoldsText table (register_text (account_rows pool firm before))) where
    held_before : HoldsText table (register_text (account_rows pool firm ends.before))
    held_before =
        subst (λ (ms : List PoolEntry). HoldsText table (register_text (account_rows pool firm ms)))
        (one_last before ends.before last ends.last (sym parts ∙ ends.parts)).0 held

    pub other_held : is_in pool m ≡ false → HoldsText table (register_text (account_rows pool firm history))
    other_held other = subst (λ (rows : List AccountRow). HoldsText table (register_text rows)) (sym (other_rows history ends.before m ends_at.0 pool firm other)) held_before

    pub own_held : is_in pool m ≡ true → IsLegal history → (entries : List Entry) → entries ≡ entries_in pool history → (new : Writer (Vec ℕ Global))
        → ((rows : List AccountRow) → HoldsText table (register_text rows) → HoldsText new (register_text (rows ++ rows_of firm len cut (ledger_of entries) m.entry)))
        → HoldsText new (register_text (account_rows pool firm history))
    own_held own legal entries entries_is new puts =
        let at = ends_at in
        let given = cut_ends history ends.before m at.0 pool firm own cut legal at.1 at.2 in
        let grown = own_rows_are history ends.before m at.0 pool firm own len cut (ledger_of entries) len_is given (ap ledger_of entries_is) in
        subst (λ (rows : List AccountRow). HoldsText new (register_text rows)) (sym grown) (puts (account_rows pool firm ends.before) held_before)

-- ---- the text of a register

-- that of a registered firm is its table
pub text_is : (r : Register) (members : List PoolEntry) (result : Result (Vec ℕ Global) AllocError) → is_registered (ledger_in members r.pool) r.firm ≡ true
    → IfOk result (λ bytes. (text : List ℕ) → HoldsText r.table text → bytes.items ≡ text)
    → IfOk result (λ text. (pool firm : List ℕ) → IsRegister pool firm members r → text.items ≡ account_text pool firm members)
text_is r members (Ok bytes) known gives = λ pool firm is.
    let known_is : is_registered (ledger_in members pool) firm ≡ true =
    sym (ap₂ (λ (p f : List ℕ). is_registered (ledger_in members p) f) is.pool_is is.firm_is) ∙ known in
    gives (register_text (account_rows pool firm members)) is.rows
    ∙ sym (ap (λ (b : Bool). if b then register_text (account_rows pool firm members) else no_firm_text firm) known_is)
text_is r members (Err e) known gives = tt
