-- The rounds that a history leaves open, and their abandonments.
use Rattle.std.specs.Prelude.{filter, take, reverse, Option, Some, None, is_some}
use Rattle.std.specs.List.{list_any, slice_get}
use Rattle.std.proofs.Common.{◌≡◌, ◌∙◌, ⊎_elim, ℕ, zero, suc, ◌+◌, ◌<◌, ◌≤◌, Bool, true, false, ◌||◌, ◌==◌, if◌then◌else◌, List, [], ◌∷◌, ◌++◌, map, All, refl, sym, ap, subst, true≢false, append_assoc, arith}
use Rattle.std.proofs.lemmas.Bool.{cases_Bool, eq-eqb, eqb-true}
use Rattle.std.proofs.lemmas.Option.{same_Some}
use Rattle.std.proofs.lemmas.List.{append-nil}
use Rattle.std.proofs.lemmas.List.Elements.{All-nil, All-cons, All-head, All-tail}
use Rattle.setoff_model.proofs.SameNames.{name_same, same_name_is}
use Rattle.claim_history.specs.declared.entry.Entry.{Entry}
use Rattle.claim_history.specs.declared.entry.Reply.{Reply}
use Rattle.claim_history.specs.declared.entry.Reply.TheVariants as reply
use Rattle.claim_history.specs.declared.call.PoolEntry.{PoolEntry}
use Rattle.claim_history.specs.States.{OpenRound, after, number_of, state, state_of}
use Rattle.claim_history.specs.History as one
use Rattle.claim_history.specs.History.{is_opening}
use Rattle.claim_history.specs.Pools.{IsLegal, entries_in, is_in, open_round_in}
use Rattle.claim_history.specs.PoolRounds.{EndedLaw, ended, ended_first, ending_of, ending_reply, is_left_open, left_open, opened}
use Rattle.claim_history.proofs.Agreement.{cut_law}
use Rattle.claim_history.proofs.Open.{counted, number_is}
use Rattle.claim_history.proofs.Pasts.{legal_first, reverse_parts}
use Rattle.claim_history.proofs.Pools.{in_append, in_other, legal_in, past_own}
use Rattle.claim_history.proofs.Rows.{or_false}
use Rattle.std.proofs.lemmas.List.{reverse-append}

-- ---- what opened the open round

-- the reply opened a round, which has the number of the open one
opened_as : (o : Option OpenRound) (r : Reply) → opened o r ≡ true → (number : ℕ) × (r ≡ reply.Opened number) × ((number == number_of o) ≡ true)
opened_as None r is = absurd (true≢false (sym is))
opened_as (Some round) (reply.Opened number) is = (number, refl, is)
opened_as (Some round) r is = absurd (true≢false (sym is))

pub opens_so : (o : Option OpenRound) (r : Reply) → opened o r ≡ true → is_opening r ≡ true
opens_so o r is = ap is_opening (opened_as o r is).1

-- ---- one abandonment

-- the number that an opening tells
opening_as : (r : Reply) → is_opening r ≡ true → (number : ℕ) × (r ≡ reply.Opened number)
opening_as (reply.Opened number) is = (number, refl)
opening_as r is = absurd (true≢false (sym is))

end_in : (now : List PoolEntry) (m : PoolEntry) (pool : List ℕ) (number : ℕ) → m.entry.reply ≡ reply.Opened number → (b : Bool) → is_in pool m ≡ b
    → open_round_in (now ++ ending_of m ∷ []) pool ≡ (if b then None else open_round_in now pool)
end_in now m pool number is true own =
    let ending = (ending_of m).entry in
    let grown : entries_in pool (now ++ ending_of m ∷ []) ≡ entries_in pool now ++ ending ∷ [] =
    in_append pool now (ending_of m ∷ []) ∙ ap (λ (es : List Entry). entries_in pool now ++ es) (past_own pool (ending_of m) [] own) in
    let whole : reverse (entries_in pool (now ++ ending_of m ∷ [])) ≡ ending ∷ reverse (entries_in pool now) = ap reverse grown ∙ reverse-append (entries_in pool now) (ending ∷ []) in
    ap (λ (p : List Entry). (state p).open_round) whole
    ∙ ap (λ (r : Reply). (after 0 ending.act (ending_reply r) (state (reverse (entries_in pool now)))).open_round) is
end_in now m pool number is false other = ap (λ (es : List Entry). (state_of es).open_round) (in_other now (ending_of m) pool other)

-- it ends the round of its own pool, and no other
pub end_step : (now : List PoolEntry) (m : PoolEntry) (pool : List ℕ) → is_opening m.entry.reply ≡ true
    → open_round_in (now ++ ending_of m ∷ []) pool ≡ (if is_in pool m then None else open_round_in now pool)
end_step now m pool opens =
    let told = opening_as m.entry.reply opens in
    end_in now m pool told.0 told.1 (is_in pool m) refl

-- ---- some abandonments

either_way : (a b : Bool) (o : Option OpenRound) → (if a then None else (if b then None else o)) ≡ (if b || a then None else o)
either_way true true o = refl
either_way true false o = refl
either_way false true o = refl
either_way false false o = refl

pub ends_all : (ms now : List PoolEntry) (pool : List ℕ) → All (λ m. is_opening m.entry.reply ≡ true) ms
    → open_round_in (now ++ map ending_of ms) pool ≡ (if list_any (is_in pool) ms then None else open_round_in now pool)
ends_all [] now pool all = ap (λ (h : List PoolEntry). open_round_in h pool) (append-nil now)
ends_all (m ∷ ms) now pool all =
    let P : PoolEntry → Type 0 = λ x. is_opening x.entry.reply ≡ true in
    ap (λ (h : List PoolEntry). open_round_in h pool) (sym (append_assoc now (ending_of m ∷ []) (map ending_of ms)))
    ∙ ends_all ms (now ++ ending_of m ∷ []) pool (All-tail P m ms all)
    ∙ ap (λ (o : Option OpenRound). if list_any (is_in pool) ms then None else o) (end_step now m pool (All-head P m ms all))
    ∙ either_way (list_any (is_in pool) ms) (is_in pool m) (open_round_in now pool)

-- those that are left open are openings
left_step : (b : Bool) (m : PoolEntry) (ms : List PoolEntry) → (b ≡ true → is_opening m.entry.reply ≡ true) → All (λ x. is_opening x.entry.reply ≡ true) ms
    → All (λ x. is_opening x.entry.reply ≡ true) (if b then m ∷ ms else ms)
left_step true m ms here rest = All-cons (λ (x : PoolEntry). is_opening x.entry.reply ≡ true) m ms (here refl) rest
left_step false m ms here rest = rest

left_opens : (history ms : List PoolEntry) → All (λ m. is_opening m.entry.reply ≡ true) (filter (is_left_open history) ms)
left_opens history [] = All-nil (λ (x : PoolEntry). is_opening x.entry.reply ≡ true)
left_opens history (m ∷ ms) = left_step (is_left_open history m) m (filter (is_left_open history) ms) (opens_so (open_round_in history m.pool) m.entry.reply) (left_opens history ms)

-- ---- one round has one opening

-- an opening that stands later has a greater number
rises : (first between later : List Entry) (low high : Entry) (i j : ℕ) → one.IsLegalPool (first ++ low ∷ (between ++ high ∷ later))
    → low.reply ≡ reply.Opened i → high.reply ≡ reply.Opened j → i < j
rises first between later low high i j legal low_is high_is =
    let parts : first ++ low ∷ (between ++ high ∷ later) ≡ (first ++ low ∷ between) ++ high ∷ later = sym (append_assoc first (low ∷ between) (high ∷ later)) in
    let whole = subst one.IsLegalPool parts legal in
    let past = legal_first (first ++ low ∷ between) later high whole in
    let turned = reverse_parts first between low in
    let started = legal_first first between low past.1 in
    let many : i ≤ (state (reverse between ++ low ∷ reverse first)).openings = counted (reverse first) low i low_is started (reverse between) (subst one.IsLegalPoolPast turned past.1) in
    let next : j ≡ (state (reverse (first ++ low ∷ between))).openings + 1 = number_is (reverse (first ++ low ∷ between)) high j high_is past in
    omega (arith, many, next, ap (λ (p : List Entry). (state p).openings) turned)

-- so two members did not open the round that is open in their pool
module _ (pre xs post : List PoolEntry) (x m : PoolEntry) (legal : IsLegal (pre ++ x ∷ (xs ++ m ∷ post))) (own : is_in m.pool x ≡ true) where
  in_parts : entries_in m.pool (pre ++ x ∷ (xs ++ m ∷ post)) ≡ entries_in m.pool pre ++ x.entry ∷ (entries_in m.pool xs ++ m.entry ∷ entries_in m.pool post)
  in_parts =
      in_append m.pool pre (x ∷ (xs ++ m ∷ post))
      ∙ ap (λ (es : List Entry). entries_in m.pool pre ++ es) (past_own m.pool x (xs ++ m ∷ post) own
      ∙ ap (λ (es : List Entry). x.entry ∷ es) (in_append m.pool xs (m ∷ post) ∙ ap (λ (es : List Entry). entries_in m.pool xs ++ es) (past_own m.pool m post (name_same m.pool))))

  one_opens : (o : Option OpenRound) → opened o x.entry.reply ≡ true → opened o m.entry.reply ≡ true → ⊥
  one_opens o first second =
      let a = opened_as o x.entry.reply first in
      let b = opened_as o m.entry.reply second in
      let lower = rises (entries_in m.pool pre) (entries_in m.pool xs) (entries_in m.pool post) x.entry m.entry a.0 b.0
      (subst one.IsLegalPool in_parts (legal_in (pre ++ x ∷ (xs ++ m ∷ post)) m.pool legal)) a.1 b.1 in
      omega (arith, lower, eqb-true a.0 (number_of o) a.2, eqb-true b.0 (number_of o) b.2)

-- ---- the laws

-- the members before a place, the one that stands there, and those behind it
pub parts_at : (history : List PoolEntry) (place : ℕ) (m : PoolEntry) → slice_get history place ≡ Some m
    → (post : List PoolEntry) × (history ≡ take place history ++ m ∷ post)
parts_at [] place m is = absurd (cc is)
parts_at (x ∷ xs) zero m is = (xs, ap (λ (y : PoolEntry). y ∷ xs) (same_Some x m is))
parts_at (x ∷ xs) (suc place) m is = let rest = parts_at xs place m is in (rest.0, ap (λ (l : List PoolEntry). x ∷ l) rest.1)

-- in the pool of a member that opened the round that is open there, no earlier one did
none_step : (b : Bool) (x : PoolEntry) (ms : List PoolEntry) (pool : List ℕ) → (b ≡ true → is_in pool x ≡ false) → list_any (is_in pool) ms ≡ false
    → list_any (is_in pool) (if b then x ∷ ms else ms) ≡ false
none_step true x ms pool here rest = ap (λ (c : Bool). c || list_any (is_in pool) ms) (here refl) ∙ rest
none_step false x ms pool here rest = rest

none_before : (history pre xs post : List PoolEntry) (m : PoolEntry) → IsLegal history → history ≡ pre ++ (xs ++ m ∷ post) → is_left_open history m ≡ true
    → list_any (is_in m.pool) (filter (is_left_open history) xs) ≡ false
none_before history pre [] post m legal parts open_now = refl
none_before history pre (x ∷ xs) post m legal parts open_now =
    let rest = none_before history (pre ++ x ∷ []) xs post m legal (parts ∙ sym (append_assoc pre (x ∷ []) (xs ++ m ∷ post))) open_now in
    none_step (is_left_open history x) x (filter (is_left_open history) xs) m.pool
    (λ left. ⊎_elim
    (λ own.
    let here : m.pool ≡ x.pool = (same_name_is m.pool x.pool).0 own in
    let too : opened (open_round_in history m.pool) x.entry.reply ≡ true = ap (λ (q : List ℕ). opened (open_round_in history q) x.entry.reply) here ∙ left in
    absurd (one_opens pre xs post x m (subst IsLegal parts legal) own (open_round_in history m.pool) too open_now))
    (λ other. other)
    (cases_Bool (is_in m.pool x)))
    rest

no_round : (a : Bool) (o : Option OpenRound) (r : Reply) → opened o r ≡ false → opened (if a then None else o) r ≡ opened o r
no_round true o r none = sym none
no_round false o r none = refl

still_open : (history : List PoolEntry) (place : ℕ) (m : PoolEntry) → IsLegal history → slice_get history place ≡ Some m
    → is_left_open (ended_first place history) m ≡ is_left_open history m
still_open history place m legal is =
    let ms = filter (is_left_open history) (take place history) in
    let now : open_round_in (ended_first place history) m.pool ≡ (if list_any (is_in m.pool) ms then None else open_round_in history m.pool) =
    ends_all ms history m.pool (left_opens history (take place history)) in
    let parts = parts_at history place m is in
    ap (λ (o : Option OpenRound). opened o m.entry.reply) now
    ∙ ⊎_elim
    (λ open_now. ap (λ (b : Bool). opened (if b then None else open_round_in history m.pool) m.entry.reply) (none_before history [] (take place history) parts.0 m legal parts.1 open_now))
    (λ none. no_round (list_any (is_in m.pool) ms) (open_round_in history m.pool) m.entry.reply none)
    (cases_Bool (is_left_open history m))

-- where no member of a pool opened its open round, no entry did
no_entry_step : (pool : List ℕ) (o : Option OpenRound) (b : Bool) (m : PoolEntry) (ms : List PoolEntry) → (b ≡ true → opened o m.entry.reply ≡ false)
    → All (λ e. opened o e.reply ≡ false) (map (λ x. x.entry) ms) → All (λ e. opened o e.reply ≡ false) (map (λ x. x.entry) (if b then m ∷ ms else ms))
no_entry_step pool o true m ms here rest = All-cons (λ (e : Entry). opened o e.reply ≡ false) m.entry (map (λ (x : PoolEntry). x.entry) ms) (here refl) rest
no_entry_step pool o false m ms here rest = rest

not_kept : (b : Bool) (m : PoolEntry) (ms : List PoolEntry) (pool : List ℕ) → list_any (is_in pool) (if b then m ∷ ms else ms) ≡ false → (is_in pool m ≡ true → b ≡ false) × (list_any (is_in pool) ms ≡ false)
not_kept true m ms pool none =
    let parts = or_false (is_in pool m) (list_any (is_in pool) ms) none in (λ own. absurd (true≢false (sym own ∙ parts.0)), parts.1)
not_kept false m ms pool none = (λ own. refl, none)

no_entries : (history ms : List PoolEntry) (pool : List ℕ) → list_any (is_in pool) (filter (is_left_open history) ms) ≡ false
    → All (λ e. opened (open_round_in history pool) e.reply ≡ false) (entries_in pool ms)
no_entries history [] pool none = All-nil (λ (e : Entry). opened (open_round_in history pool) e.reply ≡ false)
no_entries history (m ∷ ms) pool none =
    let told = not_kept (is_left_open history m) m (filter (is_left_open history) ms) pool none in
    no_entry_step pool (open_round_in history pool) (is_in pool m) m (filter (is_in pool) ms)
    (λ own. ap (λ (q : List ℕ). opened (open_round_in history q) m.entry.reply) ((same_name_is pool m.pool).0 own) ∙ told.0 own)
    (no_entries history ms pool told.1)

one_between : (P : Entry → Type 0) (before later : List Entry) (e : Entry) → All P (before ++ e ∷ later) → P e
one_between P [] later e all = All-head P e later all
one_between P (x ∷ before) later e all = one_between P before later e (All-tail P x (before ++ e ∷ later) all)

none_there : (history : List PoolEntry) (pool : List ℕ) (o : Option OpenRound) → IsLegal history → open_round_in history pool ≡ o
    → list_any (is_in pool) (left_open history) ≡ false → o ≡ None
none_there history pool None legal is none = refl
none_there history pool (Some round) legal is none =
    let found = cut_law (entries_in pool history) (legal_in history pool legal) round is in
    let P : Entry → Type 0 = λ e. opened (open_round_in history pool) e.reply ≡ false in
    let all = subst (All P) found.parts (no_entries history history pool none) in
    let not_it = one_between P found.before found.later found.opening all in
    let it : opened (open_round_in history pool) found.opening.reply ≡ true = ap (λ (o : Option OpenRound). opened o found.opening.reply) is ∙ ap (opened (Some round)) found.opens ∙ eq-eqb round.cut.round round.cut.round refl in
    absurd (true≢false (sym it ∙ not_it))

none_now : (b : Bool) (o : Option OpenRound) → (b ≡ false → o ≡ None) → (if b then None else o) ≡ None
none_now true o none = refl
none_now false o none = none refl

none_open : (history : List PoolEntry) (pool : List ℕ) → IsLegal history → open_round_in (ended history) pool ≡ None
none_open history pool legal =
    ends_all (left_open history) history pool (left_opens history history)
    ∙ none_now (list_any (is_in pool) (left_open history)) (open_round_in history pool) (none_there history pool (open_round_in history pool) legal refl)

pub ended_law : EndedLaw
ended_law = record { still = still_open; none = none_open }

-- ---- what opened the round of a pool

-- the member stands at a place, is one of the pool, and opened the round that is open there
pub record IsOpener (history ms : List PoolEntry) (pool : List ℕ) : Type 0 where
  pub place : ℕ
  pub member : PoolEntry
  pub there : slice_get ms place ≡ Some member
  pub own : is_in pool member ≡ true
  pub left : is_left_open history member ≡ true

opener_step : (history ms : List PoolEntry) (m : PoolEntry) (pool : List ℕ) (b : Bool) → is_left_open history m ≡ b → list_any (is_in pool) (if b then m ∷ filter (is_left_open history) ms else filter (is_left_open history) ms) ≡ true
    → (list_any (is_in pool) (filter (is_left_open history) ms) ≡ true → IsOpener history ms pool) → IsOpener history (m ∷ ms) pool
opener_step history ms m pool true left some rest = ⊎_elim
    (λ own. record { place = 0; member = m; there = refl; own = own; left = left })
    (λ other.
    let o = rest (sym (ap (λ (c : Bool). c || list_any (is_in pool) (filter (is_left_open history) ms)) other) ∙ some) in
    record { place = suc o.place; member = o.member; there = o.there; own = o.own; left = o.left })
    (cases_Bool (is_in pool m))
opener_step history ms m pool false left some rest =
    let o = rest some in record { place = suc o.place; member = o.member; there = o.there; own = o.own; left = o.left }

opener_among : (history ms : List PoolEntry) (pool : List ℕ) → list_any (is_in pool) (filter (is_left_open history) ms) ≡ true → IsOpener history ms pool
opener_among history [] pool some = absurd (true≢false (sym some))
opener_among history (m ∷ ms) pool some = opener_step history ms m pool (is_left_open history m) refl some (opener_among history ms pool)

-- the open round of a pool has one
pub opener_in : (history : List PoolEntry) (pool : List ℕ) → IsLegal history → is_some (open_round_in history pool) ≡ true → IsOpener history history pool
opener_in history pool legal is = ⊎_elim
    (λ some. opener_among history history pool some)
    (λ none. absurd (true≢false (sym is ∙ ap is_some (none_there history pool (open_round_in history pool) legal refl none))))
    (cases_Bool (list_any (is_in pool) (left_open history)))
