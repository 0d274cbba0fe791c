-- Members that are put at the end of those before them.
use Rattle.std.specs.Prelude.{reverse, slice_get, Some}
use Rattle.std.proofs.Common.{◌≡◌, ◌∙◌, ℕ, ◌+◌, ◌≤◌, ◌<◌, true, List, [], ◌∷◌, ◌++◌, length, take, drop, sym, ap, ap₂, subst, arith}
use Rattle.setoff_model.specs.declared.kind.Kind.{Kind}
use Rattle.setoff_model.specs.CutView.{CutView}
use Rattle.setoff_model.specs.declared.limits.TheConstants.{MOST_ROUNDS}
use Rattle.claim_history.specs.declared.call.PoolEntry.{PoolEntry}
use Rattle.claim_history.specs.declared.entry.Entry.{Entry}
use Rattle.claim_history.specs.declared.act.Act.TheVariants as act
use Rattle.claim_history.specs.declared.entry.Reply.{Reply}
use Rattle.claim_history.specs.declared.entry.Reply.TheVariants as reply
use Rattle.claim_history.specs.Acts.{is_close}
use Rattle.claim_history.specs.Cut.{cut_of}
use Rattle.claim_history.specs.History.{IsReply, is_opening, last_count}
use Rattle.claim_history.specs.States.{state_of}
use Rattle.claim_history.specs.Pools.{IsLegal, IsLegalPast, MayFollow, call_of, entries_in, entries_of, ledger_in, state_in}
use Rattle.claim_history.specs.PoolRounds.{IsCutDue}
use Rattle.claim_history.proofs.Pasts.{reverse_parts}
use Rattle.claim_history.proofs.PoolRoom.{due_is}
use Rattle.claim_history.proofs.Replies.{IsOpening, opens}
use Rattle.printed_text.proofs.Members.{one_more, whole}
use Rattle.history_text.specs.Histories.{AreFirst}

-- ---- what may stand next

past_rest : (later past : List PoolEntry) → IsLegalPast (later ++ past) → IsLegalPast past
past_rest [] past legal = legal
past_rest (m ∷ later) past legal = past_rest later past legal.1

-- a member of a legal history may follow those before it
pub may_follow : (history : List PoolEntry) (i : ℕ) (m : PoolEntry) → slice_get history i ≡ Some m → IsLegal history → MayFollow (take i history) m
may_follow history i m is legal =
    let before = take i history in
    let later = drop (i + 1) history in
    let parts = ap reverse (whole history i m is) ∙ reverse_parts before later m in
    let past = past_rest (reverse later) (m ∷ reverse before) (subst IsLegalPast parts legal) in
    subst (λ (r : Reply). IsReply (last_count (entries_of (reverse before))) r m.entry.reply) (due_is before (call_of m)) past.0

-- what a Close opens that may stand next: fewer rounds than there may be were opened before
pub opening_at : (before : List PoolEntry) (m : PoolEntry) → MayFollow before m → is_opening m.entry.reply ≡ true → IsOpening (state_in before m.pool) m.entry.act m.entry.reply
opening_at before m next is = opens (state_in before m.pool) _ m.entry.caller m.entry.act m.entry.reply next is

round_told : (r : Reply) (n round : ℕ) → r ≡ reply.Opened n → r ≡ reply.Opened round → n ≡ round
round_told r n round a b = let same : reply.Opened n ≡ reply.Opened round = sym a ∙ b in cc same

pub few_opened : (before : List PoolEntry) (m : PoolEntry) (round : ℕ) → MayFollow before m → m.entry.reply ≡ reply.Opened round → round ≤ MOST_ROUNDS → (state_in before m.pool).openings < MOST_ROUNDS
few_opened before m round next is small =
    let o = opening_at before m next (ap is_opening is) in
    omega (arith, round_told m.entry.reply ((state_in before m.pool).openings + 1) round o.reply_is is, small)

pub opening_closes : (before : List PoolEntry) (m : PoolEntry) (round : ℕ) → MayFollow before m → m.entry.reply ≡ reply.Opened round → is_close m.entry.act ≡ true
opening_closes before m round next is = ap is_close (opening_at before m next (ap is_opening is)).act_is

-- the cut that a book gives of the next round is the one that is due
pub cut_due : (book : List Entry) (before : List PoolEntry) (m : PoolEntry) (kind : Kind) (horizon : ℕ) (cut : CutView) → book ≡ entries_in m.pool before → m.entry.act ≡ act.Close kind horizon
    → cut ≡ cut_of ((state_of book).openings + 1) (state_of book).ledger kind horizon → IsCutDue before (call_of m) cut
cut_due book before m kind horizon cut book_is is cut_is = λ k h other.
    let same : act.Close kind horizon ≡ act.Close k h = sym is ∙ other in
    let kinds : kind ≡ k = cc same in
    let days : horizon ≡ h = cc same in
    cut_is ∙ ap (λ (es : List Entry). cut_of ((state_of es).openings + 1) (state_of es).ledger kind horizon) book_is
    ∙ ap₂ (cut_of ((state_in before m.pool).openings + 1) (ledger_in before m.pool)) kinds days

-- ---- members that are replayed

-- books that have the members before a place, with one more
pub replayed_more : (history : List PoolEntry) (i : ℕ) (m : PoolEntry) → slice_get history i ≡ Some m → (before after : List PoolEntry) → before ≡ take i history → after ≡ before ++ m ∷ [] → after ≡ take (i + 1) history
replayed_more history i m is before after before_is put = put ∙ ap (λ (h : List PoolEntry). h ++ m ∷ []) before_is ∙ sym (one_more history i m is)

-- none are the first
pub none_are_first : (most : ℕ) (history members : List PoolEntry) → members ≡ [] → AreFirst most history members
none_are_first most history members none = record {
  are = none ∙ sym (ap (λ (ms : List PoolEntry). take (length ms) history) none);
  few = omega (arith, ap (λ (ms : List PoolEntry). length ms) none);
}

pub first_later : (most : ℕ) (history members : List PoolEntry) → AreFirst most history members → AreFirst (most + 1) history members
first_later most history members first = record { are = first.are; few = omega (arith, first.few) }
