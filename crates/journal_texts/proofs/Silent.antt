-- What an opening put behind the members of the records publishes nothing.
use Rattle.std.specs.Prelude.{drop, map}
use Rattle.std.proofs.Common.{◌≡◌, ◌∙◌, ℕ, ◌≤◌, true, true≢false, List, All, [], ◌∷◌, ◌++◌, length, sym, ap, refl, arith, append_assoc, length-append}
use Rattle.std.specs.Prelude.{Option}
use Rattle.std.proofs.lemmas.List.{append-nil}
use Rattle.std.proofs.lemmas.List.Elements.{All-head, All-tail, All-weaker, filter_passes}
use Rattle.std.proofs.Math.Seq.{drop-length, take-length}
use Rattle.setoff_model.specs.CutView.{CutView}
use Rattle.bureau_desk.specs.claim_history.specs.declared.call.PoolEntry.{PoolEntry}
use Rattle.bureau_desk.specs.claim_history.specs.declared.entry.Reply.{Reply}
use Rattle.bureau_desk.specs.claim_history.specs.declared.entry.Reply.TheVariants as reply
use Rattle.bureau_desk.specs.claim_history.specs.History.{is_opening}
use Rattle.bureau_desk.specs.claim_history.specs.Pools.{open_round_in}
use Rattle.bureau_desk.specs.claim_history.specs.PoolRounds.{cuts_after, cuts_of, ending_of, ending_reply, is_left_open, left_open}
use Rattle.bureau_desk.specs.claim_history.specs.Rounds.{cut_published}
use Rattle.bureau_desk.specs.claim_history.specs.States.{OpenRound}
use Rattle.bureau_desk.specs.claim_history.proofs.PoolCuts.{cuts_law}
use Rattle.bureau_desk.specs.claim_history.proofs.PoolEnds.{opens_so}
use Rattle.bureau_desk.specs.recorded_book.specs.Acting.{IsOpenedHistory}

-- ---- an opened history

cuts_none : (history : List PoolEntry) → cuts_after (length history) history ≡ []
cuts_none history =
    ap (λ (first : List PoolEntry). drop (length (cuts_of first)) (cuts_of history)) (take-length history) ∙ drop-length (cuts_of history)

-- an abandonment publishes nothing
silent : (r : Reply) (o : Option OpenRound) → is_opening r ≡ true → cut_published o (ending_reply r) ≡ []
silent (reply.Opened number) o opens = refl
silent r o opens = absurd (true≢false (sym opens))

ends_silent : (count : ℕ) (history ms : List PoolEntry) → count ≤ length history → All (λ m. is_opening m.entry.reply ≡ true) ms
    → cuts_after count (history ++ map ending_of ms) ≡ cuts_after count history
ends_silent count history [] le all = ap (cuts_after count) (append-nil history)
ends_silent count history (m ∷ ms) le all =
    let P : PoolEntry → Type 0 = λ x. is_opening x.entry.reply ≡ true in
    let e = ending_of m in
    ap (cuts_after count) (sym (append_assoc history (e ∷ []) (map ending_of ms)))
    ∙ ends_silent count (history ++ e ∷ []) ms (omega (arith, le, length-append history (e ∷ []))) (All-tail P m ms all)
    ∙ cuts_law count history e le
    ∙ ap (λ (cuts : List CutView). cuts_after count history ++ cuts) (silent m.entry.reply (open_round_in history m.pool) (All-head P m ms all))
    ∙ append-nil (cuts_after count history)

-- it begins with the records', and what is behind them publishes nothing
pub begun_parts : (opened begun : List PoolEntry) → IsOpenedHistory opened begun
    → (rest : List PoolEntry) × (begun ≡ opened ++ rest) × (cuts_after (length opened) begun ≡ [])
begun_parts opened begun is =
    let left : PoolEntry → Type 0 = λ m. is_left_open opened m ≡ true in
    let opens : All (λ m. is_opening m.entry.reply ≡ true) (left_open opened) =
    All-weaker left (λ m. is_opening m.entry.reply ≡ true) (λ m h. opens_so (open_round_in opened m.pool) m.entry.reply h) (left_open opened) (filter_passes (is_left_open opened) opened) in
    (map ending_of (left_open opened), is, ap (cuts_after (length opened)) is ∙ ends_silent (length opened) opened (left_open opened) (omega arith) opens ∙ cuts_none opened)
