-- What is read later of the disk that a run leaves is what the run printed.
use Rattle.std.specs.Prelude.{filter, map, reverse, if◌then◌else◌, Option, Some, None}
use Rattle.std.proofs.Common.{◌≡◌, ◌∙◌, ⊎_elim, inl, inr, ℕ, Bool, true, List, [], ◌∷◌, ◌++◌, All, drop, length, refl, sym, ap, ap₂, subst, append_assoc, true≢false}
use Rattle.std.proofs.lemmas.List.{append-nil, reverse-append}
use Rattle.std.proofs.lemmas.List.Elements.{All-append, All-drop, All-filter, All-head, All-map, All-push, All-tail, All-weaker, filter_passes}
use Rattle.std.proofs.Math.Seq.{drop-append_seam}
use Rattle.disk_model.specs.Calls.{Seen}
use Rattle.live_runs.specs.claim_history.specs.declared.call.Call.{Call}
use Rattle.live_runs.specs.claim_history.specs.declared.call.PoolEntry.{PoolEntry}
use Rattle.live_runs.specs.claim_history.specs.declared.entry.Reply.{Reply}
use Rattle.live_runs.specs.claim_history.specs.declared.entry.Reply.TheVariants as reply
use Rattle.live_runs.specs.claim_history.specs.States.{OpenRound}
use Rattle.live_runs.specs.claim_history.specs.History.{is_accepted, is_no_refusal}
use Rattle.live_runs.specs.claim_history.specs.Pools.{IsLegal, accepted_calls, accepted_members, answered, call_of, due_member, due_of_past, due_reply, open_round_in, replay_after, replay_of}
use Rattle.live_runs.specs.claim_history.specs.PoolRounds.{ending_of, ending_reply, is_left_open, left_open, opened}
use Rattle.live_runs.specs.claim_history.proofs.Kept.{kept_append, kept_step, replay_append, replayed_past, same_due}
use Rattle.live_runs.specs.claim_history.proofs.PoolRoom.{due_is}
use Rattle.live_runs.specs.claim_history.proofs.Pools.{pool_replay_law}
use Rattle.live_runs.specs.act_bodies.specs.Bodies.{body_of, is_keepable}
use Rattle.live_runs.specs.act_bodies.proofs.Calls.{one_call_law}
use Rattle.live_runs.specs.round_journal.specs.Records.{AreKeepable, bodies_of, recorded_call}
use Rattle.live_runs.specs.round_journal.specs.declared.record.Record.{Record}
use Rattle.live_runs.specs.round_journal.proofs.OneReading.{one_list}
use Rattle.live_runs.specs.journal_replay.specs.Replays.{AreSound, history_of}
use Rattle.live_runs.specs.recorded_book.specs.Acting.{IsOpenedHistory}
use Rattle.live_runs.specs.recorded_book.specs.Calls.{CanBeKept, LeftBy, StandsForLeft, bodies_of_calls}
use Rattle.live_runs.specs.bureau_desk.specs.Opening.{HasViewed}
use Rattle.live_runs.specs.printed_text.specs.Printing.{added_text, ends_text, member_text}
use Rattle.live_runs.specs.printed_text.proofs.Members.{added_both}
use Rattle.bureau_reports.specs.history_text.specs.Histories.{IsRoundText, history_text}
use Rattle.bureau_reports.specs.history_text.specs.Accepted.{accepted_text}
use Rattle.bureau_reports.specs.history_text.proofs.Accepted.{publication_accepted, replayed_law, retold_law, same_text, statement_law}
use Rattle.live_runs.specs.batch_runs.specs.Runs.{Done, all_added, text_of}
use Rattle.bureau_commands.specs.Headline.{run_text}
use Rattle.bureau_commands.specs.Laws.{AreAllAccepted, HistoryLaw, IsTriedMember, kept_text}

-- ---- the text of what batches added

abbrev Replied : Done → Type 0
Replied b = ends_text b.answers ≡ []

added_by_all : (before : List PoolEntry) (done : List Done) → All Replied done → text_of before done ≡ added_text before (all_added done)
added_by_all before [] all = refl
added_by_all before (b ∷ bs) all =
    ap₂ (λ (s t : List ℕ). (added_text before b.added ++ s) ++ t) (All-head Replied b bs all) (added_by_all (before ++ b.added) bs (All-tail Replied b bs all))
    ∙ ap (λ (t : List ℕ). t ++ added_text (before ++ b.added) (all_added bs)) (append-nil (added_text before b.added))
    ∙ sym (added_both before b.added (all_added bs))

-- ---- accepted members

abbrev Accepted : PoolEntry → Type 0
Accepted m = is_accepted m.entry ≡ true

-- members of which the accepted ones were told one after another
accepted_both : (before xs ys : List PoolEntry) → accepted_text before (xs ++ ys) ≡ accepted_text before xs ++ accepted_text (before ++ xs) ys
accepted_both before [] ys = ap (λ (h : List PoolEntry). accepted_text h ys) (sym (append-nil before))
accepted_both before (m ∷ xs) ys =
    let here : List ℕ = if is_accepted m.entry then member_text before m else [] in
    ap (λ (t : List ℕ). here ++ t) (accepted_both (before ++ m ∷ []) xs ys ∙ ap (λ (h : List PoolEntry). accepted_text (before ++ m ∷ []) xs ++ accepted_text h ys) (append_assoc before (m ∷ []) xs))
    ∙ sym (append_assoc here (accepted_text (before ++ m ∷ []) xs) (accepted_text (before ++ (m ∷ xs)) ys))

-- where each is accepted, all are told
accepted_all : (before added : List PoolEntry) → All Accepted added → accepted_text before added ≡ added_text before added
accepted_all before [] all = refl
accepted_all before (m ∷ added) all =
    ap₂ (λ (b : Bool) (t : List ℕ). (if b then member_text before m else []) ++ t) (All-head Accepted m added all) (accepted_all (before ++ m ∷ []) added (All-tail Accepted m added all))

-- the abandonment of a round that was opened is accepted
ending_accepts : (o : Option OpenRound) (r : Reply) → opened o r ≡ true → is_no_refusal (ending_reply r) ≡ true
ending_accepts (Some round) (reply.Opened number) is = refl
ending_accepts None r is = absurd (true≢false (sym is))
ending_accepts (Some round) r is = absurd (true≢false (sym is))

endings_accepted : (history : List PoolEntry) → All Accepted (map ending_of (left_open history))
endings_accepted history =
    All-map Accepted ending_of (left_open history)
    (All-weaker (λ m. is_left_open history m ≡ true) (λ m. Accepted (ending_of m)) (λ m is. ending_accepts (open_round_in history m.pool) m.entry.reply is) (left_open history)
    (filter_passes (is_left_open history) history))

-- ---- what a run leaves on its disk

abbrev Keepable : Call → Type 0
Keepable call = is_keepable call ≡ true

-- records whose bodies are those of calls keep these
recorded_calls : (records : List Record) (calls : List Call) → AreKeepable records → All Keepable calls → bodies_of records ≡ bodies_of_calls calls → map recorded_call records ≡ calls
recorded_calls [] [] can able same = refl
recorded_calls [] (call ∷ calls) can able same = absurd (cc same)
recorded_calls (r ∷ records) [] can able same = absurd (cc same)
recorded_calls (r ∷ records) (call ∷ calls) can able same =
    let head : body_of (recorded_call r) ≡ body_of call = cc same in
    let tail : bodies_of records ≡ bodies_of_calls calls = cc same in
    let RecordKept : Record → Type 0 = λ x. is_keepable (recorded_call x) ≡ true in
    let first : recorded_call r ≡ call = one_call_law (recorded_call r) call (All-head RecordKept r records can) (All-head Keepable call calls able) head in
    let rest : map recorded_call records ≡ calls = recorded_calls records calls (All-tail RecordKept r records can) (All-tail Keepable call calls able) tail in
    λ i. first i ∷ rest i

keepable_alone : (history : List PoolEntry) → CanBeKept history → All Keepable (accepted_calls history)
keepable_alone history can =
    All-map Keepable call_of (filter (λ m. is_accepted m.entry) history) (All-filter (λ m. is_accepted m.entry) (λ m. Keepable (call_of m)) history can)

keepable_left : (history : List PoolEntry) (calls : List Call) → CanBeKept history → LeftBy history calls → All Keepable calls
keepable_left history calls can left = ⊎_elim
    (λ is. subst (All Keepable) (sym is) (keepable_alone history can))
    (λ more.
    let t = more.1 in
    let KeptMember : PoolEntry → Type 0 = λ m. Keepable (call_of m) in
    let from : All KeptMember (t.tried ∷ t.later) = subst (All KeptMember) (ap (drop (length t.before)) t.parts ∙ drop-append_seam t.before (t.tried ∷ t.later)) (All-drop KeptMember (length t.before) history can) in
    let one : Keepable more.0 = subst Keepable (sym t.is) (All-head KeptMember t.tried t.later from) in
    subst (All Keepable) (sym more.2) (All-push Keepable (accepted_calls history) more.0 (keepable_alone history can) one))
    left

-- the members of what is left by a history
record AreLeft (history : List PoolEntry) (members : List PoolEntry) : Type 0 where
  last : List PoolEntry
  tried : IsTriedMember history last
  are : members ≡ accepted_members history ++ last
  told : added_text (accepted_members history) last ≡ added_text history last

left_members : (history : List PoolEntry) (calls : List Call) → IsLegal history → LeftBy history calls → AreLeft history (replay_of calls)
left_members history calls legal left = ⊎_elim
    (λ is. record {
      last = [];
      tried = inl refl;
      are = ap replay_of is ∙ replayed_law history legal ∙ sym (append-nil (accepted_members history));
      told = refl;
    })
    (λ more.
    let call = more.0 in
    let past = replay_after [] (accepted_calls history) in
    let m : PoolEntry = answered call (due_reply history call) in
    let due : due_of_past past call ≡ due_reply history call =
    ap (λ (p : List PoolEntry). due_of_past p call) (replayed_past history legal) ∙ same_due (reverse history) call ∙ due_is history call in
    record {
      last = m ∷ [];
      tried = inr (call, more.1, refl);
      are = ap replay_of more.2 ∙ ap reverse (replay_append [] (accepted_calls history) (call ∷ []))
          ∙ reverse-append (due_member past call ∷ []) past
          ∙ ap₂ (λ (ms : List PoolEntry) (r : Reply). ms ++ answered call r ∷ []) (replayed_law history legal) due;
      told = ap (λ (t : List ℕ). t ++ []) (same_text history m);
    })
    left

-- what is read of such bytes later is the replay of the calls that are left
read_again : (history read : List PoolEntry) (bytes : List ℕ) (stands : StandsForLeft history bytes) → CanBeKept history → HasViewed true bytes read → read ≡ replay_of stands.0
read_again history read bytes stands can viewed =
    let bodies : bodies_of viewed.records ≡ bodies_of_calls stands.0 = one_list bytes (bodies_of viewed.records) (bodies_of_calls stands.0) (viewed.found.reading refl).0 (inl stands.2) in
    viewed.history_is ∙ ap replay_of (recorded_calls viewed.records stands.0 viewed.found.keepable (keepable_left history stands.0 can stands.1) bodies)

-- ---- its text

module _ (records : List Record) (opened begun : List PoolEntry) (done : List Done) (sound : AreSound records) (opened_is : opened ≡ history_of records) (begins : IsOpenedHistory opened begun) where
  endings : List PoolEntry
  endings = map ending_of (left_open opened)

  behind : drop (length opened) begun ≡ endings
  unfolding endings
  behind = ap (drop (length opened)) begins ∙ drop-append_seam opened endings

  -- the first members are all accepted
  begun_text : accepted_text [] begun ≡ history_text None opened ++ added_text opened (drop (length opened) begun)
  unfolding endings behind
  begun_text =
      let first : All Accepted opened = subst (All Accepted) (sym opened_is) sound.accepted in
      let all : All Accepted begun = subst (All Accepted) (sym begins) (All-append Accepted opened endings first (endings_accepted opened)) in
      accepted_all [] begun all ∙ ap (added_text []) begins ∙ added_both [] opened endings
      ∙ ap (λ (ms : List PoolEntry). added_text [] opened ++ added_text opened ms) (sym behind)

  all_text : (history : List PoolEntry) → history ≡ begun ++ all_added done → accepted_text [] history ≡ history_text None opened ++ kept_text opened begun done
  all_text history parts =
      ap (accepted_text []) parts ∙ accepted_both [] begun (all_added done)
      ∙ ap (λ (t : List ℕ). t ++ accepted_text begun (all_added done)) begun_text
      ∙ append_assoc (history_text None opened) (added_text opened (drop (length opened) begun)) (accepted_text begun (all_added done))

  whole_text : AreAllAccepted done → kept_text opened begun done ≡ run_text opened begun done
  whole_text all =
      ap (λ (t : List ℕ). added_text opened (drop (length opened) begun) ++ t) (accepted_all begun (all_added done) all.accepted ∙ sym (added_by_all begun done all.replied))

-- ---- the law

pub history_law : {D : Type 0} (seen : D → Seen) → HistoryLaw seen
history_law seen output old new batches status text ran told read viewed =
    let history = ran.history in
    let h = ran.is_history in
    let now : HasViewed true (seen new).reads read = subst (λ (b : Bool). HasViewed b (seen new).reads read) (ran.sound told).tells viewed in
    let stands = ran.on_disk told in
    let left = left_members history stands.0 ran.legal stands.1 in
    let replayed : read ≡ replay_of stands.0 = read_again history read (seen new).reads stands ran.keepable now in
    let members : read ≡ accepted_members history ++ left.last = replayed ∙ left.are in
    let legal : IsLegal read = subst IsLegal (sym replayed) (pool_replay_law stands.0) in
    record {
      last = left.last;
      tried = left.tried;
      members = members;
      text = ap (added_text []) members ∙ added_both [] (accepted_members history) left.last
          ∙ ap₂ (λ (s t : List ℕ). s ++ t) (retold_law [] history ∙ all_text h.records ran.opened ran.begun ran.done h.sound h.opened_is h.begins history h.parts) left.told;
      whole = whole_text h.records ran.opened ran.begun ran.done h.sound h.opened_is h.begins;
      statement = λ before later m round t parts is is_told.
          let rest = accepted_members later ++ left.last in
          let own : accepted_members (before ++ m ∷ later) ≡ accepted_members before ++ m ∷ accepted_members later =
          kept_append before (m ∷ later) ∙ ap (λ (ms : List PoolEntry). accepted_members before ++ ms) (kept_step m later true (publication_accepted round m.entry is)) in
          let whole : read ≡ accepted_members before ++ m ∷ rest =
          members ∙ ap (λ (ms : List PoolEntry). accepted_members ms ++ left.last) parts ∙ ap (λ (ms : List PoolEntry). ms ++ left.last) own ∙ append_assoc (accepted_members before) (m ∷ accepted_members later) left.last in
          statement_law.one (accepted_members before) rest m round t (subst IsLegal whole legal) is (subst (λ (ms : List PoolEntry). IsRoundText round m.pool ms t) whole is_told) ∙ statement_law.kept before m;
    }
