-- A load that was opened, and how it ended.
use Rattle.std.specs.Prelude.{Option, IsTrue, drop, map, take, ◌-◌}
use Rattle.std.specs.Io.KnownBytes.{Appends}
use Rattle.std.proofs.Common.{◌≡◌, ◌∙◌, ⊎_elim, inl, ℕ, ◌<◌, ◌≤◌, Bool, false, List, [], ◌∷◌, ◌++◌, length, refl, sym, ap, subst, append_assoc, arith, length-append}
use Rattle.std.proofs.lemmas.List.{append-nil, take-append-drop}
use Rattle.std.proofs.Math.Seq.{take-append_seam}
use Rattle.bureau_edge.specs.Streams.{AppendsPart}
use Rattle.bureau_edge.proofs.Known.{Appends-none, Appends-then, AppendsPart-after, AppendsPart-front}
use Rattle.disk_model.specs.Calls.{Seen, IsPresent, Passes}
use Rattle.disk_model.proofs.Moments.{passes_still, passes_wide}
use Rattle.journal_texts.specs.bureau_desk.specs.claim_history.specs.declared.call.Call.{Call}
use Rattle.journal_texts.specs.bureau_desk.specs.claim_history.specs.declared.call.PoolEntry.{PoolEntry}
use Rattle.journal_texts.specs.bureau_desk.specs.claim_history.specs.Pools.{accepted_calls}
use Rattle.journal_texts.specs.bureau_desk.specs.claim_history.specs.PoolRounds.{cuts_after, ending_of, left_open}
use Rattle.journal_texts.specs.bureau_desk.specs.claim_history.proofs.Calls.{accepted_append}
use Rattle.journal_texts.specs.bureau_desk.specs.journal_replay.specs.Replays.{history_of}
use Rattle.journal_texts.specs.bureau_desk.specs.round_journal.specs.Opened.{AreFound}
use Rattle.journal_texts.specs.bureau_desk.specs.Opening.{HasDeskTurned}
use Rattle.journal_texts.specs.bureau_desk.proofs.Left.{left_law}
use Rattle.journal_texts.specs.printed_text.specs.request_text.specs.declared.request.Request.{Request}
use Rattle.journal_texts.specs.printed_text.specs.served_lines.specs.Ends.{is_full_end}
use Rattle.journal_texts.specs.printed_text.specs.served_lines.specs.Served.{Line}
use Rattle.journal_texts.specs.printed_text.specs.declared.exit_status.ExitStatus.{ExitStatus}
use Rattle.journal_texts.specs.printed_text.specs.declared.exit_status.ExitStatus.TheVariants as statuses
use Rattle.journal_texts.specs.printed_text.specs.Printing.{added_text, printed_of}
use Rattle.journal_texts.specs.printed_text.specs.Writing.{IsWritten, broken, whole}
use Rattle.journal_texts.specs.Journals.{HasRoomForAll, HoldsSound}
use Rattle.journal_texts.proofs.Written.{written_after, wrote_line}
use Rattle.group_runs.specs.disk_witness.specs.Shown.{Shown}
use Rattle.group_runs.specs.group_loader.specs.Groups.{HasGroupMoments, StandsForCalls, StandsForFirst, StandsForWhole}
use Rattle.group_runs.specs.group_loader.specs.Loading.{LoadView}
use Rattle.group_runs.specs.group_loader.specs.declared.loader.LoadStopped.{LoadStopped}
use Rattle.group_runs.specs.group_loader.proofs.Grown.{calls_whole}
use Rattle.group_runs.specs.declared.load_break.LoadBreak.TheVariants as breaks
use Rattle.group_runs.specs.Lines.{GroupsAreDue, group_calls, groups_add, groups_text, lines_add}
use Rattle.group_runs.specs.Order.{IsHeldFrom, WereShown}
use Rattle.group_runs.specs.Runs.{CanAllBeLoaded, HasBroken, HasLoaded, IsKeptBy, KeepsHistory, calls_of_group, groups_of, some_end}
use Rattle.group_runs.proofs.Lines.{calls_after_groups, groups_due, text_more}
use Rattle.group_runs.proofs.Order.{held_longer, held_now, order_behind}
use Rattle.journal_texts.proofs.Silent.{begun_parts}
use Rattle.load_command.proofs.Fronts.{all_keeps, first_keeps}
use Rattle.load_command.proofs.Full.{none_full}
use Rattle.load_command.specs.Headline.{HasTakenFirst, HasTakenInOrder, IsLoadHeadline, LoadEnd, SurvivesGroups, Taking, all_kept, but_last_group, disk_failed, load_text, requests_of, sink_failed, sure_load_text}
use Rattle.load_command.specs.Due.{IsLoadBegun, IsLoadDue, IsLoadNotBegunDue, WroteInOrder, device_text, loaded}

-- ---- the text that was surely taken

-- a sink took this text, and perhaps more
abbrev Takes : Option (List ℕ) → Option (List ℕ) → List ℕ → Type 0
Takes x z text = (more : List ℕ) × Appends x z (text ++ more)

module _ (opened begun : List PoolEntry) where
  sure_some : (groups : List (List Line)) → 0 < length groups → sure_load_text opened begun groups ≡ load_text opened begun (but_last_group groups)
  sure_some [] some = absurd (omega (arith, some))
  sure_some (g ∷ groups) some = refl

  but_last_push : (groups : List (List Line)) (last : List Line) → but_last_group (groups ++ last ∷ []) ≡ groups
  but_last_push groups last =
      ap (λ (n : ℕ). take n (groups ++ last ∷ [])) (omega (arith, length-append groups (last ∷ []))) ∙ take-append_seam groups (last ∷ [])

  sure_push : (groups : List (List Line)) (last : List Line) → sure_load_text opened begun (groups ++ last ∷ []) ≡ load_text opened begun groups
  sure_push groups last =
      sure_some (groups ++ last ∷ []) (omega (arith, length-append groups (last ∷ []))) ∙ ap (load_text opened begun) (but_last_push groups last)

  -- the text of all but the last is at the front
  front_text : (groups : List (List Line)) → (rest : List ℕ) × (load_text opened begun groups ≡ load_text opened begun (but_last_group groups) ++ rest)
  front_text groups =
      let first = but_last_group groups in
      let last = drop (length groups - 1) groups in
      let line = added_text opened (drop (length opened) begun) in
      let rest = groups_text (begun ++ groups_add begun first) last in (
        rest,
        ap (load_text opened begun) (sym (take-append-drop (length groups - 1) groups))
            ∙ ap (λ (t : List ℕ). line ++ t) (text_more begun first last) ∙ sym (append_assoc line (groups_text begun first) rest),
      )

  sure_taken : (x z : Option (List ℕ)) (groups : List (List Line)) → Takes x z (load_text opened begun groups) → HasTakenFirst x z opened begun groups
  sure_taken x z [] taken = (load_text opened begun [] ++ taken.0, taken.1)
  sure_taken x z (g ∷ groups) taken =
      let front = front_text (g ∷ groups) in
      let first = load_text opened begun (but_last_group (g ∷ groups)) in
      (front.0 ++ taken.0, subst (Appends x z) (ap (λ (t : List ℕ). t ++ taken.0) front.1 ∙ append_assoc first front.0 taken.0) taken.1)

-- ---- a load

module _ {D : Type 0} (seen : D → Seen) (reads_now : (d : D) → IsTrue (seen d).tells → IsPresent (seen d) (seen d).reads) (old : D) (first : LoadView D) (from : ℕ) (o : IsLoadBegun seen old first from) where
  abbrev opened : List PoolEntry
  opened = history_of o.opening.records

  abbrev begun : List PoolEntry
  begun = first.books.members

  from_one : take from begun ≡ opened
  from_one =
      ap (λ (n : ℕ). take n begun) (o.from_is ∙ o.opening.opened_with)
      ∙ ap (take (length opened)) (o.history ∙ o.opening.history)
      ∙ take-append_seam opened (map ending_of (left_open opened))

  -- the lines of the abandonments
  begun_text : printed_of (take from begun) (drop from begun) [] ≡ added_text opened (drop (length opened) begun)
  begun_text =
      append-nil (added_text (take from begun) (drop from begun))
      ∙ ap (λ (l : List PoolEntry). added_text l (drop from begun)) from_one
      ∙ ap (λ (n : ℕ). added_text opened (drop n begun)) (o.from_is ∙ o.opening.opened_with)

  -- it published nothing since
  pub none_published : [] ≡ cuts_after from begun
  none_published =
      sym (ap (λ (n : ℕ). cuts_after n begun) (o.from_is ∙ o.opening.opened_with)
      ∙ ap (cuts_after (length opened)) o.history
      ∙ (begun_parts opened o.desk.history o.opening.history).2)

  pub from_few : from ≤ length begun
  from_few = omega (arith, o.from_is, o.opening.opened_with, ap (λ (l : List PoolEntry). length l) (o.history ∙ o.opening.history), length-append opened (map ending_of (left_open opened)))

  -- within the bound no line is full
  abbrev NoneFull : List (List Request) → List (List Line) → Type 0
  NoneFull batches groups = HasRoomForAll o.opening.records (requests_of batches) → some_end is_full_end groups ≡ false

  no_line_full : (batches : List (List Request)) (groups : List (List Line)) (tried : List Line) (low high : ℕ) (status : ExitStatus) (told : List ℕ) → CanAllBeLoaded batches → LoadEnd low high (groups_of batches) groups tried status told
      → GroupsAreDue begun (groups ++ tried ∷ []) → KeepsHistory (begun ++ groups_add begun groups) → NoneFull batches groups
  no_line_full batches groups tried low high status told can ended due keeps =
      none_full o.opening.records begun batches groups tried low high status told can ended due o.keeps (o.history ∙ o.opening.history) keeps

  told_first : IsTrue (seen old).tells → IsTrue (seen first.journal.disk).tells
  told_first told = ap (λ (d : D). (seen d).tells) o.disk ∙ o.opening.same ∙ told

  later_so : (seen old).count ≤ (seen first.journal.disk).count
  later_so = subst (λ (d : D). (seen old).count ≤ (seen d).count) (sym o.disk) o.opening.later

  module _ (new : D) (groups : List (List Line)) (tried : List Line)
      (kept : IsKeptBy seen first.journal.disk new (accepted_calls begun) (group_calls begun groups) (calls_of_group (begun ++ groups_add begun groups) tried)) where
    abbrev history : List PoolEntry
    history = begun ++ groups_add begun groups

    abbrev tried_calls : List Call
    tried_calls = calls_of_group history tried

    told_new : IsTrue (seen old).tells → IsTrue (seen new).tells
    told_new told = kept.tells ∙ told_first told

    moments : IsTrue (seen old).tells → HasGroupMoments (seen new) (seen first.journal.disk).moment (accepted_calls begun) (group_calls begun groups) tried_calls
    moments told = kept.grows (told_first told) (seen first.journal.disk).moment (accepted_calls begun) [] (sym (append-nil (accepted_calls begun))) (o.begins (told_first told))

    at_exit : IsTrue (seen old).tells → (c : List ℕ) → IsPresent (seen new) c → StandsForWhole (accepted_calls history) tried_calls c
    at_exit told c present =
        let m = moments told in
        subst (λ (calls : List Call). StandsForWhole calls tried_calls c) (calls_whole (accepted_calls begun) (group_calls begun groups) ∙ sym (calls_after_groups begun groups))
        (m.last (seen new).moment c (m.below (length (group_calls begun groups)) (omega arith)) (omega arith) present)

    survives : IsTrue (seen old).tells → SurvivesGroups seen old new begun history groups tried_calls
    survives told = record {
      first = (seen o.desk.at_first_sync).moment;
      opened = first.journal.disk;
      turned = subst (λ (d : D). HasDeskTurned (seen old) (seen o.desk.at_first_sync).moment (seen d)) (sym o.disk) (o.opening.turned told);
      stays = passes_wide (seen first.journal.disk) (seen new) (StandsForFirst (accepted_calls begun)) (λ c. Unit {0}) (kept.goes (told_first told)) (λ c holds. tt);
      moments = moments told;
      at_exit = at_exit told;
    }

    on_disk : IsTrue (seen old).tells → StandsForWhole (accepted_calls history) tried_calls (seen new).reads
    on_disk told = at_exit told (seen new).reads (reads_now new (told_new told))

    holds : IsTrue (seen old).tells → (h : List PoolEntry) → KeepsHistory h → StandsForCalls (seen new).reads (accepted_calls h) → HoldsSound (seen new)
    holds told h k stands =
        let found = left_law h (seen new).reads k.legal k.within k.keepable (accepted_calls h, inl refl, stands) in
        record { tells = told_new told; records = found.0; found = subst (λ (b : Bool). AreFound b (seen new).reads found.0) (sym (told_new told)) found.1; sound = found.2 }

    sound_at_end : KeepsHistory history → KeepsHistory (history ++ lines_add history tried) → IsTrue (seen old).tells → HoldsSound (seen new)
    sound_at_end k k' told = ⊎_elim
        (λ alone. holds told history k alone)
        (λ more. holds told (history ++ lines_add history tried) k' (subst (StandsForCalls (seen new).reads) (sym (accepted_append history (lines_add history tried))) more))
        (on_disk told)

    headline : (Taken : Taking) (batches : List (List Request)) (status : ExitStatus) (told : List ℕ) → LoadEnd (seen old).count (seen new).count (groups_of batches) groups tried status told
        → Taken opened begun groups → GroupsAreDue begun (groups ++ tried ∷ []) → NoneFull batches groups → KeepsHistory history → KeepsHistory (history ++ lines_add history tried)
        → IsLoadHeadline seen Taken old new batches status (load_text opened begun groups ++ told)
    headline Taken batches status told ended taken due none k k' = record {
      opened = opened;
      begun = begun;
      groups = groups;
      tried = tried;
      history = history;
      is_history = record { records = o.opening.records; found = o.opening.found; sound = o.opening.sound; opened_is = refl; begins = o.history ∙ o.opening.history; parts = refl };
      told = told;
      ended = ended;
      text_is = refl;
      taken = taken;
      due = due;
      none_full = none;
      keeps = k;
      keeps_tried = k';
      on_disk = on_disk;
      sound = sound_at_end k k';
      survives = survives;
    }

  -- ---- the order

  -- each image at the end of the opening stands for its calls
  present : IsTrue (seen first.journal.disk).tells → (c : List ℕ) → IsPresent (seen first.journal.disk) c → StandsForCalls c (accepted_calls begun)
  present told c is =
      let m = o.begins told in
      let calls = accepted_calls begun in
      ⊎_elim
      (λ alone. subst (StandsForCalls c) (append-nil calls) alone)
      (λ more. subst (StandsForCalls c) (append-nil (calls ++ []) ∙ append-nil calls) more)
      (m.last (seen first.journal.disk).moment c (omega (arith, m.begins)) (omega arith) is)

  module _ (new : D) (calls : List (List Call)) (tried : List Call) (kept : IsKeptBy seen first.journal.disk new (accepted_calls begun) calls tried) where
    opening_held : IsTrue (seen new).tells → IsHeldFrom seen first.journal.disk new (accepted_calls begun)
    opening_held told =
        let disk = first.journal.disk in
        let base = accepted_calls begun in
        let told_then : IsTrue (seen disk).tells = subst (λ (b : Bool). IsTrue b) kept.tells told in
        held_longer seen disk disk new base [] (held_now seen disk base (present told_then)) (subst (λ (l : List Call). Passes (seen disk) (seen new) (StandsForFirst l)) (sym (append-nil base)) (kept.goes told_then))

    -- the sink and the disk were shown at the end of the opening, and then before each group
    in_order : (x y z : Option (List ℕ)) (u v w : List (Shown D)) (groups : List (List Line)) → v ≡ u ++ (record { held = x; disk = first.journal.disk }) ∷ [] → Appends x y (added_text opened (drop (length opened) begun))
        → WereShown seen new y v w begun groups → HasTakenFirst x z opened begun groups → HasTakenInOrder seen new x z u w opened begun groups
    in_order x y z u v w groups is line s taken =
        let one : Shown D = record { held = x; disk = first.journal.disk } in
        record {
          taken = taken;
          shown = one ∷ s.shown;
          were_shown = s.were_shown ∙ ap (λ (l : List (Shown D)). l ++ s.shown) is ∙ append_assoc u (one ∷ []) s.shown;
          order = ((Appends-none x, opening_held), order_behind seen new x y (added_text opened (drop (length opened) begun)) line begun groups s.shown s.order);
        }

  -- nothing was tried
  none_due : (groups : List (List Line)) → GroupsAreDue begun groups → GroupsAreDue begun (groups ++ [] ∷ [])
  none_due groups due = groups_due begun groups ([] ∷ []) due (tt, tt)

  none_more : (h : List PoolEntry) → KeepsHistory h → KeepsHistory (h ++ lines_add h [])
  none_more h k = subst KeepsHistory (sym (append-nil h)) k

  -- the sink failed at the lines of the abandonments
  pub wrote_begun : (x y : Option (List ℕ)) (u v : List (Shown D)) → v ≡ u ++ (record { held = x; disk = first.journal.disk }) ∷ [] → AppendsPart x y (printed_of (take from begun) (drop from begun) [])
      → WroteInOrder seen first.journal.disk (λ Taken. IsLoadNotBegunDue seen Taken old first.journal.disk) x y u v statuses.Sink
  wrote_begun x y u v shown part =
      let none : List (List Line) = [] in
      let d = first.journal.disk in
      let kept : IsKeptBy seen d d (accepted_calls begun) [] [] = record {
        tells = refl;
        goes = λ told. passes_still (seen d) (StandsForFirst (accepted_calls begun));
        grows = λ told started base groups is has. subst (λ (gs : List (List Call)). HasGroupMoments (seen d) started base gs []) (sym (append-nil groups)) has;
      } in
      let one : Shown D = record { held = x; disk = d } in
      let Taken = HasTakenInOrder seen d x y u v in
      let taken : Taken opened begun none = record { taken = (part.0, part.3); shown = one ∷ []; were_shown = shown; order = ((Appends-none x, opening_held d [] [] kept), tt) } in
      let text = load_text opened begun none ++ [] in
      let k : KeepsHistory (begun ++ groups_add begun none) = subst KeepsHistory (sym (append-nil begun)) o.keeps in
      wrote_line (IsLoadNotBegunDue seen Taken old d) x y statuses.Sink text statuses.Sink
      (λ batches. loaded statuses.Sink text (headline d none [] kept Taken batches statuses.Sink [] (sink_failed (groups_of batches) refl refl) taken (tt, tt) (λ room. refl) k (none_more (begun ++ groups_add begun none) k)))
      (broken (AppendsPart-front x y (load_text opened begun none) [] (AppendsPart-front x y (added_text opened (drop (length opened) begun)) [] (subst (AppendsPart x y) begun_text part))))

  module _ (batches : List (List Request)) (can : CanAllBeLoaded batches) (x y z : Option (List ℕ)) (u v w : List (Shown D)) (shown : v ≡ u ++ (record { held = x; disk = first.journal.disk }) ∷ [])
      (before : Appends x y (printed_of (take from begun) (drop from begun) [])) where
    abbrev line : List ℕ
    line = added_text opened (drop (length opened) begun)

    printed : Appends x y line
    printed = subst (Appends x y) begun_text before

    with_line : (q : Option (List ℕ)) (text : List ℕ) → Appends y q text → Appends x q (line ++ text)
    with_line q text taken = Appends-then x y q line text printed taken

    -- all groups were kept and written
    pub wrote_loaded : (new : D) (status : ExitStatus) → HasLoaded seen first new batches y z v w status → WroteInOrder seen new (λ Taken. IsLoadDue seen Taken old new batches) x z u w status
    wrote_loaded new status l =
        let text = load_text opened begun l.groups in
        let taken : Appends x z text = with_line z (groups_text begun l.groups) l.written in
        let more : Appends x z (text ++ []) = subst (Appends x z) (sym (append-nil text)) taken in
        let Taken = HasTakenInOrder seen new x z u w in
        let ended : LoadEnd (seen old).count (seen new).count (groups_of batches) l.groups [] status [] =
        subst (λ (s : ExitStatus). LoadEnd (seen old).count (seen new).count (groups_of batches) l.groups [] s []) (sym l.status_is) (all_kept l.requests_are refl) in
        wrote_line (IsLoadDue seen Taken old new batches) x z status (text ++ []) status
        (loaded status (text ++ [])
        (headline new l.groups [] l.kept Taken batches status [] ended
        (in_order new (group_calls begun l.groups) [] l.kept x y z u v w l.groups shown printed l.shown (sure_taken opened begun x z l.groups ([], more))) (none_due l.groups l.due)
        (no_line_full batches l.groups [] (seen old).count (seen new).count status [] can ended (none_due l.groups l.due) l.keeps) l.keeps (none_more (begun ++ groups_add begun l.groups) l.keeps)))
        (whole more)

    -- the sink failed at the text of a group
    pub wrote_untold : (new : D) → HasBroken seen first (groups_of batches) y z v w (breaks.Sink new) → WroteInOrder seen new (λ Taken. IsLoadDue seen Taken old new batches) x z u w statuses.Sink
    wrote_untold new b =
        let h = b.breaks in
        let groups = h.groups ++ h.last ∷ [] in
        let text = load_text opened begun groups in
        let told = load_text opened begun h.groups in
        let taken : Takes x z told = (h.more, subst (Appends x z) (sym (append_assoc line (groups_text begun h.groups) h.more)) (with_line z (groups_text begun h.groups ++ h.more) h.told)) in
        let Taken = HasTakenInOrder seen new x z u w in
        let ended : LoadEnd (seen old).count (seen new).count (groups_of batches) groups [] statuses.Sink [] =
        sink_failed b.rest (b.in_order ∙ ap (λ (l : List (List Request)). l ++ b.rest) (sym h.requests_are)) refl in
        wrote_line (IsLoadDue seen Taken old new batches) x z statuses.Sink (text ++ []) statuses.Sink
        (loaded statuses.Sink (text ++ [])
        (headline new groups [] h.kept Taken batches statuses.Sink [] ended
        (in_order new (group_calls begun groups) [] h.kept x y z u v w groups shown printed h.shown (subst (Takes x z) (sym (sure_push opened begun h.groups h.last)) taken)) (none_due groups h.due)
        (no_line_full batches groups [] (seen old).count (seen new).count statuses.Sink [] can ended (none_due groups h.due) h.keeps) h.keeps (none_more (begun ++ groups_add begun groups) h.keeps)))
        (broken (AppendsPart-front x z text [] (AppendsPart-after x y z line (groups_text begun groups) printed h.part)))

    -- the disk failed at a group, which was told
    pub wrote_unkept : (q : Option (List ℕ)) (stopped : LoadStopped D) (status : ExitStatus) → HasBroken seen first (groups_of batches) y z v w (breaks.Disk stopped) → IsWritten z q statuses.Disk (device_text stopped.device.before stopped.device.after) status
        → WroteInOrder seen stopped.disk (λ Taken. IsLoadDue seen Taken old stopped.disk batches) x q u w status
    wrote_unkept q stopped status b written =
        let h = b.breaks in
        let told = device_text stopped.device.before stopped.device.after in
        let text = load_text opened begun h.groups in
        let kept : Appends x z text = with_line z (groups_text begun h.groups) h.written in
        let Taken = HasTakenInOrder seen stopped.disk x q u w in
        let ended : LoadEnd (seen old).count (seen stopped.disk).count (groups_of batches) h.groups h.last statuses.Disk told =
        disk_failed b.rest stopped.device.before stopped.device.after (b.in_order ∙ ap (λ (l : List (List Request)). l ++ b.rest) (sym h.requests_are)) (omega (arith, later_so, h.low)) h.now h.risen in
        wrote_line (IsLoadDue seen Taken old stopped.disk batches) x q statuses.Disk (text ++ told) status
        (loaded statuses.Disk (text ++ told)
        (headline stopped.disk h.groups h.last h.kept Taken batches statuses.Disk told ended
        (in_order stopped.disk (group_calls begun h.groups) (calls_of_group (begun ++ groups_add begun h.groups) h.last) h.kept x y q u v w h.groups shown printed h.shown (sure_taken opened begun x q h.groups (then_some q text told status kept written))) h.due
        (no_line_full batches h.groups h.last (seen old).count (seen stopped.disk).count statuses.Disk told can ended h.due (first_keeps begun h.groups h.last h.keeps)) (first_keeps begun h.groups h.last h.keeps) (all_keeps begun h.groups h.last h.keeps)))
        (written_after x z q text told statuses.Disk status kept written) where
          then_some : (q : Option (List ℕ)) (text said : List ℕ) (status : ExitStatus) → Appends x z text → IsWritten z q statuses.Disk said status → Takes x q text
          then_some q text said status kept (whole all) = (said, Appends-then x z q text said kept all)
          then_some q text said status kept (broken part) = (part.0, Appends-then x z q text part.0 kept part.3)
