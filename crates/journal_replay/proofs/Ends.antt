-- A replay has one end.
use Rattle.std.specs.Prelude.{reverse}
use Rattle.std.proofs.Common.{◌≡◌, Bool, true, false, not, ◌||◌, List, [], ◌∷◌, ◌++◌, map, All, refl, sym, ◌∙◌, ap, subst, true≢false}
use Rattle.std.proofs.lemmas.List.{reverse-reverse}
use Rattle.std.proofs.lemmas.List.Elements.{All-head, All-tail}
use Rattle.limited_book.specs.claim_history.specs.declared.call.Call.{Call}
use Rattle.limited_book.specs.claim_history.specs.declared.call.PoolEntry.{PoolEntry}
use Rattle.limited_book.specs.claim_history.specs.History.{is_accepted, is_no_refusal}
use Rattle.limited_book.specs.claim_history.specs.Pools.{due_member, due_of_past, due_reply, replay_after}
use Rattle.limited_book.specs.claim_history.specs.PoolNeeds.{FitsPast, IsWithinLimitsPast, is_full}
use Rattle.limited_book.specs.claim_history.proofs.Pasts.{all_reverse}
use Rattle.limited_book.specs.claim_history.proofs.PoolRoom.{full_law}
use Rattle.round_journal.specs.declared.record.Record.{Record}
use Rattle.journal_replay.specs.Replays.{AreSound, IsFirstFaulty, recorded_call, history_of, is_faulty}
use Rattle.journal_replay.specs.Laws.{FirstLaw, SoundLaw}
use Rattle.journal_replay.proofs.Replays.{due_past, more_asked}

record IsSoundPast (past : List PoolEntry) : Type 0 where
  accepted : All (λ m. is_accepted m.entry ≡ true) past
  within : IsWithinLimitsPast past

sound_rest : (calls : List Call) (past : List PoolEntry) → IsSoundPast (replay_after past calls) → IsSoundPast past
sound_rest [] past sound = sound
sound_rest (call ∷ calls) past sound =
    let next = sound_rest calls (due_member past call ∷ past) sound in
    record { accepted = All-tail (λ m. is_accepted m.entry ≡ true) _ past next.accepted; within = next.within.1 }

sound_first : (call : Call) (calls : List Call) (past : List PoolEntry) → IsSoundPast (replay_after past (call ∷ calls)) → (is_no_refusal (due_of_past past call) ≡ true) × FitsPast past call
sound_first call calls past sound =
    let next = sound_rest calls (due_member past call ∷ past) sound in
    (All-head (λ m. is_accepted m.entry ≡ true) _ past next.accepted, next.within.0)

sound_past : (records : List Record) → AreSound records → IsSoundPast (replay_after [] (map recorded_call records))
sound_past records sound =
    let past = replay_after [] (map recorded_call records) in
    let same : reverse (reverse past) ≡ past = reverse-reverse past in
    record {
      accepted = subst (All (λ m. is_accepted m.entry ≡ true)) same (all_reverse (λ m. is_accepted m.entry ≡ true) (reverse past) sound.accepted);
      within = subst IsWithinLimitsPast same sound.within;
    }

neither : (a b : Bool) → a ≡ true → b ≡ false → (not a || b) ≡ false
neither true b e f = f
neither false b e f = absurd (true≢false (sym e))

-- no record of sound ones is faulty
no_fault : (before after : List Record) (r : Record) → AreSound (before ++ r ∷ after) → is_faulty (history_of before) (recorded_call r) ≡ false
no_fault before after r sound =
    let call = recorded_call r in
    let past = replay_after [] (map recorded_call before) in
    let same : past ≡ reverse (reverse past) = sym (reverse-reverse past) in
    let here = sound_first call (map recorded_call after) past (subst IsSoundPast (more_asked before after r) (sound_past (before ++ r ∷ after) sound)) in
    neither (is_no_refusal (due_reply (history_of before) call)) (is_full (history_of before) call)
    (sym (ap is_no_refusal (due_past past call)) ∙ here.0)
    ((full_law (history_of before) call).1 (subst (λ (p : List PoolEntry). FitsPast p call) same here.1))

pub sound_law : SoundLaw
sound_law records before r sound first =
    true≢false (sym first.faulty ∙ no_fault before first.after r (subst AreSound first.parts sound))

-- two ways to part a list at an element: at one place, or at a later one
data Parted (xs ys : List Record) (x y : Record) : Type 0 where
  same : xs ≡ ys → x ≡ y → Parted xs ys x y
  later : (zs : List Record) → ys ≡ xs ++ x ∷ zs → Parted xs ys x y
  earlier : (zs : List Record) → xs ≡ ys ++ y ∷ zs → Parted xs ys x y

parted_more : (w v x y : Record) (xs ys : List Record) → w ≡ v → Parted xs ys x y → Parted (w ∷ xs) (v ∷ ys) x y
parted_more w v x y xs ys e (same f g) = same (cc) g
parted_more w v x y xs ys e (later zs f) = later zs cc
parted_more w v x y xs ys e (earlier zs f) = earlier zs cc

parted : (xs ys more rest : List Record) (x y : Record) → xs ++ x ∷ more ≡ ys ++ y ∷ rest → Parted xs ys x y
parted [] [] more rest x y e = same refl cc
parted [] (v ∷ ys) more rest x y e =
    let head : v ≡ x = cc in
    later ys (ap (λ (z : Record). z ∷ ys) head)
parted (w ∷ xs) [] more rest x y e =
    let head : w ≡ y = cc in
    earlier xs (ap (λ (z : Record). z ∷ xs) head)
parted (w ∷ xs) (v ∷ ys) more rest x y e =
    let head : w ≡ v = cc in
    let tail : xs ++ x ∷ more ≡ ys ++ y ∷ rest = cc in
    parted_more w v x y xs ys head (parted xs ys more rest x y tail)

one_first : (records before other : List Record) (r s : Record) → IsFirstFaulty records before r → IsFirstFaulty records other s → Parted before other r s → (before ≡ other) × (r ≡ s)
one_first records before other r s first second (same e f) = (e, f)
one_first records before other r s first second (later zs e) =
    absurd (true≢false (sym first.faulty ∙ no_fault before zs r (subst AreSound e second.sound)))
one_first records before other r s first second (earlier zs e) =
    absurd (true≢false (sym second.faulty ∙ no_fault other zs s (subst AreSound e first.sound)))

pub first_law : FirstLaw
first_law records before other r s first second =
    one_first records before other r s first second (parted before other first.after second.after r s (sym first.parts ∙ second.parts))
