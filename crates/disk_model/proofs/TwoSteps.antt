-- What two steps more make of the images.
use Rattle.std.proofs.Common.{◌≡◌, ⊎_elim, ℕ, ◌+◌, ◌≤◌, Bool, true, false, Vec, List, [], ◌∷◌, ◌++◌, length, take, refl, sym, ◌∙◌, ap, subst, arith, append_assoc, length-append}
use Rattle.std.proofs.lemmas.List.{take_at, take_all, take-append-le}
use Rattle.std.proofs.lemmas.Bool.{cases_lt, and_parts, and_from, le-leb}
use Rattle.std.specs.declared.alloc.Global.{Global}
use Rattle.disk_model.specs.Calls.{IsPresent, Torn, After, Passes}
use Rattle.disk_model.specs.declared.step.Step.{Step}
use Rattle.disk_model.specs.declared.step.Step.TheVariants.{Waited, Wrote, Synced}
use Rattle.fault_count.specs.Counts.{next_count}
use Rattle.disk_model.specs.Memory.{MemoryState, seen_in, end_step, after_quiet, after_write, after_refused, HasFailed}
use Rattle.disk_model.specs.ReadsNow.{memory_reads_now}
use Rattle.disk_model.specs.Steps.{reads_then, reads_after, begins_within, all_within, images_then, images_after, images_from, overlay}

pub reads_one : (reads : List ℕ) (steps : List Step) (a : Step) → reads_after reads (steps ++ a ∷ []) ≡ reads_then (reads_after reads steps) a
reads_one reads [] a = refl
reads_one reads (step ∷ steps) a = reads_one (reads_then reads step) steps a

pub reads_two : (reads : List ℕ) (steps : List Step) (a b : Step) → reads_after reads (steps ++ a ∷ b ∷ []) ≡ reads_then (reads_then (reads_after reads steps) a) b
reads_two reads [] a b = refl
reads_two reads (step ∷ steps) a b = reads_two (reads_then reads step) steps a b

pub within_two : (reads : List ℕ) (steps : List Step) (a b : Step) → all_within reads steps ≡ true → begins_within (reads_after reads steps) a ≡ true → begins_within (reads_then (reads_after reads steps) a) b ≡ true → all_within reads (steps ++ a ∷ b ∷ []) ≡ true
within_two reads [] a b all first second = and_from _ _ first (and_from _ _ second refl)
within_two reads (step ∷ steps) a b all first second =
    let both = and_parts (begins_within reads step) (all_within (reads_then reads step) steps) all in
    and_from _ _ both.0 (within_two (reads_then reads step) steps a b both.1 first second)

pub images_one_to : (reads : List ℕ) (images : List ℕ → Type 0) (steps : List Step) (a : Step) (c : List ℕ) → images_after reads images (steps ++ a ∷ []) c → images_then (reads_after reads steps) (images_after reads images steps) a c
images_one_to reads images [] a c has = has
images_one_to reads images (step ∷ steps) a c has = images_one_to (reads_then reads step) (images_then reads images step) steps a c has

pub images_one_from : (reads : List ℕ) (images : List ℕ → Type 0) (steps : List Step) (a : Step) (c : List ℕ) → images_then (reads_after reads steps) (images_after reads images steps) a c → images_after reads images (steps ++ a ∷ []) c
images_one_from reads images [] a c has = has
images_one_from reads images (step ∷ steps) a c has = images_one_from (reads_then reads step) (images_then reads images step) steps a c has

pub images_two_to : (reads : List ℕ) (images : List ℕ → Type 0) (steps : List Step) (a b : Step) (c : List ℕ) → images_after reads images (steps ++ a ∷ b ∷ []) c → images_then (reads_then (reads_after reads steps) a) (images_then (reads_after reads steps) (images_after reads images steps) a) b c
images_two_to reads images [] a b c has = has
images_two_to reads images (step ∷ steps) a b c has = images_two_to (reads_then reads step) (images_then reads images step) steps a b c has

-- no step more
passes_none : (old : MemoryState) (P : List ℕ → Type 0) → Passes (seen_in old) (seen_in (after_refused old)) P
passes_none old P = record { later = omega arith; no_more = λ t c le has. has; no_fewer = λ t c le has. has; since = λ t c lt le has. absurd (omega (arith, lt, le)) }

-- two steps more
module _ (old : MemoryState) (a b : Step) (bytes : List ℕ) (faults : ℕ) (P : List ℕ → Type 0) where
  front : (t : ℕ) → t ≡ length old.steps + 1 → take t (old.steps ++ a ∷ b ∷ []) ≡ old.steps ++ a ∷ []
  front t is = ap (λ (l : List Step). take t l) (sym (append_assoc old.steps (a ∷ []) (b ∷ []))) ∙ take_at (old.steps ++ a ∷ []) (b ∷ []) t (omega (arith, is, length-append old.steps (a ∷ [])))

  passes_two : ((c : List ℕ) → images_from old.first (old.steps ++ a ∷ []) c → P c) → ((c : List ℕ) → images_from old.first (old.steps ++ a ∷ b ∷ []) c → P c)
      → Passes (seen_in old) (seen_in (record old { bytes = bytes; steps = old.steps ++ a ∷ b ∷ []; faults = faults })) P
  passes_two during ended = record {
    later = omega (arith, length-append old.steps (a ∷ b ∷ []));
    no_more = λ t c le has. subst (λ (s : List Step). images_from old.first s c) (take-append-le t old.steps (a ∷ b ∷ []) le) has;
    no_fewer = λ t c le has. subst (λ (s : List Step). images_from old.first s c) (sym (take-append-le t old.steps (a ∷ b ∷ []) le)) has;
    since = λ t c lt le has. ⊎_elim
        (λ last. ended c (subst (λ (s : List Step). images_from old.first s c) (take_all t (old.steps ++ a ∷ b ∷ []) (omega (arith, last, length-append old.steps (a ∷ b ∷ [])))) has))
        (λ first. let is : t ≡ length old.steps + 1 = omega (arith, lt, first) in
        during c (subst (λ (s : List Step). images_from old.first s c) (front t is) has))
        (cases_lt (length old.steps + 1) t);
  }

module _ (start bytes : List ℕ) (steps new : List Step) where
  pub quiet_read : (syncs : Bool) → bytes ≡ reads_after start steps → new ≡ steps ++ Waited ∷ end_step syncs ∷ [] → bytes ≡ reads_after start new
  quiet_read true is two = is ∙ sym (ap (λ (s : List Step). reads_after start s) two ∙ reads_two start steps Waited Synced)
  quiet_read false is two = is ∙ sym (ap (λ (s : List Step). reads_after start s) two ∙ reads_two start steps Waited Waited)

  pub quiet_within : (syncs : Bool) → all_within start steps ≡ true → new ≡ steps ++ Waited ∷ end_step syncs ∷ [] → all_within start new ≡ true
  quiet_within true all two = ap (λ (s : List Step). all_within start s) two ∙ within_two start steps Waited Synced all refl refl
  quiet_within false all two = ap (λ (s : List Step). all_within start s) two ∙ within_two start steps Waited Waited all refl refl

  pub wrote_read : (at : ℕ) (v : Vec ℕ Global) → bytes ≡ reads_after start steps → new ≡ steps ++ Wrote at v ∷ Waited ∷ [] → overlay at v.items bytes ≡ reads_after start new
  wrote_read at v is two = ap (λ (b : List ℕ). overlay at v.items b) is ∙ sym (ap (λ (s : List Step). reads_after start s) two ∙ reads_two start steps (Wrote at v) Waited)

  pub wrote_within : (at : ℕ) (v : Vec ℕ Global) → at ≤ length bytes → bytes ≡ reads_after start steps → all_within start steps ≡ true → new ≡ steps ++ Wrote at v ∷ Waited ∷ [] → all_within start new ≡ true
  wrote_within at v le is all two =
      let begins : begins_within (reads_after start steps) (Wrote at v) ≡ true = le-leb at (length (reads_after start steps)) (subst (λ (b : List ℕ). at ≤ length b) is le) in
      ap (λ (s : List Step). all_within start s) two ∙ within_two start steps (Wrote at v) Waited all begins refl

  pub wrote_read_to : (start' next piece : List ℕ) (at : ℕ) (v : Vec ℕ Global) → start' ≡ start → next ≡ overlay at piece bytes → v.items ≡ piece → bytes ≡ reads_after start steps → new ≡ steps ++ Wrote at v ∷ Waited ∷ [] → next ≡ reads_after start' new
  wrote_read_to start' next piece at v same is_next is_piece is two =
      is_next ∙ ap (λ (p : List ℕ). overlay at p bytes) (sym is_piece) ∙ wrote_read at v is two ∙ ap (λ (s : List ℕ). reads_after s new) (sym same)

  pub wrote_within_to : (start' : List ℕ) (at : ℕ) (v : Vec ℕ Global) → start' ≡ start → at ≤ length bytes → bytes ≡ reads_after start steps → all_within start steps ≡ true → new ≡ steps ++ Wrote at v ∷ Waited ∷ [] → all_within start' new ≡ true
  wrote_within_to start' at v same le is all two = ap (λ (s : List ℕ). all_within s new) same ∙ wrote_within at v le is all two

pub wrote_state : (old kept_first : MemoryState) (first bytes piece : List ℕ) (steps : List Step) (at calls : ℕ) (kept : Vec ℕ Global)
    → kept_first ≡ old → first ≡ old.first → bytes ≡ overlay at piece old.bytes → kept.items ≡ piece → steps ≡ old.steps ++ Wrote at kept ∷ Waited ∷ [] → calls ≡ next_count old.calls
    → record kept_first { first = first; bytes = bytes; steps = steps; calls = calls } ≡ after_write at kept old
wrote_state old kept_first first bytes piece steps at calls kept same is_first is_bytes is_piece is_steps is_calls i =
    record (same i) { first = is_first i; bytes = (is_bytes ∙ ap (λ (p : List ℕ). overlay at p old.bytes) (sym is_piece)) i; steps = is_steps i; calls = is_calls i }

-- two steps pushed one after the other
pub pushed_two : (old mid reserved one two : List Step) (a b : Step) → mid ≡ old → reserved ≡ mid → one ≡ reserved ++ a ∷ [] → two ≡ one ++ b ∷ [] → two ≡ old ++ a ∷ b ∷ []
pushed_two old mid reserved one two a b same is_reserved is_one is_two =
    is_two ∙ ap (λ (l : List Step). l ++ b ∷ []) (is_one ∙ ap (λ (l : List Step). l ++ a ∷ []) (is_reserved ∙ same)) ∙ append_assoc old (a ∷ []) (b ∷ [])

-- what a crash may leave now of a disk in memory
abbrev pub PresentIn : MemoryState → List ℕ → Type 0
PresentIn s = IsPresent (seen_in s)

abbrev pub PassesIn : MemoryState → MemoryState → (List ℕ → Type 0) → Type 0
PassesIn old new P = Passes (seen_in old) (seen_in new) P

module _ (old new : MemoryState) where
  present : (c : List ℕ) → images_from old.first old.steps c → PresentIn old c
  present c has = subst (λ (s : List Step). images_from old.first s c) (sym (take_all (length old.steps) old.steps (omega arith))) has

  waited_one : (c : List ℕ) → images_from old.first (old.steps ++ Waited ∷ []) c → PresentIn old c
  waited_one c has = present c (images_one_to old.first (λ d. d ≡ old.first) old.steps Waited c has)

  waited_two : (c : List ℕ) → images_from old.first (old.steps ++ Waited ∷ Waited ∷ []) c → PresentIn old c
  waited_two c has = present c (images_two_to old.first (λ d. d ≡ old.first) old.steps Waited Waited c has)

  synced_two : old.bytes ≡ reads_after old.first old.steps → all_within old.first old.steps ≡ true → (c : List ℕ) → images_from old.first (old.steps ++ Waited ∷ Synced ∷ []) c → PresentIn old c
  synced_two is all c has =
      subst (λ (b : List ℕ). PresentIn old b) (sym (images_two_to old.first (λ d. d ≡ old.first) old.steps Waited Synced c has ∙ sym is)) (memory_reads_now old.first old.bytes old.steps is all)

  -- a call that failed: no moment, or two in which nothing comes about
  pub failed_passes : (P : List ℕ → Type 0) → ((c : List ℕ) → PresentIn old c → P c) → HasFailed old new → PassesIn old new P
  failed_passes P wider failed = ⊎_elim
      (λ named. subst (λ (s : MemoryState). PassesIn old s P) (sym named.1) (passes_two old Waited Waited old.bytes (next_count old.faults) P (λ c has. wider c (waited_one c has)) (λ c has. wider c (waited_two c has))))
      (λ refused. subst (λ (s : MemoryState). PassesIn old s P) (sym refused) (passes_none old P))
      failed

  -- a call that changed no byte
  pub looked_passes : new ≡ after_quiet Waited old → PassesIn old new (PresentIn old)
  looked_passes is = subst (λ (s : MemoryState). PassesIn old s (PresentIn old)) (sym is) (passes_two old Waited Waited old.bytes old.faults (PresentIn old) waited_one waited_two)

  pub synced_passes : old.bytes ≡ reads_after old.first old.steps → all_within old.first old.steps ≡ true → new ≡ after_quiet Synced old → PassesIn old new (PresentIn old)
  synced_passes reads all is = subst (λ (s : MemoryState). PassesIn old s (PresentIn old)) (sym is) (passes_two old Waited Synced old.bytes old.faults (PresentIn old) waited_one (synced_two reads all))

  -- a write
  pub wrote_passes : (at : ℕ) (kept : Vec ℕ Global) (piece : List ℕ) → kept.items ≡ piece → new ≡ after_write at kept old → PassesIn old new (After (Torn at (length piece)) (PresentIn old))
  wrote_passes at kept piece same is =
      let P : List ℕ → Type 0 = After (Torn at (length kept.items)) (PresentIn old) in
      let there : (c : List ℕ) → After (Torn at (length kept.items)) (images_from old.first old.steps) c → P c = λ c has. (has.0, present has.0 has.1, has.2) in
      subst (λ (l : List ℕ). PassesIn old new (After (Torn at (length l)) (PresentIn old))) same (
      subst (λ (s : MemoryState). PassesIn old s P) (sym is)
      (passes_two old (Wrote at kept) Waited (overlay at kept.items old.bytes) old.faults P (λ c has. there c (images_one_to old.first (λ d. d ≡ old.first) old.steps (Wrote at kept) c has)) (λ c has. there c (images_two_to old.first (λ d. d ≡ old.first) old.steps (Wrote at kept) Waited c has)))
      )

  -- after a sync
  pub synced_only : old.bytes ≡ reads_after old.first old.steps → new ≡ after_quiet Synced old → (c : List ℕ) → PresentIn new c → c ≡ old.bytes
  synced_only reads is c has =
      let there : PresentIn (after_quiet Synced old) c = subst (λ (s : MemoryState). PresentIn s c) is has in
      let whole = old.steps ++ Waited ∷ Synced ∷ [] in
      let here : images_from old.first whole c = subst (λ (s : List Step). images_from old.first s c) (take_all (length whole) whole (omega arith)) there in
      images_two_to old.first (λ d. d ≡ old.first) old.steps Waited Synced c here ∙ sym reads
