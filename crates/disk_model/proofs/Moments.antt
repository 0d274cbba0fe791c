-- How a run of calls goes on.
use Rattle.std.proofs.Common.{◌≡◌, ⊎_elim, ℕ, List, refl, subst, arith, rules}
use Rattle.std.proofs.lemmas.Bool.{cases_lt}
use Rattle.disk_model.specs.Calls.{Seen, IsPresent, Passes, Torn, After}
use Rattle.disk_model.specs.Untold.{untold}

-- a write that changed nothing
pub torn_same : (at n : ℕ) (c : List ℕ) → Torn at n c c
torn_same at n c = record { before = refl; after = refl; no_shorter = omega arith; no_longer = omega arith }

pub passes_still : (disk : Seen) (P : List ℕ → Type 0) → Passes disk disk P
passes_still disk P = record {
  later = omega arith;
  no_more = λ t c le has. has;
  no_fewer = λ t c le has. has;
  since = λ t c lt le has. absurd (omega (arith, lt, le));
}

pub passes_on : (a b d : Seen) (P : List ℕ → Type 0) → Passes a b P → Passes b d P → Passes a d P
passes_on a b d P first then = record {
  later = omega (arith, first.later, then.later);
  no_more = λ t c le has. first.no_more t c le (then.no_more t c (omega (arith, le, first.later)) has);
  no_fewer = λ t c le has. then.no_fewer t c (omega (arith, le, first.later)) (first.no_fewer t c le has);
  since = λ t c lt le has. ⊎_elim (λ late. then.since t c late le has) (λ early. first.since t c lt early (then.no_more t c early has)) (cases_lt b.moment t);
}

pub passes_wide : (a b : Seen) (P Q : List ℕ → Type 0) → Passes a b P → ((c : List ℕ) → P c → Q c) → Passes a b Q
passes_wide a b P Q passes wider = record { later = passes.later; no_more = passes.no_more; no_fewer = passes.no_fewer; since = λ t c lt le has. wider c (passes.since t c lt le has) }

-- what each image had before, and each later one has, each present one has
pub present_has : (a b : Seen) (P : List ℕ → Type 0) → Passes a b P → ((c : List ℕ) → IsPresent a c → P c) → (c : List ℕ) → IsPresent b c → P c
present_has a b P passes before c has = ⊎_elim
    (λ some. passes.since b.moment c some (omega arith) has)
    (λ none. let same : b.moment ≡ a.moment = omega (arith, none, passes.later) in
    before c (passes.no_more a.moment c (omega arith) (subst (λ (t : ℕ). b.image t c) same has)))
    (cases_lt a.moment b.moment)

-- a call that changes no byte, after a write
pub write_then : (at n : ℕ) (a b d : Seen) → Passes a b (After (Torn at n) (IsPresent a)) → Passes b d (IsPresent b) → Passes a d (After (Torn at n) (IsPresent a))
write_then at n a b d first then =
    let present : (c : List ℕ) → IsPresent b c → After (Torn at n) (IsPresent a) c = present_has a b (After (Torn at n) (IsPresent a)) first (λ c has. (c, has, torn_same at n c)) in
    passes_on a b d (After (Torn at n) (IsPresent a)) first (passes_wide b d (IsPresent b) (After (Torn at n) (IsPresent a)) then present)

-- of a disk that tells no bytes nothing is said
pub untold_passes : (before after : ℕ) (P : List ℕ → Type 0) → Passes (untold before) (untold after) P
untold_passes before after P = search rules
