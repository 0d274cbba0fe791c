-- What each image of the disk that comes back holds.
use Rattle.std.proofs.Common.{◌≡◌, ◌+◌, ◌-◌, ◌<◌, ◌≤◌, ⊎_elim, inl, inr, ℕ, zero, suc, List, length, sym, subst, arith}
use Rattle.std.proofs.lemmas.Bool.{cases_lt}
use Rattle.disk_model.specs.Calls.{Seen}
use Rattle.live_runs.specs.claim_history.specs.declared.call.PoolEntry.{PoolEntry}
use Rattle.live_runs.specs.claim_history.specs.Pools.{accepted_calls}
use Rattle.live_runs.specs.recorded_book.specs.Moments.{HasMoments, HoldsAt}
use Rattle.bureau_commands.specs.Laws.{ImageLaw}

-- the span of a moment, sought among so many spans, from one on
in_span : (disk : Seen) (first opened : ℕ) (history : List PoolEntry) (m : HasMoments disk first opened history) (more i t : ℕ) (c : List ℕ)
    → i + more ≡ length (accepted_calls history) → opened ≤ i → m.at i ≤ t → t ≤ disk.moment → disk.image t c
    → (j : ℕ) × (opened ≤ j) × (j ≤ length (accepted_calls history)) × HoldsAt history j c
in_span disk first opened history m zero i t c sum from since until is =
    let n = length (accepted_calls history) in
    let last : i ≡ n = omega (arith, sum) in
    (n, omega (arith, from, sum), omega arith, m.last t c (subst (λ (k : ℕ). m.at k ≤ t) last since) until is)
in_span disk first opened history m (suc more) i t c sum from since until is = ⊎_elim
    (λ before. (i, from, omega (arith, sum), m.spans i t c from (omega (arith, sum)) since before is))
    (λ after. in_span disk first opened history m more (i + 1) t c (omega (arith, sum)) (omega (arith, from)) after until is)
    (cases_lt t (m.at (i + 1)))

pub image_law : {D : Type 0} (seen : D → Seen) → ImageLaw seen
image_law seen old new opened history s t c start until is = ⊎_elim
    (λ early. inl (at_start early))
    (λ since. inr (in_span (seen new) s.first opened history s.moments (length (accepted_calls history) - opened) opened t c whole (omega arith)
    (subst (λ (n : ℕ). n ≤ t) (sym s.moments.begins) since) until is))
    (cases_lt t s.first) where
      whole : opened + (length (accepted_calls history) - opened) ≡ length (accepted_calls history)
      whole = omega (arith, s.moments.within)

      at_start : t < s.first → (seen old).image (seen old).moment c
      at_start early =
          let then = s.stays.no_more t c (omega (arith, early, s.turned.ended)) is in ⊎_elim
          (λ later. s.turned.early t c later early then)
          (λ now. let same : t ≡ (seen old).moment = omega (arith, start, now) in subst (λ (n : ℕ). (seen old).image n c) same (s.turned.no_more t c now then))
          (cases_lt (seen old).moment t)
