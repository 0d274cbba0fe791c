-- Requests in the order of their lines.
use Rattle.std.proofs.Common.{◌≡◌, ℕ, ◌+◌, ◌<◌, ◌≤◌, true, List, [], ◌∷◌, ◌++◌, arith}
use Rattle.std.specs.Prelude.{All, AllPairs}
use Rattle.std.proofs.lemmas.List.Elements.{All-nil, All-cons}
use Rattle.std.proofs.lemmas.List.Kept.{AllPairs-cons}
use Rattle.setoff_model.specs.Names.{is_name}
use Rattle.claim_history.specs.Acts.{is_request}
use Rattle.request_text.specs.declared.request.Request.{Request}
use Rattle.request_text.specs.Lanes.{IsLane}
use Rattle.request_text.specs.Grammar.{AreBatches}
use Rattle.request_text.specs.Batches.{AreInOrder}

-- each request of the first batch has a line from this number on, a lane, the name of a pool and a valid act
each : (P : Request → Type 0) (number : ℕ) (lines : List (List ℕ)) (batch : List Request) (batches : List (List Request)) → AreBatches number lines (batch ∷ batches)
    → ((r : Request) → number ≤ r.line → IsLane r.lane → is_name r.pool ≡ true → is_request r.act ≡ true → P r) → All P batch
each P number lines [] batches h f = All-nil P
each P number [] (r ∷ batch) batches h f = absurd (let e = h.0 in cc)
each P number (line ∷ lines) (r ∷ batch) batches h f =
    All-cons P r batch (f r (omega (arith, h.0)) h.1.by h.1.named h.1.valid)
    (each P (number + 1) lines batch batches h.2 (λ q low lane named valid. f q (omega (arith, low)) lane named valid))

rising : (number : ℕ) (lines : List (List ℕ)) (batch : List Request) (batches : List (List Request)) → AreBatches number lines (batch ∷ batches) → AllPairs (λ (a b : Request). a.line < b.line) batch
rising number lines [] batches h = λ i j d less within. absurd (omega (arith, within))
rising number [] (r ∷ batch) batches h = absurd (let e = h.0 in cc)
rising number (line ∷ lines) (r ∷ batch) batches h =
    AllPairs-cons (λ (a b : Request). a.line < b.line) r batch
    (each (λ q. r.line < q.line) (number + 1) lines batch batches h.2 (λ q low lane named valid. omega (arith, low, h.0)))
    (rising (number + 1) lines batch batches h.2)

-- the last batch is in order
pub in_order : (number : ℕ) (lines : List (List ℕ)) (ended : List (List Request)) (open_batch : List Request) → AreBatches number lines (ended ++ open_batch ∷ []) → AreInOrder open_batch
in_order number lines [] batch h = record {
  rising = rising number lines batch [] h;
  lanes = each (λ r. IsLane r.lane) number lines batch [] h (λ r low lane named valid. lane);
  pools = each (λ r. is_name r.pool ≡ true) number lines batch [] h (λ r low lane named valid. named);
  valid = each (λ r. is_request r.act ≡ true) number lines batch [] h (λ r low lane named valid. valid);
}
in_order number [] ([] ∷ []) batch h = absurd (let e = h.1 in cc)
in_order number [] ([] ∷ next ∷ ended) batch h = absurd (let e = h.1 in cc)
in_order number [] ((r ∷ rs) ∷ ended) batch h = absurd (let e = h.0 in cc)
in_order number (line ∷ lines) ([] ∷ ended) batch h = in_order (number + 1) lines ended batch h.1
in_order number (line ∷ lines) ((r ∷ rs) ∷ ended) batch h = in_order (number + 1) lines (rs ∷ ended) batch h.2
