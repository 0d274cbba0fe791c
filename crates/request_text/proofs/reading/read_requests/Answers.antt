use Rattle.std.proofs.Common.{◌≡◌, ℕ, ◌+◌, [], ◌∷◌, ◌++◌, refl, sym, subst, arith}
use Rattle.request_text.proofs.Orders.{in_order}
use Rattle.request_text.proofs.Requests.{ReadUpTo, adds, fences, ends_with, weaker, breaks_at}
use Rattle.request_text.proofs.reading.read_requests.Goals as goal
use Rattle.request_text.proofs.reading.read_requests.Goals.{then-is_fence+in_ok-push, else-is_fence+in-Ok+in_ok-push-in-Ok}

pub new-requires : goal.new-requires
new-requires c = in_order 1 c.loop-line.invariant.read.before c.loop-line.batches.items c.loop-line.requests.items c.loop-line.invariant.read.spelled

pub new-requires-2 : goal.new-requires-2
new-requires-2 c = in_order 1 c.loop-line.invariant.read.before c.loop-line.batches.items c.loop-line.requests.items c.loop-line.invariant.read.spelled

pub returns-in-Err-clause-bad : goal.returns-in-Err-clause-bad
returns-in-Err-clause-bad c =
    weaker _ _ (λ n cause h. breaks_at c.args.input.now c.loop-line.rest.now c.in-Some.line.now c.in-Some.after.now c.loop-line.number n cause (c.loop-line.batches.items ++ c.loop-line.requests.items ∷ []) c.loop-line.invariant.read c.in-Some.ensures.0 (λ e. let wrong = c.if-is_fence.ensures.1 e in absurd cc) h) c.in-Err.e c.in-Err.ensures.bad

pub returns-clause-found : goal.returns-clause-found
returns-clause-found c =
    ends_with c.args.input.now c.loop-line.rest.now c.loop-line.number c.loop-line.batches.items c.push-2.new.self.items c.loop-line.requests.items c.new-2.result c.loop-line.invariant.read c.in_default.ensures c.new-2.ensures c.in_ok-push-2.ensures.items

pub loop-line-preserved : goal.loop-line-preserved
loop-line-preserved c =
    let next : c.saturating_add-number.result ≡ c.loop-line.number + 1 = omega (arith, c.loop-line.invariant.counted, c.in-Some.ensures.1, c.saturating_add-number.ensures) in
    let read : ReadUpTo c.args.input.now c.in-Some.after.now (c.loop-line.number + 1) (c.if-is_fence.batches.items ++ c.if-is_fence.requests.items ∷ []) =
    elim c.if-is_fence.branch [
      | then-is_fence+in_ok-push w ↦
          let begun : c.if-is_fence.requests.items ≡ [] = rw w.requests-is w.new-requests-then-is_fence.ensures.items in
          let more : c.if-is_fence.batches.items ≡ c.loop-line.batches.items ++ w.new.result ∷ [] = rw w.batches-is w.in_ok-push.ensures.items in
          fences c.args.input.now c.loop-line.rest.now c.in-Some.line.now c.in-Some.after.now c.loop-line.number c.loop-line.batches.items c.if-is_fence.batches.items c.loop-line.requests.items c.if-is_fence.requests.items w.new.result
          c.loop-line.invariant.read c.in-Some.ensures.0 (w.if-is_fence.ensures.0 refl) w.new.ensures more begun
      | else-is_fence+in-Ok+in_ok-push-in-Ok w ↦
          let same : c.if-is_fence.batches.items ≡ c.loop-line.batches.items = rw w.batches-is refl in
          let more : c.if-is_fence.requests.items ≡ c.loop-line.requests.items ++ w.in-Ok.request ∷ [] = rw w.requests-is w.in_ok-push-in-Ok.ensures.items in
          adds c.args.input.now c.loop-line.rest.now c.in-Some.line.now c.in-Some.after.now c.loop-line.number c.loop-line.batches.items c.if-is_fence.batches.items c.loop-line.requests.items c.if-is_fence.requests.items w.in-Ok.request
          c.loop-line.invariant.read c.in-Some.ensures.0 w.in-Ok.ensures.numbered w.in-Ok.ensures.found same more
    ] in
    record {
      read = subst (λ (n : ℕ). ReadUpTo c.args.input.now c.in-Some.after.now n (c.if-is_fence.batches.items ++ c.if-is_fence.requests.items ∷ [])) (sym next) read;
      counted = omega (arith, c.loop-line.invariant.counted, c.in-Some.ensures.1, next);
    }
