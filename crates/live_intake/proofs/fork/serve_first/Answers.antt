use Rattle.std.proofs.Common.{◌≡◌, ◌<◌, ℕ, zero, suc, List, [], ◌∷◌, ◌++◌, length, get_or, sym, subst, arith, length-append}
use Rattle.lane_runner.specs.claim_history.specs.declared.call.PoolEntry.{PoolEntry}
use Rattle.turn_lock.specs.declared.turn.Turn.{Turn}
use Rattle.lane_runner.specs.bureau_desk.specs.declared.base.DeskBase.{DeskBase}
use Rattle.lane_runner.specs.bureau_desk.specs.Desks.{DeskView}
use Rattle.live_intake.specs.Segments.{HasServedSegment, HaveServedSegment, LiveLane}
use Rattle.live_intake.proofs.fork.serve_first.Goals as goal

-- what holds of each place of two lists holds of them behind one another
at_both : {X : Type 0} (P : X → X → Type 0) (xs more xs' more' : List X) → length xs' ≡ length xs → ((k : ℕ) (d : X) → k < length xs → P (get_or xs k d) (get_or xs' k d))
    → ((k : ℕ) (d : X) → k < length more → P (get_or more k d) (get_or more' k d)) → (k : ℕ) (d : X) → k < length (xs ++ more) → P (get_or (xs ++ more) k d) (get_or (xs' ++ more') k d)
at_both P [] more [] more' same here there k d lt = there k d lt
at_both P [] more (x' ∷ xs') more' same here there k d lt = absurd (omega (arith, same))
at_both P (x ∷ xs) more [] more' same here there k d lt = absurd (omega (arith, same))
at_both P (x ∷ xs) more (x' ∷ xs') more' same here there zero d lt = here zero d (omega arith)
at_both P (x ∷ xs) more (x' ∷ xs') more' same here there (suc k) d lt = at_both P xs more xs' more' (omega (arith, same)) (λ i e l. here (suc i) e (omega (arith, l))) there k d (omega (arith, lt))

-- the first lanes were served, and so were the others
both_served : {D : Type 0} (turn : Turn (DeskView D) PoolEntry (DeskBase D)) (first others first' others' : List (LiveLane D)) → HaveServedSegment turn first first' → HaveServedSegment turn others others' → HaveServedSegment turn (first ++ others) (first' ++ others')
both_served turn first others first' others' h k = (
  omega (arith, length-append first others, length-append first' others', h.0, k.0),
  at_both (HasServedSegment turn) first others first' others' h.0 h.1 k.1,
)

pub returns : goal.returns
returns g c =
    let turn = c.args.service.now.shared.now.turn in
    let first = c.split_at_mut-first.result.0.now in
    let others = c.split_at_mut-first.result.1.now in
    let first' = c.serve_lanes.new.lanes in
    let others' = c.serve_lanes-2.new.lanes in
    subst (λ (l : List (LiveLane g.row.D.Denot)). HaveServedSegment turn l (first' ++ others')) (sym c.split_at_mut-first.ensures.value) (both_served turn first others first' others' c.serve_lanes.ensures c.serve_lanes-2.ensures)
