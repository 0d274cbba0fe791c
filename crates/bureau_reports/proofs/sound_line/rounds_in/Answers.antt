use Rattle.std.specs.Prelude.{cond}
use Rattle.std.proofs.Common.{◌≡◌, ◌∙◌, ℕ, Bool, ap, sym, arith}
use Rattle.weighed_round.specs.claim_history.specs.declared.call.PoolEntry.{PoolEntry}
use Rattle.weighed_round.specs.claim_history.specs.Acts.{is_publication}
use Rattle.weighed_round.specs.claim_history.specs.Pools.{member_of}
use Rattle.bureau_reports.proofs.Counted.{counted_more}
use Rattle.bureau_reports.proofs.sound_line.rounds_in.Goals as goal
use Rattle.bureau_reports.proofs.sound_line.rounds_in.Goals.{then-publishes, else-publishes}

pub loop-place-preserved : goal.loop-place-preserved
loop-place-preserved c =
    let m : PoolEntry = member_of c.member-pool.result.0 c.member-pool.result.1.now in
    let more = counted_more (λ x. is_publication x.entry.act) c.args.books.now.members c.loop-place.place m c.member-pool.ensures in
    let one : Bool → ℕ = λ b. cond b 1 0 in
    elim c.if-publishes.branch [
      | then-publishes w ↦
          let is : one (is_publication m.entry.act) ≡ 1 = ap one (sym c.publishes.ensures ∙ w.if-publishes.true) in
          record { rounds_are = omega (arith, w.rounds-is, c.loop-place.invariant.rounds_are, more, is) }
      | else-publishes w ↦
          let is : one (is_publication m.entry.act) ≡ 0 = ap one (sym c.publishes.ensures ∙ w.if-publishes.false) in
          record { rounds_are = omega (arith, w.rounds-is, c.loop-place.invariant.rounds_are, more, is) }
    ]
