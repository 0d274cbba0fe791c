use Rattle.std.specs.Prelude.{map, slice_index}
use Rattle.std.proofs.Common.{List, ◌+◌, ◌*◌, ◌<◌, ◌≤◌, length, get_or, sym, ◌∙◌, ap, subst, arith}
use Rattle.std.proofs.lemmas.List.Sums.{get_or-le-sum_by}
use Rattle.setoff_model.specs.declared.limits.TheConstants.{SUM_LIMIT}
use Rattle.setoff_model.specs.declared.cut.Party.{Party}
use Rattle.setoff_model.specs.declared.cut.CutClaim.{CutClaim}
use Rattle.setoff_model.specs.CutView.{IsClaimAmong}
use Rattle.fact_tables.specs.Tables.{funded, drawn, AreWithin}
use Rattle.fact_tables.proofs.Balances.{nearer, near_funded}
use Rattle.fact_tables.proofs.Keyed.{firms_once}
use Rattle.fact_tables.proofs.Settle.{account_after, account_next, accounts_start, accounts_near, accounts_whole, firms_after, firms_funded, map_twice}
use Rattle.fact_tables.proofs.account_table.discharge_accounts.Goals as goal

pub loop-i-init : goal.loop-i-init
loop-i-init c = accounts_start c.args.cut.now c.args.discharges.now c.args.accounts.now

pub fund-to-requires-clause-names : goal.fund-to-requires-clause-names
fund-to-requires-clause-names c = c.requires.names ∙ sym (firms_after c.args.cut.now c.args.discharges.now c.loop-i.i c.args.accounts.now c.loop-i.accounts c.loop-i.invariant)

pub fund-to-requires-clause-once : goal.fund-to-requires-clause-once
fund-to-requires-clause-once c = firms_once c.args.accounts.now c.loop-i.accounts (firms_after c.args.cut.now c.args.discharges.now c.loop-i.i c.args.accounts.now c.loop-i.accounts c.loop-i.invariant) c.requires.once

pub fund-to-requires-clause-near : goal.fund-to-requires-clause-near
fund-to-requires-clause-near c =
    let le = subst (λ (cs : List CutClaim). c.loop-i.i ≤ length cs) c.claims-claim-items.ensures (omega (arith, c.loop-i-test.true)) in
    nearer c.loop-i.accounts (subst (AreWithin (2 * SUM_LIMIT)) (sym c.loop-i.invariant) (accounts_near c.args.cut.now c.args.discharges.now c.loop-i.i c.args.accounts.now c.requires.one_each c.requires.total le c.requires.small))

pub draw-by-requires-clause-names : goal.draw-by-requires-clause-names
draw-by-requires-clause-names c =
    let x = slice_index c.args.discharges.now c.loop-i.i in
    c.requires.names
    ∙ sym (firms_funded c.index-parties-claim.result.firm x c.loop-i.accounts c.fund-to.new.accounts c.fund-to.ensures
    ∙ firms_after c.args.cut.now c.args.discharges.now c.loop-i.i c.args.accounts.now c.loop-i.accounts c.loop-i.invariant)

pub draw-by-requires-clause-once : goal.draw-by-requires-clause-once
draw-by-requires-clause-once c =
    let x = slice_index c.args.discharges.now c.loop-i.i in
    firms_once c.args.accounts.now c.fund-to.new.accounts
    (firms_funded c.index-parties-claim.result.firm x c.loop-i.accounts c.fund-to.new.accounts c.fund-to.ensures
    ∙ firms_after c.args.cut.now c.args.discharges.now c.loop-i.i c.args.accounts.now c.loop-i.accounts c.loop-i.invariant)
    c.requires.once

pub draw-by-requires-clause-near : goal.draw-by-requires-clause-near
draw-by-requires-clause-near c =
    let d = c.args.discharges.now in
    let x = slice_index d c.loop-i.i in
    let lt = subst (λ (cs : List CutClaim). c.loop-i.i < length cs) c.claims-claim-items.ensures c.loop-i-test.true in
    let low = get_or-le-sum_by (λ n. n) d c.loop-i.i 0 (omega (arith, lt, c.requires.one_each)) in
    let near = subst (AreWithin (2 * SUM_LIMIT)) (sym c.loop-i.invariant) (accounts_near c.args.cut.now d c.loop-i.i c.args.accounts.now c.requires.one_each c.requires.total (omega (arith, lt)) c.requires.small) in
    subst (AreWithin (3 * SUM_LIMIT)) (sym c.fund-to.ensures) (near_funded c.index-parties-claim.result.firm x c.loop-i.accounts (omega (arith, low, c.requires.total)) near)

pub loop-i-preserved : goal.loop-i-preserved
loop-i-preserved c =
    let cut = c.args.cut.now in
    let d = c.args.discharges.now in
    let i = c.loop-i.i in
    let x = c.claim-item.result in
    let lt = subst (λ (cs : List CutClaim). i < length cs) c.claims-claim-items.ensures c.loop-i-test.true in
    let is = c.claim-item.is ∙ ap (λ (cs : List CutClaim). get_or cs i x) c.claims-claim-items.ensures in
    let among : IsClaimAmong cut.parties x = subst (IsClaimAmong cut.parties) (sym is) (c.requires.formed.claims i x lt) in
    let to = c.index-parties-claim.result in
    let by = c.index-parties-claim-in-loop-i.result in
    c.draw-by.ensures
    ∙ ap (map (drawn by.firm (slice_index d i))) (c.fund-to.ensures ∙ ap (map (funded to.firm (slice_index d i))) c.loop-i.invariant)
    ∙ map_twice (drawn by.firm (slice_index d i)) (funded to.firm (slice_index d i)) (account_after cut d i) (account_after cut d (i + 1)) c.args.accounts.now
    (account_next cut d i x to by c.requires.formed.firms lt is
    among.creditor (c.index-parties-claim.is ∙ ap (λ (ps : List Party). get_or ps x.creditor to) c.parties-parties.ensures)
    among.debtor (c.index-parties-claim-in-loop-i.is ∙ ap (λ (ps : List Party). get_or ps x.debtor by) c.parties-parties.ensures))

pub returns : goal.returns
returns c =
    let long = ap length c.claims-claim-items.ensures in
    c.loop-i.invariant ∙ accounts_whole c.args.cut.now c.args.discharges.now c.loop-i.i c.args.accounts.now (omega (arith, long, c.loop-i-test.false, c.loop-i.auto.i-end))
