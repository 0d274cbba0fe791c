use Rattle.std.proofs.Common.{◌≡◌, ◌<◌, ◌+◌, ◌∙◌, ℕ, List, ap, drop, get_or, length, subst, arith}
use Rattle.setoff_model.specs.declared.cut.CutClaim.{CutClaim}
use Rattle.setoff_model.specs.CutView.{obligations}
use Rattle.setoff_model.specs.Setoff.{flow_at}
use Rattle.setoff_model.proofs.Columns.{claims_long, discharge_small, no_claim}
use Rattle.printed_text.specs.statement_text.specs.Statements.{claim_line}
use Rattle.printed_text.specs.Printing.{line_bytes, lines_bytes}
use Rattle.printed_text.proofs.Passing.{GoesThroughUpTo, prints_up_to, up_begins, up_more}
use Rattle.printed_text.proofs.Printing.{discharge_each}
use Rattle.history_text.specs.Pages.{page_claims}
use Rattle.history_text.proofs.PageLines.{named_here, named_next, paid_next, received_next}
use Rattle.history_text.proofs.pages.print_named.Goals as goal

pub loop-place-init : goal.loop-place-init
loop-place-init g c =
    let cut = c.args.cut.now in
    let d = c.args.discharges.now in
    let party = c.args.party in
    let each = discharge_each cut d c.requires.lawful in
    let next = c.first_claim-place.ensures in
    let x = g.K.Sink.held c.args.sink.now in
    let a = c.args.buffer.now.items in
    let all = lines_bytes (page_claims cut.parties party cut.claims d) in
    record {
      passes = subst (λ (rest : List ℕ). GoesThroughUpTo x x a a rest all) (named_next cut d party each 0 c.first_claim-place.result next) (up_begins x a all);
      room = c.requires.spare;
      kept = omega arith;
      high = omega (arith, next.high, claims_long cut);
      named = λ lt. next.named (omega (arith, lt, claims_long cut));
      received = received_next cut d party 0 c.first_claim-place.result next;
      paid = paid_next cut d party 0 c.first_claim-place.result next;
    }

pub print_claim-requires-clause-discharge : goal.print_claim-requires-clause-discharge
print_claim-requires-clause-discharge g c =
    let lt : c.loop-place.place < length c.args.cut.now.claims = omega (arith, c.loop-place-test.true, ap (λ (cs : List CutClaim). length cs) c.claims-claims.ensures) in
    omega (arith, discharge_small c.args.cut.now c.args.discharges.now c.loop-place.place c.requires.cut c.requires.lawful lt)

pub returns-in_err-print_claim-clause-printed : goal.returns-in_err-print_claim-clause-printed
returns-in_err-print_claim-clause-printed g c =
    let cut = c.args.cut.now in
    let d = c.args.discharges.now in
    let party = c.args.party in
    let i = c.loop-place.place in
    let each = discharge_each cut d c.requires.lawful in
    let lt : i < length cut.claims = omega (arith, c.loop-place-test.true, ap (λ (cs : List CutClaim). length cs) c.claims-claims.ensures) in
    let one = line_bytes (claim_line cut.parties (get_or cut.claims i no_claim) (get_or d i 0)) in
    let rest = lines_bytes (page_claims cut.parties party (drop (i + 1) cut.claims) (drop (i + 1) d)) in
    let all = lines_bytes (page_claims cut.parties party cut.claims d) in
    let up = subst (λ (r : List ℕ). GoesThroughUpTo (g.K.Sink.held c.args.sink.now) (g.K.Sink.held c.loop-place.sink) c.args.buffer.now.items c.loop-place.buffer.items r all) (named_here cut d party each i lt (c.loop-place.invariant.named lt)) c.loop-place.invariant.passes in
    prints_up_to one rest c.from_residual.ensures.0 up c.loop-place.invariant.kept (c.in_err-print_claim.ensures no_claim)

pub loop-place-preserved : goal.loop-place-preserved
loop-place-preserved g c =
    let cut = c.args.cut.now in
    let d = c.args.discharges.now in
    let party = c.args.party in
    let i = c.loop-place.place in
    let each = discharge_each cut d c.requires.lawful in
    let lt : i < length cut.claims = omega (arith, c.loop-place-test.true, ap (λ (cs : List CutClaim). length cs) c.claims-claims.ensures) in
    let one = line_bytes (claim_line cut.parties (get_or cut.claims i no_claim) (get_or d i 0)) in
    let rest = lines_bytes (page_claims cut.parties party (drop (i + 1) cut.claims) (drop (i + 1) d)) in
    let all = lines_bytes (page_claims cut.parties party cut.claims d) in
    let x = g.K.Sink.held c.args.sink.now in
    let y = g.K.Sink.held c.loop-place.sink in
    let z = g.K.Sink.held c.print_claim.new.sink in
    let up = subst (λ (r : List ℕ). GoesThroughUpTo x y c.args.buffer.now.items c.loop-place.buffer.items r all) (named_here cut d party each i lt (c.loop-place.invariant.named lt)) c.loop-place.invariant.passes in
    let printed = c.in_ok-print_claim.ensures no_claim in
    let more = up_more x y z c.args.buffer.now.items c.loop-place.buffer.items c.print_claim.new.buffer.items one rest all up printed.ok in
    let next = c.next_claim-place.ensures in
    record {
      passes = subst (λ (r : List ℕ). GoesThroughUpTo x z c.args.buffer.now.items c.print_claim.new.buffer.items r all) (named_next cut d party each (i + 1) c.next_claim-place.result next) more;
      room = printed.room;
      kept = omega (arith, c.loop-place.invariant.kept, printed.cause.kept);
      high = omega (arith, next.high, claims_long cut);
      named = λ within. next.named (omega (arith, within, claims_long cut));
      received = c.counted-net.ensures.received ∙ received_next cut d party (i + 1) c.next_claim-place.result next;
      paid = c.counted-net.ensures.paid ∙ paid_next cut d party (i + 1) c.next_claim-place.result next;
    }

pub returns-clause-received : goal.returns-clause-received
returns-clause-received g c =
    let cut = c.args.cut.now in
    let end : c.loop-place.place ≡ length (obligations cut).amounts =
    omega (arith, c.loop-place-test.false, c.loop-place.invariant.high, claims_long cut, ap (λ (cs : List CutClaim). length cs) c.claims-claims.ensures) in
    c.loop-place.invariant.received ∙ ap (λ (n : ℕ). flow_at n (obligations cut).creditors c.args.discharges.now c.args.party) end

pub returns-clause-paid : goal.returns-clause-paid
returns-clause-paid g c =
    let cut = c.args.cut.now in
    let end : c.loop-place.place ≡ length (obligations cut).amounts =
    omega (arith, c.loop-place-test.false, c.loop-place.invariant.high, claims_long cut, ap (λ (cs : List CutClaim). length cs) c.claims-claims.ensures) in
    c.loop-place.invariant.paid ∙ ap (λ (n : ℕ). flow_at n (obligations cut).debtors c.args.discharges.now c.args.party) end
