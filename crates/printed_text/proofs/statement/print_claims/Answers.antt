use Rattle.std.proofs.Common.{◌+◌, ◌<◌, List, ℕ, ap, length, get_or, subst, drop, arith}
use Rattle.std.proofs.lemmas.List.{drop_all}
use Rattle.setoff_model.specs.declared.cut.CutClaim.{CutClaim}
use Rattle.setoff_model.proofs.Columns.{no_claim}
use Rattle.statement_text.specs.Statements.{claim_line, claim_lines}
use Rattle.printed_text.specs.Printing.{line_bytes, lines_bytes}
use Rattle.printed_text.proofs.Passing.{GoesThroughUpTo, prints_all, prints_up_to, up_begins, up_more}
use Rattle.printed_text.proofs.Printing.{claims_from}
use Rattle.printed_text.proofs.statement.print_claims.Goals as goal

pub returns-in_err-print_claim : goal.returns-in_err-print_claim
returns-in_err-print_claim g c =
    let fs = c.args.cut.now.parties in
    let cs = c.args.cut.now.claims in
    let ds = c.args.discharges.now in
    let i = c.loop-i.i in
    let lt : i < length cs = omega (arith, c.loop-i-test.true, c.requires.discharge_each) in
    let one = line_bytes (claim_line fs (get_or cs i no_claim) (get_or ds i 0)) in
    let rest = lines_bytes (claim_lines fs (drop (i + 1) cs) (drop (i + 1) ds)) in
    let up = subst (λ (r : List ℕ). GoesThroughUpTo (g.K.Sink.held c.args.sink.now) (g.K.Sink.held c.loop-i.sink) c.args.buffer.now.items c.loop-i.buffer.items r (lines_bytes (claim_lines fs cs ds))) (claims_from fs cs ds i no_claim 0 lt c.loop-i-test.true) c.loop-i.invariant.passes in
    prints_up_to one rest c.from_residual.ensures.0 up c.loop-i.invariant.kept (c.in_err-print_claim.ensures no_claim)

pub loop-i-preserved : goal.loop-i-preserved
loop-i-preserved g c =
    let fs = c.args.cut.now.parties in
    let cs = c.args.cut.now.claims in
    let ds = c.args.discharges.now in
    let i = c.loop-i.i in
    let lt : i < length cs = omega (arith, c.loop-i-test.true, c.requires.discharge_each) in
    let one = line_bytes (claim_line fs (get_or cs i no_claim) (get_or ds i 0)) in
    let rest = lines_bytes (claim_lines fs (drop (i + 1) cs) (drop (i + 1) ds)) in
    let up = subst (λ (r : List ℕ). GoesThroughUpTo (g.K.Sink.held c.args.sink.now) (g.K.Sink.held c.loop-i.sink) c.args.buffer.now.items c.loop-i.buffer.items r (lines_bytes (claim_lines fs cs ds))) (claims_from fs cs ds i no_claim 0 lt c.loop-i-test.true) c.loop-i.invariant.passes in
    let printed = c.in_ok-print_claim.ensures no_claim in
    record {
      passes = up_more (g.K.Sink.held c.args.sink.now) (g.K.Sink.held c.loop-i.sink) (g.K.Sink.held c.print_claim.new.sink) c.args.buffer.now.items c.loop-i.buffer.items c.print_claim.new.buffer.items one rest (lines_bytes (claim_lines fs cs ds)) up printed.ok;
      room = printed.room;
      kept = omega (arith, c.loop-i.invariant.kept, printed.cause.kept);
    }

pub loop-i-init : goal.loop-i-init
loop-i-init g c = record {
  passes = up_begins (g.K.Sink.held c.args.sink.now) c.args.buffer.now.items (lines_bytes (claim_lines c.args.cut.now.parties c.args.cut.now.claims c.args.discharges.now));
  room = c.requires.spare;
  kept = omega arith;
}

pub returns : goal.returns
returns g c =
    let fs = c.args.cut.now.parties in
    let cs = c.args.cut.now.claims in
    let ds = c.args.discharges.now in
    let i = c.loop-i.i in
    let so_far = c.loop-i.invariant in
    prints_all so_far.passes (ap (λ (rest : List CutClaim). lines_bytes (claim_lines fs rest (drop i ds))) (drop_all i cs (omega (arith, c.loop-i-test.false, c.requires.discharge_each)))) so_far.kept so_far.room
