use Rattle.std.proofs.Common.{◌+◌, ℕ, List, get_or, subst, drop, flat_map, arith}
use Rattle.printed_text.proofs.Passing.{GoesThroughUpTo, prints_up_to, up_more}
use Rattle.chain_text.specs.Texts.{claim_name}
use Rattle.chain_text.proofs.Chained.{names_from}
use Rattle.chain_text.proofs.line.print_claim_names.Goals as goal

pub returns-in_err-print_claim_name : goal.returns-in_err-print_claim_name
returns-in_err-print_claim_name g c =
    let cs = c.args.cut.now.claims in
    let ps = c.args.places.now in
    let i = c.loop-i.i in
    let one = claim_name cs (get_or ps i 0) in
    let rest = flat_map (λ place. claim_name cs place) (drop (i + 1) ps) in
    let all = flat_map (λ place. claim_name cs place) ps in
    let up = subst (λ (r : List ℕ). GoesThroughUpTo (g.K.Sink.held c.args.sink.now) (g.K.Sink.held c.loop-i.sink) c.args.buffer.now.items c.loop-i.buffer.items r all) (names_from cs ps i c.loop-i-test.true) c.loop-i.invariant.passes in
    prints_up_to one rest c.from_residual.ensures.0 up c.loop-i.invariant.kept c.in_err-print_claim_name.ensures

pub loop-i-preserved : goal.loop-i-preserved
loop-i-preserved g c =
    let cs = c.args.cut.now.claims in
    let ps = c.args.places.now in
    let i = c.loop-i.i in
    let one = claim_name cs (get_or ps i 0) in
    let rest = flat_map (λ place. claim_name cs place) (drop (i + 1) ps) in
    let all = flat_map (λ place. claim_name cs place) ps in
    let up = subst (λ (r : List ℕ). GoesThroughUpTo (g.K.Sink.held c.args.sink.now) (g.K.Sink.held c.loop-i.sink) c.args.buffer.now.items c.loop-i.buffer.items r all) (names_from cs ps i c.loop-i-test.true) c.loop-i.invariant.passes in
    record {
      passes = up_more (g.K.Sink.held c.args.sink.now) (g.K.Sink.held c.loop-i.sink) (g.K.Sink.held c.print_claim_name.new.sink) c.args.buffer.now.items c.loop-i.buffer.items c.print_claim_name.new.buffer.items one rest all up c.in_ok-print_claim_name.ensures.ok;
      room = c.in_ok-print_claim_name.ensures.room;
      kept = omega (arith, c.loop-i.invariant.kept, c.in_ok-print_claim_name.ensures.cause.kept);
    }
