use Rattle.std.proofs.Common.{◌+◌, ◌<◌, ◌++◌, List, ℕ, length, get_or, of_z, to_z, subst, sym, ap, ap₂, ◌∙◌, drop, arith}
use Rattle.std.specs.Prelude.{ℤ, pos}
use Rattle.std.proofs.lemmas.List.{drop_all}
use Rattle.std.proofs.lemmas.Int.{to_z-of_z, fits_signed_from_abs}
use mir.Syntax.{w64}
use mir.Val.{SFits}
use Rattle.setoff_model.specs.declared.cut.Party.{Party}
use Rattle.statement_text.specs.declared.line.Line.TheVariants as line
use Rattle.statement_text.specs.Statements.{party_lines}
use Rattle.printed_text.specs.Printing.{line_bytes, lines_bytes}
use Rattle.printed_text.proofs.Passing.{GoesThroughUpTo, prints_all, prints_up_to, up_begins, up_more}
use Rattle.printed_text.proofs.Printing.{parties_from}
use Rattle.printed_text.proofs.statement.print_parties.Goals as goal

pub returns-in_err-print_party : goal.returns-in_err-print_party
returns-in_err-print_party g c =
    let fs = c.args.parties.now in
    let ps = c.args.prices.now in
    let i = c.loop-i.i in
    let lt : i < length ps = omega (arith, c.loop-i-test.true, c.requires.price_each) in
    let price = get_or ps i (pos 0) in
    let fits : SFits w64 price = fits_signed_from_abs w64 price (omega (arith, c.requires.prices i (pos 0) lt)) in
    let rest = lines_bytes (party_lines (drop (i + 1) fs) (drop (i + 1) ps)) in
    let cut = parties_from fs ps i c.index-parties-i.result (pos 0) c.loop-i-test.true lt ∙ ap₂ (λ (f : Party) (p : ℤ). line_bytes (line.Party f p) ++ rest) (sym c.index-parties-i.is) (sym (to_z-of_z w64 price fits)) in
    let up = subst (λ (r : List ℕ). GoesThroughUpTo (g.K.Sink.held c.args.sink.now) (g.K.Sink.held c.loop-i.sink) c.args.buffer.now.items c.loop-i.buffer.items r (lines_bytes (party_lines fs ps))) cut c.loop-i.invariant.passes in
    prints_up_to (line_bytes (line.Party c.index-parties-i.result (to_z w64 (of_z w64 price)))) rest c.from_residual.ensures.0 up c.loop-i.invariant.kept c.in_err-print_party.ensures

pub loop-i-preserved : goal.loop-i-preserved
loop-i-preserved g c =
    let fs = c.args.parties.now in
    let ps = c.args.prices.now in
    let i = c.loop-i.i in
    let lt : i < length ps = omega (arith, c.loop-i-test.true, c.requires.price_each) in
    let price = get_or ps i (pos 0) in
    let fits : SFits w64 price = fits_signed_from_abs w64 price (omega (arith, c.requires.prices i (pos 0) lt)) in
    let rest = lines_bytes (party_lines (drop (i + 1) fs) (drop (i + 1) ps)) in
    let cut = parties_from fs ps i c.index-parties-i.result (pos 0) c.loop-i-test.true lt ∙ ap₂ (λ (f : Party) (p : ℤ). line_bytes (line.Party f p) ++ rest) (sym c.index-parties-i.is) (sym (to_z-of_z w64 price fits)) in
    let up = subst (λ (r : List ℕ). GoesThroughUpTo (g.K.Sink.held c.args.sink.now) (g.K.Sink.held c.loop-i.sink) c.args.buffer.now.items c.loop-i.buffer.items r (lines_bytes (party_lines fs ps))) cut c.loop-i.invariant.passes in
    record {
      passes = up_more (g.K.Sink.held c.args.sink.now) (g.K.Sink.held c.loop-i.sink) (g.K.Sink.held c.print_party.new.sink) c.args.buffer.now.items c.loop-i.buffer.items c.print_party.new.buffer.items (line_bytes (line.Party c.index-parties-i.result (to_z w64 (of_z w64 price)))) rest (lines_bytes (party_lines fs ps)) up c.in_ok-print_party.ensures.ok;
      room = c.in_ok-print_party.ensures.room;
      kept = omega (arith, c.loop-i.invariant.kept, c.in_ok-print_party.ensures.cause.kept);
    }

pub loop-i-init : goal.loop-i-init
loop-i-init g c = record {
  passes = up_begins (g.K.Sink.held c.args.sink.now) c.args.buffer.now.items (lines_bytes (party_lines c.args.parties.now c.args.prices.now));
  room = c.requires.spare;
  kept = omega arith;
}

pub returns : goal.returns
returns g c =
    let so_far = c.loop-i.invariant in
    prints_all so_far.passes (ap (λ (fs : List Party). lines_bytes (party_lines fs (drop c.loop-i.i c.args.prices.now))) (drop_all c.loop-i.i c.args.parties.now c.loop-i-test.false)) so_far.kept so_far.room
