use Rattle.std.proofs.Common.{◌∷◌, [], ◌++◌, ℕ, List, refl, sym, subst, arith}
use Rattle.setoff_model.specs.CutView.{obligations}
use Rattle.bureau_edge.specs.Streams.{AppendsPart}
use Rattle.printed_text.specs.Writing.{GoesThrough}
use Rattle.printed_text.proofs.Passing.{pass_then, up_breaks}
use Rattle.chain_explain.specs.Chains.{chain_view}
use Rattle.chain_text.specs.Texts.{chain_line, chains_text}
use Rattle.chain_text.proofs.Chained.{all_given, given_of, line_said, one_more, text_more, text_rest, with_rest}
use Rattle.chain_text.proofs.printing.pass_chains.Goals as goal

pub returns-in-Err-clause-passed : goal.returns-in-Err-clause-passed
returns-in-Err-clause-passed g c =
    let old = c.args.explainer.now in
    let mid = c.loop-chain.explainer in
    let after = c.next.new.self in
    let some = c.loop-chain.invariant.passed in
    let x = chain_view c.in-Some.chain after.claims in
    let given = c.in-Some.ensures.given in
    let rest = c.take_rest.ensures in
    let whole = with_rest old mid after c.take_rest.new.explainer some.0 x some.1 given rest in
    let line = chain_line old.cut x in
    let said = line_said old mid after some.0 x c.in-Some.chain.closed c.in-Some.chain.amount c.cut.result.now c.claims.result.now some.1 given c.cut.ensures c.claims.ensures refl refl in
    let part : AppendsPart (g.K.Sink.held c.loop-chain.sink) (g.K.Sink.held c.print_chain.new.sink) (c.loop-chain.buffer.items ++ line) =
    subst (λ (t : List ℕ). AppendsPart (g.K.Sink.held c.loop-chain.sink) (g.K.Sink.held c.print_chain.new.sink) (c.loop-chain.buffer.items ++ t)) said c.in-Err.ensures.part in
    record {
      chains = some.0 ++ x ∷ rest.chains;
      given = whole.0;
      done = whole.1;
      ok = tt;
      part = up_breaks (g.K.Sink.held c.args.sink.now) (g.K.Sink.held c.loop-chain.sink) (g.K.Sink.held c.print_chain.new.sink) c.args.buffer.now.items c.loop-chain.buffer.items line (chains_text old.cut rest.chains) (chains_text old.cut (some.0 ++ x ∷ rest.chains))
          (record { so_far = chains_text old.cut some.0; passes = some.2; whole = text_rest old.cut some.0 rest.chains x }) part;
    }

pub loop-chain-preserved : goal.loop-chain-preserved
loop-chain-preserved g c =
    let old = c.args.explainer.now in
    let mid = c.loop-chain.explainer in
    let after = c.next.new.self in
    let some = c.loop-chain.invariant.passed in
    let x = chain_view c.in-Some.chain after.claims in
    let given = c.in-Some.ensures.given in
    let line = chain_line old.cut x in
    let said = line_said old mid after some.0 x c.in-Some.chain.closed c.in-Some.chain.amount c.cut.result.now c.claims.result.now some.1 given c.cut.ensures c.claims.ensures refl refl in
    let one : GoesThrough (g.K.Sink.held c.loop-chain.sink) (g.K.Sink.held c.print_chain.new.sink) c.loop-chain.buffer.items c.print_chain.new.buffer.items line =
    subst (λ (t : List ℕ). GoesThrough (g.K.Sink.held c.loop-chain.sink) (g.K.Sink.held c.print_chain.new.sink) c.loop-chain.buffer.items c.print_chain.new.buffer.items t) said c.in-Ok.ensures.ok in
    let through = pass_then (g.K.Sink.held c.args.sink.now) (g.K.Sink.held c.loop-chain.sink) (g.K.Sink.held c.print_chain.new.sink) c.args.buffer.now.items c.loop-chain.buffer.items c.print_chain.new.buffer.items (chains_text old.cut some.0) line some.2 one in
    record {
      passed = (
        some.0 ++ x ∷ [],
        one_more (obligations old.cut) old mid after some.0 x some.1 (given_of old mid after some.0 x some.1 given),
        subst (λ (t : List ℕ). GoesThrough (g.K.Sink.held c.args.sink.now) (g.K.Sink.held c.print_chain.new.sink) c.args.buffer.now.items c.print_chain.new.buffer.items t) (sym (text_more old.cut some.0 x)) through,
      );
      room = c.in-Ok.ensures.room;
      kept = omega (arith, c.loop-chain.invariant.kept, c.in-Ok.ensures.cause.kept);
    }

pub returns-clause-passed : goal.returns-clause-passed
returns-clause-passed g c =
    let some = c.loop-chain.invariant.passed in
    let all = all_given c.args.explainer.now c.loop-chain.explainer c.next.new.self some.0 some.1 c.in_default.ensures.given (c.in_default.ensures.none.0 refl) in
    record { chains = some.0; given = all.0; done = all.1; ok = some.2; part = tt }
