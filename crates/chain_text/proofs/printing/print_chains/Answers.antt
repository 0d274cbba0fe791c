use Rattle.std.proofs.Common.{ℕ, List, ◌++◌, subst}
use Rattle.bureau_edge.specs.Streams.{AppendsPart}
use Rattle.printed_text.proofs.Passing.{on_err_if, part_left, pass_flushed, counted_behind}
use Rattle.chain_text.specs.Texts.{chains_text}
use Rattle.chain_text.proofs.printing.print_chains.Goals as goal

pub returns-clause-printed : goal.returns-clause-printed
returns-clause-printed g c =
    let passed = c.in_ok-pass_chains.ensures.passed in
    let text = chains_text c.args.explainer.now.cut passed.chains in
    record {
      chains = passed.chains;
      given = passed.given;
      done = passed.done;
      ok = pass_flushed c.flush.result (g.K.Sink.held c.args.sink.now) (g.K.Sink.held c.pass_chains.new.sink) (g.K.Sink.held c.flush.new.sink) c.args.buffer.now.items c.pass_chains.new.buffer.items c.flush.new.buffer.items text c.requires.empty passed.ok c.flush.ensures.ok c.flush.ensures.emptied;
      part = on_err_if c.flush.result _ _ (λ broken. subst (λ (b : List ℕ). AppendsPart (g.K.Sink.held c.args.sink.now) (g.K.Sink.held c.flush.new.sink) (b ++ text)) c.requires.empty
          (part_left (g.K.Sink.held c.args.sink.now) (g.K.Sink.held c.pass_chains.new.sink) (g.K.Sink.held c.flush.new.sink) c.args.buffer.now.items c.pass_chains.new.buffer.items text passed.ok broken)) c.flush.ensures.part;
    }

pub returns-clause-cause : goal.returns-clause-cause
returns-clause-cause g c = counted_behind (g.K.Sink.faults c.args.sink.now) (g.K.Sink.faults c.pass_chains.new.sink) (g.K.Sink.faults c.flush.new.sink) c.flush.result c.in_ok-pass_chains.ensures.cause.kept c.flush.ensures.cause
