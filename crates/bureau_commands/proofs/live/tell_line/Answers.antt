use Rattle.std.specs.Vec.{vec_len}
use Rattle.std.proofs.Common.{◌≡◌, ◌∙◌, ℕ, List, ◌++◌, length, ap, subst, arith}
use Rattle.live_runs.specs.printed_text.specs.declared.exit_status.ExitStatus.TheVariants as statuses
use Rattle.live_runs.specs.printed_text.specs.Texts.{bad_line_text}
use Rattle.live_runs.specs.printed_text.specs.Writing.{IsWritten}
use Rattle.bureau_commands.proofs.live.tell_line.Goals as goal

pub write_bad_line-requires : goal.write_bad_line-requires
write_bad_line-requires g c =
    let none : vec_len c.args.buffer.now ≡ 0 = c.args.buffer.now.ok.0 ∙ ap (λ (l : List ℕ). length l) c.requires.empty in
    omega (arith, none, c.requires.spare)

pub end_with-requires : goal.end_with-requires
end_with-requires g c = λ sink. cc

pub returns-clause-written : goal.returns-clause-written
returns-clause-written g c =
    let said : c.as_slice.result.now ≡ bad_line_text c.args.line c.args.cause = c.as_slice.ensures.value ∙ c.write_bad_line.ensures.text ∙ ap (λ (t : List ℕ). t ++ bad_line_text c.args.line c.args.cause) c.requires.empty in
    subst (λ (t : List ℕ). IsWritten (g.K.Sink.held c.args.sink.now) (g.K.Sink.held c.end_with.new.sink) statuses.Form t c.end_with.result) said c.end_with.ensures.written

pub returns-clause-write_fault : goal.returns-clause-write_fault
returns-clause-write_fault g c = c.end_with.ensures.failed
