use Rattle.std.proofs.Common.{◌≡◌, ◌∙◌, ℕ, List, ◌++◌, ap}
use Rattle.journal_texts.specs.printed_text.specs.declared.exit_status.ExitStatus.TheVariants as statuses
use Rattle.journal_texts.specs.printed_text.specs.Texts.{bad_line_text, memory_text}
use Rattle.journal_texts.proofs.Written.{wrote_line, wrote_text}
use Rattle.load_command.specs.Inputs.{IsLoadBadLineDue, bad_line, no_line_memory}
use Rattle.load_command.proofs.input.tell_bad_line.Goals as goal

pub returns-in_default-clause-wrote : goal.returns-in_default-clause-wrote
returns-in_default-clause-wrote g c = wrote_line (IsLoadBadLineDue c.args.input.now) _ _ statuses.Memory memory_text _ no_line_memory c.tell_no_memory.ensures.written

pub returns-clause-wrote : goal.returns-clause-wrote
returns-clause-wrote g c =
    let said : c.as_slice.result.now ≡ bad_line_text c.args.line c.args.cause = c.as_slice.ensures.value ∙ c.write_bad_line.ensures.text ∙ ap (λ (t : List ℕ). t ++ bad_line_text c.args.line c.args.cause) c.in-Ok.ensures.items in
    wrote_text (IsLoadBadLineDue c.args.input.now) _ _ statuses.Form (bad_line_text c.args.line c.args.cause) c.as_slice.result.now _ (bad_line c.args.line c.args.cause c.requires.first c.requires.none) said c.end_with.ensures.written
