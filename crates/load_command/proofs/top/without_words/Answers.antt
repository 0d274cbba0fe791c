use Rattle.std.proofs.Common.{◌∙◌, sym, ap}
use Rattle.journal_texts.specs.printed_text.specs.declared.exit_status.ExitStatus.TheVariants as statuses
use Rattle.journal_texts.specs.printed_text.specs.Texts.{memory_text}
use Rattle.journal_texts.specs.printed_text.proofs.Statuses.{one_number}
use Rattle.journal_texts.proofs.Written.{wrote_line}
use Rattle.journal_texts.specs.printed_text.specs.Statuses.{number_of}
use Rattle.journal_texts.specs.Calls.{IsMemoryDue, no_word_memory}
use Rattle.load_command.proofs.top.without_words.Goals as goal

pub returns-clause-wrote : goal.returns-clause-wrote
returns-clause-wrote g c = record {
  status = c.tell_no_memory-status.result;
  number_is = c.number.ensures;
  holds = wrote_line IsMemoryDue _ _ statuses.Memory memory_text _ no_word_memory c.tell_no_memory-status.ensures.written;
}

pub returns-clause-write_fault : goal.returns-clause-write_fault
returns-clause-write_fault g c = λ is. c.tell_no_memory-status.ensures.failed.risen (one_number c.tell_no_memory-status.result statuses.Sink (sym c.number.ensures ∙ is))

pub returns-clause-write_fault_told : goal.returns-clause-write_fault_told
returns-clause-write_fault_told g c = λ rose. c.number.ensures ∙ ap number_of (c.tell_no_memory-status.ensures.failed.told rose)
