use Rattle.std.proofs.Common.{◌∙◌, ℕ, List, ap, subst, sym}
use Rattle.journal_texts.specs.printed_text.specs.declared.exit_status.ExitStatus.TheVariants as statuses
use Rattle.journal_texts.specs.printed_text.specs.Statuses.{number_of}
use Rattle.journal_texts.specs.printed_text.proofs.Statuses.{one_number}
use Rattle.load_command.specs.Inputs.{LoadRanInOrder}
use Rattle.load_command.proofs.ComesOnly.{comes_only, ran_rose}
use Rattle.load_command.proofs.ComesWhere.{comes_where}
use Rattle.load_command.proofs.Completeness.{completes}
use Rattle.load_command.proofs.Weaker.{without_order}
use Rattle.load_command.proofs.Words.{same_bytes}
use Rattle.load_command.proofs.top.load_in_order.Goals as goal

pub returns-clause-ran : goal.returns-clause-ran
returns-clause-ran g c = record {
  status = c.answer_words-status.result.0;
  number_is = c.number.ensures;
  holds = subst (λ (ws : List (List ℕ)). LoadRanInOrder g.S.Source.left g.D.Disk.seen ws c.args.source c.answer_words-status.new.source c.args.disk c.answer_words-status.result.1 (g.K.Sink.held c.args.sink) (g.K.Sink.held c.answer_words-status.new.sink)
      (g.W.Witness.shown c.args.witness.now) (g.W.Witness.shown c.answer_words-status.new.witness) c.answer_words-status.result.0)
      (same_bytes c.as_slice.result.now c.args.words.items c.as_slice.ensures.value) c.answer_words-status.ensures.ran;
}

pub returns-clause-read_fault : goal.returns-clause-read_fault
returns-clause-read_fault g c = λ is. c.answer_words-status.ensures.read_fault (one_number c.answer_words-status.result.0 statuses.Source (sym c.number.ensures ∙ is))

pub returns-clause-write_fault : goal.returns-clause-write_fault
returns-clause-write_fault g c = λ is. c.answer_words-status.ensures.write_fault.risen (one_number c.answer_words-status.result.0 statuses.Sink (sym c.number.ensures ∙ is))

pub returns-clause-write_fault_told : goal.returns-clause-write_fault_told
returns-clause-write_fault_told g c = λ rose. c.number.ensures ∙ ap number_of (c.answer_words-status.ensures.write_fault.told rose)

pub returns-clause-disk_fault : goal.returns-clause-disk_fault
returns-clause-disk_fault g c = λ is. ran_rose _ _ _ _ _ _ _ _ _ _ (without_order _ _ _ _ _ _ _ _ _ _ _ _ c.answer_words-status.ensures.ran) (one_number c.answer_words-status.result.0 statuses.Disk (sym c.number.ensures ∙ is))

pub returns-clause-comes : goal.returns-clause-comes
unfolding returns-clause-ran
returns-clause-comes g c =
    let ran = without_order _ _ _ _ _ _ _ _ _ _ _ _ (returns-clause-ran g c).holds in
    record { status = c.answer_words-status.result.0; number_is = c.number.ensures; holds = comes_where _ _ _ _ _ _ _ _ _ _ ran }

pub returns-clause-only : goal.returns-clause-only
unfolding returns-clause-ran
returns-clause-only g c =
    let ran = without_order _ _ _ _ _ _ _ _ _ _ _ _ (returns-clause-ran g c).holds in
    record { status = c.answer_words-status.result.0; number_is = c.number.ensures; holds = comes_only _ _ _ _ _ _ _ _ _ _ ran }

pub returns-clause-complete : goal.returns-clause-complete
unfolding returns-clause-ran
returns-clause-complete g c =
    let ran = without_order _ _ _ _ _ _ _ _ _ _ _ _ (returns-clause-ran g c).holds in
    record {
      status = c.answer_words-status.result.0;
      number_is = c.number.ensures;
      holds = completes c.bytes_hold_one_list.ensures.records _ _ _ _ _ _ _ _ _ _ _ _ ran c.answer_words-status.ensures.read_fault c.answer_words-status.ensures.write_fault.risen;
    }
