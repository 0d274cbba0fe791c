-- The text of a batch: members of the history, statements of published rounds, and lines for lines that were not replied to.
use Rattle.std.specs.Prelude.{ℕ, ◌-◌, ◌≡◌, ◌≤◌, List, [], ◌∷◌, ◌++◌, map, flat_map, slice_get, codes, Option, Some}
use Rattle.std.specs.List.{range_with_len}
use Rattle.setoff_model.specs.CutView.{CutView, OutcomeView, WellFormed, obligations}
use Rattle.setoff_model.specs.Setoff.{Proves}
use Rattle.served_lines.specs.claim_history.specs.declared.act.Act.{Act}
use Rattle.served_lines.specs.claim_history.specs.declared.act.Act.TheVariants as act
use Rattle.served_lines.specs.claim_history.specs.declared.call.PoolEntry.{PoolEntry}
use Rattle.served_lines.specs.claim_history.specs.declared.entry.Reply.{Reply}
use Rattle.served_lines.specs.claim_history.specs.declared.entry.Reply.TheVariants as reply
use Rattle.served_lines.specs.claim_history.specs.PoolRounds.{open_cut_in}
use Rattle.statement_text.specs.declared.line.Line.{Line}
use Rattle.statement_text.specs.Lines.{line_text}
use Rattle.entry_text.specs.Entries.{entry_line}
use Rattle.statement_text.specs.Statements.{statement_bytes}
use Rattle.served_lines.specs.request_text.specs.declared.request.Request.{Request}
use Rattle.served_lines.specs.declared.answer.Answer.{Answer}
use Rattle.served_lines.specs.declared.line_end.LineEnd.{LineEnd}
use Rattle.served_lines.specs.declared.line_end.LineEnd.TheVariants as ends
use Rattle.printed_text.specs.declared.batch_answers.BatchAnswers.{BatchAnswers}
use Rattle.printed_text.specs.declared.batch_answers.BatchAnswers.TheVariants as answered
use Rattle.printed_text.specs.Texts.{memory_line, full_line}

-- ---- members and statements

-- the statement of the cut, where the act publishes an outcome and is accepted
abbrev pub statement_of : Option CutView → Act → Reply → List ℕ
statement_of (Some cut) (act.Publish number outcome) (reply.Published total) = statement_bytes cut outcome
statement_of _ _ _ = []

-- the line of a member after a history, and at once the statement of the round of its pool that it publishes
abbrev pub member_text : List PoolEntry → PoolEntry → List ℕ
member_text before m = entry_line m ++ statement_of (open_cut_in before m.pool) m.entry.act m.entry.reply

-- the members that were added to a history, in order, each with the statement of the round that it publishes
abbrev pub added_text : List PoolEntry → List PoolEntry → List ℕ
added_text before [] = []
added_text before (m ∷ added) = member_text before m ++ added_text (before ++ m ∷ []) added

-- what holds of a cut and an outcome whose statement is written
pub record IsPrintable (cut : CutView) (outcome : OutcomeView) : Type 0 where
  pub well_formed : WellFormed cut
  pub round_from : 1 ≤ cut.round
  pub proved : Proves (obligations cut) outcome.discharges outcome.prices

-- a line of a statement with its line feed, and lines
abbrev pub line_bytes : Line → List ℕ
line_bytes l = line_text l ++ codes "\n"

abbrev pub lines_bytes : List Line → List ℕ
lines_bytes ls = flat_map line_bytes ls

-- the act publishes an outcome, and the statement of it and of the cut at a place can be written
pub record IsPrintableAt (cuts : List CutView) (place : ℕ) (a : Act) : Type 0 where
  pub number : ℕ
  pub outcome : OutcomeView
  pub cut : CutView
  pub asks : a ≡ act.Publish number outcome
  pub cut_is : slice_get cuts place ≡ Some cut
  pub printable : IsPrintable cut outcome

-- how many rounds a reply publishes
abbrev pub rounds_in : Reply → ℕ
rounds_in (reply.Published total) = 1
rounds_in _ = 0

-- ---- lines that were not replied to

-- what is told of a line after its batch
abbrev pub end_text : ℕ → LineEnd → List ℕ
end_text line ends.Replied = []
end_text line ends.Memory = memory_line line
end_text line (ends.Full what needed limit) = full_line line what needed limit

abbrev pub ends_text : List Answer → List ℕ
ends_text [] = []
ends_text (answer ∷ answers) = end_text answer.line answer.end ++ ends_text answers

-- there was no memory for a line
abbrev pub without_memory : ℕ → Answer
without_memory line = record { line = line; end = ends.Memory }

-- the answers of a batch for none of whose lines there was memory
abbrev pub unanswered : List Request → List Answer
unanswered requests = map (λ request. without_memory request.line) requests

-- the same of so many lines, from a number on
abbrev pub unanswered_lines : ℕ → ℕ → List Answer
unanswered_lines first count = map without_memory (range_with_len first count)

-- what came of the lines of a batch, one by one
abbrev pub answers_in : BatchAnswers → List Answer
answers_in (answered.Each answers) = answers.now
answers_in (answered.Unasked requests) = unanswered requests.now
answers_in (answered.UnaskedLines first behind) = unanswered_lines first (behind - first)

-- the members that a batch added to a history, then a line for each of its lines that was not replied to
abbrev pub printed_of : List PoolEntry → List PoolEntry → List Answer → List ℕ
printed_of before added answers = added_text before added ++ ends_text answers
