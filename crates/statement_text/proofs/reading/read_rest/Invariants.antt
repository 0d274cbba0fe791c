use Rattle.std.proofs.Common.{◌≡◌, ◌+◌, ◌≤◌, ◌++◌, length}
use Rattle.std.specs.Str.Lines.{lines}
use Rattle.statement_text.specs.Statements.{CanBeStated}
use Rattle.statement_text.specs.Drafts.{lines_of, texts_of}
use Rattle.statement_text.proofs.reading.read_rest.Given as goal

abbrev pub invariant-loop-line : goal.invariant-loop-line
invariant-loop-line l = record {
  stated : CanBeStated l.draft.cut l.draft.outcome;
  read : texts_of l.fn.head ++ lines l.fn.text ≡ texts_of l.draft ++ lines l.rest;
  numbered : l.number ≡ length (lines_of l.draft) + 1;
  counted : l.number + length l.rest ≤ length l.fn.text + 2;
}

abbrev pub decreases-loop-line : goal.decreases-loop-line
decreases-loop-line l = length l.rest
