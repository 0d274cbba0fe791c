use Rattle.std.proofs.Common.{◌≡◌, ◌≤◌, vec_capacity}
use Rattle.setoff_model.specs.declared.limits.TheConstants.{OUTPUT_BYTES}
use Rattle.printed_text.proofs.Passing.{GoesThroughUpTo}
use Rattle.history_text.specs.Histories.{AreFirst, text_from, told_members}
use Rattle.history_text.proofs.history.print_told.Given as goal

abbrev pub invariant-loop-place : goal.invariant-loop-place
invariant-loop-place g l = record {
  passes : GoesThroughUpTo (g.K.Sink.held l.fn.sink) (g.K.Sink.held l.sink) l.fn.buffer.items l.buffer.items
      (text_from (told_members l.pool l.books.members) l.place) (text_from (told_members l.pool l.books.members) l.from);
  first : AreFirst l.place (told_members l.pool l.books.members) l.replayed.members;
  room : OUTPUT_BYTES ≤ vec_capacity l.buffer;
  kept : g.K.Sink.faults l.sink ≡ g.K.Sink.faults l.fn.sink;
  low : l.from ≤ l.place;
}
