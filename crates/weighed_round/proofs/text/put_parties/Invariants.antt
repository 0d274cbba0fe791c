use Rattle.std.proofs.Common.{◌≡◌, ◌++◌, drop}
use Rattle.printed_text.specs.statement_text.specs.Statements.{party_lines}
use Rattle.printed_text.specs.Printing.{lines_bytes}
use Rattle.weighed_round.proofs.text.put_parties.Given as goal

abbrev pub invariant-loop-i : goal.invariant-loop-i
invariant-loop-i l = record {
  text : l.text.items ++ lines_bytes (party_lines (drop l.i l.parties) (drop l.i l.prices)) ≡ l.fn.text.items ++ lines_bytes (party_lines l.parties l.prices);
}
