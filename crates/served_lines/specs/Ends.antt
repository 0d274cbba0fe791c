-- How lines end.
use Rattle.std.specs.Prelude.{Bool, true, false, List}
use Rattle.std.specs.List.{list_any}
use Rattle.served_lines.specs.declared.answer.Answer.{Answer}
use Rattle.served_lines.specs.declared.line_end.LineEnd.{LineEnd}
use Rattle.served_lines.specs.declared.line_end.LineEnd.TheVariants as ends

abbrev pub is_memory_end : LineEnd → Bool
is_memory_end ends.Memory = true
is_memory_end _ = false

abbrev pub is_full_end : LineEnd → Bool
is_full_end (ends.Full what needed limit) = true
is_full_end _ = false

-- some line ended so
abbrev pub has_line_end : (LineEnd → Bool) → List Answer → Bool
has_line_end test answers = list_any (λ answer. test answer.end) answers
