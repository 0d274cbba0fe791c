use Rattle.std.specs.Prelude.{count_by}
use Rattle.std.proofs.Common.{◌≡◌, take}
use Rattle.weighed_round.specs.claim_history.specs.Acts.{is_publication}
use Rattle.bureau_reports.proofs.sound_line.rounds_in.Given as goal

abbrev pub invariant-loop-place : goal.invariant-loop-place
invariant-loop-place l = record { rounds_are : l.rounds ≡ count_by (λ m. is_publication m.entry.act) (take l.place l.books.members) }
