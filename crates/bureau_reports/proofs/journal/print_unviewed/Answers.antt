use Rattle.std.proofs.Common.{◌∙◌, ◌∷◌, [], sym, refl, arith}
use Rattle.weighed_round.specs.printed_text.specs.declared.exit_status.ExitStatus.TheVariants as statuses
use Rattle.weighed_round.specs.printed_text.proofs.Statuses.{other_than}
use Rattle.bureau_reports.specs.Journals.{unviewed_status, unviewed_text}
use Rattle.bureau_reports.proofs.Viewed.{unviewed_among}
use Rattle.bureau_reports.proofs.Written.{written_as}
use Rattle.bureau_reports.proofs.journal.print_unviewed.Goals as goal

pub write_unviewed-requires-clause-tellable : goal.write_unviewed-requires-clause-tellable
write_unviewed-requires-clause-tellable g c = c.requires.tellable

pub write_unviewed-requires-clause-empty : goal.write_unviewed-requires-clause-empty
write_unviewed-requires-clause-empty g c = c.requires.empty

pub write_unviewed-requires-clause-spare : goal.write_unviewed-requires-clause-spare
write_unviewed-requires-clause-spare g c = omega (arith, c.requires.spare)

pub end_with-requires : goal.end_with-requires
end_with-requires g c = λ sink.
    other_than statuses.Sink (statuses.No ∷ statuses.Disk ∷ statuses.Unsound ∷ statuses.Memory ∷ []) (unviewed_status c.args.report.now c.args.cause) refl (sym c.status_of_unviewed.ensures ∙ sink) (unviewed_among c.args.report.now c.args.cause)

pub returns-clause-written : goal.returns-clause-written
returns-clause-written g c =
    written_as _ _ (unviewed_status c.args.report.now c.args.cause) c.status_of_unviewed.result (unviewed_text c.args.report.now c.args.cause) c.as_slice.result.now _ c.status_of_unviewed.ensures (c.as_slice.ensures.value ∙ c.write_unviewed.ensures) c.end_with.ensures.written

pub returns-clause-write_fault : goal.returns-clause-write_fault
returns-clause-write_fault g c = c.end_with.ensures.failed
