use Rattle.std.specs.Vec.{vec_len}
use Rattle.std.proofs.Common.{◌≡◌, ◌∙◌, ℕ, List, [], ◌∷◌, ◌++◌, length, ap, refl, sym, arith}
use Rattle.printed_text.specs.declared.exit_status.ExitStatus.TheVariants as statuses
use Rattle.printed_text.proofs.Statuses.{other_than}
use Rattle.journal_texts.specs.DiskTexts.{opening_status, opening_text}
use Rattle.journal_texts.proofs.Openings.{opening_among}
use Rattle.journal_texts.proofs.Written.{written_as}
use Rattle.journal_texts.proofs.refused.tell_refused.Goals as goal

pub write_opening_fault-requires-clause-tellable : goal.write_opening_fault-requires-clause-tellable
write_opening_fault-requires-clause-tellable g c = c.requires.tellable

pub write_opening_fault-requires-clause-spare : goal.write_opening_fault-requires-clause-spare
write_opening_fault-requires-clause-spare g c =
    let none : vec_len c.args.buffer.now ≡ 0 = c.args.buffer.now.ok.0 ∙ ap (λ (l : List ℕ). length l) c.requires.empty in
    omega (arith, none, c.requires.spare)

pub end_with-requires : goal.end_with-requires
end_with-requires g c = λ sink. other_than statuses.Sink (statuses.Disk ∷ statuses.Unsound ∷ statuses.Memory ∷ []) (opening_status c.args.cause) refl (sym c.status_of_opening.ensures ∙ sink) (opening_among c.args.cause)

pub returns-clause-written : goal.returns-clause-written
returns-clause-written g c =
    let said : c.as_slice.result.now ≡ opening_text c.args.cause = c.as_slice.ensures.value ∙ c.write_opening_fault.ensures.text ∙ ap (λ (t : List ℕ). t ++ opening_text c.args.cause) c.requires.empty in
    written_as _ _ (opening_status c.args.cause) c.status_of_opening.result (opening_text c.args.cause) c.as_slice.result.now _ c.status_of_opening.ensures said c.end_with.ensures.written

pub returns-clause-write_fault : goal.returns-clause-write_fault
returns-clause-write_fault g c = c.end_with.ensures.failed
