use Rattle.std.proofs.Common.{◌∙◌, ap, refl}
use Rattle.disk_model.specs.Memory.{MemoryState}
use Rattle.disk_model.specs.MemoryState.{seen_of}
use Rattle.trial_round.proofs.Opened.{opened_empty, refused_for_want}
use Rattle.trial_round.proofs.round.open_desk.Goals as goal

pub returns-in-Ok : goal.returns-in-Ok
returns-in-Ok c =
    opened_empty seen_of c.new-disk.result c.in-Ok.desk c.in-Ok.ensures.ok refl (ap (λ (s : MemoryState). s.bytes) c.new-disk.ensures ∙ c.new.ensures.items)

pub opening_error-requires : goal.opening_error-requires
opening_error-requires c =
    refused_for_want (seen_of c.new-disk.result) (seen_of c.in-Err.field-0.disk) c.in-Err.field-0.cause refl (ap (λ (s : MemoryState). s.bytes) c.new-disk.ensures ∙ c.new.ensures.items) c.in-Err.ensures.err
