use Rattle.std.proofs.Common.{sym}
use Rattle.setoff_model.specs.declared.cut.Party.{Party}
use Rattle.setoff_model.specs.Same.{same_name}
use Rattle.name_index.proofs.Rows.{row_place}
use Rattle.round_cut.proofs.parties.find_party.Goals as goal

pub returns : goal.returns
returns c = sym (row_place (λ (p : Party). p.firm) c.args.names.now.names c.args.parties.now c.requires (same_name c.args.firm.now) c.place.result c.place.ensures)
