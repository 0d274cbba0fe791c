use Rattle.text_lines.proofs.Joining.{join_law}
use Rattle.text_lines.proofs.Spaces.{no_space_law}
use Rattle.text_lines.proofs.joined_fields_are_cut_again.Goals as goal

pub returns : goal.returns
returns c = record { law = join_law; no_space = no_space_law }
