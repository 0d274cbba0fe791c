use Rattle.text_lines.proofs.Visible.{visible_law, ended_law}
use Rattle.text_lines.proofs.ended_lines_are_lines.Goals as goal

pub returns : goal.returns
returns c = record { visible = visible_law; ended = ended_law }
