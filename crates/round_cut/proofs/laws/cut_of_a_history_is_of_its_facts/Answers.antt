use Rattle.round_cut.proofs.History.{cut_law, facts_law, formed_law, windows_law}
use Rattle.round_cut.proofs.laws.cut_of_a_history_is_of_its_facts.Goals as goal

pub returns : goal.returns
returns c = record { cut = cut_law; facts = facts_law; formed = formed_law; windows = windows_law }
