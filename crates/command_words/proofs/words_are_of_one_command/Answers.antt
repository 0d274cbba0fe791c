use Rattle.command_words.proofs.Commands.{one_command}
use Rattle.command_words.proofs.words_are_of_one_command.Goals as goal

pub returns : goal.returns
returns c = record { law = one_command c.days_are_civil_dates.ensures.texts }
