use Rattle.clap.specs.Matches.{found_of}
use Rattle.command_words.proofs.Found.{found_given, given_found, none_weaker, some_weaker}
use Rattle.command_words.proofs.reading.find_command.Goals as goal

pub returns-clause-found : goal.returns-clause-found
returns-clause-found c =
    let at = c.in_ok-name.ensures in
    let values = found_of c.in_ok-name.values.now in
    some_weaker c.command_by_name.result _ _ (λ command h. (h.0, given_found c.args.matches.now c.in_ok-name.name.now values at.name at.rows command h.1)) c.command_by_name.ensures.found

pub returns-clause-none : goal.returns-clause-none
returns-clause-none c =
    let at = c.in_ok-name.ensures in
    let values = found_of c.in_ok-name.values.now in
    none_weaker c.command_by_name.result (λ none command range found. none command range (found_given c.args.matches.now c.in_ok-name.name.now values at.name at.rows command found)) c.command_by_name.ensures.none
