use Rattle.std.proofs.Common.{◌∙◌, map, string_bytes, sym}
use Rattle.clap.proofs.WalkLemmas.{list_any-map}
use Rattle.command_words.specs.Reading.{is_option}
use Rattle.command_words.proofs.Commands.{option_refused, values_refused, words_known}
use Rattle.command_words.proofs.reading.command_of.Goals as goal

pub returns-then-has_option-clause-unknown : goal.returns-then-has_option-clause-unknown
returns-then-has_option-clause-unknown c is =
    let words = c.args.words.now in
    option_refused (map (λ w. string_bytes w) words) (sym (list_any-map is_option (λ w. string_bytes w) words) ∙ sym c.has_option.ensures ∙ c.if-has_option.true)

pub returns-in-Some-clause-found : goal.returns-in-Some-clause-found
returns-in-Some-clause-found c =
    let words = c.args.words.now in
    let plain = sym (list_any-map is_option (λ w. string_bytes w) words) ∙ sym c.has_option.ensures ∙ c.if-has_option.false in
    words_known (map (λ w. string_bytes w) words) plain c.in_ok-matches.ensures.taken _ c.in_ok-matches.ensures.found c.in-Some.command c.in-Some.ensures.found

pub returns-clause-unknown : goal.returns-clause-unknown
returns-clause-unknown c is = values_refused (map (λ w. string_bytes w) c.args.words.now) _ c.in_ok-matches.ensures.found c.in-None.ensures.none
