use Rattle.std.proofs.Common.{◌≡◌, [], map, true, inl, inr, refl, subst, string_bytes}
use Rattle.clap.specs.Simple.{App, HasMatchesOf}
use Rattle.clap.specs.Words.{fault_of, is_simple_and_free, kind_of}
use Rattle.clap.specs.Kinds.{HasKind, IsAmong, Kinds}
use Rattle.command_words.proofs.Commands.{fault_refused}
use Rattle.command_words.proofs.Walks.{is_free}
use Rattle.command_words.proofs.reading.parse_words.Goals as goal

pub returns-in-Ok-clause-taken : goal.returns-in-Ok-clause-taken
returns-in-Ok-clause-taken c =
    let words = map (λ w. string_bytes w) c.args.words.now in
    subst (λ (a : App). is_simple_and_free a ≡ true → fault_of a words ≡ []) c.in_ok-program.ensures.shape c.in-Ok.ensures.kinds is_free

pub returns-in-Ok-clause-found : goal.returns-in-Ok-clause-found
returns-in-Ok-clause-found c =
    let words = map (λ w. string_bytes w) c.args.words.now in
    (subst (λ (a : App). HasMatchesOf a words c.in-Ok.matches) c.in_ok-program.ensures.shape c.in-Ok.ensures.matches refl).1

pub returns-in-Err-clause-unknown : goal.returns-in-Err-clause-unknown
returns-in-Err-clause-unknown c is =
    let words = map (λ w. string_bytes w) c.args.words.now in
    let kind = subst (λ (a : App). is_simple_and_free a ≡ true → HasKind (fault_of a words) c.in-Err.error) c.in_ok-program.ensures.shape c.in-Err.ensures.kinds is_free in
    fault_refused words (λ none. elim kind [
      | inl memory ↦ c.cause_of.ensures is memory
      | inr among ↦ subst (λ (kinds : Kinds). IsAmong (kind_of c.in-Err.error) kinds) none among
    ])
