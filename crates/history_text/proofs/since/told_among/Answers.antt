use Rattle.std.proofs.Common.{◌≡◌, ◌∙◌, ℕ, List, Option, ap, length, sym, take}
use Rattle.std.proofs.lemmas.List.{length-take-le}
use Rattle.history_text.specs.Histories.{told_members}
use Rattle.history_text.proofs.Behind.{told_behind, told_few, told_first}
use Rattle.history_text.proofs.Telling.{told_many}
use Rattle.history_text.proofs.since.told_among.Goals as goal

pub returns-in-None : goal.returns-in-None
returns-in-None c =
    let pool = c.args.pool.now in
    let members = c.args.books.now.members in
    let acts = c.args.acts in
    let many : acts ≡ length (told_members pool (take acts members)) =
    sym (length-take-le acts members c.requires) ∙ ap (λ (p : Option (List ℕ)). length (told_members p (take acts members))) (sym c.in-None.is) in
    record { few = told_few pool members acts acts many; first = told_first pool members acts acts many; behind = told_behind pool members acts acts many }

pub returns-in-Some : goal.returns-in-Some
returns-in-Some c =
    let pool = c.args.pool.now in
    let members = c.args.books.now.members in
    let acts = c.args.acts in
    let from = c.entries_among.result in
    let many : from ≡ length (told_members pool (take acts members)) =
    c.entries_among.ensures ∙ sym (told_many c.in-Some.pool (take acts members)) ∙ ap (λ (p : Option (List ℕ)). length (told_members p (take acts members))) (sym c.in-Some.is) in
    record { few = told_few pool members acts from many; first = told_first pool members acts from many; behind = told_behind pool members acts from many }
