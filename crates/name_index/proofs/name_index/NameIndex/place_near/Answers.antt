use Rattle.std.specs.Prelude.{position}
use Rattle.std.proofs.Common.{ℕ, List, ◌<◌, length, get_or, sym, ◌∙◌, ap, subst}
use Rattle.std.proofs.lemmas.Map.Made.{AllPairs-from_IsDistinct}
use Rattle.setoff_model.specs.Same.{same_name}
use Rattle.setoff_model.proofs.SameNames.{same_name_is}
use Rattle.name_index.specs.Indexes.{NamesView}
use Rattle.name_index.proofs.Guessed.{only_place}
use Rattle.name_index.proofs.name_index.NameIndex.place_near.Goals as goal

pub returns-then-eq : goal.returns-then-eq
returns-then-eq c =
    let name = c.args.name.now in
    let names = c.self.inside.names.keys in
    let found = c.index-names-guess.result in
    let lt = subst (λ (ns : List (List ℕ)). c.args.guess < length ns) c.as_slice-names.ensures.keys c.if-guess-names.true in
    let is = c.index-names-guess.is ∙ ap (λ (ns : List (List ℕ)). get_or ns c.args.guess found) c.as_slice-names.ensures.keys in
    let here = ap (same_name name) (sym is) ∙ sym c.eq.ensures ∙ c.if-eq.true in
    sym (only_place names (AllPairs-from_IsDistinct same_name_is names c.as_slice-names.ensures.unique) (same_name name) name (same_name_is name) c.args.guess found lt here)
    ∙ ap (λ (v : NamesView). position (same_name name) v.names) c.self.view_is
