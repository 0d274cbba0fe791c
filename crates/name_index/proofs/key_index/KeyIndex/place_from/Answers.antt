use Rattle.std.specs.Prelude.{position}
use Rattle.std.proofs.Common.{List, ◌<◌, length, get_or, sym, ◌∙◌, ap, subst}
use Rattle.std.proofs.lemmas.Map.Made.{AllPairs-from_IsDistinct}
use Rattle.setoff_model.specs.Same.{same_key}
use Rattle.setoff_model.proofs.SameNames.{same_key_is}
use Rattle.setoff_model.specs.declared.name.Key.{Key}
use Rattle.name_index.specs.Indexes.{KeysView}
use Rattle.name_index.proofs.Guessed.{only_place}
use Rattle.name_index.proofs.key_index.KeyIndex.place_from.Goals as goal

pub returns-then-eq-clause-found : goal.returns-then-eq-clause-found
returns-then-eq-clause-found c =
    let key = c.args.key.now in
    let keys = c.self.inside.keys.keys in
    let place = c.loop-place.place in
    let found = c.index-keys-place.result in
    let lt = subst (λ (ks : List Key). place < length ks) c.as_slice-keys.ensures.keys c.loop-place-test.true in
    let is = c.index-keys-place.is ∙ ap (λ (ks : List Key). get_or ks place found) c.as_slice-keys.ensures.keys in
    let here = ap (same_key key) (sym is) ∙ sym c.eq.ensures ∙ c.if-eq.true in
    ap (λ (v : KeysView). position (same_key key) v.keys) (sym c.self.view_is)
    ∙ only_place keys (AllPairs-from_IsDistinct same_key_is keys c.as_slice-keys.ensures.unique) (same_key key) key (same_key_is key) place found lt here
