use Rattle.std.proofs.Common.{◌≡◌, ◌<◌, ◌∙◌, ap, sym, subst, false, ◌++◌, ◌∷◌, []}
use Rattle.std.specs.List.{list_any}
use Rattle.name_index.specs.Indexes.{KeysView}
use Rattle.setoff_model.specs.Same.{same_key}
use Rattle.name_index.proofs.Added.{put_last}
use Rattle.name_index.proofs.key_index.KeyIndex.add.Goals as goal

pub returns-clause-keys : goal.returns-clause-keys
returns-clause-keys c =
    let room = subst (λ (v : KeysView). 0 < v.room) (sym c.self.view_is) c.requires.room in
    let new = subst (λ (v : KeysView). list_any (same_key c.args.key) v.keys ≡ false) (sym c.self.view_is) c.requires.new in
    put_last c.self.inside.keys.keys c.insert.new.self.keys c.args.key _ c.insert.result (c.insert.ensures.succeeds room) c.insert.ensures.keys new
    ∙ ap (λ (v : KeysView). v.keys ++ c.args.key ∷ []) c.self.view_is
