use Rattle.std.proofs.Common.{◌≡◌, ◌<◌, ◌∙◌, ap, sym, subst, false, ◌++◌, ◌∷◌, []}
use Rattle.std.specs.List.{list_any}
use Rattle.name_index.specs.Indexes.{NamesView}
use Rattle.setoff_model.specs.Same.{same_name}
use Rattle.name_index.proofs.Added.{put_last}
use Rattle.name_index.proofs.name_index.NameIndex.add.Goals as goal

pub returns-clause-names : goal.returns-clause-names
returns-clause-names c =
    let room = subst (λ (v : NamesView). 0 < v.room) (sym c.self.view_is) c.requires.room in
    let new = subst (λ (v : NamesView). list_any (same_name c.args.name) v.names ≡ false) (sym c.self.view_is) c.requires.new in
    put_last c.self.inside.names.keys c.insert.new.self.keys c.args.name _ c.insert.result (c.insert.ensures.succeeds room) c.insert.ensures.keys new
    ∙ ap (λ (v : NamesView). v.names ++ c.args.name ∷ []) c.self.view_is
