use Rattle.std.specs.Prelude.{is_some}
use Rattle.std.specs.Option.{option_map}
use Rattle.std.proofs.Common.{◌≡◌, ◌∙◌, ◌∷◌, [], Some, sym, ap, true≢false}
use Rattle.setoff_model.specs.CutView.{CutView}
use Rattle.claim_history.specs.Rounds.{open_cut_of}
use Rattle.history_text.proofs.replaying.open_cut.Goals as goal

pub unreachable-requires : goal.unreachable-requires
unreachable-requires c =
    let here = ap open_cut_of c.book.ensures in
    true≢false (sym c.requires ∙ ap is_some (sym here ∙ sym c.kept_cut.ensures ∙ ap (option_map (λ cut. cut.now)) c.in_default.is))

pub returns : goal.returns
returns c = λ cut is.
    let here = ap open_cut_of c.book.ensures in
    let both : Some c.in-Some.cut.now ≡ Some cut = ap (option_map (λ kept. kept.now)) (sym c.in-Some.is) ∙ c.kept_cut.ensures ∙ here ∙ is in
    let same : c.in-Some.cut.now ≡ cut = cc both in
    c.from_ref.ensures.value ∙ ap (λ (x : CutView). x ∷ []) same
