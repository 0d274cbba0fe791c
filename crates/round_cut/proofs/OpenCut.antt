-- The cut of the open round is well formed, since that of the entries before its opening is.
use Rattle.std.specs.Prelude.{reverse}
use Rattle.std.proofs.Common.{◌≡◌, true, ◌∷◌, ◌++◌, sym, subst}
use Rattle.setoff_model.specs.CutView.{WellFormed}
use Rattle.setoff_model.proofs.Lists.{All-first}
use Rattle.claim_history.specs.Acts.{is_valid}
use Rattle.claim_history.specs.History.{IsLegalPool, IsLegalPoolPast, AreValidEntries}
use Rattle.claim_history.proofs.Pasts.{legal_rest, reverse_parts}
use Rattle.claim_history.proofs.Agreement.{cut_law}
use Rattle.round_cut.specs.CutLaw.{OpenFormedLaw}
use Rattle.round_cut.proofs.History.{formed_law}

pub open_formed_law : OpenFormedLaw
open_formed_law history legal valid round is =
    let o = cut_law history legal round is in
    let past : IsLegalPoolPast (reverse (o.before ++ o.opening ∷ o.later)) = subst IsLegalPool o.parts legal in
    let before = (legal_rest (reverse o.later) (o.opening ∷ reverse o.before) (subst IsLegalPoolPast (reverse_parts o.before o.later o.opening) past)).1 in
    let valid_before = All-first (λ e. is_valid e.act ≡ true) o.before (o.opening ∷ o.later) (subst AreValidEntries o.parts valid) in
    subst WellFormed (sym o.cut_is) (formed_law o.before round.cut.round round.cut.kind round.horizon before valid_before)
