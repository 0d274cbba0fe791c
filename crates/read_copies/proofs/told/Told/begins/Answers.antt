use Rattle.std.proofs.Common.{List, ap, subst}
use mathlib.Core.List.{IsPrefix}
use Rattle.claim_history.specs.declared.entry.Entry.{Entry}
use Rattle.read_copies.specs.Shown.{shown_history}
use Rattle.read_copies.proofs.Beginnings.{one_begins, history_begins}
use Rattle.read_copies.proofs.told.Told.begins.Goals as goal

pub returns : goal.returns
returns c =
    let both = c.learn.new.self.log in
    let this : IsPrefix c.self.inside.seen.log both = subst (λ (l : List (List Entry)). IsPrefix l both) (ap (λ s. s.log) c.again-both.ensures) c.learn.ensures.2 in
    rw (← c.self.view_is, ← c.other.view_is) (
    one_begins _ _ (shown_history both) _ _ (history_begins c.self.inside.seen.log both this) (history_begins c.other.inside.seen.log both c.learn.ensures.3) c.self.invariant c.other.invariant
    )
