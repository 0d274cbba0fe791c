use Rattle.std.specs.Prelude.{position, if◌then◌else◌}
use Rattle.std.proofs.Common.{ℕ, Bool, List, true, not, ◌≡◌, ◌<◌, ◌++◌, ◌∷◌, [], ◌∙◌, sym, ap, ap₂, subst, arith}
use Rattle.std.specs.List.{list_any}
use Rattle.setoff_model.specs.Same.{same_name}
use Rattle.claim_history.specs.Facts.{at_place}
use Rattle.fact_tables.specs.Sums.{SumsView, has_sum, sum_of}
use Rattle.fact_tables.proofs.Summed.{none_yet, one_already, now_begun, still_known, sum_begun}
use Rattle.fact_tables.proofs.firm_sums.FirmSums.begin.Goals as goal

pub add-requires-clause-new : goal.add-requires-clause-new
add-requires-clause-new c = none_yet (same_name c.args.firm.now) c.self.inside.firms.names c.place.result c.place.ensures (c.is_none.ensures ∙ ap not c.if-is_none.true)

pub returns-then-is_none-clause-begun : goal.returns-then-is_none-clause-begun
returns-then-is_none-clause-begun c = ap (list_any (same_name c.args.firm.now)) c.add.ensures.names ∙ now_begun c.self.inside.firms.names c.args.firm.now

pub returns-then-is_none-clause-known : goal.returns-then-is_none-clause-known
returns-then-is_none-clause-known c =
    λ other known.
    ap (list_any (same_name other)) c.add.ensures.names
    ∙ still_known c.self.inside.firms.names c.args.firm.now other (subst (λ (v : SumsView). has_sum v other ≡ true) (sym c.self.view_is) known)

pub returns-then-is_none-clause-sums : goal.returns-then-is_none-clause-sums
returns-then-is_none-clause-sums c =
    let firms = c.self.inside.firms.names in
    let sums = c.self.inside.sums.items in
    let none = none_yet (same_name c.args.firm.now) firms c.place.result c.place.ensures (c.is_none.ensures ∙ ap not c.if-is_none.true) in
    λ other.
    ap₂ (λ (fs : List (List ℕ)) (ss : List ℕ). at_place ss (position (same_name other) fs)) c.add.ensures.names c.push_reserved.ensures.items
    ∙ sum_begun firms sums c.args.firm.now other c.self.invariant none
    ∙ ap (λ (v : SumsView). sum_of v other) c.self.view_is

pub returns-else-is_none-clause-begun : goal.returns-else-is_none-clause-begun
returns-else-is_none-clause-begun c =
    ap (λ (v : SumsView). has_sum v c.args.firm.now) (sym c.self.view_is)
    ∙ one_already (same_name c.args.firm.now) c.self.inside.firms.names c.place.result c.place.ensures (c.is_none.ensures ∙ ap not c.if-is_none.false)
