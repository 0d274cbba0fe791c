use Rattle.std.proofs.Common.{◌<◌, ◌≤◌, ◌++◌, ◌∷◌, [], length, sym, ◌∙◌, ap, subst, arith}
use Rattle.setoff_model.specs.declared.limits.TheConstants.{SUM_LIMIT}
use Rattle.setoff_model.specs.Setoff.{total_of}
use Rattle.round_cut.specs.claim_history.specs.States.{state_of}
use Rattle.round_cut.specs.claim_history.specs.History.{MayFollowInPool}
use Rattle.claim_book.specs.Book.{BookView}
use Rattle.claim_book.proofs.Parts.{refused_grows, are_accounts, settles, round_there}
use Rattle.claim_book.proofs.Kept.{one_needed, keeps_room, need_of_other}
use Rattle.claim_book.proofs.book.Book.apply_publish.Goals as goal

pub invariant_of-self : goal.invariant_of-self
invariant_of-self c =
    let next = subst (λ (b : BookView). MayFollowInPool b.history c.args.entry) (sym c.self.view_is) c.requires.next in
    rw c.put_entry.ensures.items (refused_grows _ c.args.entry c.self.invariant c.requires.valid (sym c.accepted.ensures ∙ c.if-not-accepted.true) next)

pub put_entry-requires : goal.put_entry-requires
put_entry-requires c =
    let one = one_needed (state_of c.args.self.now.history) c.args.entry.caller c.args.entry.act in
    let room = subst (λ (b : BookView). 1 ≤ b.room) (sym c.self.view_is) (omega (arith, one, c.requires.room)) in
    omega (arith, room)

pub discharge-requires-2-clause-small : goal.discharge-requires-2-clause-small
discharge-requires-2-clause-small c =
    let next = subst (λ (b : BookView). MayFollowInPool b.history c.args.entry) (sym c.self.view_is) c.requires.next in
    let is = settles _ c.args.entry c.outcome_in.ensures.0 c.outcome_in.result.now c.take_cut-cut.result c.self.invariant c.requires.valid (sym c.accepted.ensures ∙ c.if-not-accepted.false) c.outcome_in.ensures.1 next c.take_cut-cut.ensures.cut in
    rw c.discharges-discharges.ensures (are_accounts _ is.grows).small

pub take_cut-cut-requires : goal.take_cut-cut-requires
take_cut-cut-requires c =
    let next = subst (λ (b : BookView). MayFollowInPool b.history c.args.entry) (sym c.self.view_is) c.requires.next in
    round_there _ c.args.entry c.self.invariant c.requires.publishes (sym c.accepted.ensures ∙ c.if-not-accepted.false) next

pub discharge-requires-clause-one_each : goal.discharge-requires-clause-one_each
discharge-requires-clause-one_each c =
    let next = subst (λ (b : BookView). MayFollowInPool b.history c.args.entry) (sym c.self.view_is) c.requires.next in
    let asks = c.outcome_in.ensures.1 in
    let is = settles _ c.args.entry c.outcome_in.ensures.0 c.outcome_in.result.now c.take_cut-cut.result c.self.invariant c.requires.valid (sym c.accepted.ensures ∙ c.if-not-accepted.false) asks next c.take_cut-cut.ensures.cut in
    ap length c.discharges-discharges.ensures ∙ is.one_each

pub discharge-requires-2-clause-one_each : goal.discharge-requires-2-clause-one_each
discharge-requires-2-clause-one_each c =
    let next = subst (λ (b : BookView). MayFollowInPool b.history c.args.entry) (sym c.self.view_is) c.requires.next in
    let asks = c.outcome_in.ensures.1 in
    let is = settles _ c.args.entry c.outcome_in.ensures.0 c.outcome_in.result.now c.take_cut-cut.result c.self.invariant c.requires.valid (sym c.accepted.ensures ∙ c.if-not-accepted.false) asks next c.take_cut-cut.ensures.cut in
    ap length c.discharges-discharges.ensures ∙ is.one_each

pub discharge-requires-2-clause-total : goal.discharge-requires-2-clause-total
discharge-requires-2-clause-total c =
    let next = subst (λ (b : BookView). MayFollowInPool b.history c.args.entry) (sym c.self.view_is) c.requires.next in
    let is = settles _ c.args.entry c.outcome_in.ensures.0 c.outcome_in.result.now c.take_cut-cut.result c.self.invariant c.requires.valid (sym c.accepted.ensures ∙ c.if-not-accepted.false) c.outcome_in.ensures.1 next c.take_cut-cut.ensures.cut in
    subst (λ d. total_of d < SUM_LIMIT) (sym c.discharges-discharges.ensures) is.total

pub invariant_of-self-2 : goal.invariant_of-self-2
invariant_of-self-2 c =
    let next = subst (λ (b : BookView). MayFollowInPool b.history c.args.entry) (sym c.self.view_is) c.requires.next in
    let is = settles _ c.args.entry c.outcome_in.ensures.0 c.outcome_in.result.now c.take_cut-cut.result c.self.invariant c.requires.valid (sym c.accepted.ensures ∙ c.if-not-accepted.false) c.outcome_in.ensures.1 next c.take_cut-cut.ensures.cut in
    rw (c.put_entry-2.ensures.items, c.unmark.ensures.facts, c.unmark.ensures.marks, c.unmark-2.ensures.facts, c.unmark-2.ensures.marks, c.discharge.ensures.facts, c.discharge-2.ensures.facts, c.take_cut-cut.ensures.none, c.discharges-discharges.ensures) is.grows

pub returns-clause-cut : goal.returns-clause-cut
returns-clause-cut c =
    let next = subst (λ (b : BookView). MayFollowInPool b.history c.args.entry) (sym c.self.view_is) c.requires.next in
    let accepted = sym c.accepted.ensures ∙ c.if-not-accepted.false in
    let is = settles _ c.args.entry c.outcome_in.ensures.0 c.outcome_in.result.now c.take_cut-cut.result c.self.invariant c.requires.valid accepted c.outcome_in.ensures.1 next c.take_cut-cut.ensures.cut in
    (accepted, (is.round, ap (λ (b : BookView). (state_of b.history).open_round) (sym c.self.view_is) ∙ is.was_open, is.cut_is))

pub discharge-requires-clause-formed : goal.discharge-requires-clause-formed
discharge-requires-clause-formed c =
    let next = subst (λ (b : BookView). MayFollowInPool b.history c.args.entry) (sym c.self.view_is) c.requires.next in
    (settles _ c.args.entry c.outcome_in.ensures.0 c.outcome_in.result.now c.take_cut-cut.result c.self.invariant c.requires.valid (sym c.accepted.ensures ∙ c.if-not-accepted.false) c.outcome_in.ensures.1 next c.take_cut-cut.ensures.cut).formed

pub discharge-requires-2-clause-formed : goal.discharge-requires-2-clause-formed
discharge-requires-2-clause-formed c =
    let next = subst (λ (b : BookView). MayFollowInPool b.history c.args.entry) (sym c.self.view_is) c.requires.next in
    (settles _ c.args.entry c.outcome_in.ensures.0 c.outcome_in.result.now c.take_cut-cut.result c.self.invariant c.requires.valid (sym c.accepted.ensures ∙ c.if-not-accepted.false) c.outcome_in.ensures.1 next c.take_cut-cut.ensures.cut).formed

pub returns-then-not-accepted-clause-history : goal.returns-then-not-accepted-clause-history
returns-then-not-accepted-clause-history c = c.put_entry.ensures.items ∙ ap (λ (b : BookView). b.history ++ c.args.entry ∷ []) c.self.view_is

pub returns-then-not-accepted-clause-room : goal.returns-then-not-accepted-clause-room
returns-then-not-accepted-clause-room c =
    let room = ap (λ (b : BookView). b.room) c.self.view_is in
    omega (arith, room, c.put_entry.ensures.len, c.put_entry.ensures.capacity)

pub returns-then-not-accepted-clause-kept : goal.returns-then-not-accepted-clause-kept
returns-then-not-accepted-clause-kept c =
    let e = c.args.entry in
    let book = c.args.self.now in
    keeps_room book.history e book.room _ (need_of_other (state_of book.history) e.caller e.act book.room c.requires.room) (returns-then-not-accepted-clause-room c)

pub returns-clause-history : goal.returns-clause-history
returns-clause-history c = c.put_entry-2.ensures.items ∙ ap (λ (b : BookView). b.history ++ c.args.entry ∷ []) c.self.view_is

pub returns-clause-room : goal.returns-clause-room
returns-clause-room c =
    let room = ap (λ (b : BookView). b.room) c.self.view_is in
    omega (arith, room, c.put_entry-2.ensures.len, c.put_entry-2.ensures.capacity)

pub returns-clause-kept : goal.returns-clause-kept
returns-clause-kept c =
    let e = c.args.entry in
    let book = c.args.self.now in
    keeps_room book.history e book.room _ (need_of_other (state_of book.history) e.caller e.act book.room c.requires.room) (returns-clause-room c)

pub put_entry-requires-2 : goal.put_entry-requires-2
put_entry-requires-2 c =
    let one = one_needed (state_of c.args.self.now.history) c.args.entry.caller c.args.entry.act in
    let room = subst (λ (b : BookView). 1 ≤ b.room) (sym c.self.view_is) (omega (arith, one, c.requires.room)) in
    omega (arith, room)
