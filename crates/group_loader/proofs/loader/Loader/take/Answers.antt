use Rattle.std.proofs.Common.{◌≡◌, ◌∙◌, false, List, sym, ap, subst}
use Rattle.claim_history.specs.declared.call.PoolEntry.{PoolEntry}
use Rattle.claim_history.specs.PoolNeeds.{is_full}
use Rattle.claim_history.specs.Pools.{due_reply}
use Rattle.claim_history.proofs.PoolRoom.{full_law}
use Rattle.group_loader.specs.Loading.{LoadView, Loads}
use Rattle.act_bodies.proofs.Keepable.{act_valid}
use Rattle.group_loader.proofs.Taken.{loads_held, loads_same, other_opens_none}
use Rattle.group_loader.proofs.loader.Loader.take.Goals as goal

pub make_room-requires : goal.make_room-requires
make_room-requires g c = act_valid c.args.call c.requires.keepable

pub fits-requires-clause-valid : goal.fits-requires-clause-valid
fits-requires-clause-valid g c = act_valid c.args.call c.requires.keepable

pub fits-requires-clause-no_opening : goal.fits-requires-clause-no_opening
fits-requires-clause-no_opening g c = other_opens_none c.self.inside.books.members c.args.call c.answer-due.result c.answer-due.ensures c.requires.other

pub apply-requires-clause-valid : goal.apply-requires-clause-valid
apply-requires-clause-valid g c = act_valid c.args.call c.requires.keepable

pub apply-requires-clause-no_opening : goal.apply-requires-clause-no_opening
apply-requires-clause-no_opening g c = other_opens_none c.self.inside.books.members c.args.call c.answer-due.result c.answer-due.ensures c.requires.other

pub apply-requires-clause-fits : goal.apply-requires-clause-fits
apply-requires-clause-fits g c =
    (full_law c.make_room.new.books.members c.args.call).0
    (subst (λ (ms : List PoolEntry). is_full ms c.args.call ≡ false) (sym c.make_room.ensures.members) c.in_default.ensures.fits)

pub returns-clause-fits : goal.returns-clause-fits
returns-clause-fits g c =
    subst (λ (v : LoadView g.row.D.Denot). is_full v.books.members c.args.call ≡ false) c.self.view_is c.in_default.ensures.fits

pub invariant_of-self-2 : goal.invariant_of-self-2
invariant_of-self-2 g c =
    let v : LoadView g.row.D.Denot = record { journal = c.self.inside.journal; books = c.self.inside.books; group = c.self.inside.group; kept = c.self.inside.kept } in
    let spared : LoadView g.row.D.Denot = record { journal = c.self.inside.journal; books = c.make_room.new.books; group = c.self.inside.group; kept = c.self.inside.kept } in
    let has : Loads g.D.Disk.seen spared = loads_same g.D.Disk.seen v c.self.invariant c.make_room.new.books c.make_room.ensures.members in
    let same = c.make_room.ensures.members in
    let due_is = c.answer-due.ensures ∙ ap (λ (ms : List PoolEntry). due_reply ms c.args.call) (sym same) in
    let fits = subst (λ (ms : List PoolEntry). is_full ms c.args.call ≡ false) (sym same) c.in_default.ensures.fits in
    loads_held g.D.Disk.seen spared has c.args.call c.requires.keepable c.answer-due.result due_is fits c.apply.new.self c.apply.ensures.members
    c.hold.new.group c.in-Ok-hold.ensures.held c.in-Ok-hold.ensures.same
