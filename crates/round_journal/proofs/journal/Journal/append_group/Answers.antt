use Rattle.std.proofs.Common.{◌<◌, ℕ, List, length, rules, refl, sym, ap, subst, arith}
use Rattle.round_journal.specs.Appends.{HasAppended, HasNotAppended, HasTried}
use Rattle.round_journal.specs.Kept.{IsGroup, JournalView}
use Rattle.round_journal.proofs.Groups.{group_appended, group_not_appended, group_tried}
use Rattle.round_journal.proofs.journal.Journal.append_group.Goals as goal

pub returns-clause-done : goal.returns-clause-done
returns-clause-done g c bodies is =
    let new : JournalView g.row.D.Denot = record { disk = c.append.new.self.disk; gate = c.append.new.self.gate; unsettled = c.append.new.self.unsettled; at_first_sync = c.self.inside.opened.value } in
    let some : 0 < length c.bytes.result.now = omega (arith, ap length c.bytes.ensures.bytes, c.requires.some) in
    let is : IsGroup bodies c.bytes.result.now = subst (λ (l : List ℕ). IsGroup bodies l) (sym c.bytes.ensures.bytes) is in
    subst (λ (s : JournalView g.row.D.Denot). HasAppended g.D.Disk.seen s new bodies) c.self.view_is
    (group_appended g.D.Disk.seen _ new c.bytes.result.now some bodies is c.in_default.ensures.done c.in_default.ensures.bytes (search rules))

pub returns-in-Err-clause-failed : goal.returns-in-Err-clause-failed
returns-in-Err-clause-failed g c bodies is =
    let new : JournalView g.row.D.Denot = record { disk = c.append.new.self.disk; gate = c.append.new.self.gate; unsettled = c.append.new.self.unsettled; at_first_sync = c.self.inside.opened.value } in
    let some : 0 < length c.bytes.result.now = omega (arith, ap length c.bytes.ensures.bytes, c.requires.some) in
    let is : IsGroup bodies c.bytes.result.now = subst (λ (l : List ℕ). IsGroup bodies l) (sym c.bytes.ensures.bytes) is in
    subst (λ (s : JournalView g.row.D.Denot). HasNotAppended g.D.Disk.seen s new bodies) c.self.view_is
    (group_not_appended g.D.Disk.seen _ new c.bytes.result.now some bodies is c.in-Err.ensures.failed c.in-Err.ensures.failed_in c.in-Err.ensures.torn (search rules))

pub returns-clause-tried : goal.returns-clause-tried
returns-clause-tried g c bodies is =
    let new : JournalView g.row.D.Denot = record { disk = c.append.new.self.disk; gate = c.append.new.self.gate; unsettled = c.append.new.self.unsettled; at_first_sync = c.self.inside.opened.value } in
    let some : 0 < length c.bytes.result.now = omega (arith, ap length c.bytes.ensures.bytes, c.requires.some) in
    let is : IsGroup bodies c.bytes.result.now = subst (λ (l : List ℕ). IsGroup bodies l) (sym c.bytes.ensures.bytes) is in
    subst (λ (s : JournalView g.row.D.Denot). HasTried g.D.Disk.seen s new bodies) c.self.view_is
    (group_tried g.D.Disk.seen _ new c.bytes.result.now some bodies is c.append.ensures.crash c.append.ensures.tells c.append.ensures.cause.later refl)

pub returns-in-Err-clause-tried : goal.returns-in-Err-clause-tried
returns-in-Err-clause-tried g c bodies is =
    let new : JournalView g.row.D.Denot = record { disk = c.append.new.self.disk; gate = c.append.new.self.gate; unsettled = c.append.new.self.unsettled; at_first_sync = c.self.inside.opened.value } in
    let some : 0 < length c.bytes.result.now = omega (arith, ap length c.bytes.ensures.bytes, c.requires.some) in
    let is : IsGroup bodies c.bytes.result.now = subst (λ (l : List ℕ). IsGroup bodies l) (sym c.bytes.ensures.bytes) is in
    subst (λ (s : JournalView g.row.D.Denot). HasTried g.D.Disk.seen s new bodies) c.self.view_is
    (group_tried g.D.Disk.seen _ new c.bytes.result.now some bodies is c.append.ensures.crash c.append.ensures.tells c.append.ensures.cause.later refl)
