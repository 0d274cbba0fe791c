use Rattle.std.specs.Prelude.{slice_get}
use Rattle.std.proofs.Common.{◌≡◌, ◌<◌, ◌∙◌, ℕ, List, Option, Some, ap, length, subst, sym, arith}
use Rattle.claim_history.specs.declared.entry.Entry.{Entry}
use Rattle.claim_history.specs.Pools.{entries_in, member_of}
use Rattle.history_text.specs.Histories.{told_members}
use Rattle.history_text.proofs.Telling.{told_here, told_many}
use Rattle.history_text.proofs.told.told_at.Goals as goal

pub member-requires : goal.member-requires
member-requires c = subst (λ (p : Option (List ℕ)). c.args.place < length (told_members p c.args.books.now.members)) c.in-None.is c.requires

pub returns-in-None : goal.returns-in-None
returns-in-None c = ap (λ (p : Option (List ℕ)). slice_get (told_members p c.args.books.now.members) c.args.place) c.in-None.is ∙ c.member.ensures

pub bounds-entries-at : goal.bounds-entries-at
bounds-entries-at c =
    let pool = c.in-Some.pool in
    let members = c.args.books.now.members in
    let same : c.history-entries.result.now ≡ entries_in pool members = c.history-entries.ensures.entries ∙ c.book.ensures in
    let within : c.args.place < length (told_members (Some pool) members) = subst (λ (p : Option (List ℕ)). c.args.place < length (told_members p members)) c.in-Some.is c.requires in
    omega (arith, within, told_many pool members, ap (λ (es : List Entry). length es) same)

pub returns-in-Some : goal.returns-in-Some
returns-in-Some c =
    let pool = c.in-Some.pool in
    let members = c.args.books.now.members in
    let e : Entry = c.index-entries-at.result in
    let same : c.history-entries.result.now ≡ entries_in pool members = c.history-entries.ensures.entries ∙ c.book.ensures in
    let within : c.args.place < length (told_members (Some pool) members) = subst (λ (p : Option (List ℕ)). c.args.place < length (told_members p members)) c.in-Some.is c.requires in
    ap (λ (p : Option (List ℕ)). slice_get (told_members p members) c.args.place) c.in-Some.is
    ∙ told_here pool members c.history-entries.result.now _ c.args.place e same within c.index-entries-at.is (omega arith)
    ∙ ap (λ (n : List ℕ). Some (member_of n e)) (sym c.main_pool_name.ensures)
