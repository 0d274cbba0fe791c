use Rattle.std.specs.Prelude.{OnOk}
use Rattle.std.proofs.Common.{◌≡◌, ◌∙◌, ◌++◌, ◌∷◌, [], ap, subst, sym}
use Rattle.claim_history.specs.declared.entry.Entry.{Entry}
use Rattle.claim_history.specs.Acts.{is_valid}
use Rattle.claim_history.specs.Pools.{MayFollow, member_of}
use Rattle.history_text.proofs.replaying.put_next.Goals as goal

pub put_entry-requires-clause-valid : goal.put_entry-requires-clause-valid
put_entry-requires-clause-valid c = ap (λ (e : Entry). is_valid e.act) c.in_ok-copy.ensures ∙ c.requires.valid

pub put_entry-requires-clause-next : goal.put_entry-requires-clause-next
put_entry-requires-clause-next c = subst (λ (e : Entry). MayFollow c.args.books.now.members (member_of c.args.pool e)) (sym c.in_ok-copy.ensures) c.requires.next

pub returns : goal.returns
returns c = record {
  members = subst (λ (e : Entry). OnOk c.put_entry.result (c.put_entry.new.books.members ≡ c.args.books.now.members ++ member_of c.args.pool e ∷ [])) c.in_ok-copy.ensures c.put_entry.ensures.members;
}
