use Rattle.std.proofs.Common.{refl, ap, ◌∙◌, true≢false}
use Rattle.std.proofs.lemmas.Int.{to_z-of_z}
use Rattle.statement_text.specs.Drafts.{lines_of}
use Rattle.statement_text.proofs.Next.{party_refused, party_taken}
use Rattle.statement_text.proofs.reading.take_party.Goals as goal

pub returns-in-Some-clause-bad : goal.returns-in-Some-clause-bad
returns-in-Some-clause-bad c = (refl, party_refused c.args.draft c.args.party c.args.price c.in-Some.ensures.stated (λ may. true≢false (c.in-Some.ensures.refused.1 may)))

pub returns-in_ok-with_party-in-None-clause-found : goal.returns-in_ok-with_party-in-None-clause-found
returns-in_ok-with_party-in-None-clause-found c =
    let fits = c.ranges.price in
    let more = simp to_z-of_z at c.in_ok-with_party-in-None.ensures.more in
    record {
      stated = c.in_ok-with_party-in-None.ensures.stated;
      lines_are = ap lines_of more ∙ party_taken c.args.draft c.args.party c.args.price c.in-None.ensures.stated (c.in-None.ensures.refused.0 refl).first;
    }
