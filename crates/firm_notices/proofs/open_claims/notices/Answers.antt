use Rattle.std.proofs.Common.{◌∙◌, [], take, sym, subst}
use Rattle.std.proofs.lemmas.List.{take_all}
use Rattle.claim_book.specs.Book.{ledger_of}
use Rattle.firm_notices.specs.Tables.{HoldsText, csv_text}
use Rattle.firm_notices.specs.Notices.{is_open, notice_names, notice_fields, notice_rows, notices_text}
use Rattle.firm_notices.proofs.Growing.{one_row, kept_more, left_out, whole}
use Rattle.firm_notices.proofs.open_claims.notices.Goals as goal
use Rattle.firm_notices.proofs.open_claims.notices.Goals.{then-is_open+in_ok-put_notice, else-is_open}

pub loop-claim-init : goal.loop-claim-init
loop-claim-init c = record { held = subst (λ text. HoldsText c.put_row.new.table text) (one_row notice_names) (c.in_ok-put_row.ensures [] c.new_table-table.ensures) }

pub loop-claim-preserved : goal.loop-claim-preserved
loop-claim-preserved c =
    let claims = c.claims-claims.result.now in
    let i = c.loop-claim.claim-index in
    let claim = c.claim-item.result in
    elim c.if-is_open.branch [
      | then-is_open+in_ok-put_notice w ↦
          let more = kept_more is_open (notice_fields c.args.today) notice_names claims i claim c.loop-claim-test.true c.claim-item.is (sym c.is_open.ensures ∙ w.if-is_open.true) in
          let held = w.in_ok-put_notice.ensures (csv_text (notice_rows c.args.today (take i claims))) c.loop-claim.invariant.held in
          record { held = rw w.table-is (subst (λ text. HoldsText w.put_notice.new.table text) (sym more) held) }
      | else-is_open w ↦
          let same = left_out is_open (notice_fields c.args.today) notice_names claims i claim c.loop-claim-test.true c.claim-item.is (sym c.is_open.ensures ∙ w.if-is_open.false) in
          record { held = rw w.table-is (subst (λ text. HoldsText c.loop-claim.table text) (sym same) c.loop-claim.invariant.held) }
    ]

pub returns : goal.returns
returns c =
    let all = take_all c.loop-claim.claim-index c.claims-claims.result.now c.loop-claim-test.false ∙ c.claims-claims.ensures.claims in
    let held = subst (λ claims. HoldsText c.loop-claim.table (csv_text (notice_rows c.args.today claims))) all c.loop-claim.invariant.held in
    whole c.text_of.result c.loop-claim.table (notices_text c.args.today (ledger_of c.args.book.now.history)) c.text_of.ensures held
