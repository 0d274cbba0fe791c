use Rattle.std.proofs.Common.{◌∙◌, List, ℕ, [], ◌∷◌, map, take, subst, sym}
use Rattle.std.proofs.lemmas.List.{take_all}
use Rattle.printed_text.specs.claim_history.specs.Pools.{entries_in}
use Rattle.printed_text.specs.firm_notices.specs.Tables.{HoldsText, csv_text}
use Rattle.printed_text.specs.firm_notices.proofs.Growing.{mapped_more, one_row, whole}
use Rattle.journal_summaries.specs.PoolList.{count_fields, counts_in, pool_names, pools_text}
use Rattle.journal_summaries.proofs.pool_list.pools.Goals as goal

pub loop-pool-init : goal.loop-pool-init
loop-pool-init c = record { rows = subst (λ text. HoldsText c.put_header.new.table text) (one_row pool_names) (c.in_ok-put_header.ensures [] c.new_table-table.ensures) }

pub loop-pool-preserved : goal.loop-pool-preserved
loop-pool-preserved c =
    let row = λ (pool : List ℕ). count_fields pool (counts_in (entries_in pool c.args.books.now.members)) in
    let pools = c.as_slice-pools.result.now in
    let i = c.loop-pool.pool-index in
    let more = mapped_more row pool_names pools i c.pool-item.result c.loop-pool-test.true c.pool-item.is in
    let held = c.in_ok-put_pool.ensures (csv_text (pool_names ∷ map row (take i pools))) c.loop-pool.invariant.rows in
    record { rows = subst (λ text. HoldsText c.put_pool.new.table text) (sym more) held }

pub returns : goal.returns
returns c =
    let row = λ (pool : List ℕ). count_fields pool (counts_in (entries_in pool c.args.books.now.members)) in
    let pools = c.as_slice-pools.result.now in
    let all = take_all c.loop-pool.pool-index pools c.loop-pool-test.false ∙ c.as_slice-pools.ensures.keys ∙ c.in_ok-names.ensures in
    let held = subst (λ (names : List (List ℕ)). HoldsText c.loop-pool.table (csv_text (pool_names ∷ map row names))) all c.loop-pool.invariant.rows in
    whole c.text_of.result c.loop-pool.table (pools_text c.args.books.now.members) c.text_of.ensures held
