-- A history of the pool MAIN alone is that of its entries.
use Rattle.std.specs.Prelude.{reverse, drop}
use Rattle.std.proofs.Common.{◌≡◌, ◌∙◌, List, [], ◌∷◌, ◌++◌, map, refl, sym, ap, ap₂, subst, true}
use Rattle.std.proofs.lemmas.List.{map-append, reverse-append}
use Rattle.setoff_model.specs.CutView.{CutView}
use Rattle.setoff_model.specs.Same.{same_name}
use Rattle.claim_history.specs.declared.act.Act.{Act}
use Rattle.claim_history.specs.declared.call.Call.{Call}
use Rattle.claim_history.specs.declared.call.PoolEntry.{PoolEntry}
use Rattle.claim_history.specs.declared.entry.Entry.{Entry}
use Rattle.claim_history.specs.States.{state}
use Rattle.claim_history.specs.PoolLaws.{MainLaw}
use Rattle.claim_history.specs.Pools.{IsLegal, IsLegalPast, call_of, entries_in, entries_of, is_in, main_pool, member_of}
use Rattle.claim_history.specs.PoolRounds as rounds
use Rattle.claim_history.specs.Rounds.{cut_published, pool_cuts_after, pool_cuts_of, past_pool_cuts}
use Rattle.claim_history.proofs.Pools.{past_own}
use Rattle.claim_history.proofs.Published.{past_cuts_more}
use Rattle.trial_round.specs.Input.{call_by_one}

-- ---- legal histories

legal_rest : (later past : List PoolEntry) → IsLegalPast (later ++ past) → IsLegalPast past
legal_rest [] past legal = legal
legal_rest (m ∷ later) past legal = legal_rest later past legal.1

pub legal_front : (history more : List PoolEntry) → IsLegal (history ++ more) → IsLegal history
legal_front history more legal = legal_rest (reverse more) (reverse history) (subst IsLegalPast (reverse-append history more) legal)

-- ---- members that lane 1 asks in the pool MAIN

pub before_main : (acts : List Act) (members : List PoolEntry) → map call_of members ≡ map call_by_one acts → entries_in main_pool members ≡ entries_of members
before_main acts [] same = refl
before_main [] (m ∷ members) same = absurd (cc same)
before_main (a ∷ acts) (m ∷ members) same =
    let first : call_of m ≡ call_by_one a = cc same in
    let own : is_in main_pool m ≡ true = ap (λ (c : Call). same_name main_pool c.pool) first in
    past_own main_pool m members own ∙ ap (λ (es : List Entry). m.entry ∷ es) (before_main acts members (cc same))

-- ---- the cuts of published rounds

abbrev in_main : List Entry → List PoolEntry
in_main entries = map (member_of main_pool) entries

reversed : (entries : List Entry) → in_main (reverse entries) ≡ reverse (in_main entries)
reversed [] = refl
reversed (e ∷ entries) =
    ap in_main (reverse-append (e ∷ []) entries) ∙ map-append (member_of main_pool) (reverse entries) (e ∷ [])
    ∙ ap (λ (ms : List PoolEntry). ms ++ member_of main_pool e ∷ []) (reversed entries)
    ∙ sym (reverse-append (member_of main_pool e ∷ []) (in_main entries))

module _ (law : MainLaw) where
  past_main : (past : List Entry) → past_pool_cuts past ≡ rounds.past_cuts (in_main past)
  past_main [] = refl
  past_main (e ∷ past) =
      past_cuts_more e past
      ∙ ap₂ (λ (es : List Entry) (cuts : List CutView). cut_published (state es).open_round e.reply ++ cuts) (sym (law.same past)) (past_main past)

  cuts_main : (entries : List Entry) → pool_cuts_of entries ≡ rounds.cuts_of (in_main entries)
  cuts_main entries = ap reverse (past_main (reverse entries) ∙ ap rounds.past_cuts (reversed entries))

  pub main_cuts : (entries : List Entry) → pool_cuts_after 0 entries ≡ rounds.cuts_after 0 (in_main entries)
  main_cuts entries = ap (drop 0) (cuts_main entries)
