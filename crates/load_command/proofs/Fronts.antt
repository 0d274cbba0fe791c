-- What holds of a history that was loaded holds of its front.
use Rattle.std.specs.Prelude.{reverse}
use Rattle.std.proofs.Common.{◌≡◌, ◌∙◌, true, List, [], ◌∷◌, ◌++◌, All, sym, ap, subst, append_assoc}
use Rattle.std.proofs.lemmas.List.{append-nil, map-append, reverse-append}
use Rattle.setoff_model.proofs.Lists.{All-first}
use Rattle.journal_texts.specs.bureau_desk.specs.claim_history.specs.declared.call.PoolEntry.{PoolEntry}
use Rattle.journal_texts.specs.bureau_desk.specs.claim_history.specs.declared.entry.Entry.{Entry}
use Rattle.journal_texts.specs.bureau_desk.specs.claim_history.specs.Acts.{is_valid}
use Rattle.journal_texts.specs.bureau_desk.specs.claim_history.specs.PoolNeeds.{IsWithinLimitsPast}
use Rattle.journal_texts.specs.bureau_desk.specs.claim_history.specs.Pools.{AreValid, IsLegal, IsLegalPast, call_of, entries_of}
use Rattle.journal_texts.specs.bureau_desk.specs.act_bodies.specs.Bodies.{is_keepable}
use Rattle.journal_texts.specs.printed_text.specs.served_lines.specs.Served.{Line}
use Rattle.group_runs.specs.Lines.{groups_add, lines_add}
use Rattle.group_runs.specs.Runs.{KeepsHistory}
use Rattle.group_runs.proofs.Lines.{groups_more}

legal_rest : (later past : List PoolEntry) → IsLegalPast (later ++ past) → IsLegalPast past
legal_rest [] past h = h
legal_rest (m ∷ later) past h = legal_rest later past h.1

within_rest : (later past : List PoolEntry) → IsWithinLimitsPast (later ++ past) → IsWithinLimitsPast past
within_rest [] past h = h
within_rest (m ∷ later) past h = within_rest later past h.1

pub legal_front : (history more : List PoolEntry) → IsLegal (history ++ more) → IsLegal history
legal_front history more legal = legal_rest (reverse more) (reverse history) (subst IsLegalPast (reverse-append history more) legal)

pub valid_front : (history more : List PoolEntry) → AreValid (history ++ more) → AreValid history
valid_front history more valid =
    All-first (λ (e : Entry). is_valid e.act ≡ true) (entries_of history) (entries_of more)
    (subst (All (λ (e : Entry). is_valid e.act ≡ true)) (map-append (λ (m : PoolEntry). m.entry) history more) valid)

front_keeps : (history more : List PoolEntry) → KeepsHistory (history ++ more) → KeepsHistory history
front_keeps history more k = record {
  legal = legal_front history more k.legal;
  within = within_rest (reverse more) (reverse history) (subst IsWithinLimitsPast (reverse-append history more) k.within);
  valid = valid_front history more k.valid;
  keepable = All-first (λ (m : PoolEntry). is_keepable (call_of m) ≡ true) history more k.keepable;
}

module _ (begun : List PoolEntry) (groups : List (List Line)) (last : List Line) (k : KeepsHistory (begun ++ groups_add begun (groups ++ last ∷ []))) where
  pub all_keeps : KeepsHistory ((begun ++ groups_add begun groups) ++ lines_add (begun ++ groups_add begun groups) last)
  all_keeps =
      let history = begun ++ groups_add begun groups in
      let added = lines_add history last in
      subst KeepsHistory
      (ap (λ (l : List PoolEntry). begun ++ l) (groups_more begun groups (last ∷ []))
      ∙ sym (append_assoc begun (groups_add begun groups) (added ++ []))
      ∙ ap (λ (l : List PoolEntry). history ++ l) (append-nil added)) k

  pub first_keeps : KeepsHistory (begun ++ groups_add begun groups)
  first_keeps = front_keeps (begun ++ groups_add begun groups) (lines_add (begun ++ groups_add begun groups) last) all_keeps
