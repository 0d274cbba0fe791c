-- What is kept of a history: its accepted members, with the replies that they had, and how they are told.
use Rattle.std.specs.Prelude.{◌≡◌, ℕ, true, List, [], ◌∷◌, ◌++◌, if◌then◌else◌}
use Rattle.claim_history.specs.declared.call.PoolEntry.{PoolEntry}
use Rattle.claim_history.specs.History.{is_accepted}
use Rattle.claim_history.specs.Pools.{IsLegal, accepted_calls, accepted_members, replay_of}
use Rattle.claim_history.specs.PoolRounds.{open_cut_in}
use Rattle.printed_text.specs.Printing.{added_text, member_text, statement_of}
use Rattle.history_text.specs.Histories.{IsRoundText, publishes_round}

-- the calls of the accepted members of a legal history, replayed, are these members, with the replies that they had
abbrev pub ReplayedLaw : Type 0
ReplayedLaw = (history : List PoolEntry) → IsLegal history → replay_of (accepted_calls history) ≡ accepted_members history

-- Of the members that were added to a history, the lines of the accepted ones, each publication followed by its statement: what was
-- printed of them as they were added.
abbrev pub accepted_text : List PoolEntry → List PoolEntry → List ℕ
accepted_text before [] = []
accepted_text before (m ∷ added) = (if is_accepted m.entry then member_text before m else []) ++ accepted_text (before ++ m ∷ []) added

-- accepted members are told after accepted ones as they were printed, whatever was refused before and between them
abbrev pub RetoldLaw : Type 0
RetoldLaw = (before added : List PoolEntry) → added_text (accepted_members before) (accepted_members added) ≡ accepted_text before added

-- A round of a legal history has one statement: that of the one member that publishes it, which stands behind its line. It is so in
-- the history of the accepted members, too.
pub record StatementLaw : Type 0 where
  pub one : (before later : List PoolEntry) (m : PoolEntry) (round : ℕ) (text : List ℕ) → IsLegal (before ++ m ∷ later)
      → publishes_round round m.entry ≡ true → IsRoundText round m.pool (before ++ m ∷ later) text
      → text ≡ statement_of (open_cut_in before m.pool) m.entry.act m.entry.reply
  pub kept : (before : List PoolEntry) (m : PoolEntry)
      → statement_of (open_cut_in (accepted_members before) m.pool) m.entry.act m.entry.reply
      ≡ statement_of (open_cut_in before m.pool) m.entry.act m.entry.reply
