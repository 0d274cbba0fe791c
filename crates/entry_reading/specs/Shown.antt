-- What the line of an entry shows of it.
use Rattle.std.specs.Prelude.{◌≡◌, ◌<◌, ◌^◌, ℕ, true, List, [], ◌∷◌, ◌++◌, All}
use Rattle.batch_runs.specs.setoff_model.specs.Names.{is_name}
use Rattle.batch_runs.specs.claim_history.specs.declared.act.Act.{Act}
use Rattle.batch_runs.specs.claim_history.specs.declared.act.Act.TheVariants as act
use Rattle.batch_runs.specs.claim_history.specs.declared.call.PoolEntry.{PoolEntry}
use Rattle.batch_runs.specs.claim_history.specs.declared.entry.Reply.{Reply}
use Rattle.batch_runs.specs.claim_history.specs.declared.entry.Reply.TheVariants as reply
use Rattle.batch_runs.specs.claim_history.specs.declared.entry.Why.{Why}
use Rattle.batch_runs.specs.claim_history.specs.declared.entry.Why.TheVariants as why
use Rattle.batch_runs.specs.claim_history.specs.Acts.{is_valid}
use Rattle.batch_runs.specs.claim_history.specs.Laws.{IsReplyInRange}
use Rattle.batch_runs.specs.entry_text.specs.Entries.{entry_line}

-- the act, of a publication its round alone
abbrev pub shown_act : Act → Act
shown_act (act.Publish round outcome) = act.Publish round (record { discharges = []; prices = [] })
shown_act a = a

-- the lines of two entries show one caller, one pool, one act and one reply
pub record ShowSame (m n : PoolEntry) : Type 0 where
  pub caller : m.entry.caller ≡ n.entry.caller
  pub pool : m.pool ≡ n.pool
  pub act : shown_act m.entry.act ≡ shown_act n.entry.act
  pub reply : m.entry.reply ≡ n.entry.reply

-- the round, or the two counts of a device, that a refusal tells
abbrev pub told_by : Why → List ℕ
told_by (why.Frozen round) = round ∷ []
told_by (why.RoundOpen round) = round ∷ []
told_by (why.NotOwner round) = round ∷ []
told_by (why.Device before after) = before ∷ after ∷ []
told_by _ = []

-- rounds and counts have 8 bytes, and amounts are in their range
abbrev pub HasRanges : Reply → Type 0
HasRanges (reply.Opened round) = round < 2 ^ 64
HasRanges (reply.Continued round) = round < 2 ^ 64
HasRanges (reply.Abandoned round) = round < 2 ^ 64
HasRanges (reply.Refused w) = All (λ number. number < 2 ^ 64) (told_by w)
HasRanges r = IsReplyInRange r

-- an entry as there are in histories: the caller has 8 bytes, the pool a name, the act is valid, and the reply is in range
pub record IsEntry (m : PoolEntry) : Type 0 where
  pub caller : m.entry.caller < 2 ^ 64
  pub named : is_name m.pool ≡ true
  pub valid : is_valid m.entry.act ≡ true
  pub ranges : HasRanges m.entry.reply

-- Texts that begin with the lines of two entries and are one: the lines show the same, and what stands behind them is one.
abbrev pub LineLaw : Type 0
LineLaw = (m n : PoolEntry) (rest other : List ℕ) → IsEntry m → IsEntry n → entry_line m ++ rest ≡ entry_line n ++ other
    → ShowSame m n × (rest ≡ other)
