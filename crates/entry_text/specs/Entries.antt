-- The line of an entry.
use Rattle.std.specs.Prelude.{ℕ, List, [], ◌++◌, codes, decimal}
use Rattle.setoff_model.specs.Texts.{cents_text, signed_cents_text}
use Rattle.request_text.specs.claim_history.specs.Acts.{act_text}
use Rattle.request_text.specs.claim_history.specs.declared.fact.Position.{Position}
use Rattle.request_text.specs.claim_history.specs.declared.call.PoolEntry.{PoolEntry}
use Rattle.request_text.specs.claim_history.specs.declared.entry.Entry.{Entry}
use Rattle.request_text.specs.claim_history.specs.declared.entry.Why.{Why}
use Rattle.request_text.specs.claim_history.specs.declared.entry.Why.TheVariants as why
use Rattle.request_text.specs.claim_history.specs.declared.entry.Reply.{Reply}
use Rattle.request_text.specs.claim_history.specs.declared.entry.Reply.TheVariants as reply
use Rattle.request_text.specs.Pools.{pool_text}

-- the number and name of a refusal
abbrev pub why_name : Why → List ℕ
why_name why.FirmExists = codes "1 firm-exists"
why_name why.FirmsFull = codes "2 firms-full"
why_name why.UnknownFirm = codes "3 unknown-firm"
why_name why.SameFirm = codes "4 same-firm"
why_name why.ClaimExists = codes "5 claim-exists"
why_name why.ClaimsFull = codes "6 claims-full"
why_name why.UnknownClaim = codes "7 unknown-claim"
why_name why.NotDebtor = codes "8 not-debtor"
why_name why.WrongState = codes "9 wrong-state"
why_name (why.Frozen round) = codes "10 frozen"
why_name why.OverOpen = codes "11 over-open"
why_name why.OverCeiling = codes "12 over-ceiling"
why_name why.BelowFloor = codes "13 below-floor"
why_name why.LimitsExcludeBalance = codes "14 limits-exclude-balance"
why_name (why.RoundOpen round) = codes "15 round-open"
why_name why.NoRound = codes "16 no-round"
why_name (why.NotOwner round) = codes "17 not-owner"
why_name (why.Device before after) = codes "18 device"
why_name why.NotProved = codes "19 not-proved"
why_name why.OverAmount = codes "20 over-amount"

-- a number after a space
abbrev pub spaced : ℕ → List ℕ
spaced number = codes " " ++ decimal number

-- the round, or the two counts of a device, that a refusal tells
abbrev pub why_numbers : Why → List ℕ
why_numbers (why.Frozen round) = spaced round
why_numbers (why.RoundOpen round) = spaced round
why_numbers (why.NotOwner round) = spaced round
why_numbers (why.Device before after) = spaced before ++ spaced after
why_numbers _ = []

-- a refusal
abbrev pub why_text : Why → List ℕ
why_text w = why_name w ++ why_numbers w

-- the balance, and what is owed to the firm and by it
abbrev pub position_text : Position → List ℕ
position_text p = codes "balance " ++ signed_cents_text p.balance ++ codes " receivable " ++ cents_text p.receivable
    ++ codes " payable " ++ cents_text p.payable

-- the text of a reply
abbrev pub reply_text : Reply → List ℕ
reply_text reply.Done = codes "ok"
reply_text (reply.Position position) = position_text position
reply_text (reply.Opened round) = codes "opened" ++ spaced round
reply_text (reply.Continued round) = codes "continued" ++ spaced round
reply_text (reply.Published total) = codes "published " ++ cents_text total
reply_text (reply.Abandoned round) = codes "abandoned" ++ spaced round
reply_text (reply.Refused w) = codes "refused " ++ why_text w

-- what an entry tells behind its caller and its pool: `REQUEST = REPLY`
abbrev pub entry_text : Entry → List ℕ
entry_text entry = act_text entry.act ++ codes " = " ++ reply_text entry.reply

-- one line for an entry of a pool: `caller @POOL REQUEST = REPLY`, without `@POOL` where the pool is MAIN
abbrev pub entry_line : PoolEntry → List ℕ
entry_line m = decimal m.entry.caller ++ codes " " ++ pool_text m.pool ++ entry_text m.entry ++ codes "\n"
