-- What a history has behind its first acts.
use Rattle.std.specs.Prelude.{◌≡◌, ℕ, Bool, nat_lt, List, [], ◌++◌, length, take, drop, codes, decimal, Option, if◌then◌else◌}
use Rattle.claim_history.specs.declared.call.PoolEntry.{PoolEntry}
use Rattle.printed_text.specs.declared.exit_status.ExitStatus.{ExitStatus}
use Rattle.printed_text.specs.declared.exit_status.ExitStatus.TheVariants as statuses
use Rattle.printed_text.specs.Printing.{added_text}
use Rattle.printed_text.specs.Texts.{memory_text}
use Rattle.history_text.specs.Histories.{EndsBehind, history_text, told_members}

-- the text of the members that are told behind the first acts of all pools, each publication followed by its statement
abbrev pub since_text : ℕ → Option (List ℕ) → List PoolEntry → List ℕ
since_text acts pool history = added_text (told_members pool (take acts history)) (told_members pool (drop acts history))

-- what is told of a history that has fewer acts
abbrev pub no_act_text : ℕ → List ℕ
no_act_text acts = codes "no act " ++ decimal acts ++ codes "\n"

abbrev pub has_fewer : ℕ → List PoolEntry → Bool
has_fewer acts history = nat_lt (length history) acts

-- what is told of a history, and the status of that
abbrev pub since_told : ℕ → Option (List ℕ) → List PoolEntry → List ℕ
since_told acts pool history = if has_fewer acts history then no_act_text acts else since_text acts pool history

abbrev pub since_status : ℕ → List PoolEntry → ExitStatus
since_status acts history = if has_fewer acts history then statuses.No else statuses.Done

-- what is printed before memory is missing: the text up to a publication behind the first acts
abbrev pub EndsSince : ℕ → Option (List ℕ) → List PoolEntry → List ℕ → Type 0
EndsSince acts pool history printed = EndsBehind (told_members pool (take acts history)) (told_members pool (drop acts history)) printed

-- it was told; or the memory to replay what is before a publication was missing, and this was told behind the text up to there
pub data IsSinceDue (acts : ℕ) (pool : Option (List ℕ)) (history : List PoolEntry) : ExitStatus → List ℕ → Type 0 where
  news_told : IsSinceDue acts pool history (since_status acts history) (since_told acts pool history)
  news_short : (printed : List ℕ) → EndsSince acts pool history printed
      → IsSinceDue acts pool history statuses.Memory (printed ++ memory_text)

-- What a history tells is what its first acts tell, and behind this what it tells since then. Since none it tells all, and since all
-- of them nothing.
pub record SinceLaw : Type 0 where
  pub parts : (acts : ℕ) (pool : Option (List ℕ)) (history : List PoolEntry)
      → history_text pool history ≡ history_text pool (take acts history) ++ since_text acts pool history
  pub since_none : (pool : Option (List ℕ)) (history : List PoolEntry) → since_text 0 pool history ≡ history_text pool history
  pub since_all : (pool : Option (List ℕ)) (history : List PoolEntry) → since_text (length history) pool history ≡ []
