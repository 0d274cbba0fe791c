-- What a history comes to as text: the entries of all pools or of one, and the statement of one round or its pages.
use Rattle.std.specs.Prelude.{◌≡◌, ℕ, Bool, true, false, ◌==◌, List, [], ◌++◌, ◌≤◌, length, map, take, drop}
use Rattle.std.specs.Prelude.{position, slice_get, is_some, codes, decimal, Option, Some, None, if◌then◌else◌}
use Rattle.std.specs.Io.KnownBytes.{Appends}
use Rattle.claim_history.specs.declared.act.Act.{Act}
use Rattle.claim_history.specs.declared.act.Act.TheVariants as act
use Rattle.claim_history.specs.declared.call.PoolEntry.{PoolEntry}
use Rattle.claim_history.specs.declared.entry.Entry.{Entry}
use Rattle.claim_history.specs.declared.entry.Reply.{Reply}
use Rattle.claim_history.specs.declared.entry.Reply.TheVariants as reply
use Rattle.setoff_model.specs.CutView.{CutView}
use Rattle.claim_history.specs.Pools.{entries_in, main_pool, member_of}
use Rattle.claim_history.specs.Rounds.{open_cut_of}
use Rattle.printed_text.specs.declared.exit_status.ExitStatus.{ExitStatus}
use Rattle.printed_text.specs.declared.exit_status.ExitStatus.TheVariants as statuses
use Rattle.printed_text.specs.Printing.{added_text, statement_of}
use Rattle.printed_text.specs.Texts.{memory_text}
use Rattle.printed_text.specs.Writing.{GoesThrough}
use Rattle.history_text.specs.declared.told.Told.{Told}
use Rattle.history_text.specs.declared.told.Told.TheVariants as told
use Rattle.history_text.specs.declared.round_form.RoundForm.{RoundForm}
use Rattle.history_text.specs.declared.round_form.RoundForm.TheVariants as forms
use Rattle.history_text.specs.Pages.{pages_of}

-- ---- the entries of a history

-- the members that are told: all; or the entries of one pool, as if it were MAIN, so that their lines do not name it
abbrev pub told_members : Option (List ℕ) → List PoolEntry → List PoolEntry
told_members None history = history
told_members (Some pool) history = map (member_of main_pool) (entries_in pool history)

-- their lines, each publication followed by its statement: what a run prints as it adds them
abbrev pub history_text : Option (List ℕ) → List PoolEntry → List ℕ
history_text pool history = added_text [] (told_members pool history)

-- the member at this place publishes a round
pub record PublishesAt (members : List PoolEntry) (place : ℕ) : Type 0 where
  pub member : PoolEntry
  pub total : ℕ
  pub stands : slice_get members place ≡ Some member
  pub reply_is : member.entry.reply ≡ reply.Published total

-- the text is that of members after others, up to one that publishes a round
pub record EndsBehind (before members : List PoolEntry) (text : List ℕ) : Type 0 where
  pub place : ℕ
  pub publishes : PublishesAt members place
  pub text_is : text ≡ added_text before (take place members)

-- the same of the members of a history from the first on
abbrev pub EndsAtPublication : List PoolEntry → List ℕ → Type 0
EndsAtPublication members text = EndsBehind [] members text

-- Of members after others: their text was printed; or the memory to replay what is before a publication was missing, and this was
-- told behind the text up to there.
pub data IsToldDue (before members : List PoolEntry) : ExitStatus → List ℕ → Type 0 where
  all_told : IsToldDue before members statuses.Done (added_text before members)
  cut_short : (printed : List ℕ) → EndsBehind before members printed → IsToldDue before members statuses.Memory (printed ++ memory_text)

-- of a history, from its first member on
abbrev pub IsHistoryDue : Option (List ℕ) → List PoolEntry → ExitStatus → List ℕ → Type 0
IsHistoryDue pool history = IsToldDue [] (told_members pool history)

-- ---- one round

-- an accepted act publishes the round of this number
abbrev pub is_published_by : ℕ → Act → Reply → Bool
is_published_by round (act.Publish number outcome) (reply.Published total) = number == round
is_published_by round _ _ = false

-- the entry publishes it
abbrev pub publishes_round : ℕ → Entry → Bool
publishes_round round e = is_published_by round e.act e.reply

-- the place of the first entry of a pool that publishes it
abbrev pub publication_place : ℕ → List ℕ → List PoolEntry → Option ℕ
publication_place round pool history = position (publishes_round round) (entries_in pool history)

-- a round of this number was published in the pool
abbrev pub was_published : ℕ → List ℕ → List PoolEntry → Bool
was_published round pool history = is_some (publication_place round pool history)

-- a publication after a cut was open, in a form: its statement, or its pages
abbrev pub text_in_form : RoundForm → Option CutView → Act → Reply → List ℕ
text_in_form forms.Statement cut a r = statement_of cut a r
text_in_form forms.Pages cut a r = pages_of cut a r

-- the text of that round in a form: of the outcome that was published, and of the cut that was open then
pub record IsFormOf (form : RoundForm) (round : ℕ) (pool : List ℕ) (history : List PoolEntry) (text : List ℕ) : Type 0 where
  pub place : ℕ
  pub entry : Entry
  pub found : publication_place round pool history ≡ Some place
  pub stands : slice_get (entries_in pool history) place ≡ Some entry
  pub text_is : text ≡ text_in_form form (open_cut_of (take place (entries_in pool history))) entry.act entry.reply

-- what is told where there is none
abbrev pub no_round_text : ℕ → List ℕ
no_round_text round = codes "no round " ++ decimal round ++ codes "\n"

-- what is told of a round that was published, or was not: its text in a form, or that there is none
abbrev pub IsTextWhere : Bool → RoundForm → ℕ → List ℕ → List PoolEntry → List ℕ → Type 0
IsTextWhere true form round pool history text = IsFormOf form round pool history text
IsTextWhere false form round pool history text = text ≡ no_round_text round

abbrev pub IsFormText : RoundForm → ℕ → List ℕ → List PoolEntry → List ℕ → Type 0
IsFormText form round pool history text = IsTextWhere (was_published round pool history) form round pool history text

-- by its statement, and by its pages
abbrev pub IsRoundText : ℕ → List ℕ → List PoolEntry → List ℕ → Type 0
IsRoundText round pool history text = IsFormText forms.Statement round pool history text

abbrev pub IsPartsText : ℕ → List ℕ → List PoolEntry → List ℕ → Type 0
IsPartsText round pool history text = IsFormText forms.Pages round pool history text

-- the status of that
abbrev pub round_status : ℕ → List ℕ → List PoolEntry → ExitStatus
round_status round pool history = if was_published round pool history then statuses.Done else statuses.No

-- the same, or there was no memory for it
pub data IsFormDue (form : RoundForm) (round : ℕ) (pool : List ℕ) (history : List PoolEntry) : ExitStatus → List ℕ → Type 0 where
  round_told : (text : List ℕ) → IsFormText form round pool history text
      → IsFormDue form round pool history (round_status round pool history) text
  no_round_memory : IsFormDue form round pool history statuses.Memory memory_text

abbrev pub IsRoundDue : ℕ → List ℕ → List PoolEntry → ExitStatus → List ℕ → Type 0
IsRoundDue round pool history = IsFormDue forms.Statement round pool history

abbrev pub IsPartsDue : ℕ → List ℕ → List PoolEntry → ExitStatus → List ℕ → Type 0
IsPartsDue round pool history = IsFormDue forms.Pages round pool history

-- a text that is told with the status that all is done, or there was no memory for it
pub data IsDoneWith (text : List ℕ) : ExitStatus → List ℕ → Type 0 where
  done_with : IsDoneWith text statuses.Done text
  no_memory_for : IsDoneWith text statuses.Memory memory_text

-- ---- text that is printed member by member

-- the text of the members from a place on
abbrev pub text_from : List PoolEntry → ℕ → List ℕ
text_from members from = added_text (take from members) (drop from members)

-- it went through the buffer; or where memory was missing, that of those before a publication
abbrev pub HasTold : Told → Option (List ℕ) → Option (List ℕ) → List ℕ → List ℕ → List PoolEntry → ℕ → Type 0
HasTold told.Whole held_old held_new old new members from = GoesThrough held_old held_new old new (text_from members from)
HasTold told.Short held_old held_new old new members from =
    (printed : List ℕ) × EndsBehind (take from members) (drop from members) printed × GoesThrough held_old held_new old new printed

-- the sink took that text
abbrev pub HasPrinted : Told → Option (List ℕ) → Option (List ℕ) → List PoolEntry → ℕ → Type 0
HasPrinted told.Whole held_old held_new members from = Appends held_old held_new (text_from members from)
HasPrinted told.Short held_old held_new members from =
    (printed : List ℕ) × EndsBehind (take from members) (drop from members) printed × Appends held_old held_new printed

-- the text of the member at a place
abbrev pub told_text : List PoolEntry → ℕ → List ℕ
told_text history place = added_text (take place history) (take 1 (drop place history))

-- it went through the buffer; or nothing did, and the member publishes a round
abbrev pub HasToldOne : Told → Option (List ℕ) → Option (List ℕ) → List ℕ → List ℕ → List PoolEntry → ℕ → Type 0
HasToldOne told.Whole held_old held_new old new members place = GoesThrough held_old held_new old new (told_text members place)
HasToldOne told.Short held_old held_new old new members place = GoesThrough held_old held_new old new [] × PublishesAt members place

-- they are the first members of a history, at most so many
pub record AreFirst (most : ℕ) (history members : List PoolEntry) : Type 0 where
  pub are : members ≡ take (length members) history
  pub few : length members ≤ most
