-- What a crash may leave of calls that are kept in groups.
use Rattle.std.specs.Prelude.{◌≡◌, ◌⊎◌, ◌+◌, ◌<◌, ◌≤◌, ℕ, List, [], ◌++◌, length, take, get_or}
use Rattle.std.specs.List.{flat_map}
use Rattle.disk_model.specs.Calls.{Seen}
use Rattle.claim_history.specs.declared.call.Call.{Call}
use Rattle.round_journal.specs.Bytes.{StandsFor}
use Rattle.round_journal.specs.Records.{bodies_of_calls}

-- the bytes stand for these calls
abbrev pub StandsForCalls : List ℕ → List Call → Type 0
StandsForCalls bytes calls = StandsFor bytes (bodies_of_calls calls)

-- they stand for these calls, alone or with the whole group behind them
abbrev pub StandsForWhole : List Call → List Call → List ℕ → Type 0
StandsForWhole calls group bytes = StandsForCalls bytes calls ⊎ StandsForCalls bytes (calls ++ group)

-- they stand for a list that begins with these calls
abbrev pub StandsForFirst : List Call → List ℕ → Type 0
StandsForFirst calls bytes = (more : List Call) × StandsForCalls bytes (calls ++ more)

-- all calls of groups, in order
abbrev pub joined : List (List Call) → List Call
joined groups = flat_map (λ g. g) groups

-- the calls with which a load began, and those of the first so many groups
abbrev pub calls_after : List Call → List (List Call) → ℕ → List Call
calls_after base groups count = base ++ joined (take count groups)

-- There is a moment for each number of groups, the first of which is that of the start. The images of the span from each to the next
-- stand for the groups up to there, all of them whole, alone or with the whole next one. The last span goes on up to now, and its
-- images may have the whole group that was tried last, where one failed.
pub record HasGroupMoments (disk : Seen) (started : ℕ) (base : List Call) (groups : List (List Call)) (tried : List Call) : Type 0 where
  pub at : ℕ → ℕ
  pub begins : at 0 ≡ started
  pub rises : (i : ℕ) → i < length groups → at i ≤ at (i + 1)
  pub below : (i : ℕ) → i ≤ length groups → at i ≤ disk.moment
  pub spans : (i t : ℕ) (c : List ℕ) → i < length groups → at i ≤ t → t < at (i + 1) → disk.image t c
      → StandsForWhole (calls_after base groups i) (get_or groups i []) c
  pub last : (t : ℕ) (c : List ℕ) → at (length groups) ≤ t → t ≤ disk.moment → disk.image t c
      → StandsForWhole (calls_after base groups (length groups)) tried c
