-- How an explainer finds its chains: what is left, the claims of each debtor, and the walk.
use Rattle.std.specs.Prelude.{◌≡◌, ◌≢◌, ◌⊎◌, ℕ, zero, suc, ◌+◌, ◌-◌, ◌<◌, ◌≤◌, List, length, slice_index, slice_range, if◌then◌else◌, ◌==◌}
use Rattle.setoff_model.specs.Setoff.{Obligations, inflow, outflow}
use Rattle.setoff_model.specs.CutView.{CutView, WellFormed, obligations}
use Rattle.chain_explain.specs.Chains.{ChainView, debtor_at, creditor_at, share, begun, ended}
use Rattle.chain_explain.specs.Explained.{claims_left, parties_left}
use Rattle.chain_explain.specs.declared.left.Left.{Left}
use Rattle.chain_explain.specs.declared.listed.Listed.{Listed}
use Rattle.chain_explain.specs.declared.walk.Walk.{Walk}

-- what is owed by a party and to it, and what is still to begin and to end at it, are in balance
abbrev pub IsEven : Obligations → List ℕ → List ℕ → List ℕ → Type 0
IsEven o rests begins ends =
    (f : ℕ) → f < length o.spends → outflow o rests f + slice_index ends f ≡ inflow o rests f + slice_index begins f

-- the first places have 0
abbrev pub NoneBelow : List ℕ → ℕ → Type 0
NoneBelow xs n = (k : ℕ) → k < n → slice_index xs k ≡ 0

-- what is left is one for each claim and party and in balance, and no party has something to begin and something to end
pub record AreLeft (o : Obligations) (rests begins ends : List ℕ) : Type 0 where
  pub rest_each : length rests ≡ length o.amounts
  pub begin_each : length begins ≡ length o.spends
  pub end_each : length ends ≡ length o.spends
  pub even : IsEven o rests begins ends
  pub one_side : (f : ℕ) → f < length o.spends → (slice_index begins f ≡ 0) ⊎ (slice_index ends f ≡ 0)

pub record IsLeft (o : Obligations) (left : Left) : Type 0 where
  pub left_each : AreLeft o left.rests.items left.begins.items left.ends.items
  pub begun : NoneBelow left.begins.items left.spender
  pub settled : NoneBelow left.rests.items left.oldest

-- Of the claims from place n on: from the current claim of each debtor the later ones lead over all that it owes.
-- Where there is no claim more stands their number.
pub record AreListed (o : Obligations) (n : ℕ) (current later : List ℕ) : Type 0 where
  pub places : n ≤ length o.amounts
  pub current_each : length current ≡ length o.spends
  pub later_each : length later ≡ length o.amounts
  pub from : (f : ℕ) → f < length o.spends → n ≤ slice_index current f
  pub owed : (f : ℕ) → f < length o.spends → slice_index current f < length o.amounts →
      slice_index o.debtors (slice_index current f) ≡ f
  pub reaches : (k : ℕ) → n ≤ k → k < length o.amounts → slice_index current (slice_index o.debtors k) ≤ k
  pub rises : (c : ℕ) → n ≤ c → c < length o.amounts → c < slice_index later c
  pub later_owed : (c : ℕ) → n ≤ c → c < length o.amounts → slice_index later c < length o.amounts →
      slice_index o.debtors (slice_index later c) ≡ slice_index o.debtors c
  pub skips : (c k : ℕ) → n ≤ c → c < k → k < length o.amounts → slice_index o.debtors k ≡ slice_index o.debtors c →
      slice_index later c ≤ k

-- from the current claim of each debtor the later ones lead over all that it owes and that have a rest
pub record AreReached (o : Obligations) (rests current later : List ℕ) : Type 0 where
  pub current_each : length current ≡ length o.spends
  pub later_each : length later ≡ length o.amounts
  pub owed : (f : ℕ) → f < length o.spends → slice_index current f < length o.amounts →
      slice_index o.debtors (slice_index current f) ≡ f
  pub reaches : (k : ℕ) → k < length o.amounts → 0 < slice_index rests k → slice_index current (slice_index o.debtors k) ≤ k
  pub rises : (c : ℕ) → c < length o.amounts → c < slice_index later c
  pub later_owed : (c : ℕ) → c < length o.amounts → slice_index later c < length o.amounts →
      slice_index o.debtors (slice_index later c) ≡ slice_index o.debtors c
  pub skips : (c k : ℕ) → c < k → k < length o.amounts → slice_index o.debtors k ≡ slice_index o.debtors c →
      slice_index later c ≤ k

abbrev pub IsListed : Obligations → List ℕ → Listed → Type 0
IsListed o rests listed = AreReached o rests listed.current.items listed.later.items

-- a claim that the party at place f owes has a rest
abbrev pub HasWay : Obligations → List ℕ → ℕ → Type 0
HasWay o rests f = (k : ℕ) × (k < length o.amounts) × (slice_index o.debtors k ≡ f) × (0 < slice_index rests k)

-- where a walk from a party stands before its step i
abbrev pub stand : Obligations → List ℕ → ℕ → ℕ → ℕ
stand o path from zero = from
stand o path from (suc i) = creditor_at o path i

-- the first n claims of the path lead from one party to another and have rests, and no firm is debtor twice, since each is
-- marked with the place of its claim
pub record IsPath (o : Obligations) (rests path marks : List ℕ) (from at n : ℕ) : Type 0 where
  pub room : length path ≡ length o.spends
  pub mark_each : length marks ≡ length o.spends
  pub fits : n ≤ length o.spends
  pub here : at < length o.spends
  pub stands : at ≡ stand o path from n
  pub claims : (i : ℕ) → i < n → slice_index path i < length o.amounts
  pub held : (i : ℕ) → i < n → 0 < slice_index rests (slice_index path i)
  pub linked : (i : ℕ) → i < n → debtor_at o path i ≡ stand o path from i
  pub marked : (i : ℕ) → i < n → slice_index marks (debtor_at o path i) ≡ i

abbrev pub IsWalk : Obligations → List ℕ → Walk → Type 0
IsWalk o rests walk = IsPath o rests walk.path.items walk.marks.items walk.from walk.at walk.walked

-- an open chain can begin at the party at place f, or no chain is open
abbrev pub IsOrigin : Left → ℕ → Type 0
IsOrigin left f = (0 < slice_index left.begins.items f) ⊎ ((e : ℕ) → slice_index left.ends.items e ≡ 0)

-- no claim of the walk is owed by the party at place f
abbrev pub IsOffWalk : Obligations → Walk → ℕ → Type 0
IsOffWalk o walk f = (i : ℕ) → i < walk.walked → debtor_at o walk.path.items i ≢ f

-- the walk is back at the debtor of its claim at this place
abbrev pub IsBackAt : Obligations → Walk → ℕ → Type 0
IsBackAt o walk place = (place < walk.walked) × (debtor_at o walk.path.items place ≡ walk.at)

-- the walk goes from a party at which something is to begin to another at which something is to end
pub record IsThrough (o : Obligations) (left : Left) (walk : Walk) : Type 0 where
  pub some : 0 < walk.walked
  pub off : IsOffWalk o walk walk.at
  pub begins : 0 < slice_index left.begins.items walk.from
  pub ends : 0 < slice_index left.ends.items walk.at

-- between chains: what is left, and a walk that has begun is one that can go on, with the last chain behind it
pub record IsBetween (o : Obligations) (left : Left) (walk : Walk) : Type 0 where
  pub left_is : IsLeft o left
  pub path_each : length walk.path.items ≡ length o.spends
  pub mark_each : length walk.marks.items ≡ length o.spends
  pub walk_is : 0 < walk.walked → IsWalk o left.rests.items walk
  pub origin : 0 < walk.walked → IsOrigin left walk.from
  pub behind : walk.walked ≤ walk.end
  pub fits : walk.end ≤ length o.spends

pub record IsExplainer (cut : CutView) (left : Left) (listed : Listed) (walk : Walk) : Type 0 where
  pub well_formed : WellFormed cut
  pub between : IsBetween (obligations cut) left walk
  pub reached : IsListed (obligations cut) left.rests.items listed

-- the claims of the last chain
abbrev pub last_chain : Walk → List ℕ
last_chain walk = slice_range walk.path.items walk.walked walk.end

-- each of the claims has the amount less, and no other claim changes
pub record IsLowered (old claims : List ℕ) (amount : ℕ) (new : List ℕ) : Type 0 where
  pub of_each : (j : ℕ) → j < length claims →
      slice_index old (slice_index claims j) ≡ slice_index new (slice_index claims j) + amount
  pub of_none : (c : ℕ) → ((j : ℕ) → j < length claims → slice_index claims j ≢ c) → slice_index new c ≡ slice_index old c

-- what was in balance is so again once the amount is taken from party `from` and brought to party `at`
abbrev pub IsCarried : Obligations → List ℕ → List ℕ → ℕ → ℕ → ℕ → Type 0
IsCarried o old new from at amount =
    (f : ℕ) → outflow o old f + inflow o new f + (if at == f then amount else 0)
    ≡ inflow o old f + outflow o new f + (if from == f then amount else 0)

-- the chain was taken off what is left
pub record IsTaken (o : Obligations) (old : Left) (x : ChainView) (new : Left) : Type 0 where
  pub rests : (c : ℕ) → c < length o.amounts → slice_index old.rests.items c ≡ slice_index new.rests.items c + share x c
  pub begins : (f : ℕ) → slice_index old.begins.items f ≡ slice_index new.begins.items f + begun o x f
  pub ends : (f : ℕ) → slice_index old.ends.items f ≡ slice_index new.ends.items f + ended o x f
  pub falls : claims_left o new.rests.items + parties_left o new.begins.items new.ends.items
      < claims_left o old.rests.items + parties_left o old.begins.items old.ends.items

-- nothing is explained yet of the discharges
pub record IsLeftAtStart (o : Obligations) (d : List ℕ) (left : Left) : Type 0 where
  pub left_is : IsLeft o left
  pub rests : left.rests.items ≡ d
  pub begins : (f : ℕ) → f < length o.spends → slice_index left.begins.items f ≡ outflow o d f - inflow o d f
  pub ends : (f : ℕ) → f < length o.spends → slice_index left.ends.items f ≡ inflow o d f - outflow o d f
