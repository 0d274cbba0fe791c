-- By how much the balance of an account may fall and rise in a round.
use Rattle.std.specs.Prelude.{◌≡◌, ◌≤◌, pos, neg_ℤ, ◌+ℤ◌, ◌-ℤ◌}
use Rattle.std.specs.Int.{int_min}
use Rattle.setoff_model.specs.declared.kind.Kind.{Kind}
use Rattle.setoff_model.specs.declared.kind.Kind.TheVariants.{Funded}
use Rattle.setoff_model.specs.declared.limits.TheConstants.{FIRST_CEILING, MOST_AMOUNT}
use Rattle.setoff_model.specs.Sums.{above_zero}
use Rattle.setoff_model.specs.Windows.{Window, window}
use Rattle.claim_history.specs.declared.fact.AccountFact.{AccountFact}
use Rattle.claim_history.specs.Laws.{IsWithin}

-- -credit <= balance <= ceiling, with limits that an account may have
pub record KeepsLimits (a : AccountFact) : Type 0 where
  pub balance : IsWithin a.credit a.ceiling a.balance
  pub credit : a.credit ≤ MOST_AMOUNT
  pub ceiling : a.ceiling ≤ FIRST_CEILING

-- the window of an account: what it has gained less what it has spent is its balance, of which one is 0
abbrev pub window_of : Kind → AccountFact → Window
window_of kind a = window kind (above_zero a.balance) (above_zero (neg_ℤ a.balance)) a.credit a.ceiling a.offer

-- within its limits the window of an account is that minimum, and that difference
abbrev pub WindowsLaw : Type 0
WindowsLaw = (a : AccountFact) → KeepsLimits a →
    (pos (window_of Funded a).spend ≡ int_min (pos a.offer) (a.balance +ℤ pos a.credit))
    × (pos (window_of Funded a).room ≡ pos a.ceiling -ℤ a.balance)
