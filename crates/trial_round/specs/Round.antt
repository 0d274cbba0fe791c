-- The history of a trial whose round was published. Its entries are those of the pool MAIN.
use Rattle.std.specs.Prelude.{◌≡◌, ℕ, List, [], ◌∷◌, ◌++◌, Option, MatchOption}
use Rattle.setoff_model.specs.CutView.{CutView, OutcomeView, WellFormed, obligations}
use Rattle.setoff_model.specs.Setoff.{Proves}
use Rattle.claim_history.specs.declared.act.Act.TheVariants as act
use Rattle.claim_history.specs.declared.entry.Entry.{Entry}
use Rattle.claim_history.specs.PoolRounds.{cuts_after}
use Rattle.request_text.specs.declared.request.Request.{Request}
use Rattle.lane_runner.specs.bureau_desk.specs.Desks.{DeskView}
use Rattle.lane_runner.specs.served_lines.specs.declared.answer.Answer.{Answer}
use Rattle.lane_runner.specs.served_lines.specs.Served.{IsServed}

-- the last entry asks for a publication of this outcome
pub record EndsWith (history : List Entry) (outcome : OutcomeView) : Type 0 where
  pub front : List Entry
  pub publication : Entry
  pub number : ℕ
  pub parts : history ≡ front ++ publication ∷ []
  pub asks : publication.act ≡ act.Publish number outcome

-- the history ends with a publication whose prices prove it for this cut, and the cut is the one that was published
pub record HasRound (cut : CutView) (history : List Entry) (cuts : List CutView) : Type 0 where
  pub outcome : OutcomeView
  pub ends : EndsWith history outcome
  pub cuts_are : cuts ≡ cut ∷ []
  pub formed : WellFormed cut
  pub proved : Proves (obligations cut) outcome.discharges outcome.prices

-- a batch was served on a desk that had no history, or none of its lines was asked; the rounds of the desk are all that there are
pub record HasServedAlone {D : Type 0} (batch : List Request) (desk : DeskView D) (answers : Option (List Answer)) : Type 0 where
  pub served : MatchOption answers (Unit {0}) (λ list. IsServed batch list [] desk.history)
  pub rounds : desk.rounds ≡ cuts_after 0 desk.history
