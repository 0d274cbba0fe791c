-- What is printed of an explainer.
use Rattle.std.specs.Prelude.{ℕ, List, ◌++◌, Option, Result, OnOk, OnErr}
use Rattle.setoff_model.specs.CutView.{obligations}
use Rattle.bureau_edge.specs.declared.failed.Failed.{Failed}
use Rattle.std.specs.Io.KnownBytes.{Appends}
use Rattle.bureau_edge.specs.Streams.{AppendsPart}
use Rattle.printed_text.specs.Writing.{GoesThrough}
use Rattle.chain_explain.specs.Chains.{ChainView}
use Rattle.chain_explain.specs.Explained.{ExplainerView, Gives, IsDone}
use Rattle.chain_text.specs.Texts.{chains_text}

-- an explainer gave some chains, and then all is explained
pub record HasGivenAll (old new : ExplainerView) : Type 0 where
  pub chains : List ChainView
  pub given : Gives (obligations old.cut) old chains new
  pub done : IsDone (obligations old.cut) new

-- Their lines went through the buffer; or the sink failed, and took some first bytes of what was in the buffer and of them.
pub record HasPassed (held_old held_new : Option (List ℕ)) (buffer_old buffer_new : List ℕ) (old new : ExplainerView)
    (result : Result (Unit {0}) Failed) : Type 0 where
  pub chains : List ChainView
  pub given : Gives (obligations old.cut) old chains new
  pub done : IsDone (obligations old.cut) new
  pub ok : OnOk result (GoesThrough held_old held_new buffer_old buffer_new (chains_text old.cut chains))
  pub part : OnErr result (AppendsPart held_old held_new (buffer_old ++ chains_text old.cut chains))

-- The sink took their lines; or it failed, and took some first bytes of them.
pub record HasPrinted (held_old held_new : Option (List ℕ)) (old new : ExplainerView) (result : Result (Unit {0}) Failed) : Type 0 where
  pub chains : List ChainView
  pub given : Gives (obligations old.cut) old chains new
  pub done : IsDone (obligations old.cut) new
  pub ok : OnOk result (Appends held_old held_new (chains_text old.cut chains))
  pub part : OnErr result (AppendsPart held_old held_new (chains_text old.cut chains))
