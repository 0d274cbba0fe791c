-- The outcome that a history ends with.
use Rattle.std.proofs.Common.{◌≡◌, ◌∙◌, List, [], ◌∷◌, ◌++◌, sym, ap}
use Rattle.setoff_model.specs.CutView.{OutcomeView}
use Rattle.claim_history.specs.declared.act.Act.TheVariants as act
use Rattle.claim_history.specs.declared.entry.Entry.{Entry}
use Rattle.trial_round.specs.Round.{EndsWith}

last_differs : {A : Type 0} (xs : List A) (x y z : A) → z ∷ xs ++ x ∷ [] ≡ y ∷ [] → ⊥
last_differs [] x y z is = cc is
last_differs (w ∷ xs) x y z is = cc is

one_last : {A : Type 0} (xs ys : List A) (x y : A) → xs ++ x ∷ [] ≡ ys ++ y ∷ [] → x ≡ y
one_last [] [] x y is = cc is
one_last [] (z ∷ ys) x y is = absurd (last_differs ys y x z (sym is))
one_last (z ∷ xs) [] x y is = absurd (last_differs xs x y z is)
one_last (z ∷ xs) (w ∷ ys) x y is = one_last xs ys x y (cc is)

pub one_end : (history : List Entry) (a b : OutcomeView) → EndsWith history a → EndsWith history b → a ≡ b
one_end history a b p q =
    let last : p.publication ≡ q.publication = one_last p.front q.front p.publication q.publication (sym p.parts ∙ q.parts) in
    let asked : act.Publish p.number a ≡ act.Publish q.number b = sym p.asks ∙ ap (λ (e : Entry). e.act) last ∙ q.asks in
    cc asked
