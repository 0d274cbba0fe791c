-- The one batch that the input is.
use Rattle.std.proofs.Common.{◌≡◌, ◌∙◌, ℕ, List, [], ◌∷◌, ◌++◌, map, sym, subst}
use Rattle.std.specs.Prelude.{All}
use Rattle.std.proofs.lemmas.List.Elements.{All-nil, All-cons}
use Rattle.request_text.specs.declared.request.Request.{Request}
use Rattle.request_text.specs.Grammar.{CanBeAsked, IsNoRequestText, IsRequestText, ReadBackLaw}
use Rattle.trial_round.specs.Input.{by_lane_one, text_of_acts, trial_acts, trial_input}
use Rattle.trial_round.specs.Trial.{IsTrialSize, trial_batch}
use Rattle.trial_round.proofs.Asked.{all_asked}

pub input_is_text : (firms claims seed : ℕ) → IsTrialSize firms claims → ReadBackLaw → IsRequestText (trial_input firms claims seed) (trial_batch firms claims seed ∷ [])
unfolding text_of_acts trial_batch
input_is_text firms claims seed size law =
    law.written (map by_lane_one (trial_acts firms claims seed)) []
    (All-cons (All CanBeAsked) (map by_lane_one (trial_acts firms claims seed)) [] (all_asked firms claims seed size) (All-nil (All CanBeAsked)))

-- what is read of it is that batch
pub input_is_read : (firms claims seed : ℕ) (text : List ℕ) (batches : List (List Request)) → IsTrialSize firms claims → ReadBackLaw → text ≡ trial_input firms claims seed → IsRequestText text batches → batches ≡ trial_batch firms claims seed ∷ []
input_is_read firms claims seed text batches size law is read =
    law.only (trial_input firms claims seed) batches (trial_batch firms claims seed ∷ []) (subst (λ (t : List ℕ). IsRequestText t batches) is read) (input_is_text firms claims seed size law)

last_of_one : {A : Type 0} (rest : List A) (last only : A) → rest ++ last ∷ [] ≡ only ∷ [] → last ≡ only
last_of_one [] last only is = cc is
last_of_one (x ∷ rest) last only is = absurd (no_end rest last (cc is)) where
  no_end : {A : Type 0} (rest : List A) (last : A) → rest ++ last ∷ [] ≡ [] → ⊥
  no_end [] last is = cc is
  no_end (x ∷ rest) last is = cc is

pub batch_is : (firms claims seed : ℕ) (text : List ℕ) (batches rest : List (List Request)) (last : List Request) → IsTrialSize firms claims → ReadBackLaw → text ≡ trial_input firms claims seed → IsRequestText text batches
    → batches ≡ rest ++ last ∷ [] → last ≡ trial_batch firms claims seed
batch_is firms claims seed text batches rest last size law is read ends =
    last_of_one rest last (trial_batch firms claims seed) (sym ends ∙ input_is_read firms claims seed text batches size law is read)

-- and it is read
pub input_is_no_fault : (firms claims seed : ℕ) (text : List ℕ) → IsTrialSize firms claims → ReadBackLaw → text ≡ trial_input firms claims seed → IsNoRequestText text → ⊥
input_is_no_fault firms claims seed text size law is none =
    none (trial_batch firms claims seed ∷ []) (subst (λ (t : List ℕ). IsRequestText t (trial_batch firms claims seed ∷ [])) (sym is) (input_is_text firms claims seed size law))
