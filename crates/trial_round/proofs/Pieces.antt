-- The line, piece by piece.
use Rattle.std.proofs.Common.{◌≡◌, ◌∙◌, ℕ, List, [], ◌++◌, ap, ap₂, append_assoc, decimal, sym}
use Rattle.std.specs.Prelude.{codes}
use Rattle.setoff_model.specs.Texts.{cents_text}
use Rattle.trial_round.specs.Trial.{trial_line}

-- one piece more
abbrev more : List ℕ → ℕ → List ℕ → List ℕ
more words number text = text ++ words ++ decimal number

-- the piece that a writer put behind a text
piece : (text words : List ℕ) (number : ℕ) (written : List ℕ) → written ≡ text ++ (words ++ decimal number) → written ≡ more words number text
piece text words number written e = e ∙ sym (append_assoc text words (decimal number))

pub line_is : (firms claims seed cut_claims cut_parties total cents : ℕ) (none one two three four five six seven text : List ℕ)
    → none ≡ [] → one ≡ none ++ (codes "trial firms " ++ decimal firms) → two ≡ one ++ (codes " claims " ++ decimal claims) → three ≡ two ++ (codes " seed " ++ decimal seed)
    → four ≡ three ++ (codes " cut " ++ decimal cut_claims) → five ≡ four ++ (codes " parties " ++ decimal cut_parties)
    → six ≡ five ++ codes " total " → seven ≡ six ++ cents_text cents → text ≡ seven ++ codes " yes\n" → cents ≡ total
    → text ≡ trial_line firms claims seed cut_claims cut_parties total
unfolding trial_line
line_is firms claims seed cut_claims cut_parties total cents none one two three four five six seven text e0 e1 e2 e3 e4 e5 e6 e7 e8 same =
    let first = piece none (codes "trial firms ") firms one e1 ∙ ap (more (codes "trial firms ") firms) e0 in
    let second = piece one (codes " claims ") claims two e2 ∙ ap (more (codes " claims ") claims) first in
    let third = piece two (codes " seed ") seed three e3 ∙ ap (more (codes " seed ") seed) second in
    let fourth = piece three (codes " cut ") cut_claims four e4 ∙ ap (more (codes " cut ") cut_claims) third in
    let fifth = piece four (codes " parties ") cut_parties five e5 ∙ ap (more (codes " parties ") cut_parties) fourth in
    let sixth = e6 ∙ ap (λ (t : List ℕ). t ++ codes " total ") fifth in
    e8 ∙ ap (λ (t : List ℕ). t ++ codes " yes\n") (e7 ∙ ap₂ (λ (t : List ℕ) (n : ℕ). t ++ cents_text n) sixth same)
