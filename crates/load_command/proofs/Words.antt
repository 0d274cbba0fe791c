-- The words of a load.
use Rattle.std.specs.Prelude.{◌==◌, map, string_bytes}
use Rattle.std.proofs.Common.{◌≡◌, ◌≢◌, ℕ, true, false, List, [], ◌∷◌, String, Global, ap, arith, length, refl, true≢false}
use Rattle.std.proofs.lemmas.Bool.{eqb-true}

-- the bytes of words
abbrev pub bytes_of : List (String Global) → List (List ℕ)
bytes_of words = map (λ (w : String Global). string_bytes w) words

pub same_bytes : (words others : List (String Global)) → words ≡ others → bytes_of words ≡ bytes_of others
same_bytes words others is = ap (λ (ws : List (String Global)). bytes_of ws) is

pub no_words : (words : List (String Global)) → (length words == 0) ≡ true → bytes_of words ≡ []
no_words [] is = refl
no_words (w ∷ words) is = absurd (omega (arith, eqb-true (length (w ∷ words)) 0 is))

pub some_words : (words : List (String Global)) → (length words == 0) ≡ false → bytes_of words ≢ []
some_words [] is = λ e. absurd (true≢false is)
some_words (w ∷ words) is = λ e. cc
