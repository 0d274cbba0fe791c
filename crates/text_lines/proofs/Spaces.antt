-- Texts that have no space.
use Rattle.std.proofs.Common.{◌≡◌, ℕ, ◌<◌, ◌^◌, Bool, true, false, List, ◌++◌, sym, ap, ◌∙◌, arith, decimal}
use Rattle.std.specs.Prelude.{not, slice_index_or}
use Rattle.std.specs.List.{list_all}
use Rattle.std.proofs.lemmas.Bool.{ne_eqb}
use Rattle.std.proofs.lemmas.List.Sums.{AllPass-from_list_all}
use Rattle.std.proofs.lemmas.List.Elements.{All-append}
use Rattle.text_lines.specs.Fields.{is_space, HasNoSpace, NoSpaceLaw, IsVisible}
use Rattle.text_lines.proofs.Visible.{decimal_visible, visible_law}

-- a visible text has no space
pub no_space_of : (text : List ℕ) → IsVisible text → HasNoSpace text
no_space_of text h = λ k d lt. ne_eqb (slice_index_or text k d) 32 (λ e. absurd (omega (arith, h k d lt)))

abbrev pub is_no_space : ℕ → Bool
is_no_space b = not (is_space b)

not_space : (b : ℕ) → is_no_space b ≡ true → b ≡ 32 → ⊥
not_space b h e = let wrong : true ≡ false = sym h ∙ ap is_no_space e in absurd cc

-- a text that is known
pub known_no_space : (text : List ℕ) → list_all is_no_space text ≡ true → HasNoSpace text
known_no_space text h = λ k d lt. ne_eqb (slice_index_or text k d) 32 (not_space (slice_index_or text k d) (AllPass-from_list_all is_no_space text h k d lt))

pub append_no_space : (a b : List ℕ) → HasNoSpace a → HasNoSpace b → HasNoSpace (a ++ b)
append_no_space a b h k = All-append (λ (x : ℕ). is_space x ≡ false) a b h k

pub decimal_no_space : (n : ℕ) → n < 2 ^ 64 → HasNoSpace (decimal n)
decimal_no_space n lt = no_space_of (decimal n) (decimal_visible n lt)

pub no_space_law : NoSpaceLaw
no_space_law = record {
  names = λ text h. no_space_of text (visible_law.names text h);
  whole = decimal_no_space;
  cents = λ n lt. no_space_of _ (visible_law.cents n lt);
}
