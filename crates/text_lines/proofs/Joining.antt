-- Fields that are joined and cut again.
use Rattle.std.proofs.Common.{◌≡◌, ℕ, List, [], ◌∷◌, refl, ap, ◌∙◌}
use Rattle.std.specs.List.{AllByRecursion}
use Rattle.std.proofs.lemmas.List.Splits.{slice_split_none, slice_split_at, join_with_byte-slice_split}
use Rattle.text_lines.specs.Fields.{is_space, fields, line_of, HasNoSpace, JoinLaw}

cut_again : (first : List ℕ) (others : List (List ℕ)) → HasNoSpace first → AllByRecursion HasNoSpace others → fields (line_of (first ∷ others)) ≡ first ∷ others
cut_again first [] h hs = slice_split_none is_space first h
cut_again first (second ∷ others) h hs = slice_split_at is_space first 32 (line_of (second ∷ others)) h refl ∙ ap (λ (fs : List (List ℕ)). first ∷ fs) (cut_again second others hs.0 hs.1)

pub join_law : JoinLaw
join_law = record { joined = join_with_byte-slice_split 32; cut = cut_again }
