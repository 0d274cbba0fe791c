-- Texts that end with a line feed, and what follows them.
use Rattle.std.proofs.Common.{◌≡◌, ◌∙◌, ℕ, false, ◌+◌, ◌-◌, ◌<◌, ◌≤◌, List, [], ◌∷◌, ◌++◌, length, get_or, take, drop, take_all, All, refl, sym, ap, subst, arith, append_assoc, drop-drop, length-drop, length-take}
use Rattle.std.proofs.lemmas.List.Elements.{All-append}
use Rattle.std.proofs.lemmas.Bool.{ne_eqb}
use mathlib.Core.Bool.{true≢false}
use Rattle.std.specs.List.{slice_split}
use Rattle.std.specs.Str.Lines.{lines, lines_of_parts, strip_carriage_return}
use Rattle.std.proofs.Math.Seq.{take-add}
use Rattle.std.proofs.lemmas.List.{append-nil, get_or-take, get_or_default, take-append-drop, take_more}
use Rattle.std.proofs.lemmas.List.Splits.{slice_split_at, slice_split_none, length-slice_split}
use Rattle.request_text.specs.text_lines.proofs.Cutting.{feed, last_line, some_parts}
use Rattle.input_front.specs.Front.{is_feed, whole_lines, whole_of_parts}
use Rattle.input_front.specs.Taken.{HasNoFeed, IsEnded, IsWhole}

whole_step : (line : List ℕ) (parts : List (List ℕ)) → 0 < length parts → whole_of_parts (line ∷ parts) ≡ strip_carriage_return line ∷ whole_of_parts parts
whole_step line [] h = absurd (omega (arith, h))
whole_step line (part ∷ parts) h = refl

-- a line with its line feed comes first
pub one_line : (x rest : List ℕ) → All (λ b. feed b ≡ false) x → lines (x ++ 10 ∷ rest) ≡ strip_carriage_return x ∷ lines rest
one_line x rest none = ap lines_of_parts (slice_split_at feed x 10 rest none refl) ∙ some_parts rest x

pub one_whole : (x rest : List ℕ) → All (λ b. feed b ≡ false) x → whole_lines (x ++ 10 ∷ rest) ≡ strip_carriage_return x ∷ whole_lines rest
one_whole x rest none = ap whole_of_parts (slice_split_at feed x 10 rest none refl) ∙ whole_step x (slice_split feed rest) (omega (arith, length-slice_split feed rest))

-- without a line feed no line is whole
pub none_whole : (x : List ℕ) → All (λ b. feed b ≡ false) x → whole_lines x ≡ []
none_whole x none = ap whole_of_parts (slice_split_none feed x none)

-- ---- texts of whole lines

pub no_lines : IsWhole [] []
no_lines = record { as_lines = λ rest. refl; as_whole = λ rest. refl }

-- one more behind them
pub one_behind : (a b : List ℕ) (xs ys : List (List ℕ)) → IsWhole a xs → IsWhole b ys → IsWhole (a ++ b) (xs ++ ys)
one_behind a b xs ys h k = record {
  as_lines = λ rest. ap lines (append_assoc a b rest) ∙ h.as_lines (b ++ rest) ∙ ap (λ l. xs ++ l) (k.as_lines rest) ∙ sym (append_assoc xs ys (lines rest));
  as_whole = λ rest. ap whole_lines (append_assoc a b rest) ∙ h.as_whole (b ++ rest) ∙ ap (λ l. xs ++ l) (k.as_whole rest) ∙ sym (append_assoc xs ys (whole_lines rest));
}

-- a line with its line feed
pub one_ended : (x : List ℕ) → HasNoFeed x → IsWhole (x ++ 10 ∷ []) (strip_carriage_return x ∷ [])
one_ended x none = record {
  as_lines = λ rest. ap lines (append_assoc x (10 ∷ []) rest) ∙ one_line x rest none;
  as_whole = λ rest. ap whole_lines (append_assoc x (10 ∷ []) rest) ∙ one_whole x rest none;
}

-- it is read alone
pub alone : (text : List ℕ) (found : List (List ℕ)) → IsWhole text found → lines text ≡ found
alone text found h = ap lines (sym (append-nil text)) ∙ h.as_lines [] ∙ append-nil found

-- ---- the next line of what was taken

module _ (bytes : List ℕ) (read n : ℕ) (ended : IsEnded (drop read bytes) n) where
  abbrev pub text : List ℕ
  text = take n (drop read bytes)

  abbrev pub found : List ℕ
  found = strip_carriage_return ended.line

  pub text_whole : IsWhole text (found ∷ [])
  text_whole = subst (λ t. IsWhole t (found ∷ [])) (sym ended.is) (one_ended ended.line ended.none)

  pub text_alone : lines text ≡ found ∷ []
  text_alone = alone text (found ∷ []) text_whole

  pub goes_on : (before : List (List ℕ)) → IsWhole (take read bytes) before → IsWhole (take (read + n) bytes) (before ++ found ∷ [])
  goes_on before h = subst (λ t. IsWhole t (before ++ found ∷ [])) (sym (take-add read n bytes)) (one_behind (take read bytes) text before (found ∷ []) h text_whole)

  abbrev rest : List ℕ
  rest = drop n (drop read bytes)

  all : bytes ≡ take read bytes ++ (text ++ rest)
  all = sym (take-append-drop read bytes) ∙ ap (λ l. take read bytes ++ l) (sym (take-append-drop n (drop read bytes)))

  pub comes_next : (before : List (List ℕ)) → IsWhole (take read bytes) before → (after later : List (List ℕ)) × (lines bytes ≡ before ++ found ∷ after) × (whole_lines bytes ≡ before ++ found ∷ later)
  comes_next before h = (
    lines rest,
    whole_lines rest,
    ap lines all ∙ h.as_lines (text ++ rest) ∙ ap (λ l. before ++ l) (text_whole.as_lines rest),
    ap whole_lines all ∙ h.as_whole (text ++ rest) ∙ ap (λ l. before ++ l) (text_whole.as_whole rest),
  )

  -- whatever follows the bytes
  pub comes_still : (before : List (List ℕ)) → IsWhole (take read bytes) before → (more : List ℕ) → lines (bytes ++ more) ≡ before ++ found ∷ lines (rest ++ more)
  comes_still before h more =
      ap (λ l. lines (l ++ more)) all
      ∙ ap lines (append_assoc (take read bytes) (text ++ rest) more)
      ∙ h.as_lines ((text ++ rest) ++ more)
      ∙ ap (λ l. before ++ lines l) (append_assoc text rest more)
      ∙ ap (λ l. before ++ l) (text_whole.as_lines (rest ++ more))

  -- the same of the whole lines
  pub whole_still : (before : List (List ℕ)) → IsWhole (take read bytes) before → (more : List ℕ) → whole_lines (bytes ++ more) ≡ before ++ found ∷ whole_lines (rest ++ more)
  whole_still before h more =
      ap (λ l. whole_lines (l ++ more)) all
      ∙ ap whole_lines (append_assoc (take read bytes) (text ++ rest) more)
      ∙ h.as_whole ((text ++ rest) ++ more)
      ∙ ap (λ l. before ++ whole_lines l) (append_assoc text rest more)
      ∙ ap (λ l. before ++ l) (text_whole.as_whole (rest ++ more))

-- ---- where the first line feed stands

no_feed : (bytes : List ℕ) (n : ℕ) → n ≤ length bytes → ((k : ℕ) → k < n → get_or bytes k 0 ≡ 10 → ⊥) → HasNoFeed (take n bytes)
no_feed bytes n within none = λ k d lt.
    let lt' : k < n = omega (arith, lt, length-take n bytes) in
    let here : get_or (take n bytes) k d ≡ get_or bytes k 0 = get_or-take n bytes k d lt' ∙ get_or_default bytes k d 0 (omega (arith, lt', within)) in
    ap is_feed here ∙ ne_eqb (get_or bytes k 0) 10 (none k lt')

pub no_feed_at_all : (bytes : List ℕ) → ((k : ℕ) → k < length bytes → get_or bytes k 0 ≡ 10 → ⊥) → HasNoFeed bytes
no_feed_at_all bytes none = subst HasNoFeed (take_all (length bytes) bytes (omega arith)) (no_feed bytes (length bytes) (omega arith) none)

pub ended_at : (bytes : List ℕ) (n : ℕ) → n < length bytes → ((k : ℕ) → k < n → get_or bytes k 0 ≡ 10 → ⊥) → get_or bytes n 0 ≡ 10 → IsEnded bytes (n + 1)
ended_at bytes n lt none here = record {
  within = omega (arith, lt);
  some = omega arith;
  line = take n bytes;
  none = no_feed bytes n (omega (arith, lt)) none;
  is = take_more bytes n 0 lt ∙ ap (λ b. take n bytes ++ b ∷ []) here;
}

-- none is there that was sought before
nothing : HasNoFeed []
nothing = λ k d lt. absurd (omega (arith, lt))

pub none_there : (m : ℕ) (bytes : List ℕ) → HasNoFeed (take (m - m) bytes)
none_there m bytes =
    let none : m - m ≡ 0 = omega arith in
    subst (λ n. HasNoFeed (take n bytes)) (sym none) nothing

module _ (bytes : List ℕ) (read sought : ℕ) (behind : read ≤ sought) (none : HasNoFeed (take (sought - read) (drop read bytes))) where
  rest_is : drop (sought - read) (drop read bytes) ≡ drop sought bytes
  rest_is =
      let sum : read + (sought - read) ≡ sought = omega (arith, behind) in
      drop-drop (sought - read) read bytes ∙ ap (λ n. drop n bytes) sum

  -- nor behind it
  pub none_left : HasNoFeed (drop sought bytes) → HasNoFeed (drop read bytes)
  none_left more = subst HasNoFeed (take-append-drop (sought - read) (drop read bytes))
      (All-append (λ b. is_feed b ≡ false) (take (sought - read) (drop read bytes)) (drop (sought - read) (drop read bytes)) none (subst HasNoFeed (sym rest_is) more))

  pub sought_to : (end : ℕ) → length bytes ≤ end → HasNoFeed (drop read bytes) → HasNoFeed (take (end - read) (drop read bytes))
  sought_to end all left =
      let within : length (drop read bytes) ≤ end - read = omega (arith, all, length-drop read bytes) in
      subst HasNoFeed (sym (take_all (end - read) (drop read bytes) within)) left

  -- the first line feed behind it ends the next line
  pub ended_behind : (at : ℕ) → sought ≤ length bytes → IsEnded (drop sought bytes) at → IsEnded (drop read bytes) (sought + at - read)
  ended_behind at within ended = record {
    within = omega (arith, ended.within, within, behind, length-drop read bytes, length-drop sought bytes);
    some = omega (arith, ended.some, behind);
    line = take (sought - read) (drop read bytes) ++ ended.line;
    none = All-append (λ b. is_feed b ≡ false) (take (sought - read) (drop read bytes)) ended.line none ended.none;
    is =
        let sum : sought + at - read ≡ sought - read + at = omega (arith, behind) in
        ap (λ n. take n (drop read bytes)) sum
        ∙ take-add (sought - read) at (drop read bytes)
        ∙ ap (λ l. take (sought - read) (drop read bytes) ++ l) (ap (take at) rest_is ∙ ended.is)
        ∙ sym (append_assoc (take (sought - read) (drop read bytes)) ended.line (10 ∷ []));
  }

-- ---- the last line

some_length : {X : Type 0} (xs : List X) → (xs ≡ [] → ⊥) → 0 < length xs
some_length [] some = absurd (some refl)
some_length (x ∷ xs) some = omega arith

-- a rest without a line feed is read alone
pub rest_alone : (rest : List ℕ) → HasNoFeed rest → (rest ≡ [] → ⊥) → lines rest ≡ rest ∷ []
rest_alone rest none some = last_line rest (length rest) refl (λ k lt is. absurd (true≢false (sym (ap is_feed is) ∙ none k 0 lt))) (some_length rest some)

pub last_whole : (bytes : List ℕ) (read : ℕ) → HasNoFeed (drop read bytes) → (drop read bytes ≡ [] → ⊥) → (before : List (List ℕ)) → IsWhole (take read bytes) before → lines bytes ≡ before ++ drop read bytes ∷ []
last_whole bytes read none some before h = ap lines (sym (take-append-drop read bytes)) ∙ h.as_lines (drop read bytes) ∙ ap (λ l. before ++ l) (rest_alone (drop read bytes) none some)
