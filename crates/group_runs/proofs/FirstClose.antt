-- The first request that is a Close.
use Rattle.std.specs.Prelude.{All, None, Option, Some, is_some}
use Rattle.std.proofs.Common.{◌≡◌, ◌∙◌, ℕ, ◌+◌, Bool, true, false, if◌then◌else◌, List, [], ◌∷◌, ◌++◌, take, drop, flat_map, refl, sym, ap, subst, append_assoc}
use Rattle.std.proofs.lemmas.List.{append-nil, take-append-drop}
use Rattle.std.proofs.lemmas.List.Concat.{flat_map-append}
use Rattle.std.proofs.lemmas.List.Elements.{All-cons, All-nil, All-push}
use Rattle.claim_history.specs.Acts.{is_close}
use Rattle.request_text.specs.declared.request.Request.{Request}
use Rattle.request_text.specs.Batches.{AreInOrder}
use Rattle.group_runs.specs.Lines.{CanBeLoaded, first_close_of}

abbrev pub IsOther : Request → Type 0
IsOther request = is_close request.act ≡ false

-- one request and others
abbrev one_and : Request → Option ℕ → Bool → Option ℕ
one_and request others b = if b then Some request.line else others

first_append_by : (b : Bool) (x : Request) (xs ys : List Request) → is_close x.act ≡ b → first_close_of (x ∷ xs) ≡ None
    → (first_close_of xs ≡ None → first_close_of (xs ++ ys) ≡ first_close_of ys) → first_close_of (x ∷ xs ++ ys) ≡ first_close_of ys
first_append_by true x xs ys is none rest = absurd (cc (none, ap (one_and x (first_close_of xs)) is))
first_append_by false x xs ys is none rest =
    ap (one_and x (first_close_of (xs ++ ys))) is ∙ rest (sym (ap (one_and x (first_close_of xs)) is) ∙ none)

-- that of two lists
pub first_append : (xs ys : List Request) → first_close_of xs ≡ None → first_close_of (xs ++ ys) ≡ first_close_of ys
first_append [] ys none = refl
first_append (x ∷ xs) ys none = first_append_by (is_close x.act) x xs ys refl none (first_append xs ys)

first_found_by : (b : Bool) (x : Request) (xs ys : List Request) (line : ℕ) → is_close x.act ≡ b → first_close_of (x ∷ xs) ≡ Some line
    → (first_close_of xs ≡ Some line → first_close_of (xs ++ ys) ≡ Some line) → first_close_of (x ∷ xs ++ ys) ≡ Some line
first_found_by true x xs ys line is found rest =
    ap (one_and x (first_close_of (xs ++ ys))) is ∙ sym (ap (one_and x (first_close_of xs)) is) ∙ found
first_found_by false x xs ys line is found rest =
    ap (one_and x (first_close_of (xs ++ ys))) is ∙ rest (sym (ap (one_and x (first_close_of xs)) is) ∙ found)

pub first_found : (xs ys : List Request) (line : ℕ) → first_close_of xs ≡ Some line → first_close_of (xs ++ ys) ≡ Some line
first_found [] ys line found = absurd (cc found)
first_found (x ∷ xs) ys line found = first_found_by (is_close x.act) x xs ys line refl found (first_found xs ys line)

none_close_by : (b : Bool) (x : Request) (xs : List Request) → is_close x.act ≡ b → first_close_of (x ∷ xs) ≡ None
    → (first_close_of xs ≡ None → All IsOther xs) → All IsOther (x ∷ xs)
none_close_by true x xs is none rest = absurd (cc (none, ap (one_and x (first_close_of xs)) is))
none_close_by false x xs is none rest = All-cons IsOther x xs is (rest (sym (ap (one_and x (first_close_of xs)) is) ∙ none))

-- where there is none, each is another act
pub none_close : (xs : List Request) → first_close_of xs ≡ None → All IsOther xs
none_close [] none = All-nil IsOther
none_close (x ∷ xs) none = none_close_by (is_close x.act) x xs refl none (none_close xs)

-- a batch without one can be loaded
pub batch_can : (batch : List Request) → AreInOrder batch → first_close_of batch ≡ None → All CanBeLoaded batch
batch_can batch order none k d lt = record {
  lane = order.lanes k d lt;
  named = order.pools k d lt;
  valid = order.valid k d lt;
  other = none_close batch none k d lt;
}

some_by : (o : Option ℕ) (xs ys : List Request) → first_close_of xs ≡ o → is_some o ≡ true → first_close_of (xs ++ ys) ≡ first_close_of xs
some_by None xs ys is some = absurd (cc some)
some_by (Some line) xs ys is some = first_found xs ys line is ∙ sym is

none_by : (o : Option ℕ) → is_some o ≡ false → o ≡ None
none_by None none = refl
none_by (Some line) none = absurd (cc none)

-- of batches of which the first have none, and the next one
module _ (bs : List (List Request)) (i : ℕ) (b : List Request) (item : take (i + 1) bs ≡ take i bs ++ b ∷ [])
    (none : first_close_of (flat_map (λ batch. batch) (take i bs)) ≡ None) (found : Option ℕ) (is : found ≡ first_close_of b) where
  abbrev flat : List (List Request) → List Request
  flat batches = flat_map (λ batch. batch) batches

  one_more : flat (take (i + 1) bs) ≡ flat (take i bs) ++ b
  one_more =
      ap flat item ∙ flat_map-append (λ (batch : List Request). batch) (take i bs) (b ∷ [])
      ∙ ap (λ (l : List Request). flat (take i bs) ++ l) (append-nil b)

  all_are : flat bs ≡ flat (take i bs) ++ (b ++ flat (drop (i + 1) bs))
  all_are =
      ap flat (sym (take-append-drop (i + 1) bs)) ∙ flat_map-append (λ (batch : List Request). batch) (take (i + 1) bs) (drop (i + 1) bs)
      ∙ ap (λ (l : List Request). l ++ flat (drop (i + 1) bs)) one_more
      ∙ append_assoc (flat (take i bs)) b (flat (drop (i + 1) bs))

  pub found_first : is_some found ≡ true → found ≡ first_close_of (flat bs)
  found_first some =
      let later = flat (drop (i + 1) bs) in
      is ∙ sym (some_by (first_close_of b) b later refl (ap is_some (sym is) ∙ some))
      ∙ sym (first_append (flat (take i bs)) (b ++ later) none) ∙ ap first_close_of (sym all_are)

  pub none_yet : is_some found ≡ false → first_close_of (flat (take (i + 1) bs)) ≡ None
  none_yet shut = ap first_close_of one_more ∙ first_append (flat (take i bs)) b none ∙ sym is ∙ none_by found shut

  pub can_yet : is_some found ≡ false → AreInOrder b → All (λ (batch : List Request). All CanBeLoaded batch) (take i bs)
      → All (λ (batch : List Request). All CanBeLoaded batch) (take (i + 1) bs)
  can_yet shut order can =
      let P : List Request → Type 0 = λ batch. All CanBeLoaded batch in
      subst (All P) (sym item) (All-push P (take i bs) b can (batch_can b order (sym is ∙ none_by found shut)))
