-- A row takes at least one byte of its text.
use Rattle.std.proofs.Common.{◌≡◌, ℕ, ◌+◌, ◌<◌, ◌≤◌, ◌==◌, ◌||◌, Bool, true, false, List, [], ◌∷◌, ◌++◌, length, Option, Some, None, refl, sym, ap, ◌∙◌, inl, inr, arith}
use Rattle.std.specs.Prelude.{if◌then◌else◌}
use Rattle.std.proofs.lemmas.Bool.{cases_Bool, false≢true}
use Rattle.csv.specs.declared.parser.Config.{Config}
use Rattle.csv.specs.declared.parser.State.{State}
use Rattle.csv.specs.declared.parser.State.TheVariants as st
use Rattle.csv.specs.declared.parser.Action.{Action}
use Rattle.csv.specs.declared.parser.Action.TheVariants as act
use Rattle.csv.specs.Machine.{Read, next_record, step, is_end, ends_at_end, in_field, start_field, start_record, fields_after, field_after}
use Rattle.std.specs.Borrow.{Bor}
use Rattle.csv.specs.declared.reader.Reader.{Reader}
use Rattle.csv.specs.Reading.{Reached, ReadRecord, ReadsNext, NextIs, default_config, source_of, strip_bom, took_first}
use Rattle.csv.proofs.ReadFacts.{rows-more, rows-end}
use Rattle.firm_notices.specs.Rows.{LeadTo, StandsAt, MovesOn, bytes_of, bytes_left}

-- where an action ends a row, the end of the text ends no other
abbrev pub Rests : State × Action → Type 0
Rests p = is_end p.1 ≡ true → ends_at_end p.0 ≡ false

choose : (b : Bool) (x y : State × Action) → Rests x → Rests y → Rests (if b then x else y)
choose true x y p q = p
choose false x y p q = q

line_rests : (b : Bool) → ends_at_end (if b then st.AfterCr else st.StartRecord) ≡ false
line_rests true = refl
line_rests false = refl

never : (s : State) (a : Action) → is_end a ≡ false → Rests (s, a)
never s a e = λ h. absurd (false≢true (sym e ∙ h))

in_field_rests : (c : ℕ) → Rests (in_field default_config c)
in_field_rests c =
    choose (c == 44) (st.StartField, act.EndField) _ (never st.StartField act.EndField refl)
    (choose ((c == 13) || (c == 10)) (if c == 13 then st.AfterCr else st.StartRecord, act.EndRecord) (st.InField, act.Copy) (λ h. line_rests (c == 13)) (never st.InField act.Copy refl))

start_field_rests : (c : ℕ) → Rests (start_field default_config c)
start_field_rests c = choose (c == 34) (st.InQuoted, act.Skip) (in_field default_config c) (never st.InQuoted act.Skip refl) (in_field_rests c)

start_record_rests : (c : ℕ) → Rests (start_record default_config c)
start_record_rests c = choose ((c == 13) || (c == 10)) (st.StartRecord, act.Skip) (start_field default_config c) (never st.StartRecord act.Skip refl) (start_field_rests c)

step_rests : (s : State) (c : ℕ) → Rests (step default_config s c)
step_rests st.StartRecord c = start_record_rests c
step_rests st.StartField c = start_field_rests c
step_rests st.InField c = in_field_rests c
step_rests st.InQuoted c = choose (c == 34) (st.AfterQuote, act.Skip) (st.InQuoted, act.Copy) (never st.AfterQuote act.Skip refl) (never st.InQuoted act.Copy refl)
step_rests st.InEscape c = never st.InQuoted act.Copy refl
step_rests st.AfterQuote c = choose (c == 34) (st.InQuoted, act.Copy) (in_field default_config c) (never st.InQuoted act.Copy refl) (in_field_rests c)
step_rests st.InComment c = choose (c == 10) (st.StartRecord, act.Skip) (st.InComment, act.Skip) (never st.StartRecord act.Skip refl) (never st.InComment act.Skip refl)
step_rests st.AfterCr c = choose (c == 10) (st.StartRecord, act.Skip) (start_record default_config c) (never st.StartRecord act.Skip refl) (start_record_rests c)

-- what holds of a read, where it is one
given : (P : Read → Type 0) (x p : Read) → P x → Some x ≡ Some p → P p
given P x p h e = let same : x ≡ p = cc in Rattle.std.proofs.Common.subst P same h

-- what an ended read shows: fewer bytes, and a state in which the end of the text ends no row
pub record Ended (most : ℕ) (p : Read) : Type 0 where
  pub fewer : length p.2 ≤ most
  pub rests : ends_at_end p.1 ≡ false

wider : (most more : ℕ) (p : Read) → most ≤ more → Ended most p → Ended more p
wider most more p le e = record { fewer = omega (arith, e.fewer); rests = e.rests }

-- what the next row leaves of a text
ended : (s : State) (fields : List (List ℕ)) (field xs : List ℕ) (p : Read) → next_record default_config s fields field xs ≡ Some p → Ended (length xs) p
unfolding next_record
ended s fields field [] p e = elim (cases_Bool (ends_at_end s)) [
  | inl stops ↦ given (Ended 0) (fields ++ (field ∷ []), st.StartRecord, []) p (record { fewer = omega arith; rests = refl }) (rw stops at e)
  | inr goes ↦ let none : None ≡ Some p = rw goes at e in cc
]
ended s fields field (c ∷ rest) p e = elim (cases_Bool (is_end (step default_config s c).1)) [
  | inl stops ↦ given (Ended (length (c ∷ rest))) (fields_after (step default_config s c).1 fields field, (step default_config s c).0, rest) p (record { fewer = omega arith; rests = step_rests s c stops }) (rw stops at e)
  | inr goes ↦ wider (length rest) (length (c ∷ rest)) p (omega arith) (ended (step default_config s c).0 (fields_after (step default_config s c).1 fields field) (field_after (step default_config s c).1 c field) rest p (rw goes at e))
]

-- a row that begins where the end of the text ends none takes a byte
pub falls : (s : State) (xs : List ℕ) (p : Read) → ends_at_end s ≡ false → next_record default_config s [] [] xs ≡ Some p → (length p.2 < length xs) × (ends_at_end p.1 ≡ false)
unfolding next_record
falls s [] p n e = let none : None ≡ Some p = rw n at e in cc
falls s (c ∷ rest) p n e =
    let at_end : Ended (length (c ∷ rest)) p = ended s [] [] (c ∷ rest) p e in
    elim (cases_Bool (is_end (step default_config s c).1)) [
      | inl stops ↦ (given (λ q. length q.2 < length (c ∷ rest)) (fields_after (step default_config s c).1 [] [], (step default_config s c).0, rest) p (omega arith) (rw stops at e), at_end.rests)
      | inr goes ↦ let later : Ended (length rest) p = ended (step default_config s c).0 (fields_after (step default_config s c).1 [] []) (field_after (step default_config s c).1 c []) rest p (rw goes at e) in
          (omega (arith, later.fewer), at_end.rests)
    ]

-- each row takes a byte
pub taken : (s : State) (xs : List ℕ) (rows : List (List (List ℕ))) (s2 : State) (ys : List ℕ) → Reached default_config s xs rows s2 ys → ends_at_end s ≡ false
    → (length rows + length ys ≤ length xs) × (ends_at_end s2 ≡ false)
unfolding Reached
taken s xs [] s2 ys r n = let same : length xs ≡ length ys = ap length r.1 in (omega (arith, same), sym (ap ends_at_end r.0) ∙ n)
taken s xs (row ∷ rows) s2 ys (p, e, is, more) n =
    let step_falls : (length p.2 < length xs) × (ends_at_end p.1 ≡ false) = falls s xs p n e in
    let later : (length rows + length ys ≤ length p.2) × (ends_at_end s2 ≡ false) = taken p.1 p.2 rows s2 ys more step_falls.1 in
    (omega (arith, step_falls.0, later.0), later.1)

next_less : (s s2 : State) (y z : List ℕ) (fields : List (List ℕ)) (o : Option Read) → next_record default_config s [] [] y ≡ o → ends_at_end s ≡ false → NextIs o true fields s2 z → length z < length y
next_less s s2 y z fields None e n r = absurd (false≢true (sym r))
next_less s s2 y z fields (Some p) e n r = let less : length p.2 < length y = (falls s y p n e).0 in let same : length z ≡ length p.2 = ap length r.3 in omega arith

read_less : (s s2 : State) (y : List ℕ) (new : Option (List ℕ)) (fields : List (List ℕ)) → ends_at_end s ≡ false → ReadsNext default_config s (Some y) new true fields s2 → length (bytes_of new) < length y
read_less s s2 y None fields n r = absurd r
read_less s s2 y (Some z) fields n r = next_less s s2 y z fields (next_record default_config s [] [] y) refl n r

-- a read that found a row leaves fewer bytes
pub reads_less : (cfg : Config) (s s2 : State) (old new : Option (List ℕ)) (fields : List (List ℕ)) (y : List ℕ) → cfg ≡ default_config → old ≡ Some y → ends_at_end s ≡ false
    → ReadsNext cfg s old new true fields s2 → length (bytes_of new) < length y
reads_less cfg s s2 old new fields y ec eo n r = read_less s s2 y new fields n (rw (ec, eo) at r)

abbrev left_of : Bor (List ℕ) → Option (List ℕ)
left_of s = Some s.now

-- a reader that has given some rows of a text stands where a row takes a byte
pub stands_rested : (bytes : List ℕ) (rows : List (List (List ℕ))) (s : State) (rest : List ℕ) → LeadTo bytes rows s rest → ends_at_end s ≡ false
stands_rested bytes rows s rest h = (taken st.StartRecord (strip_bom bytes) rows s rest h refl).1

more_left : (a b : Reader (Bor (List ℕ))) (fields : List (List ℕ)) (bytes : List ℕ) (rows : List (List (List ℕ))) → StandsAt a bytes rows → ReadRecord left_of a b true fields → bytes_left b < bytes_left a
more_left a b fields bytes rows at r =
    let less = reads_less a.config a.state b.state (source_of left_of a) _ fields at.rest at.config at.known (stands_rested bytes rows a.state at.rest at.given) r.0 in
    rw (r.1, at.known) less

-- what a read does to a reader that has given some rows
pub moves : (a b : Reader (Bor (List ℕ))) (fields : List (List ℕ)) (found : Bool) (bytes : List ℕ) (rows : List (List (List ℕ))) → StandsAt a bytes rows
    → ReadRecord left_of a b found fields → took_first b ≡ true → MovesOn a b bytes rows fields found
moves a b fields true bytes rows at r first =
    let more = rows-more left_of a b fields default_config st.StartRecord (strip_bom bytes) at.rest rows at.config at.known at.given r in
    (record { config = r.2 ∙ at.config; untrimmed = r.3 ∙ at.untrimmed; ready = inl first; rest = more.0; known = more.1; given = more.2 }, more_left a b fields bytes rows at r)
moves a b fields false bytes rows at r first =
    (a.state, at.rest, at.given, rows-end left_of a b fields default_config at.rest at.config at.known r)
