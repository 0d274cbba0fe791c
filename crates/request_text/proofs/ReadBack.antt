-- Requests that are written and read back.
use Rattle.std.proofs.Common.{◌≡◌, ℕ, suc, ◌+◌, Bool, true, false, if◌then◌else◌, List, [], ◌∷◌, ◌++◌, length, drop, get_or, refl, sym, ap, ap₂, ◌∙◌, subst, arith, decimal, append_assoc}
use Rattle.std.specs.Prelude.{All, codes}
use Rattle.std.specs.Str.Lines.{lines}
use Rattle.std.proofs.lemmas.List.{append-nil}
use Rattle.std.proofs.lemmas.List.Concat.{flat_map-cons}
use Rattle.text_lines.specs.Fields.{fields, line_of}
use Rattle.text_lines.proofs.Joining.{join_law}
use Rattle.text_lines.proofs.Visible.{known, visible_law, ended_law}
use Rattle.setoff_model.proofs.SameNames.{same_name_is}
use Rattle.claim_history.specs.declared.act.Act.{Act}
use Rattle.claim_history.specs.Acts.{act_fields, act_text, is_request}
use Rattle.claim_history.specs.Pools.{is_main, main_pool}
use Rattle.claim_history.proofs.Shapes.{act_texts_law}
use Rattle.request_text.specs.declared.request.Request.{Request}
use Rattle.request_text.specs.Lanes.{fence, fence_line}
use Rattle.request_text.specs.Pools.{pool_field, pool_fields, pool_text}
use Rattle.request_text.specs.Grammar.{line_fields, IsLine, AreBatches, IsRequestText, Asked, CanBeAsked, request_line, batch_text, batches_text, numbered, all_numbered, ReadBackLaw}
use Rattle.request_text.proofs.Causes.{begins_elsewhere, in_form, same_pool}
use Rattle.request_text.proofs.Words.{all_visible, cut_fields, has_verb, one_lane}

-- ---- what is written is read

first_of_all : {A : Type 0} (P : A → Type 0) (x : A) (xs : List A) → All P (x ∷ xs) → P x
first_of_all P x xs h = h 0 x (omega arith)

rest_of_all : {A : Type 0} (P : A → Type 0) (x : A) (xs : List A) → All P (x ∷ xs) → All P xs
rest_of_all P x xs h = λ k d lt. h (suc k) d (omega (arith, lt))

-- the line of a request is the first line of the text
first_line : (asked : Asked) (rest : List ℕ) → CanBeAsked asked → lines (request_line asked.lane asked.pool asked.act ++ rest) ≡ line_of (line_fields asked.lane asked.pool asked.act) ∷ lines rest
first_line asked rest h =
    ended_law (decimal asked.lane) (pool_fields asked.pool ++ act_fields asked.act) rest (visible_law.whole asked.lane (omega (arith, h.by.1)))
    (all_visible visible_law asked.pool asked.act h.named h.valid)

-- so is a fence
first_fence : (rest : List ℕ) → lines (fence_line ++ rest) ≡ fence ∷ lines rest
first_fence rest = ended_law fence [] rest (known fence refl) tt

text_step : (asked : Asked) (batch : List Asked) (batches : List (List Asked)) → batches_text (asked ∷ batch) batches ≡ request_line asked.lane asked.pool asked.act ++ batches_text batch batches
text_step asked batch [] = flat_map-cons (λ (x : Asked). request_line x.lane x.pool x.act) asked batch
text_step asked batch (next ∷ batches) =
    ap (λ (text : List ℕ). text ++ (fence_line ++ batches_text next batches)) (flat_map-cons (λ (x : Asked). request_line x.lane x.pool x.act) asked batch)
    ∙ append_assoc (request_line asked.lane asked.pool asked.act) (batch_text batch) (fence_line ++ batches_text next batches)

read_again : (number : ℕ) (batch : List Asked) (batches : List (List Asked)) → All CanBeAsked batch → All (All CanBeAsked) batches → AreBatches number (lines (batches_text batch batches)) (all_numbered number (batch ∷ batches))
read_again number [] [] h hs = (refl, refl)
read_again number [] (next ∷ batches) h hs =
    let place : number + 1 ≡ number + 0 + 1 = omega arith in
    let more : AreBatches (number + 1) (lines (batches_text next batches)) (all_numbered (number + 0 + 1) (next ∷ batches)) =
    subst (λ (n : ℕ). AreBatches (number + 1) (lines (batches_text next batches)) (all_numbered n (next ∷ batches))) place (read_again (number + 1) next batches (first_of_all (All CanBeAsked) next batches hs) (rest_of_all (All CanBeAsked) next batches hs)) in
    subst (λ (ls : List (List ℕ)). AreBatches number ls (all_numbered number ([] ∷ next ∷ batches))) (sym (first_fence (batches_text next batches))) (refl, more)
read_again number (asked ∷ batch) batches h hs =
    let can = first_of_all CanBeAsked asked batch h in
    let cut : lines (batches_text (asked ∷ batch) batches) ≡ line_of (line_fields asked.lane asked.pool asked.act) ∷ lines (batches_text batch batches) =
    ap lines (text_step asked batch batches) ∙ first_line asked (batches_text batch batches) can in
    let place : number + 1 + length batch + 1 ≡ number + length (asked ∷ batch) + 1 = omega arith in
    let more : AreBatches (number + 1) (lines (batches_text batch batches)) (numbered (number + 1) batch ∷ all_numbered (number + length (asked ∷ batch) + 1) batches) =
    subst (λ (n : ℕ). AreBatches (number + 1) (lines (batches_text batch batches)) (numbered (number + 1) batch ∷ all_numbered n batches)) place
    (read_again (number + 1) batch batches (rest_of_all CanBeAsked asked batch h) hs) in
    subst (λ (ls : List (List ℕ)). AreBatches number ls (all_numbered number ((asked ∷ batch) ∷ batches))) (sym cut) (refl, record { by = can.by; named = can.named; valid = can.valid; spelled = refl }, more)

written : (batch : List Asked) (batches : List (List Asked)) → All (All CanBeAsked) (batch ∷ batches) → IsRequestText (batches_text batch batches) (all_numbered 1 (batch ∷ batches))
written batch batches h = read_again 1 batch batches (first_of_all (All CanBeAsked) batch batches h) (rest_of_all (All CanBeAsked) batch batches h)

-- ---- it is read in one way

-- a line of a lane is no fence
no_fence : (lane : ℕ) (pool : List ℕ) (a : Act) → IsLine fence lane pool a → ⊥
no_fence lane pool a h =
    let e : fence ∷ [] ≡ line_fields lane pool a = ap fields h.spelled ∙ cut_fields join_law visible_law lane pool a h.by h.named h.valid in
    some_after (is_main pool) pool a (sym (ap (drop 1) e)) where
      some_after : (b : Bool) (pool : List ℕ) (a : Act) → (if b then [] else pool_field pool ∷ []) ++ act_fields a ≡ [] → ⊥
      some_after true pool a e = let v = has_verb a in let none : v.0 ∷ v.1.0 ≡ [] = sym v.1.1 ∙ e in absurd cc
      some_after false pool a e = absurd cc

same_fields : (line : List ℕ) (a b : Request) → IsLine line a.lane a.pool a.act → IsLine line b.lane b.pool b.act → line_fields a.lane a.pool a.act ≡ line_fields b.lane b.pool b.act
same_fields line a b p q =
    sym (cut_fields join_law visible_law a.lane a.pool a.act p.by p.named p.valid) ∙ ap fields (sym p.spelled ∙ q.spelled) ∙ cut_fields join_law visible_law b.lane b.pool b.act q.by q.named q.valid

-- the fields after a lane are those of one pool and one act
one_pool : (s t : Bool) (pool other : List ℕ) (a b : Act) → is_main pool ≡ s → is_main other ≡ t → is_request a ≡ true → is_request b ≡ true
    → (if s then [] else pool_field pool ∷ []) ++ act_fields a ≡ (if t then [] else pool_field other ∷ []) ++ act_fields b → (pool ≡ other) × (act_fields a ≡ act_fields b)
one_pool true true pool other a b m n v w e = ((same_name_is pool main_pool).0 m ∙ sym ((same_name_is other main_pool).0 n), e)
one_pool true false pool other a b m n v w e = absurd (begins_elsewhere (act_fields a) (in_form a v) other (act_fields b) e)
one_pool false true pool other a b m n v w e = absurd (begins_elsewhere (act_fields b) (in_form b w) pool (act_fields a) (sym e))
one_pool false false pool other a b m n v w e = same_pool pool other (act_fields a) (act_fields b) e

abbrev request : ℕ → ℕ → List ℕ → Act → Request
request line lane pool a = record { line = line; lane = lane; pool = pool; act = a }

same_request : (line : List ℕ) (a b : Request) → a.line ≡ b.line → IsLine line a.lane a.pool a.act → IsLine line b.lane b.pool b.act → a ≡ b
same_request line a b l p q =
    let e = same_fields line a b p q in
    let k : a.lane ≡ b.lane = one_lane a.lane b.lane q.by (omega (arith, p.by.1)) (ap (λ (fs : List (List ℕ)). get_or fs 0 []) e) in
    let both = one_pool (is_main a.pool) (is_main b.pool) a.pool b.pool a.act b.act refl refl p.valid q.valid (ap (drop 1) e) in
    let asks : a.act ≡ b.act = act_texts_law a.act b.act p.valid q.valid both.1 in
    ap (λ (n : ℕ). request n a.lane a.pool a.act) l ∙ ap (λ (n : ℕ). request b.line n a.pool a.act) k
    ∙ ap (λ (pool : List ℕ). request b.line b.lane pool a.act) both.0 ∙ ap (λ (x : Act). request b.line b.lane b.pool x) asks

abbrev put_first : Request → List (List Request) → List (List Request)
put_first request [] = []
put_first request (batch ∷ batches) = (request ∷ batch) ∷ batches

only : (number : ℕ) (ls : List (List ℕ)) (a b : List (List Request)) → AreBatches number ls a → AreBatches number ls b → a ≡ b
only number ls [] b p q = absurd p
only number ls (x ∷ a) [] p q = absurd q
only number [] (x ∷ a) (y ∷ b) p q = ap₂ (λ (r : List Request) (rs : List (List Request)). r ∷ rs) (p.0 ∙ sym q.0) (p.1 ∙ sym q.1)
only number (l ∷ ls) ([] ∷ a) ([] ∷ b) p q = ap (λ (rs : List (List Request)). [] ∷ rs) (only (number + 1) ls a b p.1 q.1)
only number (l ∷ ls) ([] ∷ a) ((y ∷ ys) ∷ b) p q = absurd (no_fence y.lane y.pool y.act (subst (λ (line : List ℕ). IsLine line y.lane y.pool y.act) p.0 q.1))
only number (l ∷ ls) ((x ∷ xs) ∷ a) ([] ∷ b) p q = absurd (no_fence x.lane x.pool x.act (subst (λ (line : List ℕ). IsLine line x.lane x.pool x.act) q.0 p.1))
only number (l ∷ ls) ((x ∷ xs) ∷ a) ((y ∷ ys) ∷ b) p q =
    ap₂ put_first (same_request l x y (p.0 ∙ sym q.0) p.1 q.1) (only (number + 1) ls (xs ∷ a) (ys ∷ b) p.2 q.2)

pub read_back_law : ReadBackLaw
read_back_law = record { written = written; only = λ bytes a b p q. only 1 (lines bytes) a b p q }

-- ---- the line of a request is the lane, a space, the pool's text and the act's

-- a field and the fields of an act
before_act : (field : List ℕ) (a : Act) → line_of (field ∷ act_fields a) ≡ field ++ codes " " ++ act_text a
before_act field a =
    let v = has_verb a in
    ap (λ (fs : List (List ℕ)). line_of (field ∷ fs)) v.1.1
    ∙ ap (λ (fs : List (List ℕ)). field ++ (32 ∷ line_of fs)) (sym v.1.1)
    ∙ sym (append_assoc field (codes " ") (act_text a))

line_by : (b : Bool) (first pool : List ℕ) (a : Act) → line_of (first ∷ ((if b then [] else pool_field pool ∷ []) ++ act_fields a))
    ≡ first ++ codes " " ++ (if b then [] else pool_field pool ++ codes " ") ++ act_text a
line_by true first pool a = before_act first a ∙ ap (λ (t : List ℕ). t ++ act_text a) (sym (append-nil (first ++ codes " ")))
line_by false first pool a =
    ap (λ (t : List ℕ). first ++ (32 ∷ t)) (before_act (pool_field pool) a)
    ∙ sym (append_assoc first (codes " ") (pool_field pool ++ codes " " ++ act_text a))
    ∙ sym (append_assoc (first ++ codes " ") (pool_field pool ++ codes " ") (act_text a))

line_of_request : (lane : ℕ) (pool : List ℕ) (a : Act) → line_of (line_fields lane pool a) ≡ decimal lane ++ codes " " ++ pool_text pool ++ act_text a
line_of_request lane pool a = line_by (is_main pool) (decimal lane) pool a

pub line_written : (old one two three four five : List ℕ) (lane : ℕ) (pool : List ℕ) (a : Act) → one ≡ old ++ decimal lane → two ≡ one ++ codes " " → three ≡ two ++ pool_text pool
    → four ≡ three ++ act_text a → five ≡ four ++ codes "\n" → five ≡ old ++ request_line lane pool a
line_written old one two three four five lane pool a p q r s t =
    let parts : four ≡ old ++ decimal lane ++ codes " " ++ pool_text pool ++ act_text a =
    s ∙ ap (λ (x : List ℕ). x ++ act_text a) (r ∙ ap (λ (x : List ℕ). x ++ pool_text pool) (q ∙ ap (λ (x : List ℕ). x ++ codes " ") p)) in
    let whole : old ++ decimal lane ++ codes " " ++ pool_text pool ++ act_text a ≡ old ++ (decimal lane ++ codes " " ++ pool_text pool ++ act_text a) =
    ap (λ (x : List ℕ). x ++ pool_text pool ++ act_text a) (append_assoc old (decimal lane) (codes " "))
    ∙ ap (λ (x : List ℕ). x ++ act_text a) (append_assoc old (decimal lane ++ codes " ") (pool_text pool))
    ∙ append_assoc old (decimal lane ++ codes " " ++ pool_text pool) (act_text a) in
    t ∙ ap (λ (x : List ℕ). x ++ codes "\n") (parts ∙ whole ∙ ap (λ (x : List ℕ). old ++ x) (sym (line_of_request lane pool a)))
    ∙ append_assoc old (line_of (line_fields lane pool a)) (codes "\n")
