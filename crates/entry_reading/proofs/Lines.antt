-- The line of an entry, cut into its words again.
use Rattle.std.specs.Prelude.{codes, decimal, slice_index_or, if◌then◌else◌}
use Rattle.std.specs.List.{AllByRecursion, join_with_byte, slice_split}
use Rattle.std.proofs.Common.{◌≡◌, ◌∙◌, ℕ, Bool, true, false, List, [], ◌∷◌, ◌++◌, drop, get_or, All, refl, sym, ap, ap₂, append_assoc, arith}
use Rattle.std.proofs.lemmas.Bool.{ne_eqb}
use Rattle.std.proofs.lemmas.List.Elements.{All-append, All-cons}
use Rattle.std.proofs.lemmas.List.Splits.{join_with_byte-slice_split, slice_split_at}
use Rattle.batch_runs.specs.setoff_model.specs.Names.{is_name}
use Rattle.batch_runs.specs.setoff_model.proofs.SameNames.{same_name_is}
use Rattle.batch_runs.specs.setoff_model.proofs.Spelling.{spelling_law}
use Rattle.batch_runs.specs.claim_history.specs.declared.act.Act.{Act}
use Rattle.batch_runs.specs.claim_history.specs.declared.call.PoolEntry.{PoolEntry}
use Rattle.batch_runs.specs.claim_history.specs.declared.entry.Reply.{Reply}
use Rattle.batch_runs.specs.claim_history.specs.Acts.{act_fields, act_text}
use Rattle.batch_runs.specs.claim_history.specs.Pools.{is_main, main_pool}
use Rattle.batch_runs.specs.text_lines.specs.Fields.{HasNoSpace, IsVisible, fields, line_of}
use Rattle.batch_runs.specs.text_lines.proofs.Cutting.{feed}
use Rattle.batch_runs.specs.text_lines.proofs.Joining.{join_law}
use Rattle.batch_runs.specs.text_lines.proofs.Spaces.{no_space_of}
use Rattle.batch_runs.specs.text_lines.proofs.Visible.{join, known, visible_law}
use Rattle.batch_runs.specs.request_text.specs.Pools.{pool_field, pool_fields, pool_text}
use Rattle.batch_runs.specs.request_text.proofs.Words.{has_verb}
use Rattle.batch_runs.specs.entry_text.specs.Entries.{entry_line, entry_text, reply_text}
use Rattle.entry_reading.specs.Shown.{IsEntry, LineLaw, ShowSame}
use Rattle.entry_reading.proofs.Replies.{reply_line, reply_visible, reply_words, same_reply, some_words, word_at}
use Rattle.entry_reading.proofs.Words.{IsNoSign, act_no_sign, act_visible, no_pool, same_act}

-- ---- the words of a line

abbrev told_words : Act → Reply → List (List ℕ)
told_words a r = act_fields a ++ codes "=" ∷ reply_words r

abbrev line_words : PoolEntry → List (List ℕ)
line_words m = pool_fields m.pool ++ told_words m.entry.act m.entry.reply

pub line_both : (x : List ℕ) (xs : List (List ℕ)) (y : List ℕ) (ys : List (List ℕ)) → line_of ((x ∷ xs) ++ y ∷ ys) ≡ line_of (x ∷ xs) ++ 32 ∷ line_of (y ∷ ys)
line_both x [] y ys = refl
line_both x (z ∷ xs) y ys = ap (λ (t : List ℕ). x ++ 32 ∷ t) (line_both z xs y ys) ∙ sym (append_assoc x (32 ∷ line_of (z ∷ xs)) (32 ∷ line_of (y ∷ ys)))

line_more : (x : List ℕ) (words : List (List ℕ)) (y : List ℕ) (ys : List (List ℕ)) → words ≡ y ∷ ys → line_of (x ∷ words) ≡ x ++ 32 ∷ line_of words
line_more x words y ys e = ap (λ (ws : List (List ℕ)). line_of (x ∷ ws)) e ∙ ap (λ (ws : List (List ℕ)). x ++ 32 ∷ line_of ws) (sym e)

told_line : (a : Act) (r : Reply) → line_of (told_words a r) ≡ (act_text a ++ codes " = ") ++ reply_text r
told_line a r =
    let v = has_verb a in
    let w = some_words r in
    ap (λ (fs : List (List ℕ)). line_of (fs ++ codes "=" ∷ reply_words r)) v.1.1
    ∙ line_both v.0 v.1.0 (codes "=") (reply_words r)
    ∙ ap (λ (fs : List (List ℕ)). line_of fs ++ 32 ∷ line_of (codes "=" ∷ reply_words r)) (sym v.1.1)
    ∙ ap (λ (t : List ℕ). act_text a ++ 32 ∷ t) (line_more (codes "=") (reply_words r) w.0 w.1 w.2 ∙ ap (λ (t : List ℕ). codes "= " ++ t) (sym (reply_line r)))
    ∙ sym (append_assoc (act_text a) (codes " = ") (reply_text r))

pool_line : (b : Bool) (pool x : List ℕ) (xs : List (List ℕ)) → line_of ((if b then [] else pool_field pool ∷ []) ++ x ∷ xs) ≡ (if b then [] else pool_field pool ++ codes " ") ++ line_of (x ∷ xs)
pool_line true pool x xs = refl
pool_line false pool x xs = sym (append_assoc (pool_field pool) (32 ∷ []) (line_of (x ∷ xs)))

pool_more : (d : List ℕ) (b : Bool) (pool x : List ℕ) (xs : List (List ℕ)) → line_of (d ∷ ((if b then [] else pool_field pool ∷ []) ++ x ∷ xs)) ≡ d ++ 32 ∷ line_of ((if b then [] else pool_field pool ∷ []) ++ x ∷ xs)
pool_more d true pool x xs = refl
pool_more d false pool x xs = refl

-- an act and its reply have a first word
told_first : (a : Act) (r : Reply) → (x : List ℕ) × (xs : List (List ℕ)) × (told_words a r ≡ x ∷ xs)
told_first a r = let v = has_verb a in (v.0, v.1.0 ++ codes "=" ∷ reply_words r, ap (λ (fs : List (List ℕ)). fs ++ codes "=" ∷ reply_words r) v.1.1)

entry_is : (m : PoolEntry) → entry_line m ≡ line_of (decimal m.entry.caller ∷ line_words m) ++ codes "\n"
entry_is m =
    let d = decimal m.entry.caller in
    let t = told_first m.entry.act m.entry.reply in
    let b = is_main m.pool in
    let behind : line_of (line_words m) ≡ pool_text m.pool ++ entry_text m.entry =
    ap (λ (ws : List (List ℕ)). line_of (pool_fields m.pool ++ ws)) t.2 ∙ pool_line b m.pool t.0 t.1
    ∙ ap (λ (ws : List (List ℕ)). pool_text m.pool ++ line_of ws) (sym t.2) ∙ ap (λ (x : List ℕ). pool_text m.pool ++ x) (told_line m.entry.act m.entry.reply) in
    let whole : line_of (d ∷ line_words m) ≡ d ++ 32 ∷ line_of (line_words m) =
    ap (λ (ws : List (List ℕ)). line_of (d ∷ (pool_fields m.pool ++ ws))) t.2 ∙ pool_more d b m.pool t.0 t.1
    ∙ ap (λ (ws : List (List ℕ)). d ++ 32 ∷ line_of (pool_fields m.pool ++ ws)) (sym t.2) in
    sym (ap (λ (x : List ℕ). x ++ codes "\n")
    (whole ∙ ap (λ (x : List ℕ). d ++ 32 ∷ x) behind ∙ sym (append_assoc d (codes " ") (pool_text m.pool ++ entry_text m.entry))
    ∙ sym (append_assoc (d ++ codes " ") (pool_text m.pool) (entry_text m.entry))))

-- ---- they are visible

visible_both : (xs ys : List (List ℕ)) → AllByRecursion IsVisible xs → AllByRecursion IsVisible ys → AllByRecursion IsVisible (xs ++ ys)
visible_both [] ys h k = k
visible_both (x ∷ xs) ys h k = (h.0, visible_both xs ys h.1 k)

pool_visible : (b : Bool) (pool : List ℕ) → is_name pool ≡ true → AllByRecursion IsVisible (if b then [] else pool_field pool ∷ [])
pool_visible true pool named = tt
pool_visible false pool named = (join (codes "@") pool (known (codes "@") refl) (visible_law.names pool named), tt)

words_visible : (m : PoolEntry) → IsEntry m → AllByRecursion IsVisible (line_words m)
words_visible m h =
    visible_both (pool_fields m.pool) (told_words m.entry.act m.entry.reply) (pool_visible (is_main m.pool) m.pool h.named)
    (visible_both (act_fields m.entry.act) (codes "=" ∷ reply_words m.entry.reply) (act_visible m.entry.act h.valid) (known (codes "=") refl, reply_visible m.entry.reply h.ranges))

no_spaces : (ws : List (List ℕ)) → AllByRecursion IsVisible ws → AllByRecursion HasNoSpace ws
no_spaces [] h = tt
no_spaces (w ∷ ws) h = (no_space_of w h.0, no_spaces ws h.1)

abbrev pub NoFeed : ℕ → Type 0
NoFeed b = feed b ≡ false

pub word_no_feed : (w : List ℕ) → IsVisible w → All NoFeed w
word_no_feed w h = λ k d lt. ne_eqb (slice_index_or w k d) 10 (λ e. absurd (omega (arith, h k d lt)))

no_feeds : (w : List ℕ) (ws : List (List ℕ)) → IsVisible w → AllByRecursion IsVisible ws → All NoFeed (line_of (w ∷ ws))
no_feeds w [] h hs = word_no_feed w h
no_feeds w (x ∷ ws) h hs =
    All-append NoFeed w (32 ∷ line_of (x ∷ ws)) (word_no_feed w h) (All-cons NoFeed 32 (line_of (x ∷ ws)) refl (no_feeds x ws hs.0 hs.1))

-- ---- a text that begins with a line

abbrev pub parts_at : ℕ → List (List ℕ) → List ℕ
parts_at k parts = get_or parts k []

first_line : (m : PoolEntry) (rest : List ℕ) → IsEntry m → slice_split feed (entry_line m ++ rest) ≡ line_of (decimal m.entry.caller ∷ line_words m) ∷ slice_split feed rest
first_line m rest h =
    let d = decimal m.entry.caller in
    let line = line_of (d ∷ line_words m) in
    ap (λ (t : List ℕ). slice_split feed (t ++ rest)) (entry_is m) ∙ ap (slice_split feed) (append_assoc line (codes "\n") rest)
    ∙ slice_split_at feed line 10 rest (no_feeds d (line_words m) (visible_law.whole m.entry.caller h.caller) (words_visible m h)) refl

words_again : (m : PoolEntry) → IsEntry m → fields (line_of (decimal m.entry.caller ∷ line_words m)) ≡ decimal m.entry.caller ∷ line_words m
words_again m h =
    let d = decimal m.entry.caller in
    join_law.cut d (line_words m) (no_space_of d (visible_law.whole m.entry.caller h.caller)) (no_spaces (line_words m) (words_visible m h))

-- ---- the words fix what is shown

sign_parts : (xs ys rs ss : List (List ℕ)) → AllByRecursion IsNoSign xs → AllByRecursion IsNoSign ys → xs ++ codes "=" ∷ rs ≡ ys ++ codes "=" ∷ ss → (xs ≡ ys) × (rs ≡ ss)
sign_parts [] [] rs ss h k e = (refl, ap (drop 1) e)
sign_parts [] (y ∷ ys) rs ss h k e = absurd (k.0 (sym (ap (word_at 0) e)))
sign_parts (x ∷ xs) [] rs ss h k e = absurd (h.0 (ap (word_at 0) e))
sign_parts (x ∷ xs) (y ∷ ys) rs ss h k e =
    let rest = sign_parts xs ys rs ss h.1 k.1 (ap (drop 1) e) in
    (ap₂ (λ (z : List ℕ) (zs : List (List ℕ)). z ∷ zs) (ap (word_at 0) e) rest.0, rest.1)

pool_parts : (b c : Bool) (p q : List ℕ) (a x : Act) (rs ss : List (List ℕ)) → is_main p ≡ b → is_main q ≡ c
    → (if b then [] else pool_field p ∷ []) ++ (act_fields a ++ rs) ≡ (if c then [] else pool_field q ∷ []) ++ (act_fields x ++ ss)
    → (p ≡ q) × (act_fields a ++ rs ≡ act_fields x ++ ss)
pool_parts true true p q a x rs ss pm qm e = ((same_name_is p main_pool).0 pm ∙ sym ((same_name_is q main_pool).0 qm), e)
pool_parts true false p q a x rs ss pm qm e = absurd (no_pool a rs q (ap (word_at 0) e))
pool_parts false true p q a x rs ss pm qm e = absurd (no_pool x ss p (sym (ap (word_at 0) e)))
pool_parts false false p q a x rs ss pm qm e = (ap (drop 1) (ap (word_at 0) e), ap (drop 1) e)

same_shown : (m n : PoolEntry) → IsEntry m → IsEntry n → decimal m.entry.caller ∷ line_words m ≡ decimal n.entry.caller ∷ line_words n → ShowSame m n
same_shown m n h k e =
    let pools = pool_parts (is_main m.pool) (is_main n.pool) m.pool n.pool m.entry.act n.entry.act (codes "=" ∷ reply_words m.entry.reply) (codes "=" ∷ reply_words n.entry.reply) refl refl (ap (drop 1) e) in
    let signs = sign_parts (act_fields m.entry.act) (act_fields n.entry.act) (reply_words m.entry.reply) (reply_words n.entry.reply) (act_no_sign m.entry.act h.valid) (act_no_sign n.entry.act k.valid) pools.1 in
    record {
      caller = spelling_law.whole m.entry.caller n.entry.caller h.caller k.caller (ap (word_at 0) e);
      pool = pools.0;
      act = same_act m.entry.act n.entry.act h.valid k.valid signs.0;
      reply = same_reply m.entry.reply n.entry.reply h.ranges k.ranges signs.1;
    }

pub line_law : LineLaw
line_law m n rest other h k e =
    let cuts : line_of (decimal m.entry.caller ∷ line_words m) ∷ slice_split feed rest ≡ line_of (decimal n.entry.caller ∷ line_words n) ∷ slice_split feed other =
    sym (first_line m rest h) ∙ ap (slice_split feed) e ∙ first_line n other k in
    let lines : line_of (decimal m.entry.caller ∷ line_words m) ≡ line_of (decimal n.entry.caller ∷ line_words n) = ap (parts_at 0) cuts in (
      same_shown m n h k (sym (words_again m h) ∙ ap fields lines ∙ words_again n k),
      sym (join_with_byte-slice_split 10 rest) ∙ ap (λ (parts : List (List ℕ)). join_with_byte 10 (drop 1 parts)) cuts ∙ join_with_byte-slice_split 10 other,
    )
