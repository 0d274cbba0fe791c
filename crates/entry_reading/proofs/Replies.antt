-- Replies by their words.
use Rattle.std.specs.Prelude.{codes, decimal, if◌then◌else◌, nat_lt, ◌==◌, Bool, true, false, unsigned_abs, ℤ, pos, negsuc}
use Rattle.std.specs.Str.{bytes_eq}
use Rattle.std.proofs.Common.{◌≡◌, ◌∙◌, ℕ, zero, suc, ◌+◌, ◌/◌, ◌%◌, ◌<◌, ◌≤◌, ◌^◌, List, [], ◌∷◌, ◌++◌, map, get_or, drop, All, refl, sym, ap, ap₂, true≢false, append_assoc, arith}
use Rattle.std.specs.List.{AllByRecursion}
use Rattle.std.specs.Fmt.{digit_glyph, digits, digits_onto}
use Rattle.std.proofs.lemmas.Bool.{lt-ltb}
use Rattle.std.proofs.lemmas.List.Elements.{All-cons, All-head, All-nil, All-tail}
use Rattle.batch_runs.specs.setoff_model.specs.declared.limits.TheConstants.{SUM_LIMIT}
use Rattle.batch_runs.specs.setoff_model.specs.Texts.{cents_text, signed_cents_text}
use Rattle.batch_runs.specs.setoff_model.proofs.Spelling.{spelling_law}
use Rattle.batch_runs.specs.claim_history.specs.declared.entry.Reply.{Reply}
use Rattle.batch_runs.specs.claim_history.specs.declared.entry.Reply.TheVariants as reply
use Rattle.batch_runs.specs.claim_history.specs.declared.entry.Why.{Why}
use Rattle.batch_runs.specs.claim_history.specs.declared.entry.Why.TheVariants as why
use Rattle.batch_runs.specs.claim_history.specs.declared.fact.Position.{Position}
use Rattle.batch_runs.specs.text_lines.specs.Fields.{IsVisible, line_of}
use Rattle.batch_runs.specs.text_lines.proofs.Visible.{join, known, one, visible_law}
use Rattle.batch_runs.specs.entry_text.specs.Entries.{reply_text, why_text}
use Rattle.entry_reading.specs.Shown.{HasRanges, told_by}

-- ---- refusals

-- the number of a refusal, and its name
abbrev number_word : Why → List ℕ
number_word why.FirmExists = codes "1"
number_word why.FirmsFull = codes "2"
number_word why.UnknownFirm = codes "3"
number_word why.SameFirm = codes "4"
number_word why.ClaimExists = codes "5"
number_word why.ClaimsFull = codes "6"
number_word why.UnknownClaim = codes "7"
number_word why.NotDebtor = codes "8"
number_word why.WrongState = codes "9"
number_word (why.Frozen round) = codes "10"
number_word why.OverOpen = codes "11"
number_word why.OverCeiling = codes "12"
number_word why.BelowFloor = codes "13"
number_word why.LimitsExcludeBalance = codes "14"
number_word (why.RoundOpen round) = codes "15"
number_word why.NoRound = codes "16"
number_word (why.NotOwner round) = codes "17"
number_word (why.Device before after) = codes "18"
number_word why.NotProved = codes "19"
number_word why.OverAmount = codes "20"

abbrev name_word : Why → List ℕ
name_word why.FirmExists = codes "firm-exists"
name_word why.FirmsFull = codes "firms-full"
name_word why.UnknownFirm = codes "unknown-firm"
name_word why.SameFirm = codes "same-firm"
name_word why.ClaimExists = codes "claim-exists"
name_word why.ClaimsFull = codes "claims-full"
name_word why.UnknownClaim = codes "unknown-claim"
name_word why.NotDebtor = codes "not-debtor"
name_word why.WrongState = codes "wrong-state"
name_word (why.Frozen round) = codes "frozen"
name_word why.OverOpen = codes "over-open"
name_word why.OverCeiling = codes "over-ceiling"
name_word why.BelowFloor = codes "below-floor"
name_word why.LimitsExcludeBalance = codes "limits-exclude-balance"
name_word (why.RoundOpen round) = codes "round-open"
name_word why.NoRound = codes "no-round"
name_word (why.NotOwner round) = codes "not-owner"
name_word (why.Device before after) = codes "device"
name_word why.NotProved = codes "not-proved"
name_word why.OverAmount = codes "over-amount"

abbrev why_words : Why → List (List ℕ)
why_words w = number_word w ∷ name_word w ∷ map decimal (told_by w)

why_line : (w : Why) → why_text w ≡ line_of (why_words w)
why_line why.FirmExists = refl
why_line why.FirmsFull = refl
why_line why.UnknownFirm = refl
why_line why.SameFirm = refl
why_line why.ClaimExists = refl
why_line why.ClaimsFull = refl
why_line why.UnknownClaim = refl
why_line why.NotDebtor = refl
why_line why.WrongState = refl
why_line (why.Frozen round) = refl
why_line why.OverOpen = refl
why_line why.OverCeiling = refl
why_line why.BelowFloor = refl
why_line why.LimitsExcludeBalance = refl
why_line (why.RoundOpen round) = refl
why_line why.NoRound = refl
why_line (why.NotOwner round) = refl
why_line (why.Device before after) = refl
why_line why.NotProved = refl
why_line why.OverAmount = refl

abbrev first : List ℕ → ℕ
first numbers = get_or numbers 0 0

-- the refusal of a number word that tells these numbers
abbrev why_from : List ℕ → List ℕ → Why
why_from word numbers =
    if bytes_eq word (codes "1") then why.FirmExists
    else (if bytes_eq word (codes "2") then why.FirmsFull
    else (if bytes_eq word (codes "3") then why.UnknownFirm
    else (if bytes_eq word (codes "4") then why.SameFirm
    else (if bytes_eq word (codes "5") then why.ClaimExists
    else (if bytes_eq word (codes "6") then why.ClaimsFull
    else (if bytes_eq word (codes "7") then why.UnknownClaim
    else (if bytes_eq word (codes "8") then why.NotDebtor
    else (if bytes_eq word (codes "9") then why.WrongState
    else (if bytes_eq word (codes "10") then why.Frozen (first numbers)
    else (if bytes_eq word (codes "11") then why.OverOpen
    else (if bytes_eq word (codes "12") then why.OverCeiling
    else (if bytes_eq word (codes "13") then why.BelowFloor
    else (if bytes_eq word (codes "14") then why.LimitsExcludeBalance
    else (if bytes_eq word (codes "15") then why.RoundOpen (first numbers)
    else (if bytes_eq word (codes "16") then why.NoRound
    else (if bytes_eq word (codes "17") then why.NotOwner (first numbers)
    else (if bytes_eq word (codes "18") then why.Device (first numbers) (get_or numbers 1 0)
    else (if bytes_eq word (codes "19") then why.NotProved
    else why.OverAmount))))))))))))))))))

why_again : (w : Why) → why_from (number_word w) (told_by w) ≡ w
why_again why.FirmExists = refl
why_again why.FirmsFull = refl
why_again why.UnknownFirm = refl
why_again why.SameFirm = refl
why_again why.ClaimExists = refl
why_again why.ClaimsFull = refl
why_again why.UnknownClaim = refl
why_again why.NotDebtor = refl
why_again why.WrongState = refl
why_again (why.Frozen round) = refl
why_again why.OverOpen = refl
why_again why.OverCeiling = refl
why_again why.BelowFloor = refl
why_again why.LimitsExcludeBalance = refl
why_again (why.RoundOpen round) = refl
why_again why.NoRound = refl
why_again (why.NotOwner round) = refl
why_again (why.Device before after) = refl
why_again why.NotProved = refl
why_again why.OverAmount = refl

abbrev Short : ℕ → Type 0
Short number = number < 2 ^ 64

same_numbers : (xs ys : List ℕ) → All Short xs → All Short ys → map decimal xs ≡ map decimal ys → xs ≡ ys
same_numbers [] [] h k e = refl
same_numbers [] (y ∷ ys) h k e = absurd (cc e)
same_numbers (x ∷ xs) [] h k e = absurd (cc e)
same_numbers (x ∷ xs) (y ∷ ys) h k e =
    let head : decimal x ≡ decimal y = ap (λ (ts : List (List ℕ)). get_or ts 0 []) e in
    ap₂ (λ (z : ℕ) (zs : List ℕ). z ∷ zs) (spelling_law.whole x y (All-head Short x xs h) (All-head Short y ys k) head)
    (same_numbers xs ys (All-tail Short x xs h) (All-tail Short y ys k) (ap (drop 1) e))

same_why : (v w : Why) → All Short (told_by v) → All Short (told_by w) → why_words v ≡ why_words w → v ≡ w
same_why v w h k e =
    let word : number_word v ≡ number_word w = ap (λ (ts : List (List ℕ)). get_or ts 0 []) e in
    let numbers : told_by v ≡ told_by w = same_numbers (told_by v) (told_by w) h k (ap (drop 2) e) in
    sym (why_again v) ∙ ap₂ why_from word numbers ∙ why_again w

-- ---- replies

abbrev pub reply_words : Reply → List (List ℕ)
reply_words reply.Done = codes "ok" ∷ []
reply_words (reply.Position p) = codes "balance" ∷ signed_cents_text p.balance ∷ codes "receivable" ∷ cents_text p.receivable ∷ codes "payable" ∷ cents_text p.payable ∷ []
reply_words (reply.Opened round) = codes "opened" ∷ decimal round ∷ []
reply_words (reply.Continued round) = codes "continued" ∷ decimal round ∷ []
reply_words (reply.Published total) = codes "published" ∷ cents_text total ∷ []
reply_words (reply.Abandoned round) = codes "abandoned" ∷ decimal round ∷ []
reply_words (reply.Refused w) = codes "refused" ∷ why_words w

position_line : (s r p : List ℕ) → codes "balance " ++ s ++ codes " receivable " ++ r ++ codes " payable " ++ p ≡ line_of (codes "balance" ∷ s ∷ codes "receivable" ∷ r ∷ codes "payable" ∷ p ∷ [])
position_line s r p = simp append_assoc

pub reply_line : (r : Reply) → reply_text r ≡ line_of (reply_words r)
reply_line reply.Done = refl
reply_line (reply.Position p) = position_line (signed_cents_text p.balance) (cents_text p.receivable) (cents_text p.payable)
reply_line (reply.Opened round) = refl
reply_line (reply.Continued round) = refl
reply_line (reply.Published total) = refl
reply_line (reply.Abandoned round) = refl
reply_line (reply.Refused w) = ap (λ (t : List ℕ). codes "refused " ++ t) (why_line w)

-- there is a first word
pub some_words : (r : Reply) → (word : List ℕ) × (words : List (List ℕ)) × (reply_words r ≡ word ∷ words)
some_words reply.Done = (_, _, refl)
some_words (reply.Position p) = (_, _, refl)
some_words (reply.Opened round) = (_, _, refl)
some_words (reply.Continued round) = (_, _, refl)
some_words (reply.Published total) = (_, _, refl)
some_words (reply.Abandoned round) = (_, _, refl)
some_words (reply.Refused w) = (_, _, refl)

-- ---- digits

abbrev pub Digit : ℕ → Type 0
Digit b = (48 ≤ b) × (b < 58)

glyph : (b : Bool) (d : ℕ) → nat_lt d 10 ≡ b → d < 10 → Digit (if b then 48 + d else 87 + d)
glyph true d is lt = (omega arith, omega (arith, lt))
glyph false d is lt = absurd (true≢false (sym (lt-ltb d 10 lt) ∙ is))

one_of : (b : Bool) (xs ys : List ℕ) → All Digit xs → All Digit ys → All Digit (if b then xs else ys)
one_of true xs ys h k = h
one_of false xs ys h k = k

more_digits : (k n : ℕ) (later : List ℕ) → All Digit later → All Digit (digits_onto k 10 false n later)
more_digits zero n later h = h
more_digits (suc k) n later h =
    let all = All-cons Digit (digit_glyph false (n % 10)) later (glyph (nat_lt (n % 10) 10) (n % 10) refl (omega arith)) h in
    one_of (n / 10 == 0) (digit_glyph false (n % 10) ∷ later) (digits_onto k 10 false (n / 10) (digit_glyph false (n % 10) ∷ later)) all
    (more_digits k (n / 10) (digit_glyph false (n % 10) ∷ later) all)

-- each number, however large, is written by digits
pub all_digits : (n : ℕ) → All Digit (decimal n)
unfolding digits
all_digits n = more_digits 64 n [] (All-nil Digit)

-- no sum begins with a dash
no_dash : (ds rest more : List ℕ) → All Digit ds → (ds ++ 46 ∷ rest) ≡ 45 ∷ more → ⊥
no_dash [] rest more h e = let is : ◌≡◌ {A = ℕ} 46 45 = ap (λ (t : List ℕ). get_or t 0 0) e in omega (arith, is)
no_dash (d ∷ ds) rest more h e = let is : d ≡ 45 = ap (λ (t : List ℕ). get_or t 0 0) e in omega (arith, All-head Digit d ds h, is)

cents_apart : (a b : ℕ) → a < SUM_LIMIT → cents_text a ≡ codes "-" ++ cents_text b → ⊥
cents_apart a b la e =
    no_dash (decimal (a / 100)) ((48 + a % 100 / 10) ∷ (48 + a % 10) ∷ []) (cents_text b) (all_digits (a / 100))
    (sym (append_assoc (decimal (a / 100)) (46 ∷ []) ((48 + a % 100 / 10) ∷ (48 + a % 10) ∷ [])) ∙ e)

same_signed : (x y : ℤ) → unsigned_abs x < SUM_LIMIT → unsigned_abs y < SUM_LIMIT → signed_cents_text x ≡ signed_cents_text y → x ≡ y
same_signed (pos a) (pos b) la lb e = ap (λ (n : ℕ). pos n) (spelling_law.cents a b la lb e)
same_signed (pos a) (negsuc b) la lb e = absurd (cents_apart a (suc b) la e)
same_signed (negsuc a) (pos b) la lb e = absurd (cents_apart b (suc a) lb (sym e))
same_signed (negsuc a) (negsuc b) la lb e =
    let sums : suc a ≡ suc b = spelling_law.cents (suc a) (suc b) la lb (ap (drop 1) e) in
    let same : a ≡ b = omega (arith, sums) in
    ap (λ (n : ℕ). negsuc n) same

same_position : (p q : Position) → p.balance ≡ q.balance → p.receivable ≡ q.receivable → p.payable ≡ q.payable → p ≡ q
same_position p q e f g = λ i. record { balance = e i; receivable = f i; payable = g i }

abbrev pub word_at : ℕ → List (List ℕ) → List ℕ
word_at k words = get_or words k []

-- a number for each first word
abbrev tag : List ℕ → ℕ
tag word =
    if bytes_eq word (codes "ok") then 0
    else (if bytes_eq word (codes "balance") then 1
    else (if bytes_eq word (codes "opened") then 2
    else (if bytes_eq word (codes "continued") then 3
    else (if bytes_eq word (codes "published") then 4
    else (if bytes_eq word (codes "abandoned") then 5 else 6)))))

abbrev tag_of : List (List ℕ) → ℕ
tag_of words = tag (word_at 0 words)

-- replies with the same words are one
pub same_reply : (r s : Reply) → HasRanges r → HasRanges s → reply_words r ≡ reply_words s → r ≡ s
same_reply reply.Done reply.Done h k e = refl
same_reply (reply.Position p) (reply.Position q) h k e =
    ap (λ (x : Position). reply.Position x)
    (same_position p q (same_signed p.balance q.balance h.0 k.0 (ap (word_at 1) e)) (spelling_law.cents p.receivable q.receivable h.1 k.1 (ap (word_at 3) e)) (spelling_law.cents p.payable q.payable h.2 k.2 (ap (word_at 5) e)))
same_reply (reply.Opened a) (reply.Opened b) h k e = ap (λ (n : ℕ). reply.Opened n) (spelling_law.whole a b h k (ap (word_at 1) e))
same_reply (reply.Continued a) (reply.Continued b) h k e = ap (λ (n : ℕ). reply.Continued n) (spelling_law.whole a b h k (ap (word_at 1) e))
same_reply (reply.Published a) (reply.Published b) h k e = ap (λ (n : ℕ). reply.Published n) (spelling_law.cents a b h k (ap (word_at 1) e))
same_reply (reply.Abandoned a) (reply.Abandoned b) h k e = ap (λ (n : ℕ). reply.Abandoned n) (spelling_law.whole a b h k (ap (word_at 1) e))
same_reply (reply.Refused v) (reply.Refused w) h k e = ap (λ (x : Why). reply.Refused x) (same_why v w h k (ap (drop 1) e))
same_reply r s h k e = let is : tag_of (reply_words r) ≡ tag_of (reply_words s) = ap tag_of e in absurd (omega (arith, is))

-- ---- visible words

numbers_visible : (numbers : List ℕ) → All Short numbers → AllByRecursion IsVisible (map decimal numbers)
numbers_visible [] h = tt
numbers_visible (n ∷ numbers) h = (visible_law.whole n (All-head Short n numbers h), numbers_visible numbers (All-tail Short n numbers h))

signed_visible : (x : ℤ) → unsigned_abs x < SUM_LIMIT → IsVisible (signed_cents_text x)
signed_visible (pos n) lt = visible_law.cents n lt
signed_visible (negsuc n) lt = join (45 ∷ []) (cents_text (suc n)) (one 45 (omega arith)) (visible_law.cents (suc n) lt)

number_visible : (w : Why) → IsVisible (number_word w)
number_visible why.FirmExists = known (codes "1") refl
number_visible why.FirmsFull = known (codes "2") refl
number_visible why.UnknownFirm = known (codes "3") refl
number_visible why.SameFirm = known (codes "4") refl
number_visible why.ClaimExists = known (codes "5") refl
number_visible why.ClaimsFull = known (codes "6") refl
number_visible why.UnknownClaim = known (codes "7") refl
number_visible why.NotDebtor = known (codes "8") refl
number_visible why.WrongState = known (codes "9") refl
number_visible (why.Frozen round) = known (codes "10") refl
number_visible why.OverOpen = known (codes "11") refl
number_visible why.OverCeiling = known (codes "12") refl
number_visible why.BelowFloor = known (codes "13") refl
number_visible why.LimitsExcludeBalance = known (codes "14") refl
number_visible (why.RoundOpen round) = known (codes "15") refl
number_visible why.NoRound = known (codes "16") refl
number_visible (why.NotOwner round) = known (codes "17") refl
number_visible (why.Device before after) = known (codes "18") refl
number_visible why.NotProved = known (codes "19") refl
number_visible why.OverAmount = known (codes "20") refl

name_visible : (w : Why) → IsVisible (name_word w)
name_visible why.FirmExists = known (codes "firm-exists") refl
name_visible why.FirmsFull = known (codes "firms-full") refl
name_visible why.UnknownFirm = known (codes "unknown-firm") refl
name_visible why.SameFirm = known (codes "same-firm") refl
name_visible why.ClaimExists = known (codes "claim-exists") refl
name_visible why.ClaimsFull = known (codes "claims-full") refl
name_visible why.UnknownClaim = known (codes "unknown-claim") refl
name_visible why.NotDebtor = known (codes "not-debtor") refl
name_visible why.WrongState = known (codes "wrong-state") refl
name_visible (why.Frozen round) = known (codes "frozen") refl
name_visible why.OverOpen = known (codes "over-open") refl
name_visible why.OverCeiling = known (codes "over-ceiling") refl
name_visible why.BelowFloor = known (codes "below-floor") refl
name_visible why.LimitsExcludeBalance = known (codes "limits-exclude-balance") refl
name_visible (why.RoundOpen round) = known (codes "round-open") refl
name_visible why.NoRound = known (codes "no-round") refl
name_visible (why.NotOwner round) = known (codes "not-owner") refl
name_visible (why.Device before after) = known (codes "device") refl
name_visible why.NotProved = known (codes "not-proved") refl
name_visible why.OverAmount = known (codes "over-amount") refl

pub reply_visible : (r : Reply) → HasRanges r → AllByRecursion IsVisible (reply_words r)
reply_visible reply.Done h = (known (codes "ok") refl, tt)
reply_visible (reply.Position p) h =
    (known (codes "balance") refl, (signed_visible p.balance h.0, (known (codes "receivable") refl, (visible_law.cents p.receivable h.1, (known (codes "payable") refl, (visible_law.cents p.payable h.2, tt))))))
reply_visible (reply.Opened round) h = (known (codes "opened") refl, (visible_law.whole round h, tt))
reply_visible (reply.Continued round) h = (known (codes "continued") refl, (visible_law.whole round h, tt))
reply_visible (reply.Published total) h = (known (codes "published") refl, (visible_law.cents total h, tt))
reply_visible (reply.Abandoned round) h = (known (codes "abandoned") refl, (visible_law.whole round h, tt))
reply_visible (reply.Refused w) h = (known (codes "refused") refl, (number_visible w, (name_visible w, numbers_visible (told_by w) h)))
