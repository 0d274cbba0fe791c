-- Text that goes through a buffer, step after step.
use Rattle.std.proofs.Common.{◌≡◌, ◌≤◌, ℕ, List, [], ◌++◌, refl, sym, ap, ◌∙◌, subst, append_assoc, vec_capacity, arith}
use Rattle.std.specs.Prelude.{Option, Result, Ok, Err, IsErr, OnOk, OnErr, Vec}
use Rattle.std.specs.declared.alloc.Global.{Global}
use Rattle.std.specs.Io.KnownBytes.{Appends}
use Rattle.std.proofs.lemmas.List.{append-nil}
use Rattle.setoff_model.specs.declared.limits.TheConstants.{OUTPUT_BYTES}
use Rattle.setoff_model.proofs.Lists.{on_err}
use Rattle.served_lines.specs.fault_count.specs.Counts.{HasRisen}
use Rattle.bureau_edge.specs.declared.failed.Failed.{Failed}
use Rattle.bureau_edge.specs.Streams.{AppendsPart, CountsFaults}
use Rattle.bureau_edge.proofs.Known.{Appends-none, Appends-then}
use Rattle.printed_text.specs.Writing.{GoesThrough, Prints}

-- a text that stays in the buffer
pub pass_into : (x : Option (List ℕ)) (a t : List ℕ) → GoesThrough x x a (a ++ t) t
pass_into x a t = record { taken = []; split = refl; appended = Appends-none x }

pub pass_none : (x : Option (List ℕ)) (a : List ℕ) → GoesThrough x x a a []
pass_none x a = record { taken = []; split = append-nil a; appended = Appends-none x }

-- one text after another
pub pass_then : (x y z : Option (List ℕ)) (a b c t u : List ℕ) → GoesThrough x y a b t → GoesThrough y z b c u → GoesThrough x z a c (t ++ u)
pass_then x y z a b c t u p q = record {
  taken = p.taken ++ q.taken;
  split = sym (append_assoc a t u) ∙ ap (λ (w : List ℕ). w ++ u) p.split ∙ append_assoc p.taken b u ∙ ap (λ (w : List ℕ). p.taken ++ w) q.split ∙ sym (append_assoc p.taken q.taken c);
  appended = Appends-then x y z p.taken q.taken p.appended q.appended;
}

-- a line that was put behind what is in the buffer
pub pass_line : (x y : Option (List ℕ)) (a b now line : List ℕ) → GoesThrough x y a b [] → now ≡ b ++ line → GoesThrough x y a now line
pass_line x y a b now line p e = subst (λ (items : List ℕ). GoesThrough x y a items line) (sym e) (pass_then x y y a b (b ++ line) [] line p (pass_into y b line))

-- where a step failed, the sink took some first bytes of the whole
pub part_then : (x y z : Option (List ℕ)) (a b t u : List ℕ) → GoesThrough x y a b t → AppendsPart y z (b ++ u) → AppendsPart x z (a ++ (t ++ u))
part_then x y z a b t u p q = (
  p.taken ++ q.0,
  q.1,
  sym (append_assoc a t u) ∙ ap (λ (w : List ℕ). w ++ u) p.split ∙ append_assoc p.taken b u ∙ ap (λ (w : List ℕ). p.taken ++ w) q.2 ∙ sym (append_assoc p.taken q.0 q.1),
  Appends-then x y z p.taken q.0 p.appended q.3,
)

pub part_more : (x z : Option (List ℕ)) (a t : List ℕ) → AppendsPart x z a → AppendsPart x z (a ++ t)
part_more x z a t q = (q.0, q.1 ++ t, ap (λ (w : List ℕ). w ++ t) q.2 ∙ append_assoc q.0 q.1 t, q.3)

-- a text that went through an empty buffer whole
pub pass_whole : (x y : Option (List ℕ)) (b t : List ℕ) → GoesThrough x y [] b t → b ≡ [] → Appends x y t
pass_whole x y b t p e = subst (Appends x y) (sym (p.split ∙ ap (λ (w : List ℕ). p.taken ++ w) e ∙ append-nil p.taken)) p.appended

-- a text that went through an empty buffer, which was taken whole at last
pub pass_flushed : {T E : Type 0} (r : Result T E) (x y z : Option (List ℕ)) (a b c t : List ℕ) → a ≡ [] → GoesThrough x y a b t → OnOk r (GoesThrough y z b c []) → OnOk r (c ≡ []) → OnOk r (Appends x z t)
pass_flushed (Ok ok) x y z a b c t none p q left =
    pass_whole x z c t (subst (λ (w : List ℕ). GoesThrough x z w c t) none (subst (GoesThrough x z a c) (append-nil t) (pass_then x y z a b c t [] p q))) left
pass_flushed (Err e) x y z a b c t none p q left = tt

-- of a text, what is before a rest went through the buffer
pub record GoesThroughUpTo (x y : Option (List ℕ)) (a b rest all : List ℕ) : Type 0 where
  pub so_far : List ℕ
  pub passes : GoesThrough x y a b so_far
  pub whole : so_far ++ rest ≡ all

pub up_begins : (x : Option (List ℕ)) (a all : List ℕ) → GoesThroughUpTo x x a a all all
up_begins x a all = record { so_far = []; passes = pass_none x a; whole = refl }

pub up_more : (x y z : Option (List ℕ)) (a b c line rest all : List ℕ) → GoesThroughUpTo x y a b (line ++ rest) all → GoesThrough y z b c line → GoesThroughUpTo x z a c rest all
up_more x y z a b c line rest all u p = record {
  so_far = u.so_far ++ line;
  passes = pass_then x y z a b c u.so_far line u.passes p;
  whole = append_assoc u.so_far line rest ∙ u.whole;
}

pub up_breaks : (x y z : Option (List ℕ)) (a b line rest all : List ℕ) → GoesThroughUpTo x y a b (line ++ rest) all → AppendsPart y z (b ++ line) → AppendsPart x z (a ++ all)
up_breaks x y z a b line rest all u p =
    subst (λ (w : List ℕ). AppendsPart x z (a ++ w)) (append_assoc u.so_far line rest ∙ u.whole)
    (subst (AppendsPart x z) (append_assoc a (u.so_far ++ line) rest) (part_more x z (a ++ (u.so_far ++ line)) rest (part_then x y z a b u.so_far line u.passes p)))

pub up_ends : (x y : Option (List ℕ)) (a b rest all : List ℕ) → GoesThroughUpTo x y a b rest all → rest ≡ [] → GoesThrough x y a b all
up_ends x y a b rest all u e = subst (GoesThrough x y a b) (sym (append-nil u.so_far) ∙ ap (λ (w : List ℕ). u.so_far ++ w) (sym e) ∙ u.whole) u.passes

-- the same with an empty buffer at first
pub part_of_text : (x z : Option (List ℕ)) (a t : List ℕ) → a ≡ [] → AppendsPart x z (a ++ t) → AppendsPart x z t
part_of_text x z a t e q = subst (λ (w : List ℕ). AppendsPart x z (w ++ t)) e q

-- what is in the buffer is a part of what went through it
pub part_left : (x y z : Option (List ℕ)) (a b t : List ℕ) → GoesThrough x y a b t → AppendsPart y z b → AppendsPart x z (a ++ t)
part_left x y z a b t p q =
    subst (λ (w : List ℕ). AppendsPart x z (a ++ w)) (append-nil t) (part_then x y z a b t [] p (part_more y z b [] q))

pub on_err_if : {T E : Type 0} (r : Result T E) (P Q : Type 0) → (P → Q) → OnErr r P → OnErr r Q
on_err_if (Ok t) P Q f h = tt
on_err_if (Err e) P Q f h = f h

pub on_ok_if : {T E : Type 0} (r : Result T E) (P Q : Type 0) → (P → Q) → OnOk r P → OnOk r Q
on_ok_if (Ok t) P Q f h = f h
on_ok_if (Err e) P Q f h = tt

-- a later step, before which the count was kept
pub counted_behind : {T E : Type 0} (low before after : ℕ) (r : Result T E) → before ≡ low → CountsFaults before after r → CountsFaults low after r
counted_behind low before after r = subst (λ (n : ℕ). CountsFaults n after r)

none_ok : {T E : Type 0} (r : Result T E) (P : Type 0) → IsErr r → OnOk r P
none_ok (Ok x) P err = absurd (cc err)
none_ok (Err e) P err = tt

-- a failure of it that is handed on
pub counted_later : {T E U F : Type 0} (low before after : ℕ) (e : E) (r : Result U F) → IsErr r → before ≡ low → CountsFaults {T = T} before after (Err e) → CountsFaults low after r
counted_later low before after e r err same c = record {
  later = omega (arith, same, c.later);
  cause = λ _. subst (λ (n : ℕ). HasRisen n after) same (c.cause refl);
  kept = none_ok r _ err;
}

-- ---- what printers leave

-- the same text
pub prints_as : {S T : Type 0} {held : S → Option (List ℕ)} {faults : S → ℕ} {x y : S} {a b : Vec ℕ Global} {t u : List ℕ} {r : Result T Failed}
    → t ≡ u → Prints held faults x y a b t r → Prints held faults x y a b u r
prints_as {held = held} {faults = faults} {x = x} {y = y} {a = a} {b = b} {r = r} e p = subst (λ (w : List ℕ). Prints held faults x y a b w r) e p

-- a line that was put behind what is in the buffer
pub prints_line : {S T : Type 0} {held : S → Option (List ℕ)} {faults : S → ℕ} {x y : S} {a c : Vec ℕ Global} {t : T} (b : Vec ℕ Global) (line : List ℕ)
    → GoesThrough (held x) (held y) a.items b.items [] → faults y ≡ faults x → OUTPUT_BYTES ≤ vec_capacity b → c.items ≡ b.items ++ line → vec_capacity b ≤ vec_capacity c
    → Prints held faults x y a c line (Ok t)
prints_line {held = held} {faults = faults} {x = x} {y = y} {a = a} {c = c} b line p same room e wide = record {
  ok = pass_line (held x) (held y) a.items b.items c.items line p e;
  part = tt;
  cause = record { later = omega (arith, same); cause = λ err. absurd (cc err); kept = same };
  room = omega (arith, room, wide);
}

-- there was no room for a line, since the sink failed
pub prints_no_line : {S T U : Type 0} {held : S → Option (List ℕ)} {faults : S → ℕ} {x y : S} {a b : Vec ℕ Global} {e : Failed} {r : Result U Failed} (line : List ℕ)
    → IsErr r → AppendsPart (held x) (held y) a.items → CountsFaults {T = T} (faults x) (faults y) (Err e) → OUTPUT_BYTES ≤ vec_capacity b
    → Prints held faults x y a b line r
prints_no_line {held = held} {faults = faults} {x = x} {y = y} {a = a} {e = e} {r = r} line err part cause room = record {
  ok = none_ok r _ err;
  part = on_err r _ (part_more (held x) (held y) a.items line part);
  cause = counted_later (faults x) (faults x) (faults y) e r err refl cause;
  room = room;
}

-- of two calls that went well alike
pub prints_same : {S T U : Type 0} {held : S → Option (List ℕ)} {faults : S → ℕ} {x y : S} {a b : Vec ℕ Global} {t : List ℕ} {v : T} {w : U}
    → Prints held faults x y a b t (Ok v) → Prints held faults x y a b t (Ok w)
prints_same p = record {
  ok = p.ok;
  part = tt;
  cause = record { later = p.cause.later; cause = λ err. absurd (cc err); kept = p.cause.kept };
  room = p.room;
}

-- a failure that is handed on
pub prints_failed : {S T U : Type 0} {held : S → Option (List ℕ)} {faults : S → ℕ} {x y : S} {a b : Vec ℕ Global} {t : List ℕ} {e : Failed} {r : Result U Failed}
    → IsErr r → Prints {T = T} held faults x y a b t (Err e) → Prints held faults x y a b t r
prints_failed {faults = faults} {x = x} {y = y} {e = e} {r = r} err p = record {
  ok = none_ok r _ err;
  part = on_err r _ p.part;
  cause = counted_later (faults x) (faults x) (faults y) e r err refl p.cause;
  room = p.room;
}

-- the same with the text that was to come
pub prints_no_more : {S T U : Type 0} {held : S → Option (List ℕ)} {faults : S → ℕ} {x y : S} {a b : Vec ℕ Global} {t : List ℕ} {e : Failed} {r : Result U Failed} (u : List ℕ)
    → IsErr r → Prints {T = T} held faults x y a b t (Err e) → Prints held faults x y a b (t ++ u) r
prints_no_more {held = held} {faults = faults} {x = x} {y = y} {a = a} {t = t} {e = e} {r = r} u err p = record {
  ok = none_ok r _ err;
  part = on_err r _ (subst (AppendsPart (held x) (held y)) (append_assoc a.items t u) (part_more (held x) (held y) (a.items ++ t) u p.part));
  cause = counted_later (faults x) (faults x) (faults y) e r err refl p.cause;
  room = p.room;
}

-- one text after another
pub prints_then : {S T U : Type 0} {held : S → Option (List ℕ)} {faults : S → ℕ} {x y z : S} {a b c : Vec ℕ Global} {t u : List ℕ} {v : T} {r : Result U Failed}
    → Prints held faults x y a b t (Ok v) → Prints held faults y z b c u r → Prints held faults x z a c (t ++ u) r
prints_then {held = held} {faults = faults} {x = x} {y = y} {z = z} {a = a} {b = b} {c = c} {t = t} {u = u} {r = r} p q = record {
  ok = on_ok_if r _ _ (λ h. pass_then (held x) (held y) (held z) a.items b.items c.items t u p.ok h) q.ok;
  part = on_err_if r _ _ (λ h. part_then (held x) (held y) (held z) a.items b.items t u p.ok h) q.part;
  cause = counted_behind (faults x) (faults y) (faults z) r p.cause.kept q.cause;
  room = q.room;
}

-- a step that failed, behind those before it
pub prints_up_to : {S T U : Type 0} {held : S → Option (List ℕ)} {faults : S → ℕ} {x y z : S} {a b c : Vec ℕ Global} {all : List ℕ} {e : Failed} {r : Result U Failed} (line rest : List ℕ)
    → IsErr r → GoesThroughUpTo (held x) (held y) a.items b.items (line ++ rest) all → faults y ≡ faults x → Prints {T = T} held faults y z b c line (Err e) → Prints held faults x z a c all r
prints_up_to {held = held} {faults = faults} {x = x} {y = y} {z = z} {a = a} {b = b} {all = all} {e = e} {r = r} line rest err u same p = record {
  ok = none_ok r _ err;
  part = on_err r _ (up_breaks (held x) (held y) (held z) a.items b.items line rest all u p.part);
  cause = counted_later (faults x) (faults y) (faults z) e r err same p.cause;
  room = p.room;
}

-- all of a text, step after step
pub prints_all : {S T : Type 0} {held : S → Option (List ℕ)} {faults : S → ℕ} {x y : S} {a b : Vec ℕ Global} {rest all : List ℕ} {v : T}
    → GoesThroughUpTo (held x) (held y) a.items b.items rest all → rest ≡ [] → faults y ≡ faults x → OUTPUT_BYTES ≤ vec_capacity b → Prints held faults x y a b all (Ok v)
prints_all {held = held} {faults = faults} {x = x} {y = y} {a = a} {b = b} {rest = rest} {all = all} u none same room = record {
  ok = up_ends (held x) (held y) a.items b.items rest all u none;
  part = tt;
  cause = record { later = omega (arith, same); cause = λ err. absurd (cc err); kept = same };
  room = room;
}

-- nothing, and nothing done
pub prints_none : {S T : Type 0} {held : S → Option (List ℕ)} {faults : S → ℕ} {x : S} {a : Vec ℕ Global} {v : T} → OUTPUT_BYTES ≤ vec_capacity a → Prints held faults x x a a [] (Ok v)
prints_none {held = held} {x = x} {a = a} room = record {
  ok = pass_none (held x) a.items;
  part = tt;
  cause = record { later = omega arith; cause = λ err. absurd (cc err); kept = refl };
  room = room;
}
