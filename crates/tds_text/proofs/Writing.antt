-- A text that goes out piece by piece.
use Rattle.std.proofs.Common.{◌≡◌, ℕ, List, [], ◌++◌, Option, Some, None, Result, Ok, Err, OnErr, refl, ap, sym, ◌∙◌, append_assoc, append-nil}
use Rattle.std.specs.Io.KnownBytes.{Appends}
use Rattle.tds_text.specs.Written.{WritesUpTo, WritesBeginning}

-- nothing is appended
pub appends_nothing : (a : Option (List ℕ)) → Appends a a []
appends_nothing None = tt
appends_nothing (Some x) = sym (append-nil x)

-- one text is appended, and then another
pub appends_both : (a b c : Option (List ℕ)) (x y : List ℕ) → Appends a b x → Appends b c y → Appends a c (x ++ y)
appends_both None b c x y h k = tt
appends_both (Some u) None c x y h k = absurd h
appends_both (Some u) (Some v) None x y h k = k
appends_both (Some u) (Some v) (Some w) x y h k = k ∙ (ap (λ (t : List ℕ). t ++ y) h ∙ append_assoc u x y)

-- nothing has gone out yet
pub none_yet : (a : Option (List ℕ)) (text : List ℕ) → WritesUpTo a a text text
none_yet a text = record { front = []; whole = refl; written = appends_nothing a }

-- one piece more goes out
pub one_more : (a b c : Option (List ℕ)) (text piece rest : List ℕ) → WritesUpTo a b text (piece ++ rest) → Appends b c piece → WritesUpTo a c text rest
one_more a b c text piece rest h k =
    record { front = h.front ++ piece; whole = h.whole ∙ sym (append_assoc h.front piece rest); written = appends_both a b c h.front piece h.written k }

-- all of it went out
pub all_out : (a b : Option (List ℕ)) (text : List ℕ) → WritesUpTo a b text [] → Appends a b text
all_out a b text h =
    let e : text ≡ h.front = h.whole ∙ append-nil h.front in
    rw e h.written

-- a beginning of the next piece went out
pub ends_early : (a b c : Option (List ℕ)) (text piece rest : List ℕ) → WritesUpTo a b text (piece ++ rest) → WritesBeginning b c piece → WritesBeginning a c text
ends_early a b c text piece rest h k = (
  k.0 ++ rest,
  record {
    front = h.front ++ k.1.front;
    whole = h.whole ∙ rw k.1.whole (simp append_assoc);
    written = appends_both a b c h.front k.1.front h.written k.1.written;
  },
)

-- a beginning of a text is one of the text with more behind it
pub begins_more : (a b : Option (List ℕ)) (x y : List ℕ) → WritesBeginning a b x → WritesBeginning a b (x ++ y)
begins_more a b x y h =
    (h.0 ++ y, record { front = h.1.front; whole = rw h.1.whole (append_assoc h.1.front h.0 y); written = h.1.written })

-- a text went out, and then a beginning of another
pub begins_after : (a b c : Option (List ℕ)) (x y : List ℕ) → Appends a b x → WritesBeginning b c y → WritesBeginning a c (x ++ y)
begins_after a b c x y h k =
    (k.0, record { front = x ++ k.1.front; whole = rw k.1.whole (sym (append_assoc x k.1.front k.0)); written = appends_both a b c x k.1.front h k.1.written })

-- what holds anyway holds at an error
pub at_error : {T E : Type 0} {P : Type 0} (r : Result T E) → P → OnErr r P
at_error (Ok x) p = tt
at_error (Err e) p = p
