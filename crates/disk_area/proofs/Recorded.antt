-- How a record is written.
use Rattle.std.proofs.Common.{◌≡◌, ℕ, zero, suc, ◌+◌, ◌≤◌, ◌<◌, List, [], ◌∷◌, ◌++◌, length, take, drop, get_or, refl, sym, ◌∙◌, ap, subst, arith, append_assoc, length-append, length-drop, length-take, take-append-drop, take-add, Option, Some, None}
use Rattle.std.proofs.lemmas.List.{take_at, drop_at, drop-take, take-take, drop_more}
use Rattle.std.specs.Prelude.{IfSome}
use Rattle.ws_outside.specs.declared.contents.Contents.{Contents}
use Rattle.ws_outside.specs.declared.contents.Which.{Which}
use Rattle.ws_outside.specs.Disk.{held, Torn, written}
use Rattle.disk_area.specs.Writes.{Follow, Appended}

-- the front of a list, a byte, and what stands behind it
front_byte : (at n : ℕ) (c : List ℕ) → at < length c → take (at + 1 + n) c ≡ take at c ++ get_or c at 0 ∷ take n (drop (at + 1) c)
front_byte at n c lt =
    let whole : c ≡ take at c ++ get_or c at 0 ∷ drop (at + 1) c = sym (take-append-drop at c) ∙ ap (λ l. take at c ++ l) (drop_more c at 0 lt) in
    let e : at + 1 + n ≡ at + (1 + n) = omega arith in
    ap (λ (k : ℕ). take k c) e ∙ take-add at (1 + n) c ∙ ap (λ l. take at c ++ take (1 + n) l) (drop_more c at 0 lt) ∙ take_suc n (get_or c at 0) (take at c) (drop (at + 1) c)
  where
    take_suc : (n g : ℕ) (xs ys : List ℕ) → xs ++ take (1 + n) (g ∷ ys) ≡ xs ++ g ∷ take n ys
    take_suc n g xs ys = let e : 1 + n ≡ suc n = omega arith in ap (λ (k : ℕ). xs ++ take k (g ∷ ys)) e

-- after the record's bytes a byte at its gate
pub appended : (at : ℕ) (bytes d m c : List ℕ) → Follow (at + 1) bytes d m → Torn at 1 m c → Appended at (get_or c at 0) bytes d c
appended at bytes d m c follow torn =
    let long : at + 1 + length bytes ≤ length m = omega (arith, ap length follow.front, length-append (take (at + 1) d) bytes, length-take (at + 1) d, length-take (at + 1 + length bytes) m, follow.whole) in
    let next : take (length bytes) (drop (at + 1) m) ≡ bytes =
    sym (drop-take (at + 1) (length bytes) m) ∙ ap (drop (at + 1)) follow.front ∙ drop_at (take (at + 1) d) bytes (at + 1) (omega (arith, length-take (at + 1) d, follow.whole)) in
    let front_m : take at m ≡ take at d =
    sym (take-take at (at + 1 + length bytes) m (omega arith)) ∙ ap (take at) (follow.front ∙ refl)
    ∙ take_front at d bytes follow.whole in
    record {
      whole = omega (arith, follow.whole);
      front = front_byte at (length bytes) c (omega (arith, torn.no_shorter, long))
          ∙ ap (λ l. l ++ get_or c at 0 ∷ take (length bytes) (drop (at + 1) c)) (torn.before ∙ front_m)
          ∙ ap (λ l. take at d ++ get_or c at 0 ∷ l) (ap (take (length bytes)) torn.after ∙ next);
      no_shorter = omega (arith, torn.no_shorter, follow.no_shorter);
      no_longer = omega (arith, torn.no_longer, long, follow.no_longer);
    }
  where
    take_front : (at : ℕ) (d bytes : List ℕ) → at + 1 ≤ length d → take at (take (at + 1) d ++ bytes) ≡ take at d
    take_front at d bytes le =
        ap (λ l. take at (l ++ bytes)) (take-add at 1 d) ∙ ap (take at) (append_assoc (take at d) (take 1 (drop at d)) bytes)
        ∙ take_at (take at d) (take 1 (drop at d) ++ bytes) at (omega (arith, le, length-take at d))

pub opened : (at : ℕ) (bytes d m c : List ℕ) → Follow (at + 1) bytes d m → c ≡ written at (1 ∷ []) m → Appended at 1 bytes d c
opened at bytes d m c follow is =
    let long : at + 1 + length bytes ≤ length m = omega (arith, ap length follow.front, length-append (take (at + 1) d) bytes, length-take (at + 1) d, length-take (at + 1 + length bytes) m, follow.whole) in
    let size : length (take at m) ≡ at = omega (arith, long, length-take at m) in
    let torn : Torn at 1 m c = record {
      before = ap (take at) (is ∙ append_assoc (take at m) (1 ∷ []) (drop (at + 1) m)) ∙ take_at (take at m) ((1 ∷ []) ++ drop (at + 1) m) at size;
      after = ap (drop (at + 1)) is ∙ drop_at (take at m ++ 1 ∷ []) (drop (at + 1) m) (at + 1) (omega (arith, size, length-append (take at m) (1 ∷ [])));
      no_shorter = omega (arith, ap length is, length-append (take at m ++ 1 ∷ []) (drop (at + 1) m), length-append (take at m) (1 ∷ []), length-drop (at + 1) m, size, long);
      no_longer = omega (arith, ap length is, length-append (take at m ++ 1 ∷ []) (drop (at + 1) m), length-append (take at m) (1 ∷ []), length-drop (at + 1) m, size, long);
    } in
    let gate : get_or c at 0 ≡ 1 = ap (λ l. get_or l at 0) (is ∙ append_assoc (take at m) (1 ∷ []) (drop (at + 1) m)) ∙ get_middle at (take at m) 1 (drop (at + 1) m) size in
    subst (λ (g : ℕ). Appended at g bytes d c) gate (appended at bytes d m c follow torn)
  where
    get_middle : (at : ℕ) (xs : List ℕ) (g : ℕ) (ys : List ℕ) → length xs ≡ at → get_or (xs ++ g ∷ ys) at 0 ≡ g
    get_middle at [] g ys e = let z : at ≡ 0 = omega (arith, e) in ap (λ (k : ℕ). get_or (g ∷ ys) k 0) z
    get_middle zero (x ∷ xs) g ys e = absurd (omega (arith, e))
    get_middle (suc at) (x ∷ xs) g ys e = get_middle at xs g ys (omega (arith, e))

-- bytes behind a place, and then one at it
written_before : (at g : ℕ) (bytes s : List ℕ) → at < length s → written at (g ∷ []) (written (at + 1) bytes s) ≡ written at (g ∷ bytes) s
written_before at g bytes s lt =
    let one : length (take (at + 1) s) ≡ at + 1 = omega (arith, lt, length-take (at + 1) s) in
    let whole : written (at + 1) bytes s ≡ take (at + 1) s ++ (bytes ++ drop (at + 1 + length bytes) s) = append_assoc (take (at + 1) s) bytes (drop (at + 1 + length bytes) s) in
    let front : take at (written (at + 1) bytes s) ≡ take at s =
    ap (take at) whole ∙ ap (λ l. take at (l ++ (bytes ++ drop (at + 1 + length bytes) s))) (take-add at 1 s)
    ∙ ap (take at) (append_assoc (take at s) (take 1 (drop at s)) (bytes ++ drop (at + 1 + length bytes) s))
    ∙ take_at (take at s) (take 1 (drop at s) ++ (bytes ++ drop (at + 1 + length bytes) s)) at (omega (arith, lt, length-take at s)) in
    let behind : drop (at + 1) (written (at + 1) bytes s) ≡ bytes ++ drop (at + 1 + length bytes) s = ap (drop (at + 1)) whole ∙ drop_at (take (at + 1) s) (bytes ++ drop (at + 1 + length bytes) s) (at + 1) one in
    let e : at + 1 + length bytes ≡ at + length (g ∷ bytes) = omega arith in
    ap (λ l. l ++ (g ∷ []) ++ drop (at + 1) (written (at + 1) bytes s)) front
    ∙ ap (λ l. take at s ++ (g ∷ []) ++ l) behind
    ∙ append_assoc (take at s) (g ∷ []) (bytes ++ drop (at + 1 + length bytes) s)
    ∙ sym (append_assoc (take at s) (g ∷ bytes) (drop (at + 1 + length bytes) s))
    ∙ ap (λ (k : ℕ). take at s ++ (g ∷ bytes) ++ drop k s) e

pub record_told : (area : Which) (at : ℕ) (bytes : List ℕ) (o : Option Contents) → IfSome o (λ both. at < length (held area both))
    → IfSome o (λ both. written at (1 ∷ []) (written (at + 1) bytes (held area both)) ≡ written at (1 ∷ bytes) (held area both))
record_told area at bytes None fits = tt
record_told area at bytes (Some both) fits = written_before at 1 bytes (held area both) fits
