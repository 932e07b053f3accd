-- What writes behind a front leave.
use Rattle.std.proofs.Common.{◌^◌, ◌≡◌, ℕ, ◌+◌, ◌≤◌, List, ◌++◌, length, take, drop, Option, Some, None, refl, sym, ◌∙◌, ap, subst, arith, append_assoc, length-append, length-take}
use Rattle.std.proofs.lemmas.List.{take_at, drop_at, drop-drop, take-take}
use Rattle.std.specs.Prelude.{option_map, IfSome}
use Rattle.ws_outside.specs.declared.contents.Which.{Which}
use Rattle.ws_outside.specs.declared.contents.Which.TheVariants.{Left, Right}
use Rattle.ws_outside.specs.declared.contents.Contents.{Contents}
use Rattle.ws_outside.specs.Disk.{held, holding, written, Torn, InArea, Came, Each, ReadsThere, Elapses, LeavesOnly}
use Rattle.disk_area.specs.Writes.{KeepsFront, Follow}
use Rattle.disk_area.proofs.Bytes.{was}
use Rattle.disk_area.proofs.Moments.{came_on, goes_on}

pub keeps_same : (at : ℕ) (d : List ℕ) → KeepsFront at d d
keeps_same at d = record { front = refl; no_shorter = omega arith; no_longer = omega arith }

pub keeps_on : (at : ℕ) (d m c : List ℕ) → KeepsFront at d m → KeepsFront at m c → KeepsFront at d c
keeps_on at d m c a b = record { front = b.front ∙ a.front; no_shorter = omega (arith, a.no_shorter, b.no_shorter); no_longer = omega (arith, a.no_longer, b.no_longer) }

pub torn_keeps : (front at n : ℕ) (d c : List ℕ) → front ≤ at → at + n ≤ 2 ^ 30 → Torn at n d c → KeepsFront front d c
torn_keeps front at n d c le small torn = record {
  front = sym (take-take front at c le) ∙ ap (take front) torn.before ∙ take-take front at d le;
  no_shorter = torn.no_shorter;
  no_longer = omega (arith, torn.no_longer, small);
}

module _ {D : Type 0} (moment : D → ℕ) (left_since : D → ℕ → Contents → Type 0) (may_leave : D → Contents → Type 0) (area : Which) (front : ℕ) (first : D) where
  abbrev pub Kept : Contents → Type 0
  Kept = Came (may_leave first) (InArea area (KeepsFront front))

  abbrev pub Run : D → Type 0
  Run now = LeavesOnly moment left_since may_leave first now Kept

  pub kept_start : Each (may_leave first) Kept
  kept_start c left = (c, left, record { here = keeps_same front (held area c); there = refl })

  -- one write behind the front
  pub kept_write : (mid now : D) (at n : ℕ) → front ≤ at → at + n ≤ 2 ^ 30 → Run mid → Elapses (moment mid) (moment now) (left_since mid) (left_since now) (may_leave now) → Each (may_leave now) (Came (may_leave mid) (InArea area (Torn at n))) → Run now
  kept_write mid now at n le small run time crash =
      goes_on moment left_since may_leave first mid now Kept run time (λ c left.
      came_on {Near = InArea area (KeepsFront front)} {Far = InArea area (Torn at n)} {R = InArea area (KeepsFront front)} (may_leave first) (may_leave mid) (λ d m e a b. record { here = keeps_on front (held area d) (held area m) (held area e) a.here (torn_keeps front at n (held area m) (held area e) le small b.here); there = b.there ∙ a.there }) run.now c (crash c left))

  pub kept_sync : (mid now : D) → Run mid → Elapses (moment mid) (moment now) (left_since mid) (left_since now) (may_leave now) → Each (may_leave now) (may_leave mid) → Run now
  kept_sync mid now run time crash = goes_on moment left_since may_leave first mid now Kept run time (λ c left. run.now c (crash c left))

-- written in two pieces
pub written_twice : (at : ℕ) (p q s : List ℕ) → at ≤ length s → written (at + length p) q (written at p s) ≡ written at (p ++ q) s
written_twice at p q s le =
    let size : length (take at s ++ p) ≡ at + length p = omega (arith, length-append (take at s) p, length-take at s, le) in
    let head : take (at + length p) (written at p s) ≡ take at s ++ p = take_at (take at s ++ p) (drop (at + length p) s) (at + length p) size in
    let back : drop (at + length p + length q) (written at p s) ≡ drop (at + length (p ++ q)) s =
    sym (drop-drop (length q) (at + length p) (written at p s))
    ∙ ap (drop (length q)) (drop_at (take at s ++ p) (drop (at + length p) s) (at + length p) size)
    ∙ drop-drop (length q) (at + length p) s
    ∙ (let e : at + length p + length q ≡ at + length (p ++ q) = omega (arith, length-append p q) in ap (λ (k : ℕ). drop k s) e) in
    ap (λ l. l ++ q ++ drop (at + length p + length q) (written at p s)) head
    ∙ ap (λ l. take at s ++ p ++ q ++ l) back
    ∙ ap (λ l. l ++ drop (at + length (p ++ q)) s) (append_assoc (take at s) p q)

-- the disk's telling of it
abbrev pub write_in : Which → ℕ → List ℕ → Contents → Contents
write_in area at bytes both = holding area (written at bytes (held area both)) both

held-with : (area : Which) (bytes : List ℕ) (both : Contents) → held area (holding area bytes both) ≡ bytes
held-with Left bytes both = refl
held-with Right bytes both = refl

with-with : (area : Which) (xs ys : List ℕ) (both : Contents) → holding area ys (holding area xs both) ≡ holding area ys both
with-with Left xs ys both = refl
with-with Right xs ys both = refl

pub told_twice : (area : Which) (at m : ℕ) (p q : List ℕ) (a b c : Option Contents) → m ≡ at + length p → IfSome a (λ both. at ≤ length (held area both)) → b ≡ option_map (write_in area at p) a → c ≡ option_map (write_in area m q) b → c ≡ option_map (write_in area at (p ++ q)) a
told_twice area at m p q None b c is le eb ec = ec ∙ ap (option_map (write_in area m q)) eb
told_twice area at m p q (Some both) b c is le eb ec =
    ec ∙ ap (option_map (write_in area m q)) eb
    ∙ ap (λ x. Some x) (with-with area (written at p (held area both)) (written m q (held area (write_in area at p both))) both
    ∙ ap (λ l. holding area (written m q l) both) (held-with area (written at p (held area both)) both)
    ∙ ap (λ (k : ℕ). holding area (written k q (written at p (held area both))) both) is
    ∙ ap (λ l. holding area l both) (written_twice at p q (held area both) le))

-- there is room for the next piece
pub told_size : (area : Which) (at m : ℕ) (p : List ℕ) (a b : Option Contents) → m ≡ at + length p → IfSome a (λ both. at ≤ length (held area both)) → b ≡ option_map (write_in area at p) a → IfSome b (λ both. m ≤ length (held area both))
told_size area at m p None b is le eb = subst (λ o. IfSome o (λ both. m ≤ length (held area both))) (sym eb) tt
told_size area at m p (Some both) b is le eb =
    subst (λ o. IfSome o (λ both. m ≤ length (held area both))) (sym eb)
    (let s = held area both in
    let e : held area (write_in area at p both) ≡ written at p s = held-with area (written at p s) both in
    omega (arith, is, le, ap length e, length-append (take at s ++ p) (drop (at + length p) s), length-append (take at s) p, length-take at s))

pub follow_there : (at : ℕ) (bytes s d c : List ℕ) → at ≤ length s → c ≡ written at bytes s → KeepsFront at d c → Follow at bytes d c
follow_there at bytes s d c le is kept =
    let size : length (take at s) ≡ at = omega (arith, length-take at s, le) in
    let front_c : take at c ≡ take at s = ap (take at) (is ∙ append_assoc (take at s) bytes (drop (at + length bytes) s)) ∙ take_at (take at s) (bytes ++ drop (at + length bytes) s) at size in
    let same : take at s ≡ take at d = sym front_c ∙ kept.front in
    record {
      whole = omega (arith, ap length same, size, length-take at d);
      front = ap (take (at + length bytes)) is
          ∙ take_at (take at s ++ bytes) (drop (at + length bytes) s) (at + length bytes) (omega (arith, size, length-append (take at s) bytes))
          ∙ ap (λ l. l ++ bytes) same;
      no_shorter = kept.no_shorter;
      no_longer = kept.no_longer;
    }

pub follow_came : (area : Which) (at : ℕ) (bytes : List ℕ) (old new : Option Contents) (from : Contents → Type 0) (c : Contents) → IfSome old (λ both. at ≤ length (held area both)) → new ≡ option_map (write_in area at bytes) old
    → ReadsThere area new c → Came from (InArea area (KeepsFront at)) c → Came from (InArea area (Follow at bytes)) c
follow_came area at bytes old new from c fits is reads came =
    let w = was area (written at bytes) old new c is reads in
    let le : at ≤ length (held area w.both) = subst (λ o. IfSome o (λ both. at ≤ length (held area both))) w.told fits in
    (came.0, came.1, record { here = follow_there at bytes (held area w.both) (held area came.0) (held area c) le w.here came.2.here; there = came.2.there })
