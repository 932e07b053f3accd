-- What a crash image has after a sync.
use Rattle.std.proofs.Common.{◌≡◌, inl, inr, ℕ, ◌+◌, ◌≤◌, List, [], ◌∷◌, ◌++◌, length, take, drop, Option, Some, None, refl, sym, ◌∙◌, ap, subst, arith, append_assoc, length-append, length-take}
use Rattle.std.proofs.lemmas.List.{take_at, drop_at, take_all}
use Rattle.std.specs.Prelude.{option_map, IfSome}
use Rattle.ws_outside.specs.declared.contents.Which.{Which}
use Rattle.ws_outside.specs.declared.contents.Which.TheVariants.{Left, Right}
use Rattle.ws_outside.specs.declared.contents.Contents.{Contents}
use Rattle.ws_outside.specs.Disk.{held, holding, written, Torn, Cut, InArea, Came, ReadsThere}
use Rattle.disk_area.specs.Writes.{Becomes}

-- what a read gave before, and what the image has
pub record Was (area : Which) (f : List ℕ → List ℕ) (seen : Option Contents) (c : Contents) : Type 0 where
  pub both : Contents
  pub told : seen ≡ Some both
  pub here : held area c ≡ f (held area both)

held-with : (area : Which) (bytes : List ℕ) (both : Contents) → held area (holding area bytes both) ≡ bytes
held-with Left bytes both = refl
held-with Right bytes both = refl

some_is : {A : Type 0} (x y : A) → Some x ≡ Some y → x ≡ y
some_is x y e = cc e

pub was : (area : Which) (f : List ℕ → List ℕ) (old new : Option Contents) (c : Contents) → new ≡ option_map (λ both. holding area (f (held area both)) both) old → ReadsThere area new c → Was area f old c
was area f None new c is reads = let e : None ≡ Some (held area c) = sym (ap (option_map (held area)) is) ∙ reads in absurd (cc e)
was area f (Some both) new c is reads =
    let e : Some (held area (holding area (f (held area both)) both)) ≡ Some (held area c) = sym (ap (option_map (held area)) is) ∙ reads in
    record { both = both; told = refl; here = sym (some_is _ _ e) ∙ held-with area (f (held area both)) both }

-- where a byte was written and synced, an image is the one from area it came, with that byte
pub set_there : (at value : ℕ) (s d c : List ℕ) → at ≤ length s → c ≡ written at (value ∷ []) s → Torn at 1 d c → c ≡ written at (value ∷ []) d
set_there at value s d c le is torn =
    let front : take at c ≡ take at s = ap (take at) (is ∙ append_assoc (take at s) (value ∷ []) (drop (at + 1) s)) ∙ take_at (take at s) ((value ∷ []) ++ drop (at + 1) s) at (omega (arith, length-take at s, le)) in
    let back : drop (at + 1) c ≡ drop (at + 1) s =
    ap (drop (at + 1)) is ∙ drop_at (take at s ++ value ∷ []) (drop (at + 1) s) (at + 1) (omega (arith, length-append (take at s) (value ∷ []), length-take at s, le)) in
    let same_front : take at s ≡ take at d = sym front ∙ torn.before in
    let same_back : drop (at + 1) s ≡ drop (at + 1) d = sym back ∙ torn.after in
    is ∙ ap (λ l. l ++ (value ∷ []) ++ drop (at + 1) s) same_front ∙ ap (λ l. take at d ++ (value ∷ []) ++ l) same_back

pub set_came : (area : Which) (at value : ℕ) (old new : Option Contents) (from : Contents → Type 0) (c : Contents) → IfSome old (λ both. at ≤ length (held area both)) → new ≡ option_map (λ both. holding area (written at (value ∷ []) (held area both)) both) old
    → ReadsThere area new c → Came from (InArea area (Torn at 1)) c → Came from (InArea area (Becomes (written at (value ∷ [])))) c
set_came area at value old new from c fits is reads came =
    let w = was area (written at (value ∷ [])) old new c is reads in
    let le : at ≤ length (held area w.both) = subst (λ o. IfSome o (λ both. at ≤ length (held area both))) w.told fits in
    (came.0, came.1, record { here = set_there at value (held area w.both) (held area came.0) (held area c) le w.here came.2.here; there = came.2.there })

-- the same for a cut
pub trimmed_there : (n : ℕ) (s d c : List ℕ) → c ≡ take n s → Cut n d c → c ≡ take n d
trimmed_there n s d c is (inl same) = same ∙ sym (take_all n d (omega (arith, ap length same, ap length is, length-take n s)))
trimmed_there n s d c is (inr cut) = cut

pub trimmed_came : (area : Which) (n : ℕ) (old new : Option Contents) (from : Contents → Type 0) (c : Contents) → new ≡ option_map (λ both. holding area (take n (held area both)) both) old
    → ReadsThere area new c → Came from (InArea area (Cut n)) c → Came from (InArea area (Becomes (take n))) c
trimmed_came area n old new from c is reads came =
    let w = was area (take n) old new c is reads in
    (came.0, came.1, record { here = trimmed_there n (held area w.both) (held area came.0) (held area c) w.here came.2.here; there = came.2.there })
