-- Texts that are printed one after another.
use Rattle.std.proofs.Common.{◌≡◌, ℕ, List, [], ◌∷◌, ◌++◌, length, drop, Option, refl, sym, ◌∙◌, ap, subst, ◌+◌, ◌<◌, slice_index_or}
use Rattle.std.specs.Prelude.{Result, Ok, Err}
use Rattle.std.specs.List.{flat_map}
use Rattle.ws_outside.specs.Faults.{Rose}
use Rattle.ws_outside.specs.Streams.{Gains, GainsFront}
use Rattle.run_text.specs.declared.writing.Unwritten.{Unwritten}
use Rattle.run_text.specs.declared.writing.Unwritten.TheVariants.{Fault, Memory}
use Rattle.run_text.specs.Printing.{IsCause, PrintsAll, PrintsFront, Printed}
use Rattle.run_text.proofs.Printed.{prints_none, prints_all, prints_more, prints_after, prints_end, prints_in, prints_next, some_none, some_after, some_more, some_before, some_in, some_next, some_of}

-- a cause that comes later, where no write failed before
cause_on : (e : Unwritten) (f g h : ℕ) → g ≡ f → IsCause e g h → IsCause e f h
cause_on e f g h c k = subst (λ (n : ℕ). IsCause e n h) c k

-- nothing is printed
pub all_none : (a : Option (List ℕ)) (f : ℕ) (p : List ℕ) → PrintsAll a a f f p [] p
all_none a f p = record { printed = prints_none a p [] p (sym (nothing p)); calm = refl }
  where
    nothing : (xs : List ℕ) → xs ++ [] ≡ xs
    nothing [] = refl
    nothing (x ∷ xs) = ap (λ ys. x ∷ ys) (nothing xs)

-- all that waited is written
pub all_written : (a b : Option (List ℕ)) (f g : ℕ) (p q : List ℕ) → Gains a p b → q ≡ [] → g ≡ f → PrintsAll a b f g p [] q
all_written a b f g p q w e c = record { printed = prints_all a b p q w e; calm = c }

-- a write of it fails
pub front_written : (a b : Option (List ℕ)) (f g : ℕ) (p : List ℕ) → GainsFront a p b → Rose f g → PrintsFront a b f g p [] Fault
front_written a b f g p w r = record { some = some_of a b p w; cause = r }

-- memory wants before anything is written
pub front_none : (a : Option (List ℕ)) (f : ℕ) (p t : List ℕ) → PrintsFront a a f f p t Memory
front_none a f p t = record { some = some_none a a p t refl; cause = refl }

-- a text that was gathered is printed
pub after_put : (a b : Option (List ℕ)) (f g : ℕ) (p t m q : List ℕ) (r : Result (Unit {0}) Unwritten) → m ≡ p ++ t → Printed a b f g m [] q r → Printed a b f g p t q r
after_put a b f g p t m q (Ok x) e h = record { printed = prints_after a b p t m q e h.printed; calm = h.calm }
after_put a b f g p t m q (Err x) e h = record { some = some_after a b p t m e h.some; cause = h.cause }

-- one text after another
pub and_then : (a b c : Option (List ℕ)) (f g h : ℕ) (p t q u l : List ℕ) (r : Result (Unit {0}) Unwritten) → PrintsAll a b f g p t q → Printed b c g h q u l r → Printed a c f h p (t ++ u) l r
and_then a b c f g h p t q u l (Ok x) d e = record { printed = prints_more a b c p t q u l d.printed e.printed; calm = e.calm ∙ d.calm }
and_then a b c f g h p t q u l (Err x) d e = record { some = some_more a b c p t q u d.printed e.some; cause = cause_on x f g h d.calm e.cause }

-- the first of two texts isn't printed whole
pub but_first : (a b : Option (List ℕ)) (f g : ℕ) (p t u : List ℕ) (e : Unwritten) → PrintsFront a b f g p t e → PrintsFront a b f g p (t ++ u) e
but_first a b f g p t u e d = record { some = some_before a b p t u d.some; cause = d.cause }

-- the texts of these items are left to print
pub left_at_start : (a : Option (List ℕ)) (f : ℕ) (p t : List ℕ) → PrintsAll a a f f p t (p ++ t)
left_at_start a f p t = record { printed = prints_none a p t (p ++ t) refl; calm = refl }

pub left_after : {A : Type 0} (a b c : Option (List ℕ)) (f g h : ℕ) (p q r : List ℕ) (text : A → List ℕ) (xs : List A) (i : ℕ) (x : A) → i < length xs → x ≡ slice_index_or xs i x
    → PrintsAll a b f g p (flat_map text xs) (q ++ flat_map text (drop i xs)) → PrintsAll b c g h q (text x) r → PrintsAll a c f h p (flat_map text xs) (r ++ flat_map text (drop (i + 1) xs))
left_after a b c f g h p q r text xs i x l e d n = record { printed = prints_in a b c p q r text xs i x l e d.printed n.printed; calm = n.calm ∙ d.calm }

pub left_at_end : (a b : Option (List ℕ)) (f g : ℕ) (p t q : List ℕ) → PrintsAll a b f g p t (q ++ []) → PrintsAll a b f g p t q
left_at_end a b f g p t q d = record { printed = prints_end a b p t q d.printed; calm = d.calm }

-- the printing ends at one item
pub ends_at : {A : Type 0} (a b c : Option (List ℕ)) (f g h : ℕ) (p q : List ℕ) (text : A → List ℕ) (xs : List A) (i : ℕ) (x : A) (e : Unwritten) → i < length xs → x ≡ slice_index_or xs i x
    → PrintsAll a b f g p (flat_map text xs) (q ++ flat_map text (drop i xs)) → PrintsFront b c g h q (text x) e → PrintsFront a c f h p (flat_map text xs) e
ends_at a b c f g h p q text xs i x e l k d n = record { some = some_in a b c p q text xs i x l k d.printed n.some; cause = cause_on e f g h d.calm n.cause }

-- of a text a part was left to print, of which the front is printed now
pub left_next : (a b c : Option (List ℕ)) (f g h : ℕ) (p t q u r l : List ℕ) → PrintsAll a b f g p t (q ++ (u ++ r)) → PrintsAll b c g h q u l → PrintsAll a c f h p t (l ++ r)
left_next a b c f g h p t q u r l d n = record { printed = prints_next a b c p t q u r l d.printed n.printed; calm = n.calm ∙ d.calm }

-- the printing ends in this front
pub ends_in : (a b c : Option (List ℕ)) (f g h : ℕ) (p t q u r : List ℕ) (e : Unwritten) → PrintsAll a b f g p t (q ++ (u ++ r)) → PrintsFront b c g h q u e → PrintsFront a c f h p t e
ends_in a b c f g h p t q u r e d n = record { some = some_next a b c p t q u r d.printed n.some; cause = cause_on e f g h d.calm n.cause }
