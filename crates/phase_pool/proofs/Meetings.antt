-- How all passes meet, one after another.
use Rattle.std.proofs.Common.{◌≡◌, ◌∙◌, inl, inr, ◌<◌, ◌+◌, ℕ, Bool, List, [], ◌∷◌, ◌++◌, length, map, take, get_or, refl, sym, ap, subst}
use Rattle.std.specs.List.{AllByRecursion}
use Rattle.std.proofs.lemmas.List.{take_more}
use Rattle.core_event.specs.declared.entry.Entry.{Entry}
use Rattle.job_pool.specs.Workers.{Pairs}
use Rattle.run_order.specs.Lists.{Begins}
use Rattle.run_order.proofs.Lists.{begins_on}
use Rattle.phase_pool.specs.Passes.{Known, Meets}
use Rattle.phase_pool.specs.Workers.{Hand}
use Rattle.phase_pool.specs.Inside.Meeting.{Collects, Gathers, HasSeen, IsOfOne}
use Rattle.phase_pool.proofs.Passes.{begins_both, looks_same, makes_looks}

-- ---- pass 0 collects

pub collects_none : (k : Known) → Collects k [] k
collects_none k = record { looks = looks_same k; begin = tt; one = inl refl }

one_of_more : (h : List Entry) (xs : List Hand) (v : Hand) → IsOfOne h xs → IsOfOne h (xs ++ v ∷ [])
one_of_more h [] v p = absurd p
one_of_more h (x ∷ xs) v p = elim p [ inl e ↦ inl e | inr q ↦ inr (one_of_more h xs v q) ]

one_of_last : (h : List Entry) (xs : List Hand) (v : Hand) → h ≡ v.known.seen → IsOfOne h (xs ++ v ∷ [])
one_of_last h [] v e = inl e
one_of_last h (x ∷ xs) v e = inr (one_of_last h xs v e)

begin_more : (h h' : List Entry) (xs : List Hand) (v : Hand) → Begins h h' → Begins v.known.seen h' → AllByRecursion (λ w. Begins w.known.seen h) xs → AllByRecursion (λ w. Begins w.known.seen h') (xs ++ v ∷ [])
begin_more h h' [] v b c all = (c, tt)
begin_more h h' (x ∷ xs) v b c all = (begins_on x.known.seen h h' all.0 b, begin_more h h' xs v b c all.1)

collects_one : (k k' k'' : Known) (xs : List Hand) (v : Hand) → Collects k xs k' → Meets k' v.known k'' → Collects k (xs ++ v ∷ []) k''
collects_one k k' k'' xs v c m = record {
  looks = makes_looks (λ h. h ≡ []) k k' k'' c.looks m.looks;
  begin = begin_more k'.seen k''.seen xs v m.looks.begins m.begins c.begin;
  one = elim m.one [
    | inl e ↦ elim c.one [ inl f ↦ inl (e ∙ f) | inr o ↦ inr (one_of_more k''.seen xs v (subst (λ h. IsOfOne h xs) (sym e) o)) ]
    | inr e ↦ inr (one_of_last k''.seen xs v e)
  ];
}

module _ {W : Type 0} (f : W → Hand) where
  map_more : (xs ys : List W) → map f (xs ++ ys) ≡ map f xs ++ map f ys
  map_more [] ys = refl
  map_more (x ∷ xs) ys = ap (λ l. f x ∷ l) (map_more xs ys)

  pub collects_next : (k k' k'' : Known) (ws : List W) (i : ℕ) (d : W) → i < length ws → Collects k (map f (take i ws)) k' → Meets k' (f (get_or ws i d)).known k'' → Collects k (map f (take (i + 1) ws)) k''
  collects_next k k' k'' ws i d lt c m = subst (λ l. Collects k l k'') (sym (ap (map f) (take_more ws i d lt) ∙ map_more (take i ws) (get_or ws i d ∷ [])))
      (collects_one k k' k'' (map f (take i ws)) (f (get_or ws i d)) c m)

-- ---- and tells

abbrev as_hand : Known → Bool → Hand
as_hand k b = record { known = k; stopped = b }

pub same_hand : (k k' : Known) (b : Bool) → k' ≡ k → as_hand k' b ≡ as_hand k b
same_hand k k' b e = ap (λ z. as_hand z b) e

pub has_seen : (k : Known) (v w : Hand) → Begins v.known.seen k.seen → Meets v.known k w.known → w.stopped ≡ v.stopped → HasSeen k.seen v w
has_seen k v w b m s = record {
  looks = m.looks;
  stopped = s;
  seen = elim m.one [
    | inl e ↦ e ∙ sym (begins_both v.known.seen k.seen b (subst (Begins k.seen) e m.begins))
    | inr e ↦ e
  ];
}

pub gathers : (k k' : Known) (vs ws : List Hand) → Collects k vs k' → Pairs (HasSeen k'.seen) vs ws → Gathers k k' vs ws
gathers k k' vs ws c p = record { looks = c.looks; workers = p; one = c.one }
