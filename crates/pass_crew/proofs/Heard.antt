-- What listeners are told, bit by bit.
use Rattle.std.proofs.Common.{◌≡◌, ℕ, List, [], ◌∷◌, ◌++◌, length, drop, map, Some, None, refl, ap, sym, ◌∙◌, subst, append_assoc, append-nil}
use Rattle.delta_kind.specs.declared.node.DeltaNode.{DeltaNode}
use Rattle.core_event.specs.declared.entry.Entry.{Entry}
use Rattle.ws_core.specs.Histories.{told_of}
use Rattle.ws_core.proofs.Grown.{told_of_append}
use Rattle.save_parts.specs.Heard.{Heard, heard_more, HeardMore}
use Rattle.pass_crew.specs.Heard.{HeardAll, HeardFront}
use Rattle.pass_crew.specs.Inside.Telling.{Tells, TellsFront}

one_none : (x : Heard) → heard_more [] x ≡ x
one_none None = refl
one_none (Some before) = ap Some (append-nil before)

one_both : (k l : List (List DeltaNode)) (x : Heard) → heard_more l (heard_more k x) ≡ heard_more (k ++ l) x
one_both k l None = refl
one_both k l (Some before) = ap Some (append_assoc before k l)

pub heard_none : (old : List Heard) → HeardMore [] old old
heard_none [] = refl
heard_none (x ∷ xs) = ap (λ y. y ∷ xs) (sym (one_none x)) ∙ ap (λ l. heard_more [] x ∷ l) (heard_none xs)

both : (k l : List (List DeltaNode)) (a : List Heard) → map (heard_more l) (map (heard_more k) a) ≡ map (heard_more (k ++ l)) a
both k l [] = refl
both k l (x ∷ xs) = ap (λ y. y ∷ map (heard_more l) (map (heard_more k) xs)) (one_both k l x) ∙ ap (λ ys. heard_more (k ++ l) x ∷ ys) (both k l xs)

heard_on : (k l : List (List DeltaNode)) (a b c : List Heard) → HeardMore k a b → HeardMore l b c → HeardMore (k ++ l) a c
heard_on k l a b c p q = q ∙ (ap (map (heard_more l)) p ∙ both k l a)

drop_front : (h l : List Entry) → drop (length h) (h ++ l) ≡ l
drop_front [] l = refl
drop_front (x ∷ h) l = drop_front h l

-- what was made since so many entries was told
pub tells_since : (h h' l : List Entry) (from : ℕ) (old new : List Heard) → from ≡ length h → h' ≡ h ++ l → HeardMore (told_of (drop from h')) old new → Tells h h' old new
tells_since h h' l from old new same e p = (
  l,
  e,
  subst (λ z. HeardMore (told_of z) old new) (ap (drop (length h)) e ∙ drop_front h l) (subst (λ n. HeardMore (told_of (drop n h')) old new) same p),
)

pub tells_none : (h : List Entry) (old : List Heard) → Tells h h old old
tells_none h old = ([], sym (append-nil h), heard_none old)

pub tells_on : (a b c : List Entry) (u v w : List Heard) → Tells a b u v → Tells b c v w → Tells a c u w
tells_on a b c u v w p q = (
  p.0 ++ q.0,
  q.1 ∙ (ap (λ l. l ++ q.0) p.1 ∙ append_assoc a p.0 q.0),
  subst (λ z. HeardMore z u w) (sym (told_of_append p.0 q.0)) (heard_on (told_of p.0) (told_of q.0) u v w p.2 q.2),
)

-- nothing more is told, though the history went on
pub tells_stop : (a b c m : List Entry) (u v w : List Heard) → Tells a b u v → c ≡ b ++ m → w ≡ v → TellsFront a c u w
tells_stop a b c m u v w p e same = (p.0, m, e ∙ ap (λ l. l ++ m) p.1, subst (λ z. HeardMore (told_of p.0) u z) (sym same) p.2)

pub tells_then : (a b c : List Entry) (u v w : List Heard) → Tells a b u v → TellsFront b c v w → TellsFront a c u w
tells_then a b c u v w p q = (
  p.0 ++ q.0,
  q.1,
  q.2 ∙ ap (λ l. l ++ q.1) (ap (λ l. l ++ q.0) p.1 ∙ append_assoc a p.0 q.0),
  subst (λ z. HeardMore z u w) (sym (told_of_append p.0 q.0)) (heard_on (told_of p.0) (told_of q.0) u v w p.2 q.3),
)

-- from the beginning on

pub heard_all : (a h : List Entry) (u v : List Heard) → a ≡ [] → Tells a h u v → HeardAll h u v
heard_all a h u v none p = subst (λ z. HeardMore (told_of z) u v) (sym (p.1 ∙ ap (λ l. l ++ p.0) none)) p.2

pub heard_front : (a h : List Entry) (u v : List Heard) → a ≡ [] → TellsFront a h u v → HeardFront h u v
heard_front a h u v none p = (p.0, p.1, p.2 ∙ ap (λ l. (l ++ p.0) ++ p.1) none, p.3)

-- nothing was told
pub heard_nothing : (h : List Entry) (u : List Heard) → HeardFront h u u
heard_nothing h u = ([], h, refl, heard_none u)
