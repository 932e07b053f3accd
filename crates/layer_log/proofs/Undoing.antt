-- Changes that are undone one after another.
use Rattle.std.proofs.Common.{◌≡◌, ◌≢◌, List, [], ◌∷◌, T, sym, ap, ◌∙◌, subst}
use Rattle.std.specs.Prelude.{Option, Some, None}
use Rattle.std.specs.FinMap.{get, entries, entries_sorted, get-entries, find, is_sorted, same_map}
use Rattle.res_path.specs.Paths.{Names, path_cmp}
use Rattle.res_path.specs.PathLaws.{path_cmp_total}
use Rattle.res_path.proofs.Prefixes.{path_cmp_exact}
use Rattle.ws_elem.specs.Trees.{Tree, set_at}
use Rattle.ws_elem.specs.declared.element.Element.{Element}
use Rattle.layer_log.specs.declared.change.Change.{Change}
use Rattle.layer_log.specs.Records.{Records, Turns, Leads, first_entry, recorded}
use Rattle.layer_log.proofs.Looks.{put_here, put_elsewhere, gone_here, gone_elsewhere, path_cases, find_first, find_later, sorted_tail, none_after}

set_here : (t : Tree) (p : Names) (x : Option Element) → get (set_at t p x) p ≡ x
set_here t p None = gone_here t p
set_here t p (Some e) = put_here t p e

set_elsewhere : (t : Tree) (p q : Names) (x : Option Element) → q ≢ p → get (set_at t p x) q ≡ get t q
set_elsewhere t p q None h = gone_elsewhere t p q h
set_elsewhere t p q (Some e) h = put_elsewhere t p q e h

-- the changes that are left lead to this tree from that before
pub record Undoing (before : Tree) (rest : List (Names × Change)) (now : Tree) : Type 0 where
  pub sorted : T (is_sorted path_cmp rest)
  pub each : (q : Names) → first_entry (find path_cmp q rest) (get now q) ≡ get before q

-- the entry with which the changes begin is that of the tree from which they lead
first_turn : (x y : Option Element) (r : Option Change) → Turns x r y → first_entry r y ≡ x
first_turn x y None t = sym t
first_turn x y (Some r) t = t.0

pub undoing_begins : (a b : Tree) (c : Records) → Leads a c b → Undoing a (entries c) b
undoing_begins a b c h = record {
  sorted = entries_sorted c;
  each = λ q. subst (λ r. first_entry r (get b q) ≡ get a q) (get-entries c q) (first_turn (get a q) (get b q) (get c q) (h q));
}

pub undoing_steps : (a now later : Tree) (e : Names × Change) (rest : List (Names × Change)) → Undoing a (e ∷ rest) now → later ≡ set_at now e.0 e.1.before → Undoing a rest later
undoing_steps a now later e rest u is = record {
  sorted = sorted_tail e rest u.sorted;
  each = λ q. path_cases q e.0
      (λ same. subst (λ x. first_entry (find path_cmp x rest) (get later x) ≡ get a x) (sym same)
      (subst (λ r. first_entry r (get later e.0) ≡ get a e.0) (sym (none_after e rest u.sorted))
      (ap (λ t. get t e.0) is ∙ set_here now e.0 e.1.before ∙ subst (λ r. first_entry r (get now e.0) ≡ get a e.0) (find_first e rest) (u.each e.0))))
      (λ other. ap (first_entry (find path_cmp q rest)) (ap (λ t. get t q) is ∙ set_elsewhere now e.0 q e.1.before other) ∙ subst (λ r. first_entry r (get now q) ≡ get a q) (find_later q e rest other) (u.each q));
}

pub undoing_ends : (a now : Tree) → Undoing a [] now → now ≡ a
undoing_ends a now u = same_map path_cmp_total path_cmp_exact now a u.each

-- one more change leads to the tree with that entry
pub leads_on : (a b : Tree) (c : Records) (p : Names) (x y : Option Element) → Leads a c b → get b p ≡ x → Leads a (recorded c p x y) (set_at b p y)
leads_on a b c p x y h is q = path_cases q p
    (λ same. subst (λ z. Turns (get a z) (get (recorded c p x y) z) (get (set_at b p y) z)) (sym same)
    (subst (λ r. Turns (get a p) r (get (set_at b p y) p)) (sym (put_here c p (record { before = first_entry (get c p) x; after = y })))
    (ap (first_entry (get c p)) (sym is) ∙ first_turn (get a p) (get b p) (get c p) (h p), sym (set_here b p y))))
    (λ other. subst (λ r. Turns (get a q) r (get (set_at b p y) q)) (sym (put_elsewhere c p q (record { before = first_entry (get c p) x; after = y }) other))
    (subst (Turns (get a q) (get c q)) (sym (set_elsewhere b p q y other)) (h q)))
