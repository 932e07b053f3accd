-- A workspace that is opened from what was kept is sound.
use Rattle.std.proofs.Common.{◌≡◌, ℕ, Bool, true, false, cond, List, [], ◌∷◌, ◌++◌, map, refl, sym, ap, ◌∙◌, subst}
use Rattle.std.specs.Prelude.{Option, Some, None}
use Rattle.std.specs.FinMap.{find, get-from_entries}
use Rattle.std.specs.List.{AllByRecursion}
use Rattle.std.specs.Ordering.{is_eq}
use Rattle.ws_elem.specs.Stamps.{SameContents}
use Rattle.ws_elem.specs.Trees.{Tree, Whole}
use Rattle.op_kind.specs.Partners.{Partners}
use Rattle.op_kind.specs.Stamps.{IsKnown}
use Rattle.proj_desc.specs.Canonical.{IsCommandText}
use Rattle.res_path.specs.Paths.{Names}
use Rattle.ws_durable.specs.declared.built.Built.{Built}
use Rattle.ws_durable.specs.declared.durable.Durable.{Durable}
use Rattle.ws_durable.specs.declared.kept.Kept.{Kept}
use Rattle.ws_durable.specs.Saved.{Saved, SavedBuilt, SavedKept, built_trees, kept_trees, saved, saved_built, saved_kept, with_tree}
use Rattle.ws_marks.specs.declared.record.Record.{Record}
use Rattle.ws_marks.specs.declared.state.State.{State}
use Rattle.ws_marks.specs.Places.{Place, name_cmp, place_cmp, place_of}
use Rattle.ws_marks.proofs.Places.{name_cmp_total, place_cmp_total}
use Rattle.built_read.specs.Records.{HasCommand, record_of}
use Rattle.ws_content.specs.States.{Contents, at_names, at_places, shown_built, shown_kept}
use Rattle.ws_core.specs.Sessions.{AsBefore, AsBuilt, AsKept, AsStart, AsTold, IsConsistent, IsPast, IsSession}
use Rattle.ws_core.specs.States.{contents_of}
use Rattle.ws_core.specs.Opened.{IsOpenable, built_of, kept_of, opened_of, past_of, resources_of}
use Rattle.ws_core.specs.Inside.Kept.{state_of}

-- ---- what was built last

pub shown_so : (bs : List Built) → map shown_built (map record_of bs) ≡ map built_of (map saved_built bs)
shown_so [] = refl
shown_so (b ∷ bs) = ap (λ (rs : List (Record Tree)). built_of (saved_built b) ∷ rs) (shown_so bs)

pub commands_there : (bs : List Built) → AllByRecursion (λ (b : SavedBuilt). IsCommandText b.project b.command) (map saved_built bs) → AllByRecursion HasCommand bs
commands_there [] all = tt
commands_there (b ∷ bs) all = (all.0, commands_there bs all.1)

-- ---- what participants keep

pub kept_so : (ks : List Kept) → map shown_kept (map state_of ks) ≡ map kept_of (map saved_kept ks)
kept_so [] = refl
kept_so (k ∷ ks) = ap (λ (ss : List (State Tree)). kept_of (saved_kept k) ∷ ss) (kept_so ks)

-- ---- both

pub opened_contents : (d : Durable) (partners : Partners) (rs : List (Record Tree)) (ss : List (State Tree)) → partners ≡ d.partners → rs ≡ map built_of (map saved_built d.built)
    → ss ≡ map kept_of (map saved_kept d.kept)
    → ◌≡◌ {A = Contents}
    (record {
      resources = record { tree = d.tree.map; shelf = d.shelf.map; next_node = d.next_node; next_stamp = d.next_stamp; next_marker = d.next_marker; partners = partners };
      remembered = record { start = d.tree.map; told = d.tree.map; built = at_places rs; kept = at_names ss; before = None };
    })
    (contents_of (opened_of (saved d) []))
opened_contents d partners rs ss p q o = λ i. record {
  resources = record { tree = d.tree.map; shelf = d.shelf.map; next_node = d.next_node; next_stamp = d.next_stamp; next_marker = d.next_marker; partners = p i };
  remembered = record { start = d.tree.map; told = d.tree.map; built = at_places (q i); kept = at_names (o i); before = None };
}

-- ---- the trees that are remembered

none_some : {X : Type 0} (x : X) → ◌≡◌ {A = Option X} None (Some x) → ⊥
none_some x e = cc

some_same : (a b : Record Tree) → ◌≡◌ {A = Option (Record Tree)} (Some a) (Some b) → a ≡ b
some_same a b e = cc

one_of : (P : Tree → Type 0) (bs : List SavedBuilt) (place : Place) (r : Record Tree) → AllByRecursion P (built_trees bs)
    → find place_cmp place (map (λ (x : Record Tree). (place_of x, x)) (map built_of bs)) ≡ Some r → P r.tree
one_of P [] place r all e = absurd (none_some r e)
one_of P (b ∷ bs) place r all e = by (is_eq (place_cmp place (place_of (built_of b)))) e (one_of P bs place r all.1)
  where
    rest : Option (Record Tree)
    rest = find place_cmp place (map (λ (x : Record Tree). (place_of x, x)) (map built_of bs))

    by : (c : Bool) → cond c (Some (built_of b)) rest ≡ Some r → (rest ≡ Some r → P r.tree) → P r.tree
    by true g later = subst (λ (x : Record Tree). P x.tree) (some_same (built_of b) r g) all.0
    by false g later = later g

-- the tree that is kept stands among those that are
head_is : (P : Tree → Type 0) (o : Option Tree) (ts : List Tree) (t : Tree) → AllByRecursion P (with_tree o ts) → o ≡ Some t → P t
head_is P None ts t all e = absurd (none_some t e)
head_is P (Some u) ts t all e = let same : u ≡ t = cc in subst P same all.0

others : (P : Tree → Type 0) (o : Option Tree) (ts : List Tree) → AllByRecursion P (with_tree o ts) → AllByRecursion P ts
others P None ts all = all
others P (Some u) ts all = all.1

same_kept : (a b : State Tree) → ◌≡◌ {A = Option (State Tree)} (Some a) (Some b) → a ≡ b
same_kept a b e = cc

one_kept : (P : Tree → Type 0) (ks : List SavedKept) (name : List ℕ) (s : State Tree) (t : Tree) → AllByRecursion P (kept_trees ks)
    → find name_cmp name (map (λ (x : State Tree). (x.participant, x)) (map kept_of ks)) ≡ Some s → s.tree ≡ Some t → P t
one_kept P [] name s t all e has = absurd (none_some s e)
one_kept P (k ∷ ks) name s t all e has = by (is_eq (name_cmp name k.participant)) e (λ g. one_kept P ks name s t (others P k.tree (kept_trees ks) all) g has)
  where
    rest : Option (State Tree)
    rest = find name_cmp name (map (λ (x : State Tree). (x.participant, x)) (map kept_of ks))

    by : (c : Bool) → cond c (Some (kept_of k)) rest ≡ Some s → (rest ≡ Some s → P t) → P t
    by true g later = head_is P k.tree (kept_trees ks) t all (ap (λ (x : State Tree). x.tree) (same_kept (kept_of k) s g) ∙ has)
    by false g later = later g

front : (P : Tree → Type 0) (ts us : List Tree) → AllByRecursion P (ts ++ us) → AllByRecursion P ts
front P [] us all = tt
front P (t ∷ ts) us all = (all.0, front P ts us all.1)

back : (P : Tree → Type 0) (ts us : List Tree) → AllByRecursion P (ts ++ us) → AllByRecursion P us
back P [] us all = all
back P (t ∷ ts) us all = back P ts us all.1

among : (d : Saved) (builders : Names) (P : Tree → Type 0) → AllByRecursion P (past_of d) → (t : Tree) → IsPast (opened_of d builders).remembered t → P t
among d builders P all t (AsStart e) = subst P (sym e) all.0
among d builders P all t (AsTold e) = subst P (sym e) all.0
among d builders P all t (AsBuilt place r got e) =
    subst P (sym e) (one_of P d.built place r (front P (built_trees d.built) (kept_trees d.kept) all.1) (sym (get-from_entries place_cmp_total (map (λ (x : Record Tree). (place_of x, x)) (map built_of d.built)) place) ∙ got))
among d builders P all t (AsKept name s got e) =
    one_kept P d.kept name s t (back P (built_trees d.built) (kept_trees d.kept) all.1)
    (sym (get-from_entries name_cmp_total (map (λ (x : State Tree). (x.participant, x)) (map kept_of d.kept)) name) ∙ got) e
among d builders P all t (AsBefore before name s is got e) = absurd (none_some before is)

opened_sound : (d : Saved) (builders : Names) → IsOpenable d → IsConsistent (opened_of d builders)
opened_sound d builders is = record {
  resources = is.resources;
  whole = among d builders Whole is.whole;
  known = among d builders (IsKnown (resources_of d)) is.known;
  alike = λ t u p q. among d builders (SameContents t) (among d builders (λ (x : Tree). AllByRecursion (SameContents x) (past_of d)) is.alike t p) u q;
  apart = tt;
  quiet = λ _. refl;
}

pub opened_session : (d : Saved) (builders : Names) → IsOpenable d → IsSession (record { opened = opened_of d builders; history = []; state = opened_of d builders })
opened_session d builders is = record {
  opened_start = refl;
  opened_told = refl;
  start = refl;
  opened_sound = opened_sound d builders is;
  legal = record { replies = refl; entered = refl; events = refl };
  state = refl;
  sound = opened_sound d builders is;
}
