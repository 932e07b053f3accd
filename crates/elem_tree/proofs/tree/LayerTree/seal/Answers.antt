use Rattle.std.proofs.Common.{rules, ◌≡◌, ◌<◌, ◌++◌, ◌∷◌, [], List, refl, sym, ap, subst, ◌∙◌}
use Rattle.std.specs.Prelude.{Some, IfSome}
use Rattle.std.specs.FinMap as map
use Rattle.ws_elem.specs.Rooms.{Room}
use Rattle.ws_elem.specs.Trees.{Tree}
use Rattle.elem_tree.specs.Layers as seen
use Rattle.elem_tree.specs.Layers.{LayeredTree, tree_at, tree_of_first, from_mark}
use Rattle.elem_tree.specs.Inside.Shown.{shown_all, with_current}
use Rattle.elem_tree.proofs.Seals.{below_shown, sealed_kept, sealed_shown}
use Rattle.elem_tree.proofs.Trees.{marks_more, no_mark, own_mark}
use Rattle.elem_tree.proofs.tree.LayerTree.seal.Goals as goal

abbrev seen_with : Tree → Room → List seen.Layer → LayeredTree
seen_with t room ls = record { map = t; room = room; layers = ls }

greater : (c : goal.After-self-2-1) → c.self.inside.next < c.in-Some.next
greater c = search (rules, c.in-Some.ensures)

pub invariant_of-self-2 : goal.invariant_of-self-2
invariant_of-self-2 c =
    sealed_kept c.self.inside.layers.items c.end_layer.new.layers.items c.self.inside.current c.roomy.result.now c.self.inside.next c.in-Some.next c.self.inside.newest.map c.self.inside.newest.room
    c.in_ok-notes.notes c.roomy.ensures c.self.invariant c.in_ok-end_layer.ensures.ok (greater c) c.in_ok-notes.ensures.ready

pub returns-clause-ok : goal.returns-clause-ok
returns-clause-ok c =
    ap (λ (ls : List seen.Layer). seen_with c.self.inside.newest.map c.self.inside.newest.room ls)
    (sealed_shown c.self.inside.layers.items c.end_layer.new.layers.items c.self.inside.current c.roomy.result.now c.self.inside.next c.in_ok-notes.notes c.in_ok-end_layer.ensures.ok c.in_ok-notes.ensures.none)
    ∙ ap (λ (v : LayeredTree). seen_with v.map v.room (v.layers ++ record { mark = c.self.inside.next; befores = map.empty } ∷ [])) c.self.view_is

pub returns-clause-fresh : goal.returns-clause-fresh
returns-clause-fresh c =
    ap (λ v. tree_at v c.self.inside.next) (sym c.self.view_is)
    ∙ ap (tree_of_first c.self.inside.newest.map) (no_mark c.self.inside.next (shown_all (with_current c.self.inside.layers.items c.self.inside.current))
    (below_shown c.self.inside.next (with_current c.self.inside.layers.items c.self.inside.current) c.self.invariant.below))

pub returns-clause-own : goal.returns-clause-own
returns-clause-own c =
    ap (λ ls. tree_of_first c.self.inside.newest.map (from_mark c.self.inside.next ls))
    (sealed_shown c.self.inside.layers.items c.end_layer.new.layers.items c.self.inside.current c.roomy.result.now c.self.inside.next c.in_ok-notes.notes c.in_ok-end_layer.ensures.ok c.in_ok-notes.ensures.none)
    ∙ own_mark c.self.inside.newest.map c.self.inside.next (record { mark = c.self.inside.next; befores = map.empty }) refl refl (shown_all (with_current c.self.inside.layers.items c.self.inside.current))
    (below_shown c.self.inside.next (with_current c.self.inside.layers.items c.self.inside.current) c.self.invariant.below)

pub returns-clause-marks : goal.returns-clause-marks
returns-clause-marks c m =
    let old : List seen.Layer = shown_all (with_current c.self.inside.layers.items c.self.inside.current) in
    let new : List seen.Layer = shown_all (with_current c.end_layer.new.layers.items (Some (record { mark = c.self.inside.next; notes = c.in_ok-notes.notes }))) in
    subst (λ (v : LayeredTree). IfSome (tree_at v m) (λ t. tree_of_first c.self.inside.newest.map (from_mark m new) ≡ Some t)) c.self.view_is
    (subst (λ ls. IfSome (tree_of_first c.self.inside.newest.map (from_mark m old)) (λ t. tree_of_first c.self.inside.newest.map (from_mark m ls) ≡ Some t))
    (sym (sealed_shown c.self.inside.layers.items c.end_layer.new.layers.items c.self.inside.current c.roomy.result.now c.self.inside.next c.in_ok-notes.notes c.in_ok-end_layer.ensures.ok c.in_ok-notes.ensures.none))
    (marks_more c.self.inside.newest.map (record { mark = c.self.inside.next; befores = map.empty }) refl old m))
