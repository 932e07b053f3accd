use Rattle.std.proofs.Common.{◌≡◌, refl, sym, ap, subst, ◌∙◌, ◌++◌, ◌∷◌, []}
use Rattle.std.specs.FinMap as map
use Rattle.layer_log.proofs.Looks.{gone_elsewhere}
use Rattle.elem_tree.specs.Layers.{LayeredTree, noted, tree_at, undone}
use Rattle.elem_tree.specs.Inside.Slots.{befores_of}
use Rattle.elem_tree.specs.Inside.Shown.{IsKept, shown_all, with_current}
use Rattle.elem_tree.proofs.Seals.{current_kept, marks_shown, noted_shown}
use Rattle.elem_tree.proofs.Since.{on_ok, outcome}
use Rattle.elem_tree.proofs.Trees.{undone_same}
use Rattle.elem_tree.proofs.tree.LayerTree.take.Goals as goal

seen : (c : goal.After-take_noted) → ◌≡◌ {A = LayeredTree} (record { map = c.self.inside.newest.map; room = c.self.inside.newest.room; layers = shown_all (c.self.inside.layers.items ++ c.in-Some.current ∷ []) }) c.args.self.now
seen c = ap (λ k. record { map = c.self.inside.newest.map; room = c.self.inside.newest.room; layers = shown_all (with_current c.self.inside.layers.items k) }) (sym c.in-Some.is) ∙ c.self.view_is

pub invariant_of-self : goal.invariant_of-self
invariant_of-self c =
    current_kept c.self.inside.layers.items c.in-Some.current (record { mark = c.in-Some.current.mark; notes = c.take_noted.new.notes }) c.self.inside.next c.self.inside.newest.map c.take_noted.new.newest.map
    c.self.inside.newest.room c.take_noted.new.newest.room (subst (λ k. IsKept c.self.inside.layers.items k c.self.inside.next c.self.inside.newest.map c.self.inside.newest.room) c.in-Some.is c.self.invariant)
    refl c.take_noted.ensures.ready

pub returns-in-Some-clause-noted : goal.returns-in-Some-clause-noted
returns-in-Some-clause-noted c =
    on_ok c.take_noted.result c.take_noted.ensures.noted (λ h.
    noted_shown c.self.inside.layers.items c.in-Some.current (record { mark = c.in-Some.current.mark; notes = c.take_noted.new.notes }) c.args.path.now (map.get c.self.inside.newest.map c.args.path.now) refl h
    ∙ ap (λ v. noted v.layers c.args.path.now (map.get v.map c.args.path.now)) (seen c))

pub returns-in-Some-clause-marks : goal.returns-in-Some-clause-marks
returns-in-Some-clause-marks c m =
    marks_shown c.self.inside.layers.items c.in-Some.current (record { mark = c.in-Some.current.mark; notes = c.take_noted.new.notes }) c.self.inside.newest.map c.take_noted.new.newest.map refl
    (outcome c.take_noted.result c.take_noted.ensures.ok c.take_noted.ensures.noted c.take_noted.ensures.err
    (λ after g. undone_same c.self.inside.newest.map c.take_noted.new.newest.map (befores_of c.in-Some.current.notes) (befores_of c.take_noted.new.notes) c.args.path.now
    (λ q h. ap (λ t. map.get t q) after ∙ gone_elsewhere c.self.inside.newest.map c.args.path.now q h) g)
    (λ h. (λ i. undone (h.0 i) (h.1 i))))
    m
    ∙ ap (λ v. tree_at v m) (seen c)
