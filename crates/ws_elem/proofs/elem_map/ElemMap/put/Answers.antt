use Rattle.std.proofs.Common.{◌≡◌, ◌≤◌, ◌<◌, ◌+◌, ℕ, arith, ap, sym, subst, ◌∙◌, length}
use Rattle.std.specs.Option.{option_flatten}
use Rattle.std.specs.Prelude.{Result, Ok, Err, OnErr}
use Rattle.std.specs.FinMap as map
use Rattle.ws_elem.specs.Rooms.{has_room}
use Rattle.ws_elem.specs.Inside.Slots.{IsKept}
use Rattle.ws_elem.proofs.Kept.{get-tree_of, after_put, kept_new, kept_over, no_slot, never_none}
use Rattle.ws_elem.proofs.Filled.{len-tree_of}
use Rattle.ws_elem.proofs.elem_map.ElemMap.put.Goals as goal

pub returns-in_err-insert-clause-absent : goal.returns-in_err-insert-clause-absent
returns-in_err-insert-clause-absent c = on_err c.from_residual.result (
    ap (λ m. map.contains_key m.map c.args.path) (sym c.self.view_is)
    ∙ no_slot c.self.inside.slots.entries c.self.inside.room c.args.path c.in_err-insert.ensures.absent)
  where
    on_err : {T E P : Type 0} (r : Result T E) → P → OnErr r P
    on_err (Ok x) p = tt
    on_err (Err e) p = p

pub returns-in_err-insert-clause-never : goal.returns-in_err-insert-clause-never
returns-in_err-insert-clause-never c h =
    never_none c.self.inside.slots.entries c.self.inside.room c.args.path c.self.invariant.roomy c.in_err-insert.ensures.absent
    (ap (λ m. has_room m.room c.args.path) c.self.view_is ∙ h)

pub invariant_of-self-in-Some : goal.invariant_of-self-in-Some
invariant_of-self-in-Some c =
    kept_over c.self.inside.slots.entries c.insert.new.self.entries c.self.inside.room c.self.inside.elements c.args.path c.args.element c.in-Some.before
    c.self.invariant c.in_ok-insert.ensures.updates.0
    (ap option_flatten (sym c.in_ok-insert.ensures.old) ∙ sym c.flatten-before.ensures ∙ c.in-Some.is)

pub one_more-self-inside-requires : goal.one_more-self-inside-requires
one_more-self-inside-requires c =
    let kept : IsKept c.insert.new.self.entries c.self.inside.room (c.self.inside.elements + 1) =
    kept_new c.self.inside.slots.entries c.insert.new.self.entries c.self.inside.room c.self.inside.elements c.args.path c.args.element
    c.self.invariant c.in_ok-insert.ensures.updates.0
    (ap option_flatten (sym c.in_ok-insert.ensures.old) ∙ sym c.flatten-before.ensures ∙ c.in-None.is) in
    below c.self.inside.elements _ (length c.insert.new.self.entries) kept.counted (len-tree_of c.insert.new.self.entries)
  where
    below : (n m k : ℕ) → n + 1 ≡ m → m ≤ k → n < k
    below n m k h g = omega arith

pub invariant_of-self-in-None : goal.invariant_of-self-in-None
invariant_of-self-in-None c =
    subst (IsKept c.insert.new.self.entries c.self.inside.room) (sym c.one_more-self-inside.ensures)
    (kept_new c.self.inside.slots.entries c.insert.new.self.entries c.self.inside.room c.self.inside.elements c.args.path c.args.element
    c.self.invariant c.in_ok-insert.ensures.updates.0
    (ap option_flatten (sym c.in_ok-insert.ensures.old) ∙ sym c.flatten-before.ensures ∙ c.in-None.is))

pub returns-in-Some-clause-before : goal.returns-in-Some-clause-before
returns-in-Some-clause-before c =
    sym c.in-Some.is ∙ c.flatten-before.ensures ∙ ap option_flatten c.in_ok-insert.ensures.old
    ∙ sym (get-tree_of c.self.inside.slots.entries c.args.path) ∙ ap (λ m. map.get m.map c.args.path) c.self.view_is

pub returns-in-Some-clause-ok : goal.returns-in-Some-clause-ok
returns-in-Some-clause-ok c =
    after_put c.self.inside.slots.entries c.insert.new.self.entries c.self.inside.room c.self.inside.elements c.args.path c.args.element c.in_ok-insert.ensures.updates.0
    ∙ ap (λ m. map.insert m.map c.args.path c.args.element) c.self.view_is

pub returns-in-None-clause-before : goal.returns-in-None-clause-before
returns-in-None-clause-before c =
    sym c.in-None.is ∙ c.flatten-before.ensures ∙ ap option_flatten c.in_ok-insert.ensures.old
    ∙ sym (get-tree_of c.self.inside.slots.entries c.args.path) ∙ ap (λ m. map.get m.map c.args.path) c.self.view_is

pub returns-in-None-clause-ok : goal.returns-in-None-clause-ok
returns-in-None-clause-ok c =
    after_put c.self.inside.slots.entries c.insert.new.self.entries c.self.inside.room c.self.inside.elements c.args.path c.args.element c.in_ok-insert.ensures.updates.0
    ∙ ap (λ m. map.insert m.map c.args.path c.args.element) c.self.view_is
