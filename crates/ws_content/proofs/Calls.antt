-- What calls answer, and what they leave.
use Rattle.std.proofs.Common.{◌≡◌, ◌≢◌, inl, inr, ℕ, Bool, true, false, ◌&&◌, not, List, [], ◌∷◌, length, arith, refl, sym, ap, ◌∙◌, subst}
use Rattle.std.specs.Prelude.{Option, Some, None, is_some, IsSome, IfSome, Result, Ok, Err, IfOk, IfErr, OnOk, OnErr, unwrap_or, if◌then◌else◌}
use Rattle.std.specs.Option.{option_map, option_or}
use Rattle.std.specs.declared.alloc.AllocError.{AllocError}
use Rattle.std.specs.FinMap.{empty, get, get-empty, same_map}
use Rattle.res_path.specs.Paths.{Names, path_eq}
use Rattle.ws_elem.specs.Trees.{Tree}
use Rattle.proj_desc.specs.declared.desc.Desc.{Desc}
use Rattle.proj_desc.specs.Canonical.{described}
use Rattle.proj_desc.specs.Causes.{desc_cause}
use Rattle.delta_kind.specs.declared.node.DeltaNode.{DeltaNode}
use Rattle.delta_kind.specs.Deltas.{cut, delta}
use Rattle.delta_kind.proofs.Same.{tells_no_change}
use Rattle.op_kind.specs.declared.op.Op.{Op}
use Rattle.op_kind.specs.declared.op.Op.TheVariants.{CreateFile, CreateFolder, CreateProject, Delete, Write, Touch, Derived, Move, Copy, Open, Close, Describe, Forget, Mark, Attr, Unmark, ClearMarks, Partner, Sync, Flush, Read}
use Rattle.op_kind.specs.declared.refusal.OpError.{OpError}
use Rattle.op_kind.specs.declared.refusal.OpError.TheVariants as op_errors
use Rattle.op_kind.specs.declared.refusal.OpRefusal.{OpRefusal}
use Rattle.op_kind.specs.declared.refusal.OpRefusal.TheVariants.{BadDescription, NumbersUsed, WrongKind}
use Rattle.proj_desc.specs.FirstCause.{when}
use Rattle.op_kind.specs.Judging as op_judging
use Rattle.op_kind.specs.Places.{is_project_path, project_name}
use Rattle.op_kind.specs.Problems.{command_count}
use Rattle.op_kind.specs.Refusals as ops
use Rattle.op_kind.specs.Refusals.{is_spent}
use Rattle.op_kind.specs.Resources.{Resources}
use Rattle.output_edits.specs.declared.refusal.EditError.{EditError}
use Rattle.output_edits.specs.declared.refusal.EditError.TheVariants as edit_errors
use Rattle.output_edits.specs.declared.refusal.EditRefusal.{EditRefusal}
use Rattle.output_edits.specs.Judging as edit_judging
use Rattle.core_event.specs.declared.reply.Answer.TheVariants.{Refused}
use Rattle.core_event.specs.declared.reply.Refusal.{Refusal}
use Rattle.core_event.specs.declared.reply.Refusal.TheVariants.{Operation}
use Rattle.core_event.specs.declared.reply.Reply.{Reply}
use Rattle.core_event.specs.declared.twice.Twice.{Twice}
use Rattle.core_event.specs.Replies.{some_nodes}
use Rattle.core_event.specs.Twice.{doubled, twice}
use Rattle.builder_api.specs.declared.kind.BuildKind.{BuildKind}
use Rattle.builder_api.specs.Lawful.{scope}
use Rattle.build_laws.specs.States.{due_delta, is_whole, item, same_command}
use Rattle.build_due.specs.declared.site.Site.{Site}
use Rattle.ws_marks.specs.declared.record.Record.{Record}
use Rattle.ws_marks.specs.Marked.{Marked, told_alone}
use Rattle.ws_marks.specs.Places.{Place, Records, name_cmp, place_cmp}
use Rattle.ws_marks.proofs.Places.{place_cmp_exact, place_cmp_total}
use Rattle.ws_content.specs.States.{Contents, Remembered, tree_alone, with_built}
use Rattle.ws_content.specs.Deeds.{Deed, From, all_from, edit_refusal, kept_if, made, replied, reply_of, told_if}
use Rattle.ws_content.specs.Handing.{built_of, since}
use Rattle.ws_content.specs.Inside.Held.{AreHeld, Holds, in_memory, resolved, retreed, seen, tree_of}
use Rattle.ws_content.specs.Inside.Slots.{AreApart, IsIn, Slot, Slots, AtStart, AtTold, AtBuilt, AtKept, AtReplaced, number_in, number_of}
use Rattle.ws_content.specs.Inside.Parts.{IsDescribed, TellsEdits, TellsOperation, refused_reply}
use Rattle.ws_content.proofs.Holding.{built_used}
use Rattle.ws_content.proofs.Resolved.{get_resolved, no_states}
use Rattle.ws_content.proofs.Slots.{other_than, set, set_apart, set_in}

-- ---- results

pub on_done : {T E : Type 0} {P Q : Type 0} (r : Result T E) → (P → Q) → OnOk r P → OnOk r Q
on_done (Ok x) f p = f p
on_done (Err e) f p = tt

pub on_both : {T E : Type 0} {P Q R : Type 0} (r : Result T E) → (P → Q → R) → OnOk r P → OnOk r Q → OnOk r R
on_both (Ok x) f p q = f p q
on_both (Err e) f p q = tt

pub on_not : {T E : Type 0} {P Q : Type 0} (r : Result T E) → (P → Q) → OnErr r P → OnErr r Q
on_not (Ok x) f p = tt
on_not (Err e) f p = f p

pub not_both : {T E : Type 0} {P Q R : Type 0} (r : Result T E) → (P → Q → R) → OnErr r P → OnErr r Q → OnErr r R
not_both (Ok x) f p q = tt
not_both (Err e) f p q = f p q

pub if_both : {T E : Type 0} {P : Type 0} {Q R : T → Type 0} (r : Result T E) → (P → (x : T) → Q x → R x) → OnOk r P → IfOk r Q → IfOk r R
if_both (Ok x) f p q = f p x q
if_both (Err e) f p q = tt

pub if_done : {T E : Type 0} {Q R : T → Type 0} (r : Result T E) → ((x : T) → Q x → R x) → IfOk r Q → IfOk r R
if_done (Ok x) f q = f x q
if_done (Err e) f q = tt

-- ---- what is remembered

pub moved : {M : Type 0} (number : M → ℕ) (start : ℕ) (f g : ℕ → Option Tree) (m : Marked M) (v : Remembered) → g ≡ f → Holds number start f m v → Holds number start g m v
moved number start f g m v same h = subst (λ z. Holds number start z m v) (sym same) h

-- to tell goes by itself beside what was built
pub kept_built : (tells : Bool) (t : Tree) (v : Remembered) (change : Records Tree → Records Tree) → with_built (kept_if tells t v) (change (kept_if tells t v).built) ≡ kept_if tells t (with_built v (change v.built))
kept_built true t v change = refl
kept_built false t v change = refl

pub held_after : {M X E : Type 0} (number : M → ℕ) (start : ℕ) (o : Result X E) (f g : ℕ → Option Tree) (m n : Marked M) (change : Remembered → Remembered)
    → OnOk o ((s : ℕ) (v : Remembered) → Holds number s f m v → Holds number s g n (change v)) → OnErr o ((s : ℕ) (v : Remembered) → Holds number s f m v → Holds number s g n v)
    → AreHeld number start f m → AreHeld number start g n
held_after number start (Ok x) f g m n change ok err held = (ok start (seen number start f m) (record { held = held; seen = refl })).held
held_after number start (Err e) f g m n change ok err held = (err start (seen number start f m) (record { held = held; seen = refl })).held

-- what is seen after a call
pub seen_after : {M : Type 0} (number : M → ℕ) (start : ℕ) (f g : ℕ → Option Tree) (m n : Marked M) (change : Remembered → Remembered)
    → ((s : ℕ) (v : Remembered) → Holds number s f m v → Holds number s g n (change v)) → AreHeld number start f m → seen number start g n ≡ change (seen number start f m)
seen_after number start f g m n change step held = (step start (seen number start f m) (record { held = held; seen = refl })).seen

-- when nothing was built or kept and the tree is remembered twice
pub opened_holds : {M : Type 0} (number : M → ℕ) (f g : ℕ → Option Tree) (start told : M) (m : Marked M) (t : Tree) → f (number start) ≡ Some t → f (number told) ≡ None → g (number told) ≡ Some t
    → ((k : ℕ) → k ≢ number told → g k ≡ f k) → m ≡ told_alone told → Holds number (number start) g m (tree_alone t)
opened_holds {M} number f g start told m t first none own others alone =
    subst (λ z. Holds number (number start) g z (tree_alone t)) (sym alone) (record {
      held = subst (AreApart g) (sym (λ i z. at z i))
          (set_apart told_slot AtStart (Some (number start)) g (ap is_some begun, started) (set_apart no_slot AtTold (Some (number told)) g (ap is_some own, λ u. nowhere (number told) u) empty_apart));
      seen = λ i. record { start = in_memory (begun i); told = in_memory (own i); built = no_records i; kept = no_states (tree_of number (number start) g) i; before = None };
    })
  where
    begun : g (number start) ≡ Some t
    begun = others (number start) (other_than f (number start) (number told) (ap is_some first) none) ∙ first

    no_slot : Slots
    no_slot z = None

    told_slot : Slots
    told_slot = set no_slot AtTold (Some (number told))

    nowhere : (k : ℕ) → IsIn no_slot k → ⊥
    nowhere k u = cc

    started : IsIn told_slot (number start) → ⊥
    started u = elim (set_in no_slot AtTold (Some (number told)) (number start) u) as (λ _. ⊥) [
      | inl e ↦ other_than f (number start) (number told) (ap is_some first) none (cc)
      | inr there ↦ nowhere (number start) there
    ]

    empty_apart : AreApart g no_slot
    empty_apart = record { there = λ k u. absurd (nowhere k u); apart = λ s z k a b. absurd (nowhere k (s, a)) }

    at : (z : Slot) → number_in number (number start) (told_alone told) z ≡ set told_slot AtStart (Some (number start)) z
    at AtStart = refl
    at AtTold = refl
    at (AtBuilt place) = ap (option_map (λ r. number r.tree)) (get-empty place_cmp place)
    at (AtKept name) = ap (number_of number) (get-empty name_cmp name)
    at (AtReplaced n) = refl

    no_records : resolved (tree_of number (number start) g) (told_alone told).built ≡ empty
    no_records = same_map place_cmp_total place_cmp_exact _ _ (λ q. get_resolved (tree_of number (number start) g) empty q ∙ ap (option_map (retreed (tree_of number (number start) g))) (get-empty place_cmp q) ∙ sym (get-empty place_cmp q))

-- ---- what is answered

-- a refusal tells nothing, where the tree is told
pub quiet_refusal : (tells : Bool) (c : Contents) (z : Refusal) → (tells ≡ true → c.remembered.told ≡ c.resources.tree) → (c, refused_reply z) ≡ replied tells (c, Refused z)
quiet_refusal false c z h = refl
quiet_refusal true c z h =
    let same = h refl in
    let none = ap some_nodes (tells_no_change c.remembered.told c.resources.tree same) in
    λ i. (record c { remembered = record (c.remembered) { told = same i } }, record { answer = Refused z; notice = sym none i })

pub comes_to : {E : Type 0} (done : Result (Twice Reply) E) (o : Result (Twice Reply) AllocError) (w tells : Bool) (r : Option Refusal) (c d : Contents) (deed : Deed)
    → (tells ≡ true → c.remembered.told ≡ c.resources.tree)
    → OnOk done (r ≡ None) → OnOk done (d ≡ told_if tells (record { resources = deed.resources; remembered = with_built c.remembered deed.built }))
    → IfOk done (λ x. x ≡ twice w (reply_of tells c.remembered.told deed.resources.tree deed.answer))
    → OnErr done (d ≡ c) → IfOk done (λ x. o ≡ Ok x) → IfErr done (λ e. IfOk o (λ y. (z : Refusal) × (r ≡ Some z) × (y ≡ twice w (refused_reply z))))
    → IfOk o (λ x. (d, x) ≡ doubled w (replied tells (made r c deed)))
comes_to (Ok y) o w tells r c d deed quiet allowed after reply same given refused =
    subst (λ z. IfOk z (λ x. (d, x) ≡ doubled w (replied tells (made r c deed)))) (sym given)
    ((λ i. (after i, reply i)) ∙ ap (λ z. doubled w (replied tells (made z c deed))) (sym allowed))
comes_to (Err e) o w tells r c d deed quiet allowed after reply same given refused = if_done o each refused
  where
    each : (y : Twice Reply) → (z : Refusal) × (r ≡ Some z) × (y ≡ twice w (refused_reply z)) → (d, y) ≡ doubled w (replied tells (made r c deed))
    each y x =
        (λ i. (same i, x.2 i)) ∙ ap (doubled w) (quiet_refusal tells c x.0 quiet) ∙ ap (λ z. doubled w (replied tells (made z c deed))) (sym x.1)

pub stays_so : {X E F : Type 0} (D : Type 0) (done : Result X E) (o : Result X F) → IfOk done (λ r. o ≡ Ok r) → OnErr done D → OnErr o D
stays_so D (Ok y) o given same = subst (λ z. OnErr z D) (sym given) tt
stays_so D (Err e) (Ok x) given same = tt
stays_so D (Err e) (Err f) given same = same

pub operation_refused : (done : Result (Twice Reply) OpError) (o : Result (Twice Reply) AllocError) (w : Bool) (x : Option OpRefusal) → IfErr done (op_judging.IfRefused (λ r. x ≡ Some r))
    → IfErr done (λ e. IfOk o (TellsOperation w e)) → IfErr done (λ e. IfOk o (λ y. (z : Refusal) × (option_map Operation x ≡ Some z) × (y ≡ twice w (refused_reply z))))
operation_refused (Ok y) o w x a b = tt
operation_refused (Err (op_errors.Refused r)) o w x a b = if_done o (λ y h. (Operation r, ap (option_map Operation) a, h)) b
operation_refused (Err op_errors.Memory) o w x a b = if_done o (λ y h. absurd h) b

pub edits_refused : (done : Result (Twice Reply) EditError) (o : Result (Twice Reply) AllocError) (w : Bool) (x : Option EditRefusal) → IfErr done (edit_judging.IfRefused (λ r. x ≡ Some r))
    → IfErr done (λ e. IfOk o (TellsEdits w e)) → IfErr done (λ e. IfOk o (λ y. (z : Refusal) × (option_map edit_refusal x ≡ Some z) × (y ≡ twice w (refused_reply z))))
edits_refused (Ok y) o w x a b = tt
edits_refused (Err (edit_errors.Refused r)) o w x a b = if_done o (λ y h. (edit_refusal r, ap (option_map edit_refusal) a, h)) b
edits_refused (Err edit_errors.Memory) o w x a b = if_done o (λ y h. absurd h) b

-- ---- what is forgotten

later : {C : Type 0} (a b : Option C) → option_or a b ≡ None → b ≡ None
later None b h = h
later (Some x) b h = cc

here : {C : Type 0} (a b : Option C) → option_or a b ≡ None → a ≡ None
here None b h = refl
here (Some x) b h = cc

unmapped : {A C : Type 0} (f : A → C) (o : Option A) → option_map f o ≡ None → o ≡ None
unmapped f None h = refl
unmapped f (Some x) h = cc

-- a description that isn't refused is one
pub described_op : (r : Resources) (op : Op) → ops.refusal r op ≡ None → IsDescribed op
described_op r (Describe p text) h =
    let spent : Option OpRefusal = option_or (when (is_spent r.next_stamp 1) NumbersUsed) None in
    let bad : Option OpRefusal = option_map BadDescription (desc_cause (project_name p) text) in
    let shut = ops.closed r.tree p in
    let none = ops.missing r.tree p in
    unmapped BadDescription (desc_cause (project_name p) text) (here bad spent (later shut (option_or bad spent) (later none (option_or shut (option_or bad spent))
    (later (when (not (is_project_path p)) (WrongKind p)) (option_or none (option_or shut (option_or bad spent))) h))))
described_op r (CreateFile p bytes) h = tt
described_op r (CreateFolder p) h = tt
described_op r (CreateProject p) h = tt
described_op r (Delete p) h = tt
described_op r (Write p bytes) h = tt
described_op r (Touch p) h = tt
described_op r (Derived p on) h = tt
described_op r (Move from to) h = tt
described_op r (Copy from to) h = tt
described_op r (Open p) h = tt
described_op r (Close p) h = tt
described_op r (Forget p) h = tt
described_op r (Mark p mark_type attributes) h = tt
described_op r (Attr p id name value) h = tt
described_op r (Unmark p id) h = tt
described_op r (ClearMarks p mark_type depth) h = tt
described_op r (Partner name) h = tt
described_op r (Sync p name bytes) h = tt
described_op r (Flush p name depth) h = tt
described_op r (Read p want) h = tt

pub counted : (p : Names) (text : List ℕ) (project : List ℕ) (n : ℕ) (d : Desc) → length p ≡ 1 → project ≡ project_name p → described text ≡ Some d → n ≡ length d.commands
    → ◌≡◌ {A = Option From} (Some (project, n)) (all_from p (command_count text))
counted [] text project n d one named is count = absurd (omega (arith, one))
counted (x ∷ []) text project n d one named is count =
    let c = ap (λ (o : Option Desc). unwrap_or (option_map (λ d. length d.commands) o) 0) is in
    λ i. Some (named i, (count ∙ sym c) i)
counted (x ∷ y ∷ p) text project n d one named is count = absurd (omega (arith, one))

-- ---- what is due

module _ {M : Type 0} (number : M → ℕ) (start : ℕ) where
  got : (f : ℕ → Option Tree) (m : Marked M) (v : Remembered) (k : Place) → Holds number start f m v → get v.built k ≡ option_map (retreed (λ x. in_memory (f (number x)))) (get m.built k)
  got f m v k h = sym (ap (λ (z : Remembered). get z.built k) h.seen) ∙ get_resolved (λ x. in_memory (f (number x))) m.built k

  pub none_since : (f : ℕ → Option Tree) (m : Marked M) (v : Remembered) (s : Site) (kind : BuildKind) (t : Tree) → get m.built (s.project, s.index) ≡ None → Holds number start f m v
      → None ≡ since s kind v.built t
  none_since f m v s kind t none h =
      sym (ap (λ o. due_delta (option_map built_of o) (item s.project s.index s.command) s.references (is_whole kind) t)
      (got f m v (s.project, s.index) h ∙ ap (option_map (retreed (λ x. in_memory (f (number x))))) none))

  since_is : (f : ℕ → Option Tree) (m : Marked M) (v : Remembered) (s : Site) (kind : BuildKind) (t : Tree) (r : Record M) → get m.built (s.project, s.index) ≡ Some r → Holds number start f m v
      → since s kind v.built t ≡ due_delta (Some (built_of (retreed (tree_of number start f) r))) (item s.project s.index s.command) s.references (is_whole kind) t
  since_is f m v s kind t r there h =
      ap (λ o. due_delta (option_map built_of o) (item s.project s.index s.command) s.references (is_whole kind) t)
      (got f m v (s.project, s.index) h ∙ ap (option_map (retreed (tree_of number start f))) there)

  -- the command or the references were others
  pub others_since : (f : ℕ → Option Tree) (m : Marked M) (v : Remembered) (s : Site) (kind : BuildKind) (t : Tree) (r : Record M) (same : Bool) → get m.built (s.project, s.index) ≡ Some r
      → same ≡ (same_command r.command s.command && path_eq r.references s.references) → same ≡ false → Holds number start f m v → None ≡ since s kind v.built t
  others_since f m v s kind t r same there is differ h =
      off (is_whole kind)
      ∙ ap (λ b. if not (is_whole kind) && b then Some (cut (scope s.project s.references) (delta (tree_of number start f r.tree) t)) else None) (sym (sym is ∙ differ))
      ∙ sym (since_is f m v s kind t r there h)
    where
      off : (w : Bool) → None ≡ (if not w && false then Some (cut (scope s.project s.references) (delta (tree_of number start f r.tree) t)) else None)
      off true = refl
      off false = refl

  pub cut_since : (f : ℕ → Option Tree) (m : Marked M) (v : Remembered) (s : Site) (kind : BuildKind) (t : Tree) (r : Record M) (same whole : Bool) (d nodes : List DeltaNode) (paths : List Names)
      → get m.built (s.project, s.index) ≡ Some r → same ≡ (same_command r.command s.command && path_eq r.references s.references) → same ≡ true → whole ≡ is_whole kind → whole ≡ false
      → IfSome (f (number r.tree)) (λ u. d ≡ delta u t) → paths ≡ scope s.project s.references → nodes ≡ cut paths d → Holds number start f m v → Some nodes ≡ since s kind v.built t
  cut_since f m v s kind t r same whole d nodes paths there is equal as_whole part made scoped cuts h =
      ap Some (cuts ∙ (λ i. cut (scoped i) (known i)))
      ∙ (λ i. if not (w i) && (b i) then Some (cut (scope s.project s.references) (delta (tree_of number start f r.tree) t)) else None)
      ∙ sym (since_is f m v s kind t r there h)
    where
      w : false ≡ is_whole kind
      w = sym part ∙ as_whole

      b : true ≡ (same_command r.command s.command && path_eq r.references s.references)
      b = sym equal ∙ is

      known : d ≡ delta (tree_of number start f r.tree) t
      known = by (f (number r.tree)) (h.held.there (number r.tree) (built_used number start m (s.project, s.index) r there)) made
        where
          by : (o : Option Tree) → IsSome o → IfSome o (λ u. d ≡ delta u t) → d ≡ delta (in_memory o) t
          by None some g = absurd (no some)
            where
              no : false ≡ true → ⊥
              no h = cc
          by (Some u) some g = g
