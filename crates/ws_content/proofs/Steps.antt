-- What calls leave of what is remembered.
use Rattle.std.proofs.Common.{◌≡◌, ◌≢◌, inl, inr, ℕ, Bool, true, false, List, not, refl, sym, ap, ◌∙◌, subst}
use Rattle.std.specs.Prelude.{Option, Some, None, is_some, IsSome, IfSome, Result, Ok, Err, IsErr, OnErr}
use Rattle.std.specs.Option.{option_map}
use Rattle.std.specs.FinMap.{get, insert, remove, retain_keys}
use Rattle.ws_elem.specs.Trees.{Tree}
use Rattle.ws_marks.specs.declared.record.Record.{Record}
use Rattle.ws_marks.specs.Marked.{Marked, first_from, is_from}
use Rattle.ws_marks.specs.Places.{Place, Records, place_of}
use Rattle.ws_content.specs.States.{Remembered, with_built, with_told}
use Rattle.build_due.specs.declared.site.Site.{Site}
use Rattle.ws_content.specs.Deeds.{kept_if, record_of}
use Rattle.ws_content.specs.Inside.Held.{Holds, IsReady, IsUsed, in_memory, resolved, retreed}
use Rattle.ws_content.proofs.Resolved.{get_resolved}
use Rattle.ws_content.proofs.Forgotten.{all_stay, less_stays, none_from}
use Rattle.ws_content.proofs.Holding.{IsNew, built_used, fresh_unused, put_holds, put_over, put_used, stays, taken_holds, taken_unused, told_holds, untold}
use Rattle.ws_content.proofs.Slots.{at_there, other_than}

module _ {M : Type 0} (number : M → ℕ) where
  abbrev pub Known : (ℕ → Option Tree) → Marked M → Type 0
  Known f m = (start : ℕ) × (v : Remembered) × Holds number start f m v

  -- ---- a tree is remembered

  pub grown : (f g : ℕ → Option Tree) (m : Marked M) (n : ℕ) → f n ≡ None → ((k : ℕ) → k ≢ n → g k ≡ f k) → (start : ℕ) (v : Remembered) → Holds number start f m v → Holds number start g m v
  grown f g m n none others start v h = stays number start f g m v (λ k u. others k (λ e. fresh_unused number start f m v n h none (subst (IsUsed number start m) e u))) h

  pub grown_ready : (f g : ℕ → Option Tree) (m : Marked M) (x : M) (t : Tree) (tells : Bool) → tells ≡ true → f (number x) ≡ None → g (number x) ≡ Some t
      → (start : ℕ) (v : Remembered) → Holds number start f m v → IsReady number start g m t tells (Some x)
  grown_ready f g m x t tells is none own start v h = (is, own, fresh_unused number start f m v (number x) h none)

  -- ---- what was prepared is told, or not

  kept_true : (tells : Bool) (t : Tree) (v : Remembered) → tells ≡ true → with_told v t ≡ kept_if tells t v
  kept_true true t v e = refl
  kept_true false t v e = cc

  kept_false : (tells : Bool) (t : Tree) (v : Remembered) → tells ≡ false → v ≡ kept_if tells t v
  kept_false false t v e = refl
  kept_false true t v e = cc

  pub settled : (f g : ℕ → Option Tree) (m n : Marked M) (before x : M) (told : Option M) → told ≡ Some x → before ≡ m.told → n ≡ record m { told = x }
      → ((k : ℕ) → k ≢ number before → g k ≡ f k)
      → (start : ℕ) (v : Remembered) (t : Tree) (tells : Bool) → Holds number start f m v → IsReady number start f m t tells told → Holds number start g n (kept_if tells t v)
  settled f g m n before x told some was now others start v t tells h ready =
      let r : IsReady number start f m t tells (Some x) = subst (IsReady number start f m t tells) some ready in
      let holds : Holds number start f (record m { told = x }) (with_told v t) = told_holds number start f m v x t r.1 r.2 h in
      let after : Holds number start g (record m { told = x }) (with_told v t) = stays number start f g (record m { told = x }) (with_told v t)
      (λ k u. others k (λ e. untold number start f m v x r.2 h (subst (IsUsed number start (record m { told = x })) (e ∙ ap number was) u))) holds in
      subst (λ z. Holds number start g n z) (kept_true tells t v r.0) (subst (λ z. Holds number start g z (with_told v t)) (sym now) after)

  pub unsettled : (f : ℕ → Option Tree) (m : Marked M) (told : Option M) → told ≡ None
      → (start : ℕ) (v : Remembered) (t : Tree) (tells : Bool) → Holds number start f m v → IsReady number start f m t tells told → Holds number start f m (kept_if tells t v)
  unsettled f m told none start v t tells h ready =
      subst (λ z. Holds number start f m z) (kept_false tells t v (subst (IsReady number start f m t tells) none ready)) h

  pub ready_there : (f : ℕ → Option Tree) (m : Marked M) (told : Option M) (start : ℕ) (t : Tree) (tells : Bool) → IsReady number start f m t tells told → IfSome told (λ x. IsSome (f (number x)))
  ready_there f m None start t tells r = tt
  ready_there f m (Some x) start t tells r = ap is_some r.1

  pub abandoned : (f g : ℕ → Option Tree) (m : Marked M) (told : Option M) → ((k : ℕ) → IfSome told (λ x. k ≢ number x) → g k ≡ f k)
      → (start : ℕ) (v : Remembered) (t : Tree) (tells : Bool) → Holds number start f m v → IsReady number start f m t tells told → Holds number start g m v
  abandoned f g m None others start v t tells h r = stays number start f g m v (λ k u. others k tt) h
  abandoned f g m (Some x) others start v t tells h r = stays number start f g m v (λ k u. others k (λ e. r.2 (subst (IsUsed number start m) e u))) h

  -- ---- what was built is set

  pub put : (f g h : ℕ → Option Tree) (m n : Marked M) (r : Record M) (before : Option (Record M)) (t : Tree)
      → f (number r.tree) ≡ None → g (number r.tree) ≡ Some t → ((k : ℕ) → k ≢ number r.tree → g k ≡ f k)
      → before ≡ get m.built (place_of r) → n ≡ record m { built = insert m.built (place_of r) r }
      → ((k : ℕ) → IfSome before (λ q. k ≢ number q.tree) → h k ≡ g k)
      → (start : ℕ) (v : Remembered) → Holds number start f m v → Holds number start h n (with_built v (insert v.built (place_of r) (retreed (λ _. t) r)))
  put f g h m n r before t none own others was now last start v holds =
      let on : Holds number start g m v = grown f g m (number r.tree) none others start v holds in
      let new : IsNew number start g m r t = record { is = own; unused = fresh_unused number start f m v (number r.tree) holds none } in
      let done = put_holds number start g m v r t new on in
      let over = put_over number start g m v r t new on in
      subst (λ z. Holds number start h z (with_built v (insert v.built (place_of r) (retreed (λ _. t) r)))) (sym now)
      (stays number start g h (record m { built = insert m.built (place_of r) r }) (with_built v (insert v.built (place_of r) (retreed (λ _. t) r))) (λ k u. last k (by k u before was over)) done)
    where
      by : (k : ℕ) → IsUsed number start (record m { built = insert m.built (place_of r) r }) k → (o : Option (Record M)) → o ≡ get m.built (place_of r)
          → IfSome (get m.built (place_of r)) (λ q. IsUsed number start (record m { built = insert m.built (place_of r) r }) (number q.tree) → ⊥) → IfSome o (λ q. k ≢ number q.tree)
      by k u None e over = tt
      by k u (Some q) e over = λ same. at_there (λ q. IsUsed number start (record m { built = insert m.built (place_of r) r }) (number q.tree) → ⊥) (get m.built (place_of r)) q (sym e) over
          (subst (IsUsed number start (record m { built = insert m.built (place_of r) r })) same u)

  pub put_ready : (f g h : ℕ → Option Tree) (m n : Marked M) (r : Record M) (before : Option (Record M)) (t : Tree)
      → f (number r.tree) ≡ None → g (number r.tree) ≡ Some t → ((k : ℕ) → k ≢ number r.tree → g k ≡ f k)
      → before ≡ get m.built (place_of r) → n ≡ record m { built = insert m.built (place_of r) r }
      → ((k : ℕ) → IfSome before (λ q. k ≢ number q.tree) → h k ≡ g k)
      → (start : ℕ) (v : Remembered) (u : Tree) (tells : Bool) (told : Option M) → Holds number start f m v → IsReady number start f m u tells told → IsReady number start h n u tells told
  put_ready f g h m n r before t none own others was now last start v u tells None holds ready = ready
  put_ready f g h m n r before t none own others was now last start v u tells (Some x) holds ready =
      (ready.0, last (number x) (by before was) ∙ others (number x) other ∙ ready.1, subst (λ z. IsUsed number start z (number x) → ⊥) (sym now) unused)
    where
      other : number x ≢ number r.tree
      other = other_than f (number x) (number r.tree) (ap is_some ready.1) none

      by : (o : Option (Record M)) → o ≡ get m.built (place_of r) → IfSome o (λ q. number x ≢ number q.tree)
      by None e = tt
      by (Some q) e = λ same. ready.2 (subst (IsUsed number start m) (sym same) (built_used number start m (place_of r) q (sym e)))

      new : IsNew number start g m r t
      new = record { is = own; unused = fresh_unused number start f m v (number r.tree) holds none }

      unused : IsUsed number start (record m { built = insert m.built (place_of r) r }) (number x) → ⊥
      unused k = elim (put_used number start g m r t new (number x) k) as (λ _. ⊥) [ inl e ↦ other e | inr old ↦ ready.2 old ]

  pub grown_waits : (f g : ℕ → Option Tree) (m : Marked M) (n : ℕ) → f n ≡ None → ((k : ℕ) → k ≢ n → g k ≡ f k)
      → (start : ℕ) (u : Tree) (tells : Bool) (told : Option M) → IsReady number start f m u tells told → IsReady number start g m u tells told
  grown_waits f g m n none others start u tells None ready = ready
  grown_waits f g m n none others start u tells (Some x) ready =
      (ready.0, others (number x) (other_than f (number x) n (ap is_some ready.1) none) ∙ ready.1, ready.2)

  -- ---- what was built is taken

  pub taken_there : (f : ℕ → Option Tree) (m : Marked M) (place : Place) (o : Option (Record M)) → o ≡ get m.built place → Known f m → IfSome o (λ r. IsSome (f (number r.tree)))
  taken_there f m place None e k = tt
  taken_there f m place (Some r) e k = k.2.held.there (number r.tree) (built_used number (k.0) m place r (sym e))

  pub taken : (f g : ℕ → Option Tree) (m n : Marked M) (place : Place) (o : Option (Record M)) → o ≡ get m.built place → n ≡ record m { built = remove m.built place }
      → ((k : ℕ) → IfSome o (λ r. k ≢ number r.tree) → g k ≡ f k)
      → (start : ℕ) (v : Remembered) → Holds number start f m v → Holds number start g n (with_built v (remove v.built place))
  taken f g m n place o was now others start v h =
      subst (λ z. Holds number start g z (with_built v (remove v.built place))) (sym now)
      (stays number start f g (record m { built = remove m.built place }) (with_built v (remove v.built place)) (λ k u. others k (by k u o was)) (taken_holds number start f m v place h))
    where
      by : (k : ℕ) → IsUsed number start (record m { built = remove m.built place }) k → (o : Option (Record M)) → o ≡ get m.built place → IfSome o (λ r. k ≢ number r.tree)
      by k u None e = tt
      by k u (Some r) e = λ same. taken_unused number start f m v place r (sym e) h (subst (IsUsed number start (record m { built = remove m.built place })) same u)

  -- ---- the first of a project's commands from one on is forgotten

  abbrev pub Forgets : List ℕ → ℕ → (ℕ → Option Tree) → Marked M → (ℕ → Option Tree) → Marked M → Type 0
  Forgets p i f m g n = (start : ℕ) (v : Remembered) → Holds number start f m v
      → (built : Records Tree) × Holds number start g n (with_built v built) × (retain_keys built (λ k. not (is_from p i k)) ≡ retain_keys v.built (λ k. not (is_from p i k)))

  pub first_taken : (f g : ℕ → Option Tree) (m n : Marked M) (r : Record M) (p : List ℕ) (i : ℕ) → get m.built (place_of r) ≡ Some r → n ≡ record m { built = remove m.built (place_of r) }
      → is_from p i (place_of r) ≡ true → ((k : ℕ) → k ≢ number r.tree → g k ≡ f k) → Forgets p i f m g n
  first_taken f g m n r p i own now one others start v h = (
    remove v.built (place_of r),
    taken f g m n (place_of r) (Some r) (sym own) now others start v h,
    less_stays v.built (place_of r) (λ k. not (is_from p i k)) (ap not one),
  )

  pub none_taken : (f : ℕ → Option Tree) (m n : Marked M) (p : List ℕ) (i : ℕ) → n ≡ m → Forgets p i f m f n
  none_taken f m n p i same start v h = (v.built, subst (λ z. Holds number start f z v) (sym same) h, refl)

  pub none_left : (f : ℕ → Option Tree) (m : Marked M) (p : List ℕ) (i : ℕ) → first_from m.built p i ≡ None → (start : ℕ) (v : Remembered) → Holds number start f m v
      → retain_keys v.built (λ k. not (is_from p i k)) ≡ v.built
  none_left f m p i none start v h =
      subst (λ (z : Remembered). retain_keys z.built (λ k. not (is_from p i k)) ≡ z.built) h.seen
      (all_stay (resolved tree_of m.built) (λ k. not (is_from p i k)) (λ q. by q (get m.built q) (get_resolved tree_of m.built q) (none_from m.built p i none q)))
    where
      tree_of : M → Tree
      tree_of x = in_memory (f (number x))

      by : (q : Place) (o : Option (Record M)) → get (resolved tree_of m.built) q ≡ option_map (retreed tree_of) o → IfSome o (λ _. not (is_from p i q) ≡ true)
          → IfSome (get (resolved tree_of m.built) q) (λ _. not (is_from p i q) ≡ true)
      by q None e g = subst (λ z. IfSome z (λ _. not (is_from p i q) ≡ true)) (sym e) tt
      by q (Some r) e g = subst (λ z. IfSome z (λ _. not (is_from p i q) ≡ true)) (sym e) g

-- the record of a command as it stands
pub recorded : {M : Type 0} (r : Record M) (s : Site) (t : Tree) (v : Remembered) → r.project ≡ s.project → r.index ≡ s.index → r.command ≡ s.command → r.references ≡ s.references
    → with_built v (insert v.built (place_of r) (retreed (λ _. t) r)) ≡ with_built v (insert v.built (s.project, s.index) (record_of s t))
recorded r s t v a b c d = λ i. with_built v (insert v.built (a i, b i) (record { project = a i; index = b i; command = c i; references = d i; tree = t }))

-- what holds where a call fails, of one that failed
pub on_failed : {T E : Type 0} {P : Type 0} (r : Result T E) → IsErr r → P → OnErr r P
on_failed (Ok x) h p = cc
on_failed (Err e) h p = p
