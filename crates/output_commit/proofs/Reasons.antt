-- Why something is wanted: a file is to lie there or below.
use Rattle.std.proofs.Common.{◌≡◌, ◌≢◌, ℕ, zero, suc, ◌+◌, ◌-◌, ◌<◌, ◌≤◌, Bool, true, false, cond, List, [], ◌∷◌, ◌++◌, map, length, refl, sym, ap, ◌∙◌, subst, arith, length-append}
use Rattle.std.specs.Prelude.{Option, Some, None, IfSome, IsSomeAnd, is_some}
use Rattle.std.specs.List.{AllByRecursion, flat_map}
use Rattle.std.specs.Option.{option_or}
use Rattle.std.specs.FinMap.{get, entries, get-entries}
use Rattle.res_path.specs.Paths.{Names, parent, is_prefix}
use Rattle.ws_elem.specs.Kinds.{is_file}
use Rattle.ws_elem.specs.Trees.{Tree}
use Rattle.ws_elem.specs.declared.element.Element.{Element}
use Rattle.ws_elem.proofs.Cuts.{same_at}
use Rattle.op_kind.specs.Effects.{new_folder}
use Rattle.op_kind.specs.Entries.{Entries}
use Rattle.op_kind.specs.Members.{is_below}
use Rattle.op_kind.specs.Places.{project_of}
use Rattle.op_kind.proofs.Cases.{if_map, if_none}
use Rattle.op_kind.proofs.Looks.{is_at, not_at, last_at, find_at}
use Rattle.op_kind.proofs.PathsBelow.{never, not_true, prefix_itself, parent_below, project_below, project_length}
use Rattle.op_sound.proofs.SoundOpen.{below_prefix}
use Rattle.builder_api.proofs.Places.{prefix_append}
use Rattle.output_edits.specs.Wanted.{above, standing, wanted}
use Rattle.output_commit.proofs.Under.{prefix_shorter, below_then, parent_over}
use Rattle.output_commit.proofs.Grown.{MayBeWanted}
use Rattle.output_commit.proofs.Wished.{Over, above_over, last_all, last_append, all_flat, all_map, entries_got, get-wanted, below_both, some_or, or_some, parent_length}

-- ---- what stands for a file

abbrev folders : List Names → Entries
folders ps = map (λ p. (p, new_folder 0)) ps

in_above : (n : ℕ) (p q : Names) → is_prefix q p ≡ true → p ≢ q → length p ≤ length q + n → is_some (last_at q (folders (above n p))) ≡ true
in_above zero p q under other far = let less : length q < length p = prefix_shorter q p under other in absurd (omega arith)
in_above (suc n) p q under other far =
    let fewer : length (parent p) ≡ length p - 1 = parent_length p in
    by (is_at q (parent p)) refl (λ apart. in_above n (parent p) q (parent_below q p under other) (λ same. apart (sym same)) (omega arith))
  where
    rest : Entries
    rest = folders (above n (parent p))

    by : (b : Bool) → is_at q (parent p) ≡ b → (q ≢ parent p → is_some (last_at q rest) ≡ true) → is_some (last_at q (folders (above (suc n) p))) ≡ true
    by true at next = some_or (last_at q rest) (cond (is_at q (parent p)) (Some (new_folder 0)) None) (ap (λ b. is_some (cond b (Some (new_folder 0)) None)) at)
    by false at next = or_some (last_at q rest) (cond (is_at q (parent p)) (Some (new_folder 0)) None) (next (not_at q (parent p) at))

in_standing : (p q : Names) (e : Element) → is_prefix q p ≡ true → 2 ≤ length q → is_some (last_at q (standing p e)) ≡ true
in_standing p q e under long = by (is_at q p) refl
  where
    rest : Entries
    rest = folders (above (length p - 2) p)

    by : (b : Bool) → is_at q p ≡ b → is_some (last_at q (standing p e)) ≡ true
    by true at = some_or (last_at q rest) (cond (is_at q p) (Some e) None) (ap (λ b. is_some (cond b (Some e) None)) at)
    by false at = or_some (last_at q rest) (cond (is_at q p) (Some e) None) (in_above (length p - 2) p q under (λ same. not_at q p at (sym same)) (omega arith))

-- a path at or above a file's, below its project's, is wanted
pub for_file : (o : Names) (f : Tree) (q j : Names) → is_some (get f j) ≡ true → is_prefix q (o ++ j) ≡ true → 2 ≤ length q → is_some (get (wanted o f) q) ≡ true
for_file o f q j there under long = ap is_some (get-wanted o f q) ∙ among (entries f) (ap is_some (sym (get-entries f j)) ∙ there)
  where
    among : (es : Entries) → is_some (find_at j es) ≡ true → is_some (last_at q (flat_map (λ e. standing (o ++ e.0) e.1) es)) ≡ true
    among [] h = absurd (never (sym h))
    among (e ∷ es) h = ap is_some (last_append q (standing (o ++ e.0) e.1) rest) ∙ by (is_at j e.0) refl h (among es)
      where
        rest : Entries
        rest = flat_map (λ x. standing (o ++ x.0) x.1) es

        by : (b : Bool) → is_at j e.0 ≡ b → is_some (cond b (Some e.1) (find_at j es)) ≡ true → (is_some (find_at j es) ≡ true → is_some (last_at q rest) ≡ true)
            → is_some (option_or (last_at q rest) (last_at q (standing (o ++ e.0) e.1))) ≡ true
        by true at g next = some_or (last_at q rest) (last_at q (standing (o ++ e.0) e.1)) (in_standing (o ++ e.0) q e.1 (ap (λ r. is_prefix q (o ++ r)) (sym (same_at j e.0 at)) ∙ under) long)
        by false at g next = or_some (last_at q rest) (last_at q (standing (o ++ e.0) e.1)) (next g)

-- ---- and nothing else

-- g is wanted at q for one of these files
pub record Reason (o : Names) (f : Tree) (q : Names) (g : Element) : Type 0 where
  pub file : Names
  pub there : is_some (get f file) ≡ true
  pub under : is_prefix q (o ++ file) ≡ true
  pub long : 2 ≤ length q
  pub own : is_file g.kind ≡ true → q ≡ o ++ file

above_long : (n : ℕ) (p : Names) → n + 2 ≤ length p → AllByRecursion (λ q. 2 ≤ length q) (above n p)
above_long zero p h = tt
above_long (suc n) p h = let fewer : length (parent p) ≡ length p - 1 = parent_length p in (omega arith, above_long n (parent p) (omega arith))

pub reason : (o : Names) (f : Tree) (q : Names) → 2 ≤ length o → IfSome (get (wanted o f) q) (Reason o f q)
reason o f q long = subst (λ x. IfSome x (Reason o f q)) (sym (get-wanted o f q)) (last_all (Reason o f q) q (flat_map (λ e. standing (o ++ e.0) e.1) (entries f)) (all_flat At (λ e. standing (o ++ e.0) e.1) (entries f)
    (all_map (λ e. get f e.0 ≡ Some e.1) (λ e. AllByRecursion At (standing (o ++ e.0) e.1)) (entries f) each (entries_got f))))
  where
    At : Names × Element → Type 0
    At x = is_at q x.0 ≡ true → Reason o f q x.1

    folder : (j : Names) → is_some (get f j) ≡ true → (ps : List Names) → AllByRecursion (Over (o ++ j)) ps → AllByRecursion (λ p. 2 ≤ length p) ps → AllByRecursion At (folders ps)
    folder j h [] over far = tt
    folder j h (p ∷ ps) over far = (
      λ at. record {
        file = j;
        there = h;
        under = ap (λ x. is_prefix x (o ++ j)) (same_at q p at) ∙ over.0.under;
        long = subst (λ x. 2 ≤ length x) (sym (same_at q p at)) far.0;
        own = λ file. absurd (never (sym file));
      },
      folder j h ps over.1 far.1,
    )

    each : (e : Names × Element) → get f e.0 ≡ Some e.1 → AllByRecursion At (standing (o ++ e.0) e.1)
    each e is =
        let far : length (o ++ e.0) ≡ length o + length e.0 = length-append o e.0 in (
          λ at. record {
            file = e.0;
            there = ap is_some is;
            under = ap (λ x. is_prefix x (o ++ e.0)) (same_at q (o ++ e.0) at) ∙ prefix_itself (o ++ e.0);
            long = let same : length q ≡ length (o ++ e.0) = ap length (same_at q (o ++ e.0) at) in omega arith;
            own = λ _. same_at q (o ++ e.0) at;
          },
          folder e.0 (ap is_some is) (above (length (o ++ e.0) - 2) (o ++ e.0)) (above_over (length (o ++ e.0) - 2) (o ++ e.0) (omega arith))
              (above_long (length (o ++ e.0) - 2) (o ++ e.0) (omega arith)),
        )

-- ---- so where no file lies above another

-- all that is wanted for such files may be wanted
pub may_be_wanted : (o : Names) (f : Tree) → 2 ≤ length o → ((k j : Names) → is_some (get f k) ≡ true → is_some (get f j) ≡ true → is_below k j ≡ false) → MayBeWanted o (wanted o f)
may_be_wanted o f long apart = record {
  within = λ q. if_map (Reason o f q) (λ _. (2 ≤ length q) × (project_of q ≡ project_of o)) (get (wanted o f) q) (λ g y. (y.long, one_project q g y)) (reason o f q long);
  parents = λ q. if_map (Reason o f q) (λ _. 3 ≤ length q → IsSomeAnd (get (wanted o f) (parent q)) (λ g. is_file g.kind ≡ false)) (get (wanted o f) q) (in_folder q) (reason o f q long);
  below = λ q. if_map (Reason o f q) (λ g. is_file g.kind ≡ true → is_prefix o q ≡ true) (get (wanted o f) q) (λ g y file. ap (is_prefix o) (y.own file) ∙ prefix_append o y.file) (reason o f q long);
  clear = λ q r. if_map (Reason o f q) (λ g. is_file g.kind ≡ true → is_below q r ≡ true → get (wanted o f) r ≡ None) (get (wanted o f) q)
      (λ g y file under. if_none (get (wanted o f) r) (if_map (Reason o f r) (λ _. ⊥) (get (wanted o f) r) (λ h z. over q g y file r z.file z.there under z.under) (reason o f r long))) (reason o f q long);
}
  where
    names : (q : Names) → 2 ≤ length q → q ≢ []
    names [] h e = absurd (omega arith)
    names (n ∷ q) h e = cc

    one_project : (q : Names) (g : Element) → Reason o f q g → project_of q ≡ project_of o
    one_project q g y = sym (project_below q (o ++ y.file) (names q y.long) y.under) ∙ project_below o (o ++ y.file) (names o long) (prefix_append o y.file)

    -- where a file is wanted, none lies below
    over : (q : Names) (g : Element) → Reason o f q g → is_file g.kind ≡ true → (r j : Names) → is_some (get f j) ≡ true → is_below q r ≡ true → is_prefix r (o ++ j) ≡ true → ⊥
    over q g y file r j there under more = never (sym (ap (λ z. is_below z (o ++ j)) (sym (y.own file)) ∙ below_then q r (o ++ j) under more) ∙ below_both o y.file j ∙ apart y.file j y.there there)

    in_folder : (q : Names) (g : Element) → Reason o f q g → 3 ≤ length q → IsSomeAnd (get (wanted o f) (parent q)) (λ h. is_file h.kind ≡ false)
    in_folder q g y more =
        let fewer : length (parent q) ≡ length q - 1 = parent_length q in
        let over_q : is_below (parent q) q ≡ true = parent_over q (names q y.long) in
        by (get (wanted o f) (parent q)) (for_file o f (parent q) y.file y.there (below_prefix (parent q) (o ++ y.file) (below_then (parent q) q (o ++ y.file) over_q y.under)).0 (omega arith))
        (reason o f (parent q) long) over_q
      where
        by : (x : Option Element) → is_some x ≡ true → IfSome x (Reason o f (parent q)) → is_below (parent q) q ≡ true → IsSomeAnd x (λ h. is_file h.kind ≡ false)
        by None h r over_q = absurd (never (sym h))
        by (Some h) some r over_q = not_true (is_file h.kind) (λ file. over (parent q) h r file q y.file y.there over_q y.under)

-- nothing is wanted at the project's path
pub project_unwanted : (o : Names) (f : Tree) → 2 ≤ length o → get (wanted o f) (project_of o) ≡ None
project_unwanted o f long = if_none (get (wanted o f) (project_of o)) (if_map (Reason o f (project_of o)) (λ _. ⊥) (get (wanted o f) (project_of o))
    (λ g y. let far : 2 ≤ length (project_of o) = y.long in let short : length (project_of o) ≤ 1 = project_length o in absurd (omega arith))
    (reason o f (project_of o) long))
