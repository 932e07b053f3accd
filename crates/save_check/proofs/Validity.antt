-- Valid states, by what is decided.
use Rattle.std.proofs.Common.{◌↔◌, ◌<◌, ◌^◌, Bool, length}
use Rattle.std.specs.Prelude.{None, IsTrue, Result, Ok, Err, IfOk}
use Rattle.std.specs.declared.alloc.AllocError.{AllocError}
use Rattle.ws_durable.specs.Saved.{Saved}
use Rattle.save_form.specs.Laws.{FitEach}
use Rattle.save_read.specs.Sayable.{IsSayable, IsSayableTree, IsSayableBuilt, IsSayableKept, AreSayableNames}
use Rattle.save_format.specs.Valid.{IsLawful, Valid}
use Rattle.save_check.specs.Inside.Tellable.{IsInRange}

-- a state can be told where its parts can
module _ (d : Saved) where
  abbrev BuildsTold : Type 0
  BuildsTold = (length d.built < 2 ^ 32) × FitEach IsSayableBuilt None d.built

  abbrev KeepsTold : Type 0
  KeepsTold = (length d.kept < 2 ^ 32) × FitEach IsSayableKept None d.kept

  together : IsInRange d → AreSayableNames d.partners → IsSayableTree d.tree → IsSayableTree d.shelf → BuildsTold → KeepsTold → IsSayable d
  together r p t s b k = record { next_node = r.next_node; next_stamp = r.next_stamp; next_marker = r.next_marker; partners = p; tree = t; shelf = s; built = b; kept = k }

  pub sayable_where : (partners_told tree_told shelf_told built_told kept_told all : Bool) → IsInRange d → (IsTrue all ↔ (IsTrue partners_told × IsTrue tree_told × IsTrue shelf_told × IsTrue built_told × IsTrue kept_told))
      → (IsTrue partners_told ↔ AreSayableNames d.partners) → (IsTrue tree_told ↔ IsSayableTree d.tree) → (IsTrue shelf_told ↔ IsSayableTree d.shelf) → (IsTrue built_told ↔ BuildsTold) → (IsTrue kept_told ↔ KeepsTold) → IsTrue all ↔ IsSayable d
  sayable_where partners_told tree_told shelf_told built_told kept_told all range whole p t s b k = (
    λ u. let w = whole.0 u in together range (p.0 w.0) (t.0 w.1) (s.0 w.2) (b.0 w.3) (k.0 w.4),
    λ h. whole.1 (p.1 h.partners, t.1 h.tree, s.1 h.shelf, b.1 h.built, k.1 h.kept),
  )

-- a lawful state is valid where it can be told
pub valid_where : (d : Saved) (r : Result Bool AllocError) → IsLawful d → IfOk r (λ b. IsTrue b ↔ IsSayable d) → IfOk r (λ b. IsTrue b ↔ Valid d)
valid_where d (Ok b) lawful h = (λ u. record { sayable = h.0 u; lawful = lawful }, λ v. h.1 v.sayable)
valid_where d (Err e) lawful h = tt
