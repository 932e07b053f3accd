-- What has no cause to be refused has its form.
use Rattle.std.proofs.Common.{◌≡◌, ◌==◌, ℕ, Bool, true, false, cond, List, length, nat_lt, refl, sym, arith, subst}
use Rattle.std.specs.Prelude.{Option, Some, None, Result, Ok, Err, OnOk, OnErr, IsUtf8}
use Rattle.std.specs.Cmp.Lexicographic.{nat_list_cmp_total}
use Rattle.std.specs.FinMap.{insert, remove, slice_cmp-IsAntisymmetric, nat_cmp-IsAntisymmetric}
use Rattle.std.proofs.lemmas.Bool.Decides.{nat_tests}
use Rattle.mark_set.specs.Attributes.{Attributes, AreAttributes}
use Rattle.mark_set.specs.Causes.{name_cause, or_else}
use Rattle.mark_set.specs.Forms.{IsName, IsValue}
use Rattle.mark_set.specs.declared.error.ValueCause.{ValueCause}
use Rattle.mark_set.specs.declared.error.ValueCause.TheVariants.{EmptyName, LongName}
use Rattle.mark_set.specs.declared.value.Value.{Value}
use Rattle.mark_set.proofs.Maps.{all_put, all_taken}

-- there is no cause where neither has one
pub none_else : (a b : Option ValueCause) → or_else a b ≡ None → (a ≡ None) × (b ≡ None)
none_else None b e = (refl, e)
none_else (Some c) b e = absurd cc

pub sound_name : (t : List ℕ) → IsUtf8 t → name_cause t ≡ None → IsName t
sound_name t u e = go (length t == 0) refl (nat_lt 255 (length t)) refl e where
  go : (a : Bool) → (length t == 0) ≡ a → (b : Bool) → nat_lt 255 (length t) ≡ b → cond a (Some EmptyName) (cond b (Some LongName) None) ≡ None → IsName t
  go true x b y e = absurd cc
  go false x true y e = absurd cc
  go false x false y e = record { utf8 = u; not_empty = grind (arith, nat_tests); bound = grind (arith, nat_tests) }

-- one more attribute of its form, whatever a put answers
pub still_formed : {E : Type 0} (r : Result (Unit {0}) E) (old new : Attributes) (name : List ℕ) (value : Value) → OnOk r (new ≡ insert old name value) → OnErr r (new ≡ old) → IsName name → IsValue value → AreAttributes old → AreAttributes new
still_formed (Ok _) old new name value ok err n v all =
    subst AreAttributes (sym ok) (all_put nat_list_cmp_total (slice_cmp-IsAntisymmetric nat_cmp-IsAntisymmetric) (λ (q : List ℕ) (x : Value). IsName q × IsValue x) old name value all (n, v))
still_formed (Err _) old new name value ok err n v all = subst AreAttributes (sym err) all

pub less_formed : (old : Attributes) (name : List ℕ) → AreAttributes old → AreAttributes (remove old name)
less_formed old name all = all_taken nat_list_cmp_total (slice_cmp-IsAntisymmetric nat_cmp-IsAntisymmetric) (λ (q : List ℕ) (x : Value). IsName q × IsValue x) old name all
