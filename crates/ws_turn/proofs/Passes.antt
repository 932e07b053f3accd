-- What a call asks of the value that it is given, as the step asks it.
use Rattle.std.proofs.Common.{◌≡◌, ◌≢◌, ℕ, true, false, eqb, List, [], ◌∷◌, ◌++◌, Option, Some, None, is_some, sym, refl, ap, ◌∙◌, subst, ⊎_elim, inl, inr, cond, ne_eqb, true≢false, append-nil, eq-eqb}
use Rattle.std.specs.List.{IsDistinct}
use Rattle.ws_turn.specs.declared.view.View.{View}
use Rattle.ws_turn.specs.Lists.{of, has, put_before, given, HasNoneOf}
use Rattle.ws_turn.specs.Inside.Steps.{MayRaise, Agrees, handed_on, in_hand}
use Rattle.ws_turn.specs.Passes.{Known, IsOwn, GivesNew, IsNext, Enters}
use Rattle.ws_turn.proofs.Lists.{some_same, by_bool, or_right, has_append, some_of, put_one}

once_one : (o : Option ℕ) → IsDistinct eqb (put_before o [])
unfolding IsDistinct
once_one None = tt
once_one (Some n) = (tt, tt)

once_none : IsDistinct eqb []
unfolding IsDistinct
once_none = tt

module _ {S E B : Type 0} (list : S → List E) (base : S → B) (by : E → ℕ) (deals : E → Option ℕ) where
  -- what contracts see of a pass with this number and this view
  abbrev pub sight : ℕ → View S E B → Known E
  sight n v = record { number = n; seen = v.seen; mine = v.mine; lost = v.lost; joined = v.joined; holds = is_some v.held }

  none_of_one : (m : ℕ) (e : E) → by e ≢ m → of by m (e ∷ []) ≡ []
  none_of_one m e other = ap (λ b. cond b (e ∷ []) []) (ne_eqb (by e) m other)

  pub one_of_one : (m : ℕ) (e : E) → by e ≡ m → of by m (e ∷ []) ≡ e ∷ []
  one_of_one m e same = ap (λ b. cond b (e ∷ []) []) (eq-eqb (by e) m same)

  pub may_raise : (y : S) (v : View S E B) (n : ℕ) → Some (base y) ≡ v.base → is_some v.held ≡ true → v.number ≡ Some n → IsNext by deals (sight n v) (list y)
      → (more : List E) × MayRaise list base by deals y more v
  may_raise y v n based held num next = ⊎_elim
      (λ (same : list y ≡ v.seen). (
        [],
        record {
          base_is = based;
          list_is = same ∙ sym (append-nil v.seen);
          held = some_of v.held held;
          number = (n, num, λ m _ _. refl);
          new = λ m e. absurd (true≢false (sym e));
          once = once_none;
        },
      ))
      (λ (o : (e : E) × (list y ≡ v.seen ++ e ∷ []) × IsOwn by deals (sight n v) e × GivesNew by deals (sight n v) e). let e = o.0 in (
        e ∷ [],
        record {
          base_is = based;
          list_is = o.1;
          held = some_of v.held held;
          number = (
            n,
            num,
            λ m ne nj. none_of_one m e (λ same. ⊎_elim
                (λ (mine : by e ≡ n). ne (sym same ∙ mine))
                (λ (theirs : has (by e) v.joined ≡ true). true≢false (sym theirs ∙ (ap (λ i. has i v.joined) same ∙ nj)))
                o.2),
          );
          new = λ m z. o.3 m (put_one (deals e) m z);
          once = once_one (deals e);
        },
      ))
      next

  pub entered : (y : S) (v : View S E B) (n m : ℕ) → Enters by deals (sight n v) (list y) m → IsNext by deals (sight n v) (list y)
  entered y v n m o = inr (o.0, o.1, inl o.2, λ k z. let same : m ≡ k = some_same m k (sym o.3 ∙ z) in subst (λ (i : ℕ). (i ≢ 0) × (given deals i v.seen ≡ false)) same (o.4, o.5))

  -- what was raised in vain is lost
  pub agrees_on : (v : View S E B) → Agrees list base by deals v → HasNoneOf by v.pending v.seen → Agrees list base by deals (handed_on list base by deals v)
  agrees_on v agrees none = (
    λ n z. ((agrees.0 n z).0, refl),
    λ m e. by_bool (has m v.pending)
        (λ z. none m z)
        (λ z. agrees.1 m (or_right (has m v.lost) (has m v.pending) (sym (has_append m v.lost v.pending) ∙ e) z)),
  )

pub hand_of : {S E B : Type 0} (v : View S E B) (hand : List (ℕ × Option S)) → is_some v.held ≡ true → hand ≡ in_hand v.held → hand ≡ (0, None) ∷ []
hand_of v hand e same = let x = some_of v.held e in same ∙ ap in_hand x.1
