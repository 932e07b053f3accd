-- A pass that looked on, turn after turn, and then took its turn.
use Rattle.std.proofs.Common.{◌≡◌, ℕ, List, [], ◌++◌, refl, sym, ap, ◌∙◌, subst, append-nil, append_assoc}
use Rattle.std.specs.Prelude.{Some, None}
use Rattle.ws_turn.specs.Lists.{StartsWith, of}
use Rattle.pass_turns.specs.Adds.{Tried}
use Rattle.pass_turns.specs.Turns.{IsFaithful, Knows, LookedOn, TookTurn}

pub starts_on : {E : Type 0} (xs ys zs : List E) → StartsWith zs ys → StartsWith ys xs → StartsWith zs xs
starts_on xs ys zs s t = (t.0 ++ s.0, s.1 ∙ (ap (λ l. l ++ s.0) t.1 ∙ append_assoc xs t.0 s.0))

module _ {E B A : Type 0} (by : E → ℕ) (legal : B → List E → Type 0) (did : B → ℕ → List E → List E → A → Type 0) (b : B) where
  pub looked_first : (k : Knows E) → IsFaithful by k → LookedOn by k k
  looked_first k faithful = record { begins = ([], sym (append-nil k.seen)); number = refl; mine = refl; lost = refl; faithful = faithful }

  pub looked_again : (same : Type 0) (k j l : Knows E) → LookedOn by k j → TookTurn by legal (Tried did same) b None j l → LookedOn by k l
  looked_again same k j l on turn = record {
    begins = starts_on k.seen j.seen l.seen (subst (λ s. StartsWith s j.seen) (sym (turn.seen ∙ (ap (λ m. turn.found ++ m) turn.did_it.0 ∙ append-nil turn.found))) turn.begins) on.begins;
    number = turn.number ∙ on.number;
    mine = turn.mine ∙ (ap (λ m. j.mine ++ m) turn.did_it.0 ∙ (append-nil j.mine ∙ on.mine));
    lost = turn.lost ∙ on.lost;
    faithful = turn.faithful;
  }

  pub waited : (same : Type 0) (answer : A) (k j l : Knows E) → LookedOn by k j → TookTurn by legal (Tried did same) b (Some answer) j l → TookTurn by legal did b answer k l
  waited same answer k j l on turn = record {
    found = turn.found;
    added = turn.added;
    begins = starts_on k.seen j.seen turn.found turn.begins on.begins;
    own_found = subst (λ n. of by n turn.found ≡ k.mine) on.number (turn.own_found ∙ on.mine);
    legal_found = turn.legal_found;
    did_it = subst (λ n. did b n turn.found turn.added answer) on.number turn.did_it;
    number = turn.number ∙ on.number;
    seen = turn.seen;
    mine = turn.mine ∙ ap (λ m. m ++ turn.added) on.mine;
    lost = turn.lost ∙ on.lost;
    legal_seen = turn.legal_seen;
    faithful = turn.faithful;
  }

-- a turn that did more than is said of it did what is said
pub turn_wider : {E B A : Type 0} (by : E → ℕ) (legal : B → List E → Type 0) (did does : B → ℕ → List E → List E → A → Type 0) (b : B) (answer : A) (k j : Knows E)
    → ((n : ℕ) (found added : List E) → did b n found added answer → does b n found added answer) → TookTurn by legal did b answer k j → TookTurn by legal does b answer k j
turn_wider by legal did does b answer k j so turn = record {
  found = turn.found;
  added = turn.added;
  begins = turn.begins;
  own_found = turn.own_found;
  legal_found = turn.legal_found;
  did_it = so k.number turn.found turn.added turn.did_it;
  number = turn.number;
  seen = turn.seen;
  mine = turn.mine;
  lost = turn.lost;
  legal_seen = turn.legal_seen;
  faithful = turn.faithful;
}
