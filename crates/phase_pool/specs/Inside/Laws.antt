-- Whole parts after whole parts, as a board's laws want them.
use Rattle.std.proofs.Common.{◌∙◌, ℕ, Bool, true, false, List, [], ◌++◌, refl, sym, ap, subst, append-nil}
use Rattle.core_event.specs.declared.entry.Entry.{Entry}
use Rattle.run_order.specs.Lists.{own, Grew}
use Rattle.run_order.specs.Plans.{Phase}
use Rattle.run_order.specs.Parts.{Making, Parts}
use Rattle.run_order.proofs.Lists.{begins_on, begins_same, cut_on, grew_on}
use Rattle.run_order.proofs.Parts.{parts_append, parts_none}
use Rattle.phase_pool.specs.Passes.{Known, Makes}
use Rattle.phase_pool.specs.Inside.Going.{Went}

pub makes_on : (P Q R : List Entry → Type 0) (k k' k'' : Known) → ((a b : List Entry) → P a → Q b → R (a ++ b)) → Makes P k k' → Makes Q k' k'' → Makes R k k''
makes_on P Q R k k' k'' f a b = record {
  number = b.number ∙ a.number;
  begins = begins_on k.seen k'.seen k''.seen a.begins b.begins;
  made = grew_on P Q R (own k.number k.seen) (own k.number k'.seen) (own k.number k''.seen) f a.made
      (subst (λ n. Grew Q (own n k'.seen) (own n k''.seen)) a.number b.made);
}

pub makes_none : (P : List Entry → Type 0) (k : Known) → P [] → Makes P k k
makes_none P k none = record { number = refl; begins = begins_same k.seen; made = ([], sym (append-nil (own k.number k.seen)), none) }

module _ {C : Type 0} (Made : Making C) (jobs : Phase C) where
  pub went_none : (k : ℕ) (b : Bool) → Went Made jobs k b b []
  went_none k false = parts_none Made jobs k
  went_none k true = refl

  went_append : (k : ℕ) (b c d : Bool) (x y : List Entry) → Went Made jobs k b c x → Went Made jobs k c d y → Went Made jobs k b d (x ++ y)
  went_append k false false false x y p q = parts_append Made jobs k x y p q
  went_append k false false true x y p q = cut_on (Parts Made jobs k) (Parts Made jobs k) (Parts Made jobs k) (parts_append Made jobs k) x y p q
  went_append k false true false x y p q = absurd q
  went_append k false true true x y p q = subst (λ z. Went Made jobs k false true (x ++ z)) (sym q) (subst (Went Made jobs k false true) (sym (append-nil x)) p)
  went_append k true false d x y p q = absurd p
  went_append k true true false x y p q = absurd q
  went_append k true true true x y p q = ap (λ z. z ++ y) p ∙ q

  pub goes_itself : (b : Bool) (k : Known) → Makes (Went Made jobs k.number b b) k k
  goes_itself b k = makes_none (Went Made jobs k.number b b) k (went_none k.number b)

  pub goes_further : (b c d : Bool) (k k' k'' : Known) → Makes (Went Made jobs k.number b c) k k' → Makes (Went Made jobs k'.number c d) k' k'' → Makes (Went Made jobs k.number b d) k k''
  goes_further b c d k k' k'' p q = makes_on (Went Made jobs k.number b c) (Went Made jobs k.number c d) (Went Made jobs k.number b d) k k' k'' (went_append k.number b c d) p
      (subst (λ n. Makes (Went Made jobs n c d) k' k'') p.number q)
