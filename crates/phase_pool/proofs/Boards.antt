-- How a worker goes on at a phase's board.
use Rattle.std.proofs.Common.{◌≡◌, ◌∙◌, ℕ, Bool, true, false, List, [], ◌∷◌, ◌++◌, refl, sym, ap, subst}
use Rattle.std.specs.Prelude.{Option, Some, None, MatchOption}
use Rattle.core_event.specs.declared.entry.Entry.{Entry}
use Rattle.core_event.specs.declared.event.Event.TheVariants.{Take}
use Rattle.run_order.specs.Lists.{entry, Cut}
use Rattle.run_order.specs.Plans.{Phase, commands_of}
use Rattle.run_order.specs.Parts.{Making, IsPart, Parts}
use Rattle.run_order.proofs.Lists.{cut_on, cut_whole}
use Rattle.run_order.proofs.Parts.{parts_none, parts_one}
use Rattle.phase_pool.specs.Passes.{Known, LooksOn, Makes}
use Rattle.phase_pool.specs.Parts.{HasTaken, IsRest, IsTake}
use Rattle.phase_pool.specs.Inside.Going.{Went}
use Rattle.phase_pool.specs.Inside.Laws.{makes_none, makes_on, went_none}
use Rattle.phase_pool.proofs.Passes.{makes_wider}

module _ {C : Type 0} (Made : Making C) (jobs : Phase C) where
  -- the worker stops, having made nothing since
  stops : (k : ℕ) (b : Bool) (h : List Entry) → h ≡ [] → Went Made jobs k b true h
  stops k false h e = cut_whole (Parts Made jobs k) h (subst (Parts Made jobs k) (sym e) (parts_none Made jobs k))
  stops k true h e = e

  pub stops_then : (b : Bool) (k k' : Known) → LooksOn k k' → Makes (Went Made jobs k.number b true) k k'
  stops_then b k k' l = makes_wider (λ h. h ≡ []) (Went Made jobs k.number b true) k k' (stops k.number b) l

  pub stops_here : (b : Bool) (k : Known) → Makes (Went Made jobs k.number b true) k k
  stops_here b k = makes_none (Went Made jobs k.number b true) k (stops k.number b [] refl)

  pub looks_there : (b : Bool) (k k' : Known) → LooksOn k k' → Makes (Went Made jobs k.number b b) k k'
  looks_there b k k' l = makes_wider (λ h. h ≡ []) (Went Made jobs k.number b b) k k' (λ h e. subst (Went Made jobs k.number b b) (sym e) (went_none Made jobs k.number b)) l

  -- it took a job, or there was none to take
  pub took : {J : Type 0} (name : J → List ℕ) (b : Bool) → b ≡ false → (o : Option J) (k k' : Known) → HasTaken name o k k'
      → MatchOption o (Makes (Went Made jobs k.number b b) k k') (λ job. (b ≡ false) × (b ≡ false) × Makes (IsTake k.number (name job)) k k')
  took name b e None k k' t = looks_there b k k' t
  took name b e (Some job) k k' t = (e, e, t)

  part_of : (k : ℕ) (commands : List C) (name : List ℕ) (a b : List Entry) → IsTake k name a → IsRest Made k commands b → IsPart Made k commands name (a ++ b)
  part_of k commands name a b t r = record {
    taken = t.0;
    body = r.body;
    finished = r.finished;
    are = ap (λ l. l ++ b) t.2 ∙ ap (λ l. entry k Take t.0 ∷ l) r.are;
    gives = t.1;
    made = r.made;
  }

  module _ (name : List ℕ) (k k' k'' : Known) (t : Makes (IsTake k.number name) k k') where
    -- it did the whole job that it had taken
    pub did : (b c : Bool) → b ≡ false → c ≡ false → Makes (IsRest Made k'.number (commands_of jobs name)) k' k'' → Makes (Went Made jobs k.number b c) k k''
    did b c e f r = subst (λ z. Makes (Went Made jobs k.number z c) k k'') (sym e) (subst (λ z. Makes (Went Made jobs k.number false z) k k'') (sym f)
        (makes_on (IsTake k.number name) (IsRest Made k.number (commands_of jobs name)) (Parts Made jobs k.number) k k' k''
        (λ x y p q. parts_one Made jobs k.number name (x ++ y) (part_of k.number (commands_of jobs name) name x y p q)) t
        (subst (λ n. Makes (IsRest Made n (commands_of jobs name)) k' k'') t.number r)))

    -- it did some of it, and stopped
    pub did_some : (b : Bool) → b ≡ false → Makes (Cut (IsRest Made k'.number (commands_of jobs name))) k' k'' → Makes (Went Made jobs k.number b true) k k''
    did_some b e r = subst (λ z. Makes (Went Made jobs k.number z true) k k'') (sym e)
        (makes_on (IsTake k.number name) (Cut (IsRest Made k.number (commands_of jobs name))) (Cut (Parts Made jobs k.number)) k k' k''
        (cut_on (IsTake k.number name) (IsRest Made k.number (commands_of jobs name)) (Parts Made jobs k.number)
        (λ x y p q. parts_one Made jobs k.number name (x ++ y) (part_of k.number (commands_of jobs name) name x y p q))) t
        (subst (λ n. Makes (Cut (IsRest Made n (commands_of jobs name))) k' k'') t.number r))
