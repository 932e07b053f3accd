-- Runs of turns, one after another.
use Rattle.std.proofs.Common.{◌≡◌, ℕ, ◌+◌, Bool, true, false, ◌||◌, List, [], ◌∷◌, ◌++◌, length, map, take, zero, suc, refl, sym, ap, ◌∙◌, subst, Some, arith, append_assoc, append-nil}
use Rattle.std.specs.Prelude.{slice_get}
use Rattle.std.specs.List.{AllByRecursion, flat_map}
use Rattle.mark_set.proofs.Builds.{take_next}
use Rattle.proj_desc.specs.declared.command.Command.{Command}
use Rattle.builder_api.specs.declared.kind.BuildKind.{BuildKind}
use Rattle.builder_api.specs.declared.outcome.BuildOutcome.{BuildOutcome}
use Rattle.builder_api.specs.Meanings.{Meanings}
use Rattle.build_laws.specs.States.{Item, item, State}
use Rattle.build_laws.specs.Records.{Sound}
use Rattle.build_laws.specs.Turns.{Turn, after, after_all, AreTurns}
use Rattle.build_laws.specs.Builds.{Project, items_from, project_items, items_of, asked, Untouched, IsRound}
use Rattle.build_laws.proofs.Walks.{after_append, turns_append, descs_turns}
use Rattle.build_run.specs.Books.{Book, turn_entries, turn_calls, Ran}
use Rattle.build_run.specs.Ends.{IsStirred, Halts, RoundHalts, RoundCame}
use Rattle.build_run.proofs.Done.{flat_append, done_joined}

-- ---- runs

pub ran_none : (ms : Meanings) (b : Book) → Ran ms b b []
ran_none ms b = record {
  adds = record { mine = sym (append-nil b.mine); since = sym (append-nil b.since); began = refl; done = refl; serving = refl; has = refl };
  now = refl;
  turns = tt;
  sounds = λ sound. tt;
}

pub joined : {A B : Type 0} (f : A → List B) (b b' b'' : List B) (xs ys : List A) → b' ≡ b ++ flat_map f xs → b'' ≡ b' ++ flat_map f ys → b'' ≡ b ++ flat_map f (xs ++ ys)
joined f b b' b'' xs ys p q = q ∙ ap (λ x. x ++ flat_map f ys) p ∙ append_assoc b (flat_map f xs) (flat_map f ys) ∙ ap (λ x. b ++ x) (sym (flat_append f xs ys))

-- the records after the last of the turns
sound_last : (ms : Meanings) (has : List ℕ → Bool) (s : State) (xs : List Turn) → Sound ms has s.records → AllByRecursion (λ x. Sound ms has (after x).records) xs → Sound ms has (after_all s xs).records
sound_last ms has s [] sound all = sound
sound_last ms has s (x ∷ xs) sound all = sound_last ms has (after x) xs all.0 all.1

all_append : {X : Type 0} (P : X → Type 0) (xs ys : List X) → AllByRecursion P xs → AllByRecursion P ys → AllByRecursion P (xs ++ ys)
all_append P [] ys h g = g
all_append P (x ∷ xs) ys h g = (h.0, all_append P xs ys h.1 g)

pub ran_sound : (ms : Meanings) (b b' : Book) (xs : List Turn) → Ran ms b b' xs → Sound ms b.has b.now.records → Sound ms b'.has b'.now.records
ran_sound ms b b' xs p sound = subst (λ has. Sound ms has b'.now.records) (sym p.adds.has) (subst (λ (s : State). Sound ms b.has s.records) (sym p.now) (sound_last ms b.has b.now xs sound (p.sounds sound)))

pub ran_more : (ms : Meanings) (b b' b'' : Book) (xs ys : List Turn) → Ran ms b b' xs → Ran ms b' b'' ys → Ran ms b b'' (xs ++ ys)
ran_more ms b b' b'' xs ys p q = record {
  adds = record {
    mine = joined turn_entries b.mine b'.mine b''.mine xs ys p.adds.mine q.adds.mine;
    since = joined turn_entries b.since b'.since b''.since xs ys p.adds.since q.adds.since;
    began = q.adds.began ∙ p.adds.began;
    done = done_joined turn_calls xs ys b.told b'.told b''.told p.adds.done q.adds.done;
    serving = q.adds.serving ∙ p.adds.serving;
    has = q.adds.has ∙ p.adds.has;
  };
  now = q.now ∙ ap (λ s. after_all s ys) p.now ∙ sym (after_append b.now xs ys);
  turns = turns_append ms b.has b.now xs ys p.turns (subst (λ s. AreTurns ms b.has s ys) p.now (subst (λ has. AreTurns ms has b'.now ys) p.adds.has q.turns));
  sounds = λ sound. all_append (λ x. Sound ms b.has (after x).records) xs ys (p.sounds sound)
      (subst (λ has. AllByRecursion (λ x. Sound ms has (after x).records) ys) p.adds.has (q.sounds (ran_sound ms b b' xs p sound)));
}

-- what descriptions say stays
pub ran_descs : (ms : Meanings) (b b' : Book) (xs : List Turn) → Ran ms b b' xs → b'.now.descs ≡ b.now.descs
ran_descs ms b b' xs p = ap (λ (s : State). s.descs) p.now ∙ descs_turns ms b.has b.now xs p.turns

-- ---- rounds

untouched_both : (xs ys : List Turn) → Untouched xs → Untouched ys → Untouched (xs ++ ys)
untouched_both [] ys h g = g
untouched_both (x ∷ xs) ys h g = (h.0, untouched_both xs ys h.1 g)

untouched_front : (xs ys : List Turn) → Untouched (xs ++ ys) → Untouched xs
untouched_front [] ys h = tt
untouched_front (x ∷ xs) ys h = (h.0, untouched_front xs ys h.1)

untouched_back : (xs ys : List Turn) → Untouched (xs ++ ys) → Untouched ys
untouched_back [] ys h = h
untouched_back (x ∷ xs) ys h = untouched_back xs ys h.1

stirred_more : (t u : Bool) (xs ys : List Turn) → IsStirred t xs → IsStirred u ys → IsStirred (t || u) (xs ++ ys)
stirred_more true u xs ys h g = λ none. h (untouched_front xs ys none)
stirred_more false true xs ys h g = λ none. g (untouched_back xs ys none)
stirred_more false false xs ys h g = untouched_both xs ys h g

map_append : {A B : Type 0} (f : A → B) (xs ys : List A) → map f (xs ++ ys) ≡ map f xs ++ map f ys
map_append f [] ys = refl
map_append f (x ∷ xs) ys = ap (λ zs. f x ∷ zs) (map_append f xs ys)

round_more : (kind : BuildKind) (is js : List Item) (xs ys : List Turn) → IsRound kind is xs → IsRound kind js ys → IsRound kind (is ++ js) (xs ++ ys)
round_more kind is js xs ys h g = map_append asked xs ys ∙ (λ i. h i ++ g i) ∙ sym (map_append (λ t. (t, kind)) is js)

pub came_none : (ms : Meanings) (b : Book) (kind : BuildKind) → RoundCame ms b kind [] false b
came_none ms b kind = record { turns = []; ran = ran_none ms b; round = refl; stirred = tt }

pub came_more : (ms : Meanings) (b b' b'' : Book) (kind : BuildKind) (is js : List Item) (t u : Bool) → RoundCame ms b kind is t b' → RoundCame ms b' kind js u b'' → RoundCame ms b kind (is ++ js) (t || u) b''
came_more ms b b' b'' kind is js t u p q = record {
  turns = p.turns ++ q.turns;
  ran = ran_more ms b b' b'' p.turns q.turns p.ran q.ran;
  round = round_more kind is js p.turns q.turns p.round q.round;
  stirred = stirred_more t u p.turns q.turns p.stirred q.stirred;
}

pub one_halts : (ms : Meanings) (b b' : Book) (kind : BuildKind) (i : Item) (o : BuildOutcome) → Halts b i kind o b' → RoundHalts ms b kind (i ∷ []) o b'
one_halts ms b b' kind i o h = record {
  front = [];
  at = i;
  next = record { front = []; rest = []; are = refl; round = refl };
  book = b;
  ran = ran_none ms b;
  halts = h;
}

-- a round halts where a part of it does
pub halts_later : (ms : Meanings) (b b' b'' : Book) (kind : BuildKind) (is js rest : List Item) (t : Bool) (o : BuildOutcome) → RoundCame ms b kind is t b' → RoundHalts ms b' kind js o b''
    → RoundHalts ms b kind (is ++ (js ++ rest)) o b''
halts_later ms b b' b'' kind is js rest t o p q = record {
  front = p.turns ++ q.front;
  at = q.at;
  next = record {
    front = is ++ q.next.front;
    rest = q.next.rest ++ rest;
    are = ap (λ x. is ++ x) (ap (λ x. x ++ rest) q.next.are ∙ append_assoc q.next.front (q.at ∷ q.next.rest) rest) ∙ sym (append_assoc is q.next.front (q.at ∷ q.next.rest ++ rest));
    round = round_more kind is q.next.front p.turns q.front p.round q.next.round;
  };
  book = q.book;
  ran = ran_more ms b b' q.book p.turns q.front p.ran q.ran;
  halts = q.halts;
}

-- ---- the commands of a project

items_get : (p : List ℕ) (k : ℕ) (cs : List Command) (n : ℕ) (c : Command) → slice_get cs n ≡ Some c → slice_get (items_from p k cs) n ≡ Some (item p (k + n) c)
items_get p k [] n c h = cc
items_get p k (d ∷ cs) zero c h = let same : d ≡ c = cc in λ i. Some (item p ((let e : k ≡ k + zero = omega arith in e) i) (same i))
items_get p k (d ∷ cs) (suc n) c h = items_get p (suc k) cs n c h ∙ ap (λ m. Some (item p m c)) (let e : suc k + n ≡ k + suc n = omega arith in e)

items_at : (p : List ℕ) (cs : List Command) (n : ℕ) (c : Command) → slice_get cs n ≡ Some c → slice_get (items_from p 0 cs) n ≡ Some (item p n c)
items_at p cs n c h = items_get p 0 cs n c h ∙ ap (λ m. Some (item p m c)) (let e : 0 + n ≡ n = omega arith in e)

pub items_length : (p : List ℕ) (k : ℕ) (cs : List Command) → length (items_from p k cs) ≡ length cs
items_length p k [] = refl
items_length p k (c ∷ cs) = ap suc (items_length p (suc k) cs)

pub items_next : (p : List ℕ) (cs : List Command) (n : ℕ) (c : Command) → slice_get cs n ≡ Some c → take (n + 1) (items_from p 0 cs) ≡ take n (items_from p 0 cs) ++ item p n c ∷ []
items_next p cs n c h = take_next (items_from p 0 cs) n (item p n c) (items_at p cs n c h)

-- a list in three parts at a place
parts_at : {X : Type 0} (xs : List X) (n : ℕ) (x : X) → slice_get xs n ≡ Some x → (rest : List X) × (xs ≡ take n xs ++ ((x ∷ []) ++ rest))
parts_at [] n x h = cc
parts_at (y ∷ xs) zero x h = (xs, ap (λ z. z ∷ xs) (let same : y ≡ x = cc in same))
parts_at (y ∷ xs) (suc n) x h = let p = parts_at xs n x h in (p.0, ap (λ z. y ∷ z) p.1)

pub item_parts : (p : List ℕ) (cs : List Command) (n : ℕ) (c : Command) → slice_get cs n ≡ Some c → (rest : List Item) × (items_from p 0 cs ≡ take n (items_from p 0 cs) ++ ((item p n c ∷ []) ++ rest))
item_parts p cs n c h = parts_at (items_from p 0 cs) n (item p n c) (items_at p cs n c h)

-- ---- the projects of a group

pub projects_next : (ps : List Project) (n : ℕ) (p : Project) → slice_get ps n ≡ Some p → items_of (take (n + 1) ps) ≡ items_of (take n ps) ++ project_items p
projects_next ps n p h = ap items_of (take_next ps n p h) ∙ flat_append project_items (take n ps) (p ∷ []) ∙ ap (λ x. items_of (take n ps) ++ x) (append-nil (project_items p))

pub project_parts : (ps : List Project) (n : ℕ) (p : Project) → slice_get ps n ≡ Some p → (rest : List Item) × (items_of ps ≡ items_of (take n ps) ++ (project_items p ++ rest))
project_parts ps n p h =
    let q = parts_at ps n p h in
    (items_of q.0, ap items_of q.1 ∙ flat_append project_items (take n ps) ((p ∷ []) ++ q.0))
