-- Commands that are cleaned, one after another.
use Rattle.std.proofs.Common.{◌≡◌, ℕ, ◌+◌, ◌<◌, ◌≤◌, List, [], ◌∷◌, ◌++◌, map, length, take, get_or, refl, sym, ap, ◌∙◌, subst, Option, Some, None, Result, Ok, Err, append_assoc, append-nil}
use Rattle.std.specs.Prelude.{Bool, slice_get, OnErr}
use Rattle.std.specs.List.{AllByRecursion}
use Rattle.builder_api.specs.Meanings.{Meanings}
use Rattle.proj_desc.specs.declared.command.Command.{Command}
use Rattle.build_laws.specs.States.{Item, item, State, Descs, IsItem}
use Rattle.build_laws.specs.Records.{Sound}
use Rattle.build_laws.specs.Builds.{Project, items_from, project_items, items_of}
use Rattle.build_laws.specs.Planned.{IsDescribed}
use Rattle.build_laws.proofs.Sounds.{all_at, sound_cleaned}
use Rattle.build_laws.proofs.Ordered.{described_item}
use Rattle.build_run.specs.Books.{Book, Entry, Cleared, CleanUp, at, Cleans}
use Rattle.build_run.specs.Sweeps.{Sweep, Passed, Swept, swept_item, swept_state, last_state, sweep_entries, sweep_calls, AreSweeps, WereSwept, SweepsHalt}
use Rattle.build_run.proofs.Done.{one_done, done_joined}
use Rattle.build_run.proofs.Runs.{joined, items_length, items_next, item_parts, projects_next, project_parts}
use Rattle.build_run.proofs.Loops.{read_at, take_all}

-- ---- one command

pub one_swept : (b b' : Book) (i : Item) (refused : Option ℕ) → Cleans b i refused b' → WereSwept b (i ∷ []) b'
one_swept b b' i None h = subst (WereSwept b (i ∷ [])) (sym h.6) (record {
  sweeps = Swept i h.0 h.1 ∷ [];
  items = refl;
  adds = record { mine = refl; since = refl; began = refl; done = one_done (Cleared i) b.told b'.told h.5; serving = refl; has = refl };
  now = refl;
  are = ((h.3, h.2, h.4), tt);
})
one_swept b b' i (Some n) h = subst (WereSwept b (i ∷ [])) (sym h.4) (record {
  sweeps = Passed i h.0 ∷ [];
  items = refl;
  adds = record { mine = same b.mine; since = same b.since; began = refl; done = refl; serving = refl; has = refl };
  now = refl;
  are = ((h.2, h.1), tt);
})
  where
    same : (es : List Entry) → es ++ at h.0 (CleanUp i.project i.index (Some n)) ∷ [] ≡ es ++ at h.0 (CleanUp i.project i.index (Some 35)) ∷ []
    same es = ap (λ k. es ++ at h.0 (CleanUp i.project i.index (Some k)) ∷ []) h.3

-- ---- one after another

last_append : (s : State) (xs ys : List Sweep) → last_state s (xs ++ ys) ≡ last_state (last_state s xs) ys
last_append s [] ys = refl
last_append s (x ∷ xs) ys = last_append (swept_state x) xs ys

sweeps_append : (has : List ℕ → Bool) (s : State) (xs ys : List Sweep) → AreSweeps has s xs → AreSweeps has (last_state s xs) ys → AreSweeps has s (xs ++ ys)
sweeps_append has s [] ys h g = g
sweeps_append has s (x ∷ xs) ys h g = (h.0, sweeps_append has (swept_state x) xs ys h.1 g)

map_append : (xs ys : List Sweep) → map swept_item (xs ++ ys) ≡ map swept_item xs ++ map swept_item ys
map_append [] ys = refl
map_append (x ∷ xs) ys = ap (λ zs. swept_item x ∷ zs) (map_append xs ys)

pub swept_none : (b : Book) → WereSwept b [] b
swept_none b = record { sweeps = []; items = refl; adds = record { mine = sym (append-nil b.mine); since = sym (append-nil b.since); began = refl; done = refl; serving = refl; has = refl }; now = refl; are = tt }

swept_more : (b b' b'' : Book) (is js : List Item) → WereSwept b is b' → WereSwept b' js b'' → WereSwept b (is ++ js) b''
swept_more b b' b'' is js p q = record {
  sweeps = p.sweeps ++ q.sweeps;
  items = map_append p.sweeps q.sweeps ∙ (λ i. p.items i ++ q.items i);
  adds = record {
    mine = joined sweep_entries b.mine b'.mine b''.mine p.sweeps q.sweeps p.adds.mine q.adds.mine;
    since = joined sweep_entries b.since b'.since b''.since p.sweeps q.sweeps p.adds.since q.adds.since;
    began = q.adds.began ∙ p.adds.began;
    done = done_joined sweep_calls p.sweeps q.sweeps b.told b'.told b''.told p.adds.done q.adds.done;
    serving = q.adds.serving ∙ p.adds.serving;
    has = q.adds.has ∙ p.adds.has;
  };
  now = q.now ∙ ap (λ s. last_state s q.sweeps) p.now ∙ sym (last_append b.now p.sweeps q.sweeps);
  are = sweeps_append b.has b.now p.sweeps q.sweeps p.are (subst (λ s. AreSweeps b.has s q.sweeps) p.now (subst (λ has. AreSweeps has b'.now q.sweeps) p.adds.has q.are));
}

descs_swept : (has : List ℕ → Bool) (s : State) (xs : List Sweep) → AreSweeps has s xs → (last_state s xs).descs ≡ s.descs
descs_swept has s [] h = refl
descs_swept has s (Passed i found ∷ xs) h = descs_swept has found xs h.1 ∙ h.0.1.descs
descs_swept has s (Swept i found next ∷ xs) h = descs_swept has next xs h.1 ∙ h.0.2.descs ∙ h.0.1.descs

swept_descs : (b b' : Book) (is : List Item) → WereSwept b is b' → b'.now.descs ≡ b.now.descs
swept_descs b b' is h = ap (λ (s : State). s.descs) h.now ∙ descs_swept b.has b.now h.sweeps h.are

sound_swept : (ms : Meanings) (has : List ℕ → Bool) (s : State) (xs : List Sweep) → Sound ms has s.records → AreSweeps has s xs → Sound ms has (last_state s xs).records
sound_swept ms has s [] sound h = sound
sound_swept ms has s (Passed i found ∷ xs) sound h = sound_swept ms has found xs (subst (Sound ms has) (sym h.0.1.records) sound) h.1
sound_swept ms has s (Swept i found next ∷ xs) sound h = sound_swept ms has next xs (sound_cleaned ms has found next i (subst (Sound ms has) (sym h.0.1.records) sound) h.0.2) h.1

-- cleaning keeps records sound
pub swept_sound : (ms : Meanings) (b b' : Book) (is : List Item) → WereSwept b is b' → Sound ms b.has b.now.records → Sound ms b'.has b'.now.records
swept_sound ms b b' is h sound = subst (λ has. Sound ms has b'.now.records) (sym h.adds.has) (subst (λ (s : State). Sound ms b.has s.records) (sym h.now) (sound_swept ms b.has b.now h.sweeps sound h.are))

halt_later : (b b' b'' : Book) (is js rest : List Item) → WereSwept b is b' → SweepsHalt b' js b'' → SweepsHalt b (is ++ (js ++ rest)) b''
halt_later b b' b'' is js rest p q = record {
  front = is ++ q.front;
  rest = q.rest ++ rest;
  all = ap (λ x. is ++ x) (ap (λ x. x ++ rest) q.all ∙ append_assoc q.front q.rest rest) ∙ sym (append_assoc is q.front (q.rest ++ rest));
  swept = swept_more b b' b'' is q.front p q.swept;
}

-- ---- the loops

pub next_item : (b b' : Book) (p : List ℕ) (cs : List Command) (n index : ℕ) (c : Command) → IsDescribed b.now.descs (p, cs) → WereSwept b (take n (items_from p 0 cs)) b' → index ≡ n → n < length cs → c ≡ get_or cs n c
    → IsItem b'.now.descs (item p index c)
next_item b b' p cs n index c described swept is more at =
    subst (λ (d : Descs). IsItem d (item p index c)) (sym (swept_descs b b' (take n (items_from p 0 cs)) swept))
    (described_item b.now.descs (p, cs) index c described (ap (slice_get cs) is ∙ read_at cs n c more at))

pub commands_more : (b b' b'' : Book) (p : List ℕ) (cs : List Command) (n index : ℕ) (c : Command) → WereSwept b (take n (items_from p 0 cs)) b' → index ≡ n → n < length cs → c ≡ get_or cs n c
    → WereSwept b' (item p index c ∷ []) b'' → WereSwept b (take (n + 1) (items_from p 0 cs)) b''
commands_more b b' b'' p cs n index c swept is more at one =
    subst (λ is. WereSwept b is b'') (sym (items_next p cs n c (read_at cs n c more at)))
    (swept_more b b' b'' (take n (items_from p 0 cs)) (item p n c ∷ []) swept (subst (λ k. WereSwept b' (item p k c ∷ []) b'') is one))

pub commands_halt : (b b' b'' : Book) (p : List ℕ) (cs : List Command) (n : ℕ) (c : Command) → WereSwept b (take n (items_from p 0 cs)) b' → n < length cs → c ≡ get_or cs n c → b'' ≡ b'
    → SweepsHalt b (items_from p 0 cs) b''
commands_halt b b' b'' p cs n c swept more at same =
    let q = item_parts p cs n c (read_at cs n c more at) in record {
      front = take n (items_from p 0 cs);
      rest = (item p n c ∷ []) ++ q.0;
      all = q.1;
      swept = subst (WereSwept b (take n (items_from p 0 cs))) (sym same) swept;
    }

pub commands_swept : (b b' : Book) (p : List ℕ) (cs : List Command) (n : ℕ) → WereSwept b (take n (items_from p 0 cs)) b' → length cs ≤ n → WereSwept b (items_from p 0 cs) b'
commands_swept b b' p cs n swept all = subst (λ is. WereSwept b is b') (take_all (items_from p 0 cs) n (subst (λ m. m ≤ n) (sym (items_length p 0 cs)) all)) swept

pub next_project : (b b' : Book) (ps : List Project) (n : ℕ) (p : Project) (cs : List Command) → AllByRecursion (IsDescribed b.now.descs) ps → WereSwept b (items_of (take n ps)) b' → n < length ps → p ≡ get_or ps n p
    → cs ≡ p.1 → IsDescribed b'.now.descs (p.0, cs)
next_project b b' ps n p cs described swept more is same =
    subst (λ (d : Descs). IsDescribed d (p.0, cs)) (sym (swept_descs b b' (items_of (take n ps)) swept))
    (subst (λ cs. IsDescribed b.now.descs (p.0, cs)) (sym same) (all_at (IsDescribed b.now.descs) ps n p described (read_at ps n p more is)))

pub projects_more : (b b' b'' : Book) (ps : List Project) (n : ℕ) (p : Project) (cs : List Command) → WereSwept b (items_of (take n ps)) b' → n < length ps → p ≡ get_or ps n p → cs ≡ p.1
    → WereSwept b' (items_from p.0 0 cs) b'' → WereSwept b (items_of (take (n + 1) ps)) b''
projects_more b b' b'' ps n p cs swept more is same one =
    subst (λ is. WereSwept b is b'') (sym (projects_next ps n p (read_at ps n p more is)))
    (swept_more b b' b'' (items_of (take n ps)) (project_items p) swept (subst (λ cs. WereSwept b' (items_from p.0 0 cs) b'') same one))

pub projects_halt : (b b' b'' : Book) (ps : List Project) (n : ℕ) (p : Project) (cs : List Command) → WereSwept b (items_of (take n ps)) b' → n < length ps → p ≡ get_or ps n p → cs ≡ p.1
    → SweepsHalt b' (items_from p.0 0 cs) b'' → SweepsHalt b (items_of ps) b''
projects_halt b b' b'' ps n p cs swept more is same halts =
    let q = project_parts ps n p (read_at ps n p more is) in
    subst (λ is. SweepsHalt b is b'') (sym q.1)
    (halt_later b b' b'' (items_of (take n ps)) (project_items p) q.0 swept (subst (λ cs. SweepsHalt b' (items_from p.0 0 cs) b'') same halts))

-- what holds whatever is answered holds where memory wants
pub on_err : {T E P : Type 0} (r : Result T E) → P → OnErr r P
on_err (Ok x) p = tt
on_err (Err e) p = p
