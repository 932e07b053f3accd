-- One group after another.
use Rattle.std.proofs.Common.{◌≡◌, ◌≢◌, ℕ, suc, ◌+◌, ◌<◌, ◌≤◌, nat_eq, Bool, true, false, List, [], ◌∷◌, ◌++◌, map, length, take, drop, get_or, refl, sym, ap, ◌∙◌, subst, arith, append_assoc, append-nil, length-append}
use Rattle.std.specs.List.{AllByRecursion, AllPairs, flat_map}
use Rattle.std.specs.Str.{bytes_eq}
use Rattle.std.proofs.Math.Seq.{take-append_seam, drop-append_seam}
use Rattle.std.proofs.lemmas.Bool.{eqb-true}
use Rattle.res_path.specs.Paths.{Names}
use Rattle.builder_api.specs.declared.kind.BuildKind.{BuildKind}
use Rattle.builder_api.specs.declared.outcome.BuildOutcome.{BuildOutcome}
use Rattle.builder_api.specs.Meanings.{Meanings}
use Rattle.builder_api.proofs.Places.{itself, same_name}
use Rattle.build_laws.specs.States.{Descs}
use Rattle.build_laws.specs.Turns.{Turn}
use Rattle.build_laws.specs.Builds.{Project, items_of, IsRound, KnotBuilt, GroupBuilt, AllBuilt, knots_of}
use Rattle.build_laws.specs.Planned.{IsDescribed, IsPlanned}
use Rattle.build_laws.proofs.Ordered.{AreOnce, once_by}
use Rattle.build_run.specs.Books.{Book, Ran}
use Rattle.build_run.specs.Ends.{RoundCame, RoundHalts, KnotHalts, GroupCame, GroupHalts, AllCame, AllHalt}
use Rattle.build_run.specs.Inside.Cuts.{is_first}
use Rattle.build_run.proofs.Runs.{ran_none, ran_more, ran_descs}

abbrev flat : List (List Project) → List Project
flat gs = flat_map (λ g. g) gs

all_front : {X : Type 0} (P : X → Type 0) (xs ys : List X) → AllByRecursion P (xs ++ ys) → AllByRecursion P xs
all_front P [] ys h = tt
all_front P (x ∷ xs) ys h = (h.0, all_front P xs ys h.1)

all_back : {X : Type 0} (P : X → Type 0) (xs ys : List X) → AllByRecursion P (xs ++ ys) → AllByRecursion P ys
all_back P [] ys h = h
all_back P (x ∷ xs) ys h = all_back P xs ys h.1

pairs_back : {X : Type 0} (R : X → X → Type 0) (xs ys : List X) → AllPairs R (xs ++ ys) → AllPairs R ys
pairs_back R [] ys h = h
pairs_back R (x ∷ xs) ys h = pairs_back R xs ys (λ i j d lt le. h (suc i) (suc j) d (omega arith) (omega arith))

-- what is planned after the first group
planned_tail : (descs : Descs) (order : List Project) (knots : List Names) (g : List Project) (gs : List (List Project)) → IsPlanned descs order knots (g ∷ gs) → IsPlanned descs (flat gs) (knots_of gs) gs
planned_tail descs order knots g gs plan = record {
  ordered = refl;
  tied = refl;
  full = plan.full.1;
  once = pairs_back (λ p q. p.0 ≢ q.0) g (flat gs) (subst (AllPairs (λ p q. p.0 ≢ q.0)) plan.ordered plan.once);
  described = all_back (IsDescribed descs) g (flat gs) (subst (AllByRecursion (IsDescribed descs)) plan.ordered plan.described);
  placed = plan.placed.1;
}

-- ---- whether the next group is a knot

-- two or more projects
abbrev pub IsTwo : List Project → Type 0
IsTwo [] = ⊥
IsTwo (p ∷ []) = ⊥
IsTwo (p ∷ q ∷ ps) = Unit {0}

first_is : (order rest ps : List Project) (p f : Project) → order ≡ (p ∷ ps) ++ rest → f ≡ get_or order 0 f → f ≡ p
first_is order rest ps p f e is = is ∙ ap (λ xs. get_or xs 0 f) e

-- a project that no later group has is the first of no later knot
first_apart : (p : Project) (gs : List (List Project)) → AllByRecursion (λ q. p.0 ≢ q.0) (flat gs) → is_first (knots_of gs) p.0 ≡ false
first_apart p [] h = refl
first_apart p ([] ∷ gs) h = first_apart p gs h
first_apart p ((q ∷ []) ∷ gs) h = first_apart p gs h.1
first_apart p ((q ∷ r ∷ qs) ∷ gs) h = by (bytes_eq q.0 p.0) refl
  where
    by : (b : Bool) → bytes_eq q.0 p.0 ≡ b → b ≡ false
    by true e = absurd (h.0 (sym (same_name q.0 p.0 e)))
    by false e = refl

true_false : (b : Bool) → b ≡ true → b ≡ false → ⊥
true_false true h g = cc
true_false false h g = cc

pub record KnotNext (g : List Project) (gs : List (List Project)) (k : Names) (later : List Names) : Type 0 where
  pub two : IsTwo g
  pub names : k ≡ map (λ x. x.0) g
  pub left : later ≡ knots_of gs

pub knot_next : (descs : Descs) (order : List Project) (knots : List Names) (g : List Project) (gs : List (List Project)) (f : Project) (k : Names) (later : List Names) → IsPlanned descs order knots (g ∷ gs)
    → f ≡ get_or order 0 f → knots ≡ k ∷ later → is_first knots (get_or order 0 f).0 ≡ true → KnotNext g gs k later
knot_next descs order knots [] gs f k later plan is e first = absurd (plan.full.0 refl)
knot_next descs order knots (p ∷ []) gs f k later plan is e first =
    let same : f ≡ p = first_is order (flat gs) [] p f plan.ordered is in
    let once : AreOnce (p ∷ flat gs) = subst AreOnce plan.ordered (once_by order plan.once) in
    let no : is_first knots f.0 ≡ false = ap (λ ks. is_first ks f.0) plan.tied ∙ ap (λ (x : Project). is_first (knots_of gs) x.0) same ∙ first_apart p gs once.0 in
    absurd (true_false (is_first knots f.0) (ap (λ (x : Project). is_first knots x.0) is ∙ first) no)
knot_next descs order knots (p ∷ q ∷ ps) gs f k later plan is e first =
    let same : k ∷ later ≡ map (λ x. x.0) (p ∷ q ∷ ps) ∷ knots_of gs = sym e ∙ plan.tied in
    record { two = tt; names = cc; left = cc }

pub record LoneNext (g : List Project) (gs : List (List Project)) (knots : List Names) : Type 0 where
  pub project : Project
  pub is : g ≡ project ∷ []
  pub left : knots ≡ knots_of gs

pub lone_next : (descs : Descs) (order : List Project) (knots : List Names) (g : List Project) (gs : List (List Project)) (f : Project) → IsPlanned descs order knots (g ∷ gs)
    → f ≡ get_or order 0 f → is_first knots (get_or order 0 f).0 ≡ false → LoneNext g gs knots
lone_next descs order knots [] gs f plan is none = absurd (plan.full.0 refl)
lone_next descs order knots (p ∷ []) gs f plan is none = record { project = p; is = refl; left = plan.tied }
lone_next descs order knots (p ∷ q ∷ ps) gs f plan is none =
    let same : f ≡ p = first_is order (flat gs) (q ∷ ps) p f plan.ordered is in
    let yes : is_first knots f.0 ≡ true = ap (λ ks. is_first ks f.0) plan.tied ∙ ap (λ (x : Project). bytes_eq p.0 x.0) same ∙ itself p.0 in
    absurd (true_false (is_first knots f.0) yes (ap (λ (x : Project). is_first knots x.0) is ∙ none))

-- ---- the two parts of the order

pub map_length : (g : List Project) → length (map (λ x. x.0) g) ≡ length g
map_length [] = refl
map_length (p ∷ g) = ap suc (map_length g)

pub cut_front : (order g rest : List Project) (n : ℕ) → order ≡ g ++ rest → n ≡ length g → take n order ≡ g
cut_front order g rest n e same = (λ i. take (same i) (e i)) ∙ take-append_seam g rest

pub cut_back : (order g rest : List Project) (n : ℕ) → order ≡ g ++ rest → n ≡ length g → drop n order ≡ rest
cut_back order g rest n e same = (λ i. drop (same i) (e i)) ∙ drop-append_seam g rest

pub cut_fits : (order g rest : List Project) (n : ℕ) → order ≡ g ++ rest → n ≡ length g → n ≤ length order
cut_fits order g rest n e same =
    let whole : length order ≡ length g + length rest = ap length e ∙ length-append g rest in
    omega arith

-- the members are described
pub members_described : (descs : Descs) (order : List Project) (knots : List Names) (g : List Project) (gs : List (List Project)) (members : List Project) → IsPlanned descs order knots (g ∷ gs) → members ≡ g
    → AllByRecursion (IsDescribed descs) members
members_described descs order knots g gs members plan same = subst (AllByRecursion (IsDescribed descs)) (sym same) (all_front (IsDescribed descs) g (flat gs) (subst (AllByRecursion (IsDescribed descs)) plan.ordered plan.described))

-- ---- a group came through, or halted

knot_group : (kind : BuildKind) (g : List Project) (xs : List Turn) → IsTwo g → KnotBuilt kind (items_of g) xs → GroupBuilt kind g xs
knot_group kind [] xs two built = absurd two
knot_group kind (p ∷ []) xs two built = absurd two
knot_group kind (p ∷ q ∷ ps) xs two built = built

pub knot_halted : (ms : Meanings) (b : Book) (kind : BuildKind) (g members : List Project) (k : Names) (o : BuildOutcome) (b' : Book) → IsTwo g → members ≡ g → k ≡ map (λ x. x.0) g
    → KnotHalts ms b kind (items_of members) k o b' → GroupHalts ms b kind g o b'
knot_halted ms b kind [] members k o b' two same named h = absurd two
knot_halted ms b kind (p ∷ []) members k o b' two same named h = absurd two
knot_halted ms b kind (p ∷ q ∷ ps) members k o b' two same named h =
    subst (λ k. KnotHalts ms b kind (items_of (p ∷ q ∷ ps)) k o b') named (subst (λ ps. KnotHalts ms b kind (items_of ps) k o b') same h)

pub lone_halted : (ms : Meanings) (b : Book) (kind : BuildKind) (g members : List Project) (p : Project) (o : BuildOutcome) (b' : Book) → g ≡ p ∷ [] → members ≡ g
    → RoundHalts ms b kind (items_of members) o b' → GroupHalts ms b kind g o b'
lone_halted ms b kind g members p o b' is same h = subst (λ g. GroupHalts ms b kind g o b') (sym is) (subst (λ ps. RoundHalts ms b kind (items_of ps) o b') (same ∙ is) h)

pub left_planned : (ms : Meanings) (b b' : Book) (xs : List Turn) (order : List Project) (knots : List Names) (g : List Project) (gs : List (List Project)) (rest : List Project) (later : List Names)
    → IsPlanned b.now.descs order knots (g ∷ gs) → Ran ms b b' xs → rest ≡ flat gs → later ≡ knots_of gs → IsPlanned b'.now.descs rest later gs
left_planned ms b b' xs order knots g gs rest later plan ran at left =
    subst (λ (d : Descs). IsPlanned d rest later gs) (sym (ran_descs ms b b' xs ran))
    (subst (λ ps. IsPlanned b.now.descs ps later gs) (sym at) (subst (λ ks. IsPlanned b.now.descs (flat gs) ks gs) (sym left) (planned_tail b.now.descs order knots g gs plan)))

pub knot_came : (ms : Meanings) (b b' : Book) (kind : BuildKind) (order : List Project) (knots : List Names) (g : List Project) (gs : List (List Project)) (k : Names) (later : List Names) (members rest : List Project) (xs : List Turn)
    → IsPlanned b.now.descs order knots (g ∷ gs) → KnotNext g gs k later → members ≡ g → rest ≡ flat gs → Ran ms b b' xs → KnotBuilt kind (items_of members) xs
    → GroupCame ms b kind g b' × IsPlanned b'.now.descs rest later gs
knot_came ms b b' kind order knots g gs k later members rest xs plan next same at ran built = (
  record { turns = xs; ran = ran; built = knot_group kind g xs next.two (subst (λ ps. KnotBuilt kind (items_of ps) xs) same built) },
  left_planned ms b b' xs order knots g gs rest later plan ran at next.left,
)

pub lone_came : (ms : Meanings) (b b' : Book) (kind : BuildKind) (order : List Project) (knots : List Names) (g : List Project) (gs : List (List Project)) (members rest : List Project) (t : Bool)
    → IsPlanned b.now.descs order knots (g ∷ gs) → LoneNext g gs knots → members ≡ g → rest ≡ flat gs → RoundCame ms b kind (items_of members) t b'
    → GroupCame ms b kind g b' × IsPlanned b'.now.descs rest knots gs
lone_came ms b b' kind order knots g gs members rest t plan next same at came = (
  record { turns = came.turns; ran = came.ran; built = subst (λ g. GroupBuilt kind g came.turns) (sym next.is) (subst (λ ps. IsRound kind (items_of ps) came.turns) (same ∙ next.is) came.round) },
  left_planned ms b b' came.turns order knots g gs rest knots plan came.ran at next.left,
)

-- ---- all groups

-- some groups came through, and the others are left
pub record Left (ms : Meanings) (b : Book) (kind : BuildKind) (order : List Project) (knots : List Names) (rest : List Project) (ties : List Names) (b' : Book) : Type 0 where
  pub front : List (List Project)
  pub groups : List (List Project)
  pub planned : IsPlanned b.now.descs order knots (front ++ groups)
  pub left : IsPlanned b'.now.descs rest ties groups
  pub turns : List Turn
  pub ran : Ran ms b b' turns
  pub built : AllBuilt kind front turns

pub all_left : (ms : Meanings) (b : Book) (kind : BuildKind) (order : List Project) (knots : List Names) (gs : List (List Project)) → IsPlanned b.now.descs order knots gs → Left ms b kind order knots order knots b
all_left ms b kind order knots gs plan = record { front = []; groups = gs; planned = plan; left = plan; turns = []; ran = ran_none ms b; built = refl }

no_groups : (gs : List (List Project)) → AllByRecursion (λ g. g ≢ []) gs → flat gs ≡ [] → gs ≡ []
no_groups [] full e = refl
no_groups ([] ∷ gs) full e = absurd (full.0 refl)
no_groups ((p ∷ g) ∷ gs) full e = cc

pub none_left : (ms : Meanings) (b : Book) (kind : BuildKind) (order : List Project) (knots : List Names) (rest : List Project) (ties : List Names) (b' : Book) → Left ms b kind order knots rest ties b' → rest ≡ []
    → AllCame ms b kind order knots b'
none_left ms b kind order knots rest ties b' l e = record {
  groups = l.front;
  planned = subst (IsPlanned b.now.descs order knots) (ap (λ gs. l.front ++ gs) (no_groups l.groups l.left.full (sym l.left.ordered ∙ e)) ∙ append-nil l.front) l.planned;
  turns = l.turns;
  ran = l.ran;
  built = l.built;
}

-- the next group, where projects are left
pub record Next (ms : Meanings) (b : Book) (kind : BuildKind) (order : List Project) (knots : List Names) (rest : List Project) (ties : List Names) (b' : Book) : Type 0 where
  pub front : List (List Project)
  pub group : List Project
  pub groups : List (List Project)
  pub planned : IsPlanned b.now.descs order knots (front ++ group ∷ groups)
  pub left : IsPlanned b'.now.descs rest ties (group ∷ groups)
  pub turns : List Turn
  pub ran : Ran ms b b' turns
  pub built : AllBuilt kind front turns

pub next_of : (ms : Meanings) (b : Book) (kind : BuildKind) (order : List Project) (knots : List Names) (rest : List Project) (ties : List Names) (b' : Book) → Left ms b kind order knots rest ties b' → rest ≢ []
    → Next ms b kind order knots rest ties b'
next_of ms b kind order knots rest ties b' l some = by l.groups l.planned l.left
  where
    by : (gs : List (List Project)) → IsPlanned b.now.descs order knots (l.front ++ gs) → IsPlanned b'.now.descs rest ties gs → Next ms b kind order knots rest ties b'
    by [] plan left = absurd (some left.ordered)
    by (g ∷ gs) plan left = record { front = l.front; group = g; groups = gs; planned = plan; left = left; turns = l.turns; ran = l.ran; built = l.built }

groups_more : (kind : BuildKind) (gs : List (List Project)) (g : List Project) (xs ys : List Turn) → AllBuilt kind gs xs → GroupBuilt kind g ys → AllBuilt kind (gs ++ g ∷ []) (xs ++ ys)
groups_more kind [] g xs ys h built = (ys, [], ap (λ x. x ++ ys) h ∙ sym (append-nil ys), built, refl)
groups_more kind (f ∷ gs) g xs ys h built = (h.0, h.1 ++ ys, ap (λ x. x ++ ys) h.2 ∙ append_assoc h.0 h.1 ys, h.3, groups_more kind gs g h.1 ys h.4 built)

pub one_less : (ms : Meanings) (b : Book) (kind : BuildKind) (order : List Project) (knots : List Names) (rest : List Project) (ties : List Names) (b' : Book) (n : Next ms b kind order knots rest ties b')
    (rest' : List Project) (ties' : List Names) (b'' : Book) → GroupCame ms b' kind n.group b'' → IsPlanned b''.now.descs rest' ties' n.groups → Left ms b kind order knots rest' ties' b''
one_less ms b kind order knots rest ties b' n rest' ties' b'' came left = record {
  front = n.front ++ n.group ∷ [];
  groups = n.groups;
  planned = subst (IsPlanned b.now.descs order knots) (sym (append_assoc n.front (n.group ∷ []) n.groups)) n.planned;
  left = left;
  turns = n.turns ++ came.turns;
  ran = ran_more ms b b' b'' n.turns came.turns n.ran came.ran;
  built = groups_more kind n.front n.group n.turns came.turns n.built came.built;
}

-- each group has a project
pub shorter : (descs descs' : Descs) (order : List Project) (knots : List Names) (g : List Project) (gs : List (List Project)) (rest : List Project) (ties : List Names) → IsPlanned descs order knots (g ∷ gs)
    → IsPlanned descs' rest ties gs → length rest < length order
shorter descs descs' order knots [] gs rest ties plan left = absurd (plan.full.0 refl)
shorter descs descs' order knots (p ∷ g) gs rest ties plan left =
    let whole : length order ≡ suc (length g) + length (flat gs) = ap length plan.ordered ∙ length-append (p ∷ g) (flat gs) in
    let part : length rest ≡ length (flat gs) = ap length left.ordered in
    omega arith

pub all_halt : (ms : Meanings) (b : Book) (kind : BuildKind) (order : List Project) (knots : List Names) (rest : List Project) (ties : List Names) (b' : Book) (n : Next ms b kind order knots rest ties b') (o : BuildOutcome) (b'' : Book)
    → GroupHalts ms b' kind n.group o b'' → AllHalt ms b kind order knots o b''
all_halt ms b kind order knots rest ties b' n o b'' halts = record {
  front = n.front;
  group = n.group;
  rest = n.groups;
  planned = n.planned;
  turns = n.turns;
  book = b';
  ran = n.ran;
  built = n.built;
  halts = halts;
}

-- ---- whether projects are left

pub some_rest : (rest : List Project) (b : Bool) → b ≡ nat_eq (length rest) 0 → b ≡ false → rest ≢ []
some_rest rest b is none e = let yes : b ≡ true = is ∙ ap (λ xs. nat_eq (length xs) 0) e in true_false b yes none

pub no_rest : (rest : List Project) (b : Bool) → b ≡ nat_eq (length rest) 0 → b ≡ true → rest ≡ []
no_rest [] b is h = refl
no_rest (p ∷ rest) b is h = let none : length (p ∷ rest) ≡ 0 = eqb-true (length (p ∷ rest)) 0 (sym is ∙ h) in absurd (omega arith)
