-- How a build command closes.
use Rattle.std.proofs.Common.{◌≡◌, ◌≢◌, ◌⊎◌, inl, inr, ℕ, Bool, List, [], ◌∷◌, map, refl, sym, ap, ◌∙◌, subst, Option, Some, None}
use Rattle.std.specs.Prelude.{IfSome, IsSome}
use Rattle.std.specs.List.{AllByRecursion, flat_map}
use Rattle.res_path.specs.Paths.{Names}
use Rattle.builder_api.specs.declared.kind.BuildKind.{BuildKind}
use Rattle.builder_api.specs.declared.kind.BuildKind.TheVariants.{Full, Auto, Incremental, Clean}
use Rattle.builder_api.specs.declared.outcome.BuildOutcome.{BuildOutcome}
use Rattle.builder_api.specs.declared.outcome.BuildOutcome.TheVariants as outcome
use Rattle.builder_api.specs.declared.plan.Plan.{Plan}
use Rattle.builder_api.specs.Files.{files_of}
use Rattle.builder_api.specs.Tasks.{Task}
use Rattle.builder_api.specs.Meanings.{Meanings, IsMeaning}
use Rattle.build_laws.specs.States.{Item, State, Descs, Finds}
use Rattle.build_laws.specs.Records.{Sound}
use Rattle.build_laws.specs.Plans.{scratch}
use Rattle.build_laws.specs.Builds.{Project, items_of, all_tasks, AllFresh, present, knots_of}
use Rattle.build_laws.specs.Planned.{IsPlanned}
use Rattle.build_laws.proofs.Trees.{fresh_found}
use Rattle.build_laws.proofs.Groups.{built_fresh}
use Rattle.build_laws.proofs.Scratches.{fresh_is_scratch}
use Rattle.build_laws.proofs.Ordered.{planned_ordered, planned_tasks}
use Rattle.build_run.specs.Books.{Book}
use Rattle.build_run.specs.Ends.{Halts, RoundHalts, GroupHalts, AllCame, AllHalt}
use Rattle.build_run.specs.Sweeps.{SweptTo}
use Rattle.build_run.specs.Starts.{Begins}
use Rattle.build_run.specs.Commands.{BuiltTo, WentTo, CameTo}
use Rattle.build_run.proofs.Runs.{ran_sound}
use Rattle.build_run.proofs.Sweeping.{swept_sound}

-- ---- no build halts as settled or cleaned

pub halt_came : (ms : Meanings) (b : Book) (kind : BuildKind) (plan : Plan) (o : BuildOutcome) (b' : Book) → AllHalt ms b kind plan.order plan.knots o b' → BuiltTo ms b kind plan o b'
halt_came ms b kind plan o b' h = by o h
  where
    never : (o : BuildOutcome) (g : List Project) (m : Book) → ((m : Book) (i : Item) (k : BuildKind) → Halts m i k o b' → ⊥) → ((names : Names) → o ≡ outcome.Unsettled names → ⊥) → (o ≡ outcome.NoMemory → ⊥) → GroupHalts ms m kind g o b' → ⊥
    never o [] m none loud poor h = h
    never o (p ∷ []) m none loud poor h = none h.book h.at kind h.halts
    never o (p ∷ q ∷ ps) m none loud poor h = elim h.ends [
      | inl part ↦ none part.1.book part.1.at _ part.1.halts
      | inr part ↦ elim part.2 [ inl e ↦ loud _ e | inr e ↦ poor e ]
    ]

    by : (o : BuildOutcome) → AllHalt ms b kind plan.order plan.knots o b' → BuiltTo ms b kind plan o b'
    by outcome.Settled h = absurd (never outcome.Settled h.group h.book (λ m i k x. x) (λ names e. cc) (λ e. cc) h.halts)
    by (outcome.Unsettled names) h = h
    by (outcome.BuilderFailed p n) h = h
    by (outcome.Refused n) h = h
    by outcome.Cleaned h = absurd (never outcome.Cleaned h.group h.book (λ m i k x. x) (λ names e. cc) (λ e. cc) h.halts)
    by outcome.NoMemory h = h

-- ---- records stay sound, whatever the outcome

halt_sound : (ms : Meanings) (b : Book) (i : Item) (kind : BuildKind) (o : BuildOutcome) (b' : Book) → Halts b i kind o b' → Sound ms b.has b.now.records → Sound ms b'.has b'.now.records
halt_sound ms b i kind (outcome.BuilderFailed p n) b' h sound =
    subst (λ has. Sound ms has b'.now.records) (sym h.5.has) (subst (λ (s : State). Sound ms b.has s.records) (sym h.6) (subst (Sound ms b.has) (sym h.1.records) sound))
halt_sound ms b i kind (outcome.Refused n) b' h sound =
    subst (λ has. Sound ms has b'.now.records) (sym h.6.has) (subst (λ (s : State). Sound ms b.has s.records) (sym h.7) (subst (Sound ms b.has) (sym (h.4.records ∙ h.3.records)) sound))
halt_sound ms b i kind outcome.NoMemory b' h sound = subst (λ has. Sound ms has b'.now.records) (sym h.2.has) (subst (Sound ms b.has) (sym h.3.records) sound)
halt_sound ms b i kind outcome.Settled b' h sound = absurd h
halt_sound ms b i kind (outcome.Unsettled names) b' h sound = absurd h
halt_sound ms b i kind outcome.Cleaned b' h sound = absurd h

round_sound : (ms : Meanings) (b : Book) (kind : BuildKind) (is : List Item) (o : BuildOutcome) (b' : Book) → RoundHalts ms b kind is o b' → Sound ms b.has b.now.records → Sound ms b'.has b'.now.records
round_sound ms b kind is o b' h sound = halt_sound ms h.book h.at kind o b' h.halts (ran_sound ms b h.book h.front h.ran sound)

group_sound : (ms : Meanings) (b : Book) (kind : BuildKind) (g : List Project) (o : BuildOutcome) (b' : Book) → GroupHalts ms b kind g o b' → Sound ms b.has b.now.records → Sound ms b'.has b'.now.records
group_sound ms b kind [] o b' h sound = absurd h
group_sound ms b kind (p ∷ []) o b' h sound = round_sound ms b kind _ o b' h sound
group_sound ms b kind (p ∷ q ∷ ps) o b' h sound =
    let mid : Sound ms h.book.has h.book.now.records = ran_sound ms b h.book (flat_map (λ r. r) h.rounds) h.ran sound in
    elim h.ends [
      | inl part ↦ round_sound ms h.book _ _ o b' part.1 mid
      | inr part ↦ subst (λ (x : Book). Sound ms x.has x.now.records) (sym part.1) mid
    ]

all_sound : (ms : Meanings) (b : Book) (kind : BuildKind) (plan : Plan) (o : BuildOutcome) (b' : Book) → AllHalt ms b kind plan.order plan.knots o b' → Sound ms b.has b.now.records → Sound ms b'.has b'.now.records
all_sound ms b kind plan o b' h sound = group_sound ms h.book kind h.group o b' h.halts (ran_sound ms b h.book h.turns h.ran sound)

built_sound : (ms : Meanings) (b : Book) (kind : BuildKind) (plan : Plan) (o : BuildOutcome) (b' : Book) → BuiltTo ms b kind plan o b' → Sound ms b.has b.now.records → Sound ms b'.has b'.now.records
built_sound ms b kind plan outcome.Settled b' h sound = ran_sound ms b b' h.turns h.ran sound
built_sound ms b kind plan (outcome.Unsettled names) b' h sound = all_sound ms b kind plan _ b' h sound
built_sound ms b kind plan (outcome.BuilderFailed p n) b' h sound = all_sound ms b kind plan _ b' h sound
built_sound ms b kind plan (outcome.Refused n) b' h sound = all_sound ms b kind plan _ b' h sound
built_sound ms b kind plan outcome.NoMemory b' h sound = all_sound ms b kind plan _ b' h sound
built_sound ms b kind plan outcome.Cleaned b' h sound = absurd h

swept_to_sound : (ms : Meanings) (b : Book) (order : List Project) (o : BuildOutcome) (b' : Book) → SweptTo b order o b' → Sound ms b.has b.now.records → Sound ms b'.has b'.now.records
swept_to_sound ms b order outcome.Cleaned b' h sound = swept_sound ms b b' (items_of order) h sound
swept_to_sound ms b order outcome.NoMemory b' h sound = swept_sound ms b b' h.front h.swept sound
swept_to_sound ms b order outcome.Settled b' h sound = absurd h
swept_to_sound ms b order (outcome.Unsettled names) b' h sound = absurd h
swept_to_sound ms b order (outcome.BuilderFailed p n) b' h sound = absurd h
swept_to_sound ms b order (outcome.Refused n) b' h sound = absurd h

went_sound : (ms : Meanings) (b : Book) (kind : BuildKind) (plan : Plan) (o : BuildOutcome) (b' : Book) → WentTo ms b kind plan o b' → Sound ms b.has b.now.records → Sound ms b'.has b'.now.records
went_sound ms b Full plan o b' h sound = built_sound ms b Full plan o b' h sound
went_sound ms b Auto plan o b' h sound = built_sound ms b Auto plan o b' h sound
went_sound ms b Incremental plan o b' h sound = built_sound ms b Incremental plan o b' h sound
went_sound ms b Clean plan o b' h sound = swept_to_sound ms b plan.order o b' h sound

-- ---- where a command settled

-- the groups all came through
settled : (ms : Meanings) (b : Book) (kind : BuildKind) (plan : Plan) (b' : Book) → WentTo ms b kind plan outcome.Settled b' → AllCame ms b kind plan.order plan.knots b'
settled ms b Full plan b' h = h
settled ms b Auto plan b' h = h
settled ms b Incremental plan b' h = h
settled ms b Clean plan b' h = absurd h

settled_with : (ms : Meanings) (b : Book) (kind : BuildKind) (plan : Plan) (b' : Book) (o came : BuildOutcome) → WentTo ms b kind plan came b' → (o ≡ came) ⊎ (o ≡ outcome.NoMemory) → o ≡ outcome.Settled
    → AllCame ms b kind plan.order plan.knots b'
settled_with ms b kind plan b' o came h how is = elim how [
  | inl same ↦ settled ms b kind plan b' (subst (λ x. WentTo ms b kind plan x b') (sym same ∙ is) h)
  | inr none ↦ let no : outcome.Settled ≡ outcome.NoMemory = sym is ∙ none in absurd (cc)
]

all_found : (ms : Meanings) (has : List ℕ → Bool) (cs : List Task) (s found : State) → Finds s found → AllFresh ms has cs s.tree → AllFresh ms has cs found.tree
all_found ms has [] s found finds fresh = tt
all_found ms has (c ∷ cs) s found finds fresh = ((λ there. fresh_found ms c s found finds (fresh.0 there)), all_found ms has cs s found finds fresh.1)

-- each command is fresh in what is found then, group by group
fresh_then : (ms : Meanings) (b : Book) (kind : BuildKind) (plan : Plan) (b' : Book) (h : AllCame ms b kind plan.order plan.knots b') → Sound ms b.has b.now.records → (found : State) → Finds b'.now found
    → AllFresh ms b.has (all_tasks h.groups) found.tree
fresh_then ms b kind plan b' h sound found finds = all_found ms b.has (all_tasks h.groups) b'.now found finds
    (subst (λ (s : State). AllFresh ms b.has (all_tasks h.groups) s.tree) (sym h.ran.now)
    (built_fresh ms b.has kind h.groups b.now h.turns h.built (planned_ordered b.now.descs plan.order plan.knots h.groups h.planned) sound h.ran.turns))

-- one project alone has no knot
no_knot : (gs : List (List Project)) → AllByRecursion (λ g. g ≢ []) gs → flat_map (λ g. g) gs ≡ [] → knots_of gs ≡ []
no_knot [] full e = refl
no_knot ([] ∷ gs) full e = absurd (full.0 refl)
no_knot ((p ∷ g) ∷ gs) full e = cc

one_project : (gs : List (List Project)) (name : List ℕ) → AllByRecursion (λ g. g ≢ []) gs → map (λ p. p.0) (flat_map (λ g. g) gs) ≡ name ∷ [] → knots_of gs ≡ []
one_project [] name full e = refl
one_project ([] ∷ gs) name full e = absurd (full.0 refl)
one_project ((p ∷ []) ∷ gs) name full e = by (flat_map (λ g. g) gs) refl (cc)
  where
    by : (ps : List Project) → flat_map (λ g. g) gs ≡ ps → map (λ p. p.0) ps ≡ [] → knots_of gs ≡ []
    by [] is none = no_knot gs full.1 is
    by (q ∷ ps) is none = cc
one_project ((p ∷ q ∷ g) ∷ gs) name full e = cc

no_knots : (kind : BuildKind) (project : Option (List ℕ)) (b : Book) (plan : Plan) (first : Book) (descs : Descs) (gs : List (List Project)) → Begins kind project b plan first
    → IsPlanned descs plan.order plan.knots gs → IsSome project ⊎ (plan.knots ≡ []) → knots_of gs ≡ []
no_knots kind project b plan first descs gs begins planned how = elim how [
  | inl one ↦ by project begins.one one
  | inr none ↦ sym planned.tied ∙ none
]
  where
    by : (o : Option (List ℕ)) → IfSome o (λ name. map (λ p. p.0) plan.order ≡ name ∷ []) → IsSome o → knots_of gs ≡ []
    by None one is = cc
    by (Some name) one is = one_project gs name planned.full (ap (map (λ (p : Project). p.0)) (sym planned.ordered) ∙ one)

-- ---- the whole command

pub came_to : (ms : Meanings) (meant : (name : List ℕ) → IfSome (ms name) IsMeaning) (kind : BuildKind) (project : Option (List ℕ)) (b first last : Book) (plan : Plan) (o came : BuildOutcome)
    → Begins kind project b plan first → WentTo ms first kind plan came last → (o ≡ came) ⊎ (o ≡ outcome.NoMemory) → CameTo ms kind project b o last
came_to ms meant kind project b first last plan o came begins h how = record {
  plan = plan;
  first = first;
  begins = begins;
  went = (came, h, how);
  sound = went_sound ms first kind plan came last h;
  fresh = λ is sound found finds. let all = settled_with ms first kind plan last o came h how is in
      subst (λ cs. AllFresh ms first.has cs found.tree) (planned_tasks first.now.descs plan.order plan.knots all.groups all.planned) (fresh_then ms first kind plan last all sound found finds);
  from_scratch = λ is sound lawful none found finds. let all = settled_with ms first kind plan last o came h how is in
      subst (λ cs. files_of found.tree ≡ scratch ms (present first.has cs) (files_of found.tree)) (planned_tasks first.now.descs plan.order plan.knots all.groups all.planned)
      (fresh_is_scratch ms first.has all.groups found.tree meant lawful (no_knots kind project b plan first first.now.descs all.groups begins all.planned none)
      (planned_ordered first.now.descs plan.order plan.knots all.groups all.planned) (fresh_then ms first kind plan last all sound found finds));
}
