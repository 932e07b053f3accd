-- The loops over commands and projects.
use Rattle.std.proofs.Common.{◌≡◌, ℕ, ◌+◌, ◌<◌, ◌≤◌, Bool, ◌||◌, List, [], ◌∷◌, length, take, get_or, zero, suc, refl, sym, ap, ◌∙◌, subst, Some, arith}
use Rattle.std.specs.Prelude.{slice_get}
use Rattle.std.specs.List.{AllByRecursion}
use Rattle.std.proofs.lemmas.Option.{slice_get-get_or}
use Rattle.proj_desc.specs.declared.command.Command.{Command}
use Rattle.builder_api.specs.declared.kind.BuildKind.{BuildKind}
use Rattle.builder_api.specs.declared.outcome.BuildOutcome.{BuildOutcome}
use Rattle.builder_api.specs.Meanings.{Meanings}
use Rattle.build_laws.specs.States.{item, Descs, IsItem}
use Rattle.build_laws.specs.Turns.{Turn}
use Rattle.build_laws.specs.Builds.{Project, items_from, project_items, items_of}
use Rattle.build_laws.specs.Planned.{IsDescribed}
use Rattle.build_laws.proofs.Sounds.{all_at}
use Rattle.build_laws.proofs.Ordered.{described_item}
use Rattle.build_run.specs.Books.{Book, Ran}
use Rattle.build_run.specs.Ends.{Halts, RoundHalts, RoundCame}
use Rattle.build_run.proofs.Runs.{ran_descs, came_more, one_halts, halts_later, items_length, items_next, item_parts, projects_next, project_parts}

pub read_at : {X : Type 0} (xs : List X) (n : ℕ) (x : X) → n < length xs → x ≡ get_or xs n x → slice_get xs n ≡ Some x
read_at xs n x h is = slice_get-get_or xs n x h ∙ ap Some (sym is)

pub take_all : {X : Type 0} (xs : List X) (n : ℕ) → length xs ≤ n → take n xs ≡ xs
take_all [] zero h = refl
take_all [] (suc n) h = refl
take_all (x ∷ xs) zero h = absurd (omega arith)
take_all (x ∷ xs) (suc n) h = ap (λ ys. x ∷ ys) (take_all xs n (omega arith))

-- ---- commands

-- the next is a command of the description
pub next_item : (ms : Meanings) (b b' : Book) (kind : BuildKind) (p : List ℕ) (cs : List Command) (n index : ℕ) (t : Bool) (c : Command) → IsDescribed b.now.descs (p, cs)
    → RoundCame ms b kind (take n (items_from p 0 cs)) t b' → index ≡ n → n < length cs → c ≡ get_or cs n c → IsItem b'.now.descs (item p index c)
next_item ms b b' kind p cs n index t c described came at more is =
    subst (λ (d : Descs). IsItem d (item p index c)) (sym (ran_descs ms b b' came.turns came.ran))
    (described_item b.now.descs (p, cs) index c described (ap (slice_get cs) at ∙ read_at cs n c more is))

pub commands_more : (ms : Meanings) (b b' b'' : Book) (kind : BuildKind) (p : List ℕ) (cs : List Command) (n index : ℕ) (t u : Bool) (c : Command)
    → RoundCame ms b kind (take n (items_from p 0 cs)) t b' → index ≡ n → n < length cs → c ≡ get_or cs n c → RoundCame ms b' kind (item p index c ∷ []) u b''
    → RoundCame ms b kind (take (n + 1) (items_from p 0 cs)) (t || u) b''
commands_more ms b b' b'' kind p cs n index t u c came at more is one =
    subst (λ is. RoundCame ms b kind is (t || u) b'') (sym (items_next p cs n c (read_at cs n c more is)))
    (came_more ms b b' b'' kind (take n (items_from p 0 cs)) (item p n c ∷ []) t u came (subst (λ k. RoundCame ms b' kind (item p k c ∷ []) u b'') at one))

pub commands_halt : (ms : Meanings) (b b' b'' : Book) (kind : BuildKind) (p : List ℕ) (cs : List Command) (n index : ℕ) (t : Bool) (c : Command) (o : BuildOutcome)
    → RoundCame ms b kind (take n (items_from p 0 cs)) t b' → index ≡ n → n < length cs → c ≡ get_or cs n c → Halts b' (item p index c) kind o b''
    → RoundHalts ms b kind (items_from p 0 cs) o b''
commands_halt ms b b' b'' kind p cs n index t c o came at more is halts =
    let q = item_parts p cs n c (read_at cs n c more is) in
    subst (λ is. RoundHalts ms b kind is o b'') (sym q.1)
    (halts_later ms b b' b'' kind (take n (items_from p 0 cs)) (item p n c ∷ []) q.0 t o came (one_halts ms b' b'' kind (item p n c) o (subst (λ k. Halts b' (item p k c) kind o b'') at halts)))

pub commands_came : (ms : Meanings) (b b' : Book) (kind : BuildKind) (p : List ℕ) (cs : List Command) (n : ℕ) (t : Bool) → RoundCame ms b kind (take n (items_from p 0 cs)) t b' → length cs ≤ n
    → RoundCame ms b kind (items_from p 0 cs) t b'
commands_came ms b b' kind p cs n t came all =
    subst (λ is. RoundCame ms b kind is t b') (take_all (items_from p 0 cs) n (subst (λ m. m ≤ n) (sym (items_length p 0 cs)) all)) came

-- ---- projects

pub next_project : (ms : Meanings) (b b' : Book) (kind : BuildKind) (ps : List Project) (n : ℕ) (t : Bool) (p : Project) (cs : List Command) → AllByRecursion (IsDescribed b.now.descs) ps
    → RoundCame ms b kind (items_of (take n ps)) t b' → n < length ps → p ≡ get_or ps n p → cs ≡ p.1 → IsDescribed b'.now.descs (p.0, cs)
next_project ms b b' kind ps n t p cs described came more is same =
    subst (λ (d : Descs). IsDescribed d (p.0, cs)) (sym (ran_descs ms b b' came.turns came.ran))
    (subst (λ cs. IsDescribed b.now.descs (p.0, cs)) (sym same) (all_at (IsDescribed b.now.descs) ps n p described (read_at ps n p more is)))

pub projects_more : (ms : Meanings) (b b' b'' : Book) (kind : BuildKind) (ps : List Project) (n : ℕ) (t u : Bool) (p : Project) (cs : List Command)
    → RoundCame ms b kind (items_of (take n ps)) t b' → n < length ps → p ≡ get_or ps n p → cs ≡ p.1 → RoundCame ms b' kind (items_from p.0 0 cs) u b''
    → RoundCame ms b kind (items_of (take (n + 1) ps)) (t || u) b''
projects_more ms b b' b'' kind ps n t u p cs came more is same one =
    subst (λ is. RoundCame ms b kind is (t || u) b'') (sym (projects_next ps n p (read_at ps n p more is)))
    (came_more ms b b' b'' kind (items_of (take n ps)) (project_items p) t u came (subst (λ cs. RoundCame ms b' kind (items_from p.0 0 cs) u b'') same one))

pub projects_halt : (ms : Meanings) (b b' b'' : Book) (kind : BuildKind) (ps : List Project) (n : ℕ) (t : Bool) (p : Project) (cs : List Command) (o : BuildOutcome)
    → RoundCame ms b kind (items_of (take n ps)) t b' → n < length ps → p ≡ get_or ps n p → cs ≡ p.1 → RoundHalts ms b' kind (items_from p.0 0 cs) o b''
    → RoundHalts ms b kind (items_of ps) o b''
projects_halt ms b b' b'' kind ps n t p cs o came more is same halts =
    let q = project_parts ps n p (read_at ps n p more is) in
    subst (λ is. RoundHalts ms b kind is o b'') (sym q.1)
    (halts_later ms b b' b'' kind (items_of (take n ps)) (project_items p) q.0 t o came (subst (λ cs. RoundHalts ms b' kind (items_from p.0 0 cs) o b'') same halts))

-- descriptions stay
pub still_described : (ms : Meanings) (b b' : Book) (xs : List Turn) (ps : List Project) → Ran ms b b' xs → AllByRecursion (IsDescribed b.now.descs) ps → AllByRecursion (IsDescribed b'.now.descs) ps
still_described ms b b' xs ps ran described = subst (λ (d : Descs). AllByRecursion (IsDescribed d) ps) (sym (ran_descs ms b b' xs ran)) described
