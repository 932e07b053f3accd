-- What only the crate's own code speaks of.
use Rattle.std.specs.Prelude.{◌≡◌, ⊤, T, Bool, false, ℕ, List, [], ◌∷◌, ◌++◌, map, Option, Some, IsSome, IfSome, refl}
use Rattle.std.specs.Coded.{Coded, code_by, coded×, coded_ℕ, coded_list, coded_option}
use Rattle.std.specs.declared.cmp.Ordering.TheVariants.{Less}
use Rattle.std.specs.Ordering.{eq_by_cmp, is_eq, is_lt}
use Rattle.std.specs.FinMap as finmap
use Rattle.std.specs.FinMap.{get, is_sorted}
use Rattle.proj_desc.specs.declared.command.Command.{Command}
use Rattle.std.specs.List.{AllByRecursion}
use Rattle.ws_marks.specs.declared.record.Record.{Record}
use Rattle.ws_marks.specs.declared.state.State.{State}
use Rattle.ws_marks.specs.declared.state.Replaced.{Replaced}
use Rattle.ws_marks.specs.Places.{Place, Records, States, name_cmp, place_cmp, place_of}
use Rattle.ws_marks.specs.Marked.{Marked, undone}

abbrev pub name_code : Coded (List ℕ)
name_code = coded_list coded_ℕ

abbrev pub record_code : {M : Type 0} → Coded Command → Coded M → Coded (Record M)
record_code {M} c m = code_by (List ℕ × (ℕ × (Command × (List (List ℕ) × M)))) (coded× name_code (coded× coded_ℕ (coded× c (coded× (coded_list name_code) m))))
    (λ r. (r.project, (r.index, (r.command, (r.references, r.tree))))) (λ p. record { project = p.0; index = p.1.0; command = p.1.1.0; references = p.1.1.1.0; tree = p.1.1.1.1 }) (λ _. refl)

abbrev pub state_code : {M : Type 0} → Coded M → Coded (State M)
state_code {M} m = code_by (List ℕ × (List ℕ × Option M)) (coded× name_code (coded× name_code (coded_option m)))
    (λ s. (s.participant, (s.bytes, s.tree))) (λ p. record { participant = p.0; bytes = p.1.0; tree = p.1.1 }) (λ _. refl)

abbrev pub replaced_code : {M : Type 0} → Coded M → Coded (Replaced M)
replaced_code {M} m = code_by (List ℕ × Option (State M)) (coded× name_code (coded_option (state_code m))) (λ r. (r.participant, r.before)) (λ p. record { participant = p.0; before = p.1 }) (λ _. refl)

abbrev pub records_code : {M : Type 0} → Coded Command → Coded M → Coded (Records M)
records_code c m = finmap.code (coded× name_code coded_ℕ) (record_code c m)

abbrev pub states_code : {M : Type 0} → Coded M → Coded (States M)
states_code m = finmap.code name_code (state_code m)

abbrev pub marked_code : {M : Type 0} → Coded Command → Coded M → Coded (Marked M)
marked_code {M} c m = code_by (M × (Records M × (States M × Option (List (Replaced M)))))
    (coded× m (coded× (records_code c m) (coded× (states_code m) (coded_option (coded_list (replaced_code m))))))
    (λ x. (x.told, (x.built, (x.kept, x.replaced)))) (λ p. record { told = p.0; built = p.1.0; kept = p.1.1.0; replaced = p.1.1.1 }) (λ _. refl)

-- ---- records in the order of their places

abbrev pub placed : {M : Type 0} → List (Record M) → List (Place × Record M)
placed = map (λ r. (place_of r, r))

abbrev pub InOrder : {M : Type 0} → List (Record M) → Type 0
InOrder rs = T (is_sorted place_cmp (placed rs))

abbrev pub AllBelow : {M : Type 0} → Place → List (Record M) → Type 0
AllBelow k = AllByRecursion (λ r. place_cmp (place_of r) k ≡ Less)

abbrev pub NoneBelow : {M : Type 0} → Place → List (Record M) → Type 0
NoneBelow k = AllByRecursion (λ r. is_lt (place_cmp (place_of r) k) ≡ false)

-- the first of these stands at the place
abbrev pub starts_at : {M : Type 0} → Place → List (Record M) → Bool
starts_at k [] = false
starts_at k (r ∷ rs) = is_eq (place_cmp (place_of r) k)

-- the first of these is the project's
abbrev pub starts_in : {M : Type 0} → List ℕ → List (Record M) → Bool
starts_in project [] = false
starts_in project (r ∷ rs) = eq_by_cmp name_cmp r.project project

-- those below the place are left out
abbrev pub IsCut : {M : Type 0} → Place → List (Record M) → List (Record M) → Type 0
IsCut {M} k rs rest = (front : List (Record M)) × (rs ≡ front ++ rest) × AllBelow k front × NoneBelow k rest

-- ---- a save

-- each state stands under its participant's name
abbrev pub AllNamed : {M : Type 0} → States M → Type 0
AllNamed {M} kept = (name : List ℕ) (s : State M) → get kept name ≡ Some s → s.participant ≡ name

-- each name that was set has its state, and what was replaced stood under it
abbrev pub AllThere : {M : Type 0} → States M → List (Replaced M) → Type 0
AllThere kept [] = ⊤
AllThere kept (r ∷ rs) = IsSome (get (undone kept rs) r.participant) × IfSome r.before (λ s. s.participant ≡ r.participant) × AllThere kept rs
