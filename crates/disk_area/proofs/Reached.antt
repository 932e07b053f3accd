-- How far the records of an area are read.
use Rattle.std.proofs.Common.{◌≡◌, ℕ, suc, ◌+◌, ◌-◌, ◌≤◌, ◌<◌, List, [], ◌∷◌, ◌++◌, length, Option, Some, None, Result, Ok, Err, refl, sym, ◌∙◌, ap, subst, arith, append_assoc}
use Rattle.std.proofs.lemmas.List.{append-nil}
use Rattle.ws_outside.specs.declared.contents.Which.{Which}
use Rattle.disk_area.specs.Reading.{Place, record_of, Records, after_record, records_from, Tells, FaultOf, HasFault}
use Rattle.disk_area.specs.declared.damage.AreaFault.{AreaFault}
use Rattle.disk_area.specs.declared.damage.AreaFault.TheVariants.{Disk, Damaged, Memory}
use Rattle.disk_area.specs.declared.damage.Damage.{Damage}
use Rattle.disk_area.specs.declared.pieces.Piece.{Piece}

-- these bodies, and then these records
abbrev pub joined : List (List ℕ) → Records → Records
joined bodies records = (bodies ++ records.0, records.1)

-- after so many steps these bodies are read of the records from the first gate on, and the rest stands behind this gate
pub record Reached (bytes : List ℕ) (first most step : ℕ) (bodies : List (List ℕ)) (gate : ℕ) : Type 0 where
  pub size : most ≡ length bytes
  pub so_far : joined bodies (records_from (most - step) bytes gate) ≡ records_from (length bytes) bytes first

pub at_first : (bytes : List ℕ) (first most : ℕ) (bodies : List (List ℕ)) → most ≡ length bytes → bodies ≡ [] → Reached bytes first most 0 bodies first
at_first bytes first most bodies size none = record {
  size = size;
  so_far = let e : most - 0 ≡ length bytes = omega (arith, size) in
      ap (λ l. joined l (records_from (most - 0) bytes first)) none ∙ ap (λ (k : ℕ). records_from k bytes first) e;
}

-- the next record, as the definition takes it
next_of : (bytes : List ℕ) (first most step : ℕ) (bodies : List (List ℕ)) (gate : ℕ) (told : Result (Option Piece) Place) → step < most → record_of gate bytes ≡ told → Reached bytes first most step bodies gate
    → joined bodies (after_record gate (records_from (most - (step + 1)) bytes) told) ≡ records_from (length bytes) bytes first
next_of bytes first most step bodies gate told lt is r =
    let e : suc (most - (step + 1)) ≡ most - step = omega (arith, lt) in
    ap (λ t. joined bodies (after_record gate (records_from (most - (step + 1)) bytes) t)) (sym is)
    ∙ ap (λ (k : ℕ). joined bodies (records_from k bytes gate)) e ∙ r.so_far

pub further : (bytes : List ℕ) (first most step : ℕ) (bodies more : List (List ℕ)) (gate : ℕ) (told : Option Piece) (piece : Piece) → step < most → record_of gate bytes ≡ Ok told → told ≡ Some piece → more ≡ bodies ++ piece.body ∷ []
    → Reached bytes first most step bodies gate → Reached bytes first most (step + 1) more piece.gate
further bytes first most step bodies more gate told piece lt is some grown r = record {
  size = r.size;
  so_far =
      let rest = records_from (most - (step + 1)) bytes piece.gate in
      ap (λ l. joined l rest) grown
      ∙ ap (λ l. let s : Records = (l, rest.1) in s) (append_assoc bodies (piece.body ∷ []) rest.0)
      ∙ next_of bytes first most step bodies gate (Ok (Some piece)) lt (is ∙ ap (λ o. Ok o) some) r;
}

pub closed_there : (bytes : List ℕ) (first most step : ℕ) (bodies : List (List ℕ)) (gate : ℕ) (told : Option Piece) → step < most → record_of gate bytes ≡ Ok told → told ≡ None → Reached bytes first most step bodies gate
    → records_from (length bytes) bytes first ≡ (bodies, Ok gate)
closed_there bytes first most step bodies gate told lt is none r =
    sym (next_of bytes first most step bodies gate (Ok None) lt (is ∙ ap (λ o. Ok o) none) r) ∙ ap (λ l. let s : Records = (l, Ok gate) in s) (append-nil bodies)

-- what is told where a record has a fault
pub stopped_there : (area : Which) (bytes : List ℕ) (first most step : ℕ) (bodies : List (List ℕ)) (gate : ℕ) (fault : AreaFault) (r : Result Records AreaFault) → step < most → Tells area (record_of gate bytes) (Err fault)
    → ((damage : Damage) → fault ≡ Damaged damage → r ≡ Ok (bodies, Err (damage.at, damage.cause))) → (fault ≡ Disk → r ≡ Err Disk) → (fault ≡ Memory → r ≡ Err Memory)
    → Reached bytes first most step bodies gate → Tells area (Ok (records_from (length bytes) bytes first)) r
stopped_there area bytes first most step bodies gate Disk r lt tells damaged disk memory reached = subst (Tells area (Ok (records_from (length bytes) bytes first))) (sym (disk refl)) tt
stopped_there area bytes first most step bodies gate Memory r lt tells damaged disk memory reached = subst (Tells area (Ok (records_from (length bytes) bytes first))) (sym (memory refl)) tt
stopped_there area bytes first most step bodies gate (Damaged damage) r lt tells damaged disk memory reached =
    subst (Tells area (Ok (records_from (length bytes) bytes first))) (sym (damaged damage refl))
    (ap (λ s. Ok s) (sym (next_of bytes first most step bodies gate (Err (damage.at, damage.cause)) lt tells.0 reached) ∙ ap (λ l. let s : Records = (l, Err (damage.at, damage.cause)) in s) (append-nil bodies)))

pub stopped_cause : (old new : ℕ) (bodies : List (List ℕ)) (fault : AreaFault) (r : Result Records AreaFault) → FaultOf old new fault
    → ((damage : Damage) → fault ≡ Damaged damage → r ≡ Ok (bodies, Err (damage.at, damage.cause))) → (fault ≡ Disk → r ≡ Err Disk) → (fault ≡ Memory → r ≡ Err Memory)
    → HasFault old new r
stopped_cause old new bodies Disk r cause damaged disk memory = subst (HasFault old new) (sym (disk refl)) cause
stopped_cause old new bodies Memory r cause damaged disk memory = subst (HasFault old new) (sym (memory refl)) cause
stopped_cause old new bodies (Damaged damage) r cause damaged disk memory = subst (HasFault old new) (sym (damaged damage refl)) cause

pub all_steps : (bytes : List ℕ) (first most step : ℕ) (bodies : List (List ℕ)) (gate : ℕ) → most ≤ step → Reached bytes first most step bodies gate
    → records_from (length bytes) bytes first ≡ (bodies, Ok gate)
all_steps bytes first most step bodies gate le r =
    let e : most - step ≡ 0 = omega (arith, le) in
    sym (r.so_far) ∙ ap (λ (k : ℕ). joined bodies (records_from k bytes gate)) e ∙ ap (λ l. let s : Records = (l, Ok gate) in s) (append-nil bodies)
