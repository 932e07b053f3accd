-- How a record keeps a store's points. It is written only where every image has the acknowledged texts, so that the points
-- that were begun before are let go once it is there: none of them counts.
use Rattle.std.proofs.Common.{◌≡◌, ◌⊎◌, inl, inr, ⊎_elim, ℕ, ◌+◌, ◌<◌, List, [], ◌∷◌, ◌++◌, length, Option, Some, None, Ok, Bool, true, false, refl, sym, subst}
use Rattle.std.specs.Prelude.{IfSome}
use Rattle.ws_outside.specs.declared.contents.Contents.{Contents}
use Rattle.ws_outside.specs.declared.contents.Which.{Which}
use Rattle.ws_outside.specs.Disk.{held, InArea, Came, Each}
use Rattle.disk_area.specs.Moments.{Growing}
use Rattle.disk_area.specs.Reading.{IsClosedAt, ReadsAsRecord}
use Rattle.disk_area.specs.Writes.{IsShut}
use Rattle.disk_area.specs.declared.bodies.Area.{Area}
use Rattle.disk_area.proofs.Fronts.{read_kept, read_grown}
use Rattle.area_store.specs.declared.desk.Desk.{Desk}
use Rattle.area_pair.specs.declared.texts.Texts.{Texts}
use Rattle.area_pair.specs.Reads.{other, IsWhole}
use Rattle.area_store.specs.Kept.{Point, with_record, recorded, Among, ReadsAs, Stands, StandsAt, IsSpare, IsTornSafe, IsKept}
use Rattle.area_store.proofs.Points.{reads_as, apart, among_last, spare_more}
use Rattle.area_store.proofs.Steps.{spare_now}

-- what a read gives has the gate
pub told_inside : (area : Which) (n : ℕ) (may_leave : Contents → Type 0) (seen : Option Contents) → IfSome seen may_leave → Each may_leave (λ c. (n < length (held area c)) × IsClosedAt n (held area c)) → IfSome seen (λ both. n < length (held area both))
told_inside area n may_leave None itself inside = tt
told_inside area n may_leave (Some both) itself inside = (inside both itself).0

-- an area while a record is written, and after it
whole_grows : (number : ℕ) (texts : Texts) (gate : ℕ) (body old new : List ℕ) → IsWhole number texts gate old → Growing gate body old new
    → IsWhole number texts gate new ⊎ IsWhole number (with_record body texts) (gate + 41 + length body) new
whole_grows number texts gate body old new whole growing = elim growing.reads [
  | inl closed ↦ inl (read_kept gate old new growing.before (let a : Area = record { number = number; image = texts.image; records = texts.records; end = Ok gate } in a) whole refl closed)
  | inr more ↦ inr (read_grown gate old new growing.before (let a : Area = record { number = number; image = texts.image; records = texts.records; end = Ok gate } in a) whole refl body more)
]

whole_grown : (number : ℕ) (texts : Texts) (gate : ℕ) (body old new : List ℕ) → IsWhole number texts gate old → Growing gate body old new → ReadsAsRecord gate body new
    → IsWhole number (with_record body texts) (gate + 41 + length body) new
whole_grown number texts gate body old new whole growing more =
    read_grown gate old new growing.before (let a : Area = record { number = number; image = texts.image; records = texts.records; end = Ok gate } in a) whole refl body more

-- a point with its gate
stands_grows : (shut : Bool) (number gate : ℕ) (at : Option ℕ) (point : Point) (body old new : List ℕ) → at ≡ Some gate → StandsAt shut number at point old → Growing gate body old new
    → Stands shut number point new ⊎ Stands shut number (recorded body point) new
stands_grows shut number gate None point body old new is stands growing = absurd (cc is)
stands_grows shut number gate (Some g) None body old new is stands growing = absurd stands
stands_grows shut number gate (Some g) (Some texts) body old new is stands growing =
    let whole = subst (λ (k : ℕ). IsWhole number texts k old) (some_is g gate is) stands.1 in
    ⊎_elim (λ same. inl (stands.0, (gate, same))) (λ more. inr (stands.0, (gate + 41 + length body, more))) (whole_grows number texts gate body old new whole growing)
  where
    some_is : (x y : ℕ) → (let o : Option ℕ = Some x in o) ≡ Some y → x ≡ y
    some_is x y e = cc e

stands_grown : (shut : Bool) (number gate : ℕ) (at : Option ℕ) (point : Point) (body old new : List ℕ) → at ≡ Some gate → StandsAt shut number at point old → Growing gate body old new → ReadsAsRecord gate body new
    → StandsAt shut number (Some (gate + 41 + length body)) (recorded body point) new
stands_grown shut number gate None point body old new is stands growing more = absurd (cc is)
stands_grown shut number gate (Some g) None body old new is stands growing more = absurd stands
stands_grown shut number gate (Some g) (Some texts) body old new is stands growing more =
    let whole = subst (λ (k : ℕ). IsWhole number texts k old) (some_is g gate is) stands.1 in
    (stands.0, whole_grown number texts gate body old new whole growing more)
  where
    some_is : (x y : ℕ) → (let o : Option ℕ = Some x in o) ≡ Some y → x ≡ y
    some_is x y e = cc e

stands_of : (shut : Bool) (number gate : ℕ) (point : Point) (bytes : List ℕ) → StandsAt shut number (Some gate) point bytes → Stands shut number point bytes
stands_of shut number gate None bytes stands = absurd stands
stands_of shut number gate (Some texts) bytes stands = (stands.0, (gate, stands.1))

module _ {D : Type 0} (may_leave : D → Contents → Type 0) (first : Point) (begun : List Point) (desk : Desk D) (kept : IsKept may_leave first begun desk)
    (gate : ℕ) (body : List ℕ) (at : desk.gate ≡ Some gate) (sound : desk.failed ≡ false) where
  abbrev pub later : List Point
  later = begun ++ recorded body first ∷ []

  appending : (c : Contents) → Came (may_leave desk.disk) (InArea desk.home (Growing gate body)) c → (p : Point) × Among p (first ∷ later) × Stands desk.home_shut kept.number p (held desk.home c)
  appending c came = ⊎_elim
      (λ same. (first, inl refl, same))
      (λ more. (recorded body first, inr (among_last (recorded body first) begun), more))
      (stands_grows desk.home_shut kept.number gate desk.gate first body (held desk.home came.0) (held desk.home c) at (kept.sure sound came.0 came.1) came.2.here)

  pub appending_reads : (c : Contents) → Came (may_leave desk.disk) (InArea desk.home (Growing gate body)) c → ReadsAs (first ∷ later) c
  appending_reads c came =
      let s = appending c came in
      let spare = spare_more desk.home kept.number begun (recorded body first ∷ []) (held (other desk.home) came.0) (spare_now may_leave first begun desk kept came.0 came.1) in
      reads_as desk.home desk.home_shut kept.number (first ∷ later) later s.0 c s.1 (λ p among. inr among) s.2
      (subst (IsSpare desk.home kept.number later) (sym (apart desk.home (Growing gate body) came.0 c came.2)) spare)

  pub appending_kept : (disk : D) → Each (may_leave disk) (Came (may_leave desk.disk) (InArea desk.home (Growing gate body))) → IsKept may_leave first later record desk { disk = disk; failed = true }
  appending_kept disk came = record {
    number = kept.number;
    below = kept.below;
    stands = λ c left. appending c (came c left);
    sure = λ e. absurd (cc e);
    shut = λ e c left. let d = came c left in subst IsShut (sym (apart desk.home (Growing gate body) d.0 c d.2)) (kept.shut e d.0 d.1);
    torn = λ e c left. let d = came c left in subst (IsTornSafe desk.home kept.number later) (sym (apart desk.home (Growing gate body) d.0 c d.2))
        (λ torn same. spare_more desk.home kept.number begun (recorded body first ∷ []) torn (kept.torn e d.0 d.1 torn same));
    calm = λ e. absurd (cc e);
  }

  pub appended_kept : (disk : D) → Each (may_leave disk) (Came (may_leave desk.disk) (InArea desk.home (Growing gate body))) → Each (may_leave disk) (λ c. ReadsAsRecord gate body (held desk.home c))
      → IsKept may_leave (recorded body first) [] record desk { disk = disk; gate = Some (gate + 41 + length body); failed = false }
  appended_kept disk came more =
      let here : (c : Contents) → may_leave disk c → StandsAt desk.home_shut kept.number (Some (gate + 41 + length body)) (recorded body first) (held desk.home c) = λ c left.
      let d = came c left in
      stands_grown desk.home_shut kept.number gate desk.gate first body (held desk.home d.0) (held desk.home c) at (kept.sure sound d.0 d.1) d.2.here (more c left) in
      let safe : desk.spare_shut ≡ false → (c : Contents) → may_leave disk c → IsTornSafe desk.home kept.number [] (held (other desk.home) c) = λ e c left.
      let d = came c left in
      subst (IsTornSafe desk.home kept.number []) (sym (apart desk.home (Growing gate body) d.0 c d.2)) (kept.calm sound e d.0 d.1) in
      record {
        number = kept.number;
        below = kept.below;
        stands = λ c left. (recorded body first, inl refl, stands_of desk.home_shut kept.number (gate + 41 + length body) (recorded body first) (held desk.home c) (here c left));
        sure = λ _ c left. here c left;
        shut = λ e c left. let d = came c left in subst IsShut (sym (apart desk.home (Growing gate body) d.0 c d.2)) (kept.shut e d.0 d.1);
        torn = λ e c left. safe e c left;
        calm = λ _ e c left. safe e c left;
      }
