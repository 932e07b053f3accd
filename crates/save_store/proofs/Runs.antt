-- Points of texts, as states.
use Rattle.std.proofs.Common.{◌≡◌, inl, inr, ⊎_elim, ℕ, List, [], ◌∷◌, ◌++◌, Option, Some, None, Result, Ok, Err, OnOk, OnErr, Bool, true, false, refl, sym, ◌∙◌, ap, subst}
use Rattle.std.specs.Prelude.{is_some, if◌then◌else◌, IsSomeAnd}
use Rattle.ws_outside.specs.declared.contents.Contents.{Contents}
use Rattle.ws_outside.specs.Disk.{Each, LeavesOnly}
use Rattle.ws_durable.specs.Saved.{Saved, saved}
use Rattle.disk_area.proofs.Moments.{at_start, only_wider}
use Rattle.area_pair.specs.declared.texts.Texts.{Texts}
use Rattle.area_pair.specs.Reads.{reads}
use Rattle.area_store.specs.declared.desk.Desk.{Desk}
use Rattle.area_store.specs.Kept.{Point, saved as image_point, recorded, Among, ReadsAs, IsKept}
use Rattle.area_store.proofs.Steps.{start_reads}
use Rattle.save_format.specs.Valid.{Valid, IsImage, IsRecord}
use Rattle.ws_durable.specs.declared.durable.Durable.{Durable}
use Rattle.save_store.proofs.Meanings.{recorded_means, means_valid}
use Rattle.save_store.specs.declared.saves.Saves.{Saves}
use Rattle.save_store.specs.States.{Mean, Holds, HoldsOne}
use Rattle.save_store.specs.Stored.{MeanOne, AllMean, IsStored}

mean_more : (point : Point) (states : List Saved) (d : Saved) → MeanOne point states → MeanOne point (states ++ d ∷ [])
mean_more point [] d means = absurd means
mean_more point (s ∷ states) d (inl means) = inl means
mean_more point (s ∷ states) d (inr means) = inr (mean_more point states d means)

mean_last : (point : Point) (states : List Saved) (d : Saved) → Mean point d → MeanOne point (states ++ d ∷ [])
mean_last point [] d means = inl means
mean_last point (s ∷ states) d means = inr (mean_last point states d means)

all_wider : (points : List Point) (states : List Saved) (d : Saved) → AllMean points states → AllMean points (states ++ d ∷ [])
all_wider [] states d all = tt
all_wider (p ∷ points) states d all = (mean_more p states d all.0, all_wider points states d all.1)

all_more : (points : List Point) (states : List Saved) (point : Point) (d : Saved) → AllMean points states → Mean point d → AllMean (points ++ point ∷ []) (states ++ d ∷ [])
all_more [] states point d all means = (mean_last point states d means, tt)
all_more (p ∷ points) states point d all means = (mean_more p states d all.0, all_more points states point d all.1 means)

-- the points of a store, and the state that was acknowledged
all_behind : (points : List Point) (first : Saved) (states : List Saved) → AllMean points states → AllMean points (first ∷ states)
all_behind [] first states all = tt
all_behind (p ∷ points) first states all = (inr all.0, all_behind points first states all.1)

holds_mean : (point : Point) (states : List Saved) (c : Contents) → MeanOne point states → reads c ≡ Ok point → HoldsOne states c
holds_mean point [] c means is = absurd means
holds_mean point (s ∷ states) c (inl means) is = inl (point, is, means)
holds_mean point (s ∷ states) c (inr means) is = inr (holds_mean point states c means is)

holds_among : (point : Point) (points : List Point) (states : List Saved) (c : Contents) → AllMean points states → Among point points → reads c ≡ Ok point → HoldsOne states c
holds_among point [] states c all among is = absurd among
holds_among point (p ∷ points) states c all (inl same) is = holds_mean p states c all.0 (is ∙ ap (λ q. Ok q) same)
holds_among point (p ∷ points) states c all (inr among) is = holds_among point points states c all.1 among is

pub holds_one : (points : List Point) (states : List Saved) → AllMean points states → (c : Contents) → ReadsAs points c → HoldsOne states c
holds_one points states all c reads_as = holds_among reads_as.0 points states c all reads_as.1 reads_as.2

holds_more : (states : List Saved) (d : Saved) (c : Contents) → HoldsOne states c → HoldsOne (states ++ d ∷ []) c
holds_more [] d c holds = absurd holds
holds_more (s ∷ states) d c (inl holds) = inl holds
holds_more (s ∷ states) d c (inr holds) = inr (holds_more states d c holds)

-- each crash image of a store's areas holds the acknowledged state, or one begun after it
pub stored_holds : {D : Type 0} (may_leave : D → Contents → Type 0) (begun : List Saved) (saves : Saves D) → IsStored may_leave begun saves → Each (may_leave saves.areas.disk) (HoldsOne (saved saves.last ∷ begun))
stored_holds may_leave begun saves k c left =
    holds_one (k.point ∷ k.points) (saved saves.last ∷ begun) (inl k.last, all_behind k.points (saved saves.last) begun k.later) c (start_reads may_leave k.point k.points saves.areas k.kept c left)

pub last_holds : {D : Type 0} (may_leave : D → Contents → Type 0) (saves : Saves D) → IsStored may_leave [] saves → Each (may_leave saves.areas.disk) (λ c. Holds c (saved saves.last))
last_holds may_leave saves k c left = ⊎_elim (λ h. h) (λ none. absurd none) (stored_holds may_leave [] saves k c left)

-- after a save that answered Ok each crash image holds its state
pub leaves_now : {D T E : Type 0} (may_leave : D → Contents → Type 0) (old new : Saves D) (now : Durable) (r : Result T E) → OnOk r ((begun : List Saved) → IsStored may_leave begun old → IsStored may_leave [] new)
    → OnOk r (new.last ≡ now) → (begun : List Saved) × IsStored may_leave begun old → OnOk r (Each (may_leave new.areas.disk) (λ c. Holds c (saved now)))
leaves_now may_leave old new now (Ok x) kept last k = subst (λ (n : Durable). Each (may_leave new.areas.disk) (λ c. Holds c (saved n))) last (last_holds may_leave new (kept k.0 k.1))
leaves_now may_leave old new now (Err e) kept last k = tt

-- the acknowledged state is valid
pub stored_valid : {D : Type 0} (may_leave : D → Contents → Type 0) (saves : Saves D) → (begun : List Saved) × IsStored may_leave begun saves → Valid (saved saves.last)
stored_valid may_leave saves k = means_valid k.1.point (saved saves.last) k.1.last

-- after a save, whatever it answered
pub stored_after : {D T E : Type 0} (may_leave : D → Contents → Type 0) (old new : Saves D) (now : Saved) (r : Result T E) → OnOk r ((begun : List Saved) → IsStored may_leave begun old → IsStored may_leave [] new)
    → OnErr r ((begun : List Saved) → IsStored may_leave begun old → IsStored may_leave (begun ++ now ∷ []) new) → (begun : List Saved) × IsStored may_leave begun old → (begun : List Saved) × IsStored may_leave begun new
stored_after may_leave old new now (Ok x) kept unkept k = ([], kept k.0 k.1)
stored_after may_leave old new now (Err e) kept unkept k = (k.0 ++ now ∷ [], unkept k.0 k.1)

module _ {D : Type 0} (moment : D → ℕ) (left_since : D → ℕ → Contents → Type 0) (may_leave : D → Contents → Type 0) where
  -- a run that leaves points leaves the states that these stand for
  pub run_holds : (old new : D) (points : List Point) (states : List Saved) → AllMean points states → LeavesOnly moment left_since may_leave old new (ReadsAs points) → LeavesOnly moment left_since may_leave old new (HoldsOne states)
  run_holds old new points states all run = only_wider moment left_since may_leave old new (HoldsOne states) (ReadsAs points) run (holds_one points states all)

  -- nothing was done yet
  pub start_holds : ((d : D) (c : Contents) → left_since d (moment d) c → may_leave d c) → (begun : List Saved) (saves : Saves D) (now : Saved) → IsStored may_leave begun saves
      → LeavesOnly moment left_since may_leave saves.areas.disk saves.areas.disk (HoldsOne (saved saves.last ∷ begun ++ now ∷ []))
  start_holds only_now begun saves now k = at_start moment left_since may_leave only_now saves.areas.disk (HoldsOne (saved saves.last ∷ begun ++ now ∷ []))
      (λ c left. holds_more (saved saves.last ∷ begun) now c (stored_holds may_leave begun saves k c left))

is_there : (o : Option ℕ) (g : ℕ) → o ≡ Some g → is_some o ≡ true
is_there o g is = ap is_some is

texts_there : (point : Point) → is_some point ≡ true → (texts : Texts) × (point ≡ Some texts)
texts_there None is = absurd (cc is)
texts_there (Some texts) is = (texts, refl)

-- a store whose last save failed says nothing of its gate
failed_gate : (failed is : Bool) (point : Point) → failed ≡ true → failed ≡ false → is ≡ is_some point
failed_gate failed is point one two = absurd (cc (sym one ∙ two))

-- A save of the state `now`: where a store's point stands for its state, the point that comes next stands for `now`.
module _ {D : Type 0} (may_leave : D → Contents → Type 0) (old : Saves D) (areas : Desk D) (now : Durable) (next : Point → Point)
    (step : (begun : List Saved) (k : IsStored may_leave begun old) → Mean (next k.point) (saved now) × (is_some (next k.point) ≡ true)) where
  pub now_stored : (failed : Bool) (gate : ℕ) → areas.gate ≡ Some gate → ((first : Point) (begun : List Point) → IsKept may_leave first begun old.areas → IsKept may_leave (next first) [] areas)
      → (begun : List Saved) → IsStored may_leave begun old → IsStored may_leave [] (record { areas = areas; last = now; failed = failed })
  now_stored failed gate is kept begun k = record {
    point = next k.point;
    points = [];
    kept = kept k.point k.points k.kept;
    last = (step begun k).0;
    later = tt;
    gate = λ _. is_there areas.gate gate is ∙ sym (step begun k).1;
  }

  pub still_stored : (failed : Bool) → areas.failed ≡ true → ((first : Point) (begun : List Point) → IsKept may_leave first begun old.areas → IsKept may_leave first (begun ++ next first ∷ []) areas)
      → (begun : List Saved) → IsStored may_leave begun old → IsStored may_leave (begun ++ saved now ∷ []) (record { areas = areas; last = old.last; failed = failed })
  still_stored failed is kept begun k = record {
    point = k.point;
    points = k.points ++ next k.point ∷ [];
    kept = kept k.point k.points k.kept;
    last = k.last;
    later = all_more k.points begun (next k.point) (saved now) k.later (step begun k).0;
    gate = failed_gate areas.failed (is_some areas.gate) k.point is;
  }

  pub run_stored : (moment : D → ℕ) (left_since : D → ℕ → Contents → Type 0)
      → ((first : Point) (begun : List Point) → IsKept may_leave first begun old.areas → LeavesOnly moment left_since may_leave old.areas.disk areas.disk (ReadsAs (first ∷ begun ++ next first ∷ [])))
      → (begun : List Saved) → IsStored may_leave begun old → LeavesOnly moment left_since may_leave old.areas.disk areas.disk (HoldsOne (saved old.last ∷ begun ++ saved now ∷ []))
  run_stored moment left_since run begun k = run_holds moment left_since may_leave old.areas.disk areas.disk (k.point ∷ k.points ++ next k.point ∷ []) (saved old.last ∷ begun ++ saved now ∷ [])
      (inl k.last, all_behind (k.points ++ next k.point ∷ []) (saved old.last) (begun ++ saved now ∷ []) (all_more k.points begun (next k.point) (saved now) k.later (step begun k).0)) (run k.point k.points k.kept)

-- an image is what comes next, whatever was there
pub image_step : {D : Type 0} (may_leave : D → Contents → Type 0) (old : Saves D) (now : Durable) (image : List ℕ) → IsImage (saved now) image
    → (begun : List Saved) (k : IsStored may_leave begun old) → Mean (image_point image) (saved now) × (is_some (image_point image) ≡ true)
image_step may_leave old now image is begun k = ((saved now, is, refl), refl)

-- the room that the areas have
pub room_in : (failed : Bool) (room : Option ℕ) (is : ℕ → Type 0) → IsSomeAnd (if failed then None else room) is → IsSomeAnd room is
room_in true room is fits = absurd fits
room_in false room is fits = fits

-- a record comes behind the acknowledged texts
pub record_step : {D : Type 0} (may_leave : D → Contents → Type 0) (old : Saves D) (now : Durable) (body : List ℕ) (gate : ℕ) → old.areas.gate ≡ Some gate → old.areas.failed ≡ false → IsRecord (saved old.last) (saved now) body
    → (begun : List Saved) (k : IsStored may_leave begun old) → Mean (recorded body k.point) (saved now) × (is_some (recorded body k.point) ≡ true)
record_step may_leave old now body gate is sound record_is begun k =
    let t = texts_there k.point (sym (k.gate sound) ∙ is_there old.areas.gate gate is) in
    (recorded_means k.point t.0 (saved old.last) (saved now) body t.1 k.last record_is, ap (λ (p : Point). is_some (recorded body p)) t.1)

-- whether the last save failed says nothing of what the areas hold
pub flagged : {D : Type 0} (may_leave : D → Contents → Type 0) (old : Saves D) (failed : Bool) (begun : List Saved) → IsStored may_leave begun old → IsStored may_leave begun (record old { failed = failed })
flagged may_leave old failed begun k = record { point = k.point; points = k.points; kept = k.kept; last = k.last; later = k.later; gate = k.gate }

-- a store on which nothing was written, whose save was begun
pub begun_stored : {D : Type 0} (may_leave : D → Contents → Type 0) (old : Saves D) (failed : Bool) (now : Saved) (begun : List Saved) → IsStored may_leave begun old
    → IsStored may_leave (begun ++ now ∷ []) (record old { failed = failed })
begun_stored may_leave old failed now begun k =
    record { point = k.point; points = k.points; kept = k.kept; last = k.last; later = all_wider k.points begun now k.later; gate = k.gate }
