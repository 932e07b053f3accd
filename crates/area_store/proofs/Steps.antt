-- How a store's steps keep its points.
use Rattle.std.proofs.Common.{◌≡◌, inl, inr, ℕ, ◌+◌, ◌≤◌, ◌<◌, ◌^◌, List, [], ◌∷◌, ◌++◌, length, drop, Some, Bool, true, false, Result, Ok, Err, OnErr, refl, sym, ◌∙◌, ap, subst, arith}
use Rattle.ws_outside.specs.declared.contents.Contents.{Contents}
use Rattle.ws_outside.specs.declared.contents.Which.{Which}
use Rattle.ws_outside.specs.Disk.{held, InArea, Came, Each, LeavesOnly}
use Rattle.disk_area.specs.Area.{behind_gate}
use Rattle.disk_area.specs.Writes.{IsShut, SameBehind, Staged, Becomes}
use Rattle.area_store.specs.declared.desk.Desk.{Desk}
use Rattle.area_pair.specs.Reads.{other}
use Rattle.area_store.specs.Kept.{Point, saved, Among, ReadsAs, Stands, StandsAt, IsSpare, IsTornSafe, IsKept}
use Rattle.area_store.proofs.Points.{twice, reads_as, spare_shut, torn_on, stays, among_more, among_last, spare_more, image_whole, new_spare, old_spare, old_shut}

module _ {D : Type 0} (may_leave : D → Contents → Type 0) (first : Point) (begun : List Point) (desk : Desk D) (kept : IsKept may_leave first begun desk) where
  abbrev pub Wider : List Point → Type 0
  Wider later = (p : Point) → Among p (first ∷ begun) → Among p (first ∷ later)

  -- an image that came from one at the start, where the spare area counts for nothing or for a point
  pub moved_reads : (later : List Point) → Wider later → (R : List ℕ → List ℕ → Type 0) (d c : Contents) → may_leave desk.disk d → InArea (other desk.home) R d c → IsSpare desk.home kept.number later (held (other desk.home) c) → ReadsAs (first ∷ later) c
  moved_reads later wider R d c left moved spare =
      let s = kept.stands d left in
      let here : Stands desk.home_shut kept.number s.0 (held desk.home c) = subst (Stands desk.home_shut kept.number s.0) (sym (stays desk.home R d c moved)) s.2 in
      reads_as desk.home desk.home_shut kept.number (first ∷ later) later s.0 c (wider s.0 s.1) (λ p among. inr among) here spare

  -- the store after such steps
  pub moved : (later : List Point) → Wider later → (R : List ℕ → List ℕ → Type 0) (disk : D) (top : ℕ) (shut failed : Bool) → desk.top ≤ top → (failed ≡ false → desk.failed ≡ false)
      → Each (may_leave disk) (Came (may_leave desk.disk) (InArea (other desk.home) R))
      → (shut ≡ true → Each (may_leave disk) (λ c. IsShut (held (other desk.home) c)))
      → (shut ≡ false → Each (may_leave disk) (λ c. IsTornSafe desk.home kept.number later (held (other desk.home) c)))
      → (failed ≡ false → shut ≡ false → Each (may_leave disk) (λ c. IsTornSafe desk.home kept.number [] (held (other desk.home) c)))
      → IsKept may_leave first later record { disk = disk; home = desk.home; gate = desk.gate; top = top; home_shut = desk.home_shut; spare_shut = shut; failed = failed }
  moved later wider R disk top shut failed above fails came shuts torn calm = record {
    number = kept.number;
    below = omega (arith, kept.below, above);
    stands = λ c left.
        let d = came c left in
        let s = kept.stands d.0 d.1 in
        (s.0, wider s.0 s.1, subst (Stands desk.home_shut kept.number s.0) (sym (stays desk.home R d.0 c d.2)) s.2);
    sure = λ ok c left. let d = came c left in subst (StandsAt desk.home_shut kept.number desk.gate first) (sym (stays desk.home R d.0 c d.2)) (kept.sure (fails ok) d.0 d.1);
    shut = shuts;
    torn = torn;
    calm = calm;
  }

  pub same : Wider begun
  same p among = among

  pub one_more : (p : Point) → Wider (begun ++ p ∷ [])
  one_more p q among = among_more q (first ∷ begun) (p ∷ []) among

  -- the spare area, as it is, stands for a point or for nothing
  spare_as : (shut : Bool) → shut ≡ desk.spare_shut → (d : Contents) → may_leave desk.disk d → IsSpare desk.home kept.number begun (held (other desk.home) d)
  spare_as true e d left = spare_shut desk.home kept.number begun (held (other desk.home) d) (kept.shut (sym e) d left)
  spare_as false e d left = kept.torn (sym e) d left (held (other desk.home) d) refl

  pub spare_now : (d : Contents) → may_leave desk.disk d → IsSpare desk.home kept.number begun (held (other desk.home) d)
  spare_now d left = spare_as desk.spare_shut refl d left

  -- each image at the start reads as a point
  pub start_reads : Each (may_leave desk.disk) (ReadsAs (first ∷ begun))
  start_reads d left = let s = kept.stands d left in
      reads_as desk.home desk.home_shut kept.number (first ∷ begun) begun s.0 d s.1 (λ p among. inr among) s.2 (spare_now d left)

  -- a save that begins hasn't come to its end
  pub failing : IsKept may_leave first begun record desk { failed = true }
  failing = record {
    number = kept.number;
    below = kept.below;
    stands = kept.stands;
    sure = λ e. absurd (cc e);
    shut = kept.shut;
    torn = kept.torn;
    calm = λ e. absurd (cc e);
  }

  -- while the gate is closed
  pub closing_reads : desk.spare_shut ≡ false → (c : Contents) → Came (may_leave desk.disk) (InArea (other desk.home) SameBehind) c → ReadsAs (first ∷ begun) c
  closing_reads unshut c came = moved_reads begun same SameBehind came.0 c came.1 came.2 (kept.torn unshut came.0 came.1 (held (other desk.home) c) came.2.here)

  pub closing_kept : (disk : D) → desk.spare_shut ≡ false → Each (may_leave disk) (Came (may_leave desk.disk) (InArea (other desk.home) SameBehind)) → IsKept may_leave first begun record desk { disk = disk }
  closing_kept disk unshut came = moved begun same SameBehind disk desk.top desk.spare_shut desk.failed (omega arith) (λ e. e) came (λ e. absurd (cc (sym e ∙ unshut)))
      (λ _ c left. let d = came c left in torn_on desk.home kept.number begun (held (other desk.home) d.0) (held (other desk.home) c) d.2.here (kept.torn unshut d.0 d.1))
      (λ ok _ c left. let d = came c left in torn_on desk.home kept.number [] (held (other desk.home) d.0) (held (other desk.home) c) d.2.here (kept.calm ok unshut d.0 d.1))

  pub closed_kept : (disk : D) → Each (may_leave disk) (Came (may_leave desk.disk) (InArea (other desk.home) (Becomes (λ old. 0 ∷ drop 1 old)))) → IsKept may_leave first begun record desk { disk = disk; spare_shut = true }
  closed_kept disk came = moved begun same (Becomes (λ old. 0 ∷ drop 1 old)) disk desk.top true desk.failed (omega arith) (λ e. e) came
      (λ _ c left. let d = came c left in subst IsShut (sym d.2.here) (λ e. absurd (omega (arith, e)))) (λ e. absurd (cc e)) (λ _ e. absurd (cc e))

  -- one point more may stand there
  pub more_kept : (p : Point) → IsKept may_leave first (begun ++ p ∷ []) desk
  more_kept p = record {
    number = kept.number;
    below = kept.below;
    stands = λ c left. let s = kept.stands c left in (s.0, one_more p s.0 s.1, s.2);
    sure = kept.sure;
    shut = kept.shut;
    torn = λ e c left torn same. spare_more desk.home kept.number begun (p ∷ []) torn (kept.torn e c left torn same);
    calm = kept.calm;
  }

  pub reads_more : (p : Point) (c : Contents) → ReadsAs (first ∷ begun) c → ReadsAs (first ∷ begun ++ p ∷ []) c
  reads_more p c reads = (reads.0, one_more p reads.0 reads.1, reads.2)

  -- while the new image is laid
  module _ (image : List ℕ) (n : ℕ) (small : 58 + length image ≤ 2 ^ 30) (above : desk.top < n) (high : n < 2 ^ 63) where
    abbrev pub later : List Point
    later = begun ++ saved image ∷ []

    pub laying_reads : (c : Contents) → Came (may_leave desk.disk) (InArea (other desk.home) (λ _ s. IsShut s)) c → ReadsAs (first ∷ later) c
    laying_reads c came = moved_reads later (one_more (saved image)) (λ _ s. IsShut s) came.0 c came.1 came.2 (spare_shut desk.home kept.number later (held (other desk.home) c) came.2.here)

    pub laying_kept : (disk : D) → desk.spare_shut ≡ true → desk.failed ≡ true → Each (may_leave disk) (Came (may_leave desk.disk) (InArea (other desk.home) (λ _ s. IsShut s)))
        → IsKept may_leave first later record desk { disk = disk; top = n }
    laying_kept disk shut failed came = moved later (one_more (saved image)) (λ _ s. IsShut s) disk n desk.spare_shut desk.failed (omega (arith, above)) (λ e. absurd (cc (sym e ∙ failed))) came
        (λ _ c left. (came c left).2.here) (λ e. absurd (cc (sym e ∙ shut))) (λ e. absurd (cc (sym e ∙ failed)))

    abbrev pub IsNew : List ℕ → List ℕ → Type 0
    IsNew old new = drop 1 new ≡ behind_gate n image

    new_is_spare : (b : List ℕ) → drop 1 b ≡ behind_gate n image → IsSpare desk.home kept.number later b
    new_is_spare b e = new_spare desk.home kept.number n later image b (omega (arith, kept.below, above)) high small (among_last (saved image) begun) e

    pub opening_reads : (c : Contents) → Came (may_leave desk.disk) (InArea (other desk.home) IsNew) c → ReadsAs (first ∷ later) c
    opening_reads c came = moved_reads later (one_more (saved image)) IsNew came.0 c came.1 came.2 (new_is_spare (held (other desk.home) c) came.2.here)

    -- a staged image, and its gate written
    pub opening_came : (mid : Contents → Type 0) → Each mid (Came (may_leave desk.disk) (InArea (other desk.home) (Staged (behind_gate n image)))) → (c : Contents) → Came mid (InArea (other desk.home) SameBehind) c → Came (may_leave desk.disk) (InArea (other desk.home) IsNew) c
    opening_came mid staged c came = let d = staged came.0 came.1 in
        (d.0, d.1, record { here = came.2.here ∙ d.2.here.behind; there = came.2.there ∙ d.2.there })

    pub opened_came : (mid now : Contents → Type 0) → Each mid (Came (may_leave desk.disk) (InArea (other desk.home) (Staged (behind_gate n image)))) → Each now (Came mid (InArea (other desk.home) (Becomes (λ old. 1 ∷ drop 1 old))))
        → Each now (Came (may_leave desk.disk) (InArea (other desk.home) (λ _ s. s ≡ 1 ∷ behind_gate n image)))
    opened_came mid now staged opened c left =
        let m = opened c left in
        let d = staged m.0 m.1 in
        (d.0, d.1, record { here = m.2.here ∙ ap (λ l. 1 ∷ l) d.2.here.behind; there = m.2.there ∙ d.2.there })

    pub opening_kept : (disk : D) → desk.failed ≡ true → Each (may_leave disk) (Came (may_leave desk.disk) (InArea (other desk.home) IsNew)) → IsKept may_leave first later record desk { disk = disk; top = n; spare_shut = false }
    opening_kept disk failed came = moved later (one_more (saved image)) IsNew disk n false desk.failed (omega (arith, above)) (λ e. absurd (cc (sym e ∙ failed))) came (λ e. absurd (cc e))
        (λ _ c left torn same. new_is_spare torn (same ∙ (came c left).2.here)) (λ e. absurd (cc (sym e ∙ failed)))

    -- the new image is on the disk, and the home area of before is the spare one
    pub opened_kept : (disk : D) → Each (may_leave disk) (Came (may_leave desk.disk) (InArea (other desk.home) (λ _ s. s ≡ 1 ∷ behind_gate n image)))
        → IsKept may_leave (saved image) [] record { disk = disk; home = other desk.home; gate = Some (57 + length image); top = n; home_shut = false; spare_shut = desk.home_shut; failed = false }
    opened_kept disk came =
        let new : (c : Contents) → may_leave disk c → Stands false n (saved image) (held (other desk.home) c) = λ c left. (refl, (57 + length image, image_whole n image (held (other desk.home) c) small (omega (arith, above)) high (came c left).2.here)) in
        let old : (c : Contents) → may_leave disk c → (p : Point) × Stands desk.home_shut kept.number p (held (other (other desk.home)) c) = λ c left.
        let d = came c left in
        let s = kept.stands d.0 d.1 in
        (s.0, subst (Stands desk.home_shut kept.number s.0) (ap (λ w. held w c) (sym (twice desk.home))) (subst (Stands desk.home_shut kept.number s.0) (sym (stays desk.home (λ _ s. s ≡ 1 ∷ behind_gate n image) d.0 c d.2)) s.2)) in
        let safe : desk.home_shut ≡ false → (c : Contents) → may_leave disk c → IsTornSafe (other desk.home) n [] (held (other (other desk.home)) c) = λ e c left.
        let s = old c left in old_spare (other desk.home) n desk.home_shut kept.number s.0 [] (held (other (other desk.home)) c) e (omega (arith, kept.below, above)) s.1 in
        record {
          number = n;
          below = omega arith;
          stands = λ c left. (saved image, inl refl, new c left);
          sure = λ _ c left. (refl, ((new c left).1).1);
          shut = λ e c left. let s = old c left in old_shut desk.home_shut kept.number s.0 (held (other (other desk.home)) c) e s.1;
          torn = λ e c left. safe e c left;
          calm = λ _ e c left. safe e c left;
        }

-- a run in an area, and what is sure after it, by another name of that area
pub run_in : {D : Type 0} (moment : D → ℕ) (left_since : D → ℕ → Contents → Type 0) (may_leave : D → Contents → Type 0) (old new : D) (R : List ℕ → List ℕ → Type 0) (area named : Which) → area ≡ named
    → LeavesOnly moment left_since may_leave old new (Came (may_leave old) (InArea area R)) → LeavesOnly moment left_since may_leave old new (Came (may_leave old) (InArea named R))
run_in moment left_since may_leave old new R area named is run = subst (λ w. LeavesOnly moment left_since may_leave old new (Came (may_leave old) (InArea w R))) is run

pub sure_in : (from now : Contents → Type 0) (R : List ℕ → List ℕ → Type 0) (area named : Which) → area ≡ named → Each now (Came from (InArea area R)) → Each now (Came from (InArea named R))
sure_in from now R area named is sure = subst (λ w. Each now (Came from (InArea w R))) is sure

pub on_err_of : {T E : Type 0} (r : Result T E) {P : Type 0} → P → OnErr r P
on_err_of (Ok x) p = tt
on_err_of (Err e) p = p
