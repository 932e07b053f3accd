-- What texts stand for.
use Rattle.std.proofs.Common.{◌≡◌, inl, inr, ℕ, ◌<◌, ◌+◌, List, [], ◌∷◌, ◌++◌, length, drop, get_or, Some, None, Result, Ok, Err, refl, sym, ◌∙◌, ap, subst}
use Rattle.std.proofs.lemmas.List.{drop_more}
use Rattle.std.specs.Prelude.{IfErr, IsErrAnd}
use Rattle.ws_durable.specs.Saved.{Saved}
use Rattle.ws_elem.specs.Trees.{Tree}
use Rattle.save_read.specs.declared.error.ReadError.{ReadError}
use Rattle.save_read.specs.declared.error.ReadError.TheVariants.{Bad, Memory}
use Rattle.save_read.specs.declared.error.TextCause.{TextCause}
use Rattle.save_read.specs.declared.error.TextCause.TheVariants.{BadText, BadState}
use Rattle.save_read.specs.Texts.{IsText, IsSpelled, StopsAt}
use Rattle.save_format.specs.Valid.{Valid, IsImage, IsRecord}
use Rattle.area_pair.specs.declared.texts.Texts.{Texts}
use Rattle.area_store.specs.Kept.{Point, recorded}
use Rattle.save_store.specs.States.{Lead, StandFor, Mean}
use Rattle.save_store.specs.Damages.{further, IsBad, BadRecord, BadTexts, FailsFor, moved}
use Rattle.save_store.proofs.FreshState.{fresh_valid}

-- a text that isn't read
pub refused : (base shelf : Tree) (start : ℕ) (body : List ℕ) (e : ReadError) → ((d : Saved) → Valid d → IsText base shelf d body → e ≡ Memory)
    → ((at : ℕ) → e ≡ Bad at BadText → StopsAt base shelf body at) → ((at : ℕ) → e ≡ Bad at BadState → at ≡ 0) → ((at : ℕ) → e ≡ Bad at BadState → IsSpelled base shelf body) → FailsFor (IsBad base shelf start body) (moved start e)
refused base shelf start body Memory none text state spelled = tt
refused base shelf start body (Bad at BadText) none text state spelled = record { none = λ d valid is. let no = none d valid is in cc; inside = at; stops = text at refl; place = refl }
refused base shelf start body (Bad at BadState) none text state spelled = record { none = λ d valid is. let no = none d valid is in cc; inside = at; stops = (state at refl, spelled at refl); place = refl }

-- a refusal that is handed on
pub handed : {T E : Type 0} (is : E → Type 0) (r : Result T E) (e : E) → IsErrAnd r (λ d. d ≡ e) → is e → IfErr r is
handed is (Ok x) e same h = tt
handed is (Err d) e same h = subst is (sym same) h

fails_on : (P Q : ℕ → TextCause → Type 0) → ((at : ℕ) (cause : TextCause) → P at cause → Q at cause) → (e : ReadError) → FailsFor P e → FailsFor Q e
fails_on P Q on (Bad at cause) fails = on at cause fails
fails_on P Q on Memory fails = tt

-- what is left decides: of records the one at this place is the next
module _ (first : Saved) (from : ℕ) (bodies : List (List ℕ)) (i : ℕ) (body : List ℕ) (below : i < length bodies) (at_i : body ≡ get_or bodies i body) (d : Saved) (gate : ℕ) where
  split : drop i bodies ≡ body ∷ drop (i + 1) bodies
  split = drop_more bodies i body below ∙ ap (λ (b : List ℕ). b ∷ drop (i + 1) bodies) (sym at_i)

  pub record_leads : (next : Saved) (bytes : List ℕ) → bytes ≡ body → IsRecord d next bytes → ((end : Saved) → Lead d (drop i bodies) end → Lead first bodies end)
      → (end : Saved) → Lead next (drop (i + 1) bodies) end → Lead first bodies end
  record_leads next bytes same is before end leads =
      before end (subst (λ (left : List (List ℕ)). Lead d left end) (sym split) (next, subst (IsRecord d next) same is, leads))

  pub record_fails : (bytes : List ℕ) → bytes ≡ body → ((at : ℕ) (cause : TextCause) → BadRecord d gate (drop i bodies) at cause → BadRecord first from bodies at cause)
      → (e : ReadError) → FailsFor (IsBad d.tree d.shelf (further gate 41) bytes) e → FailsFor (BadRecord first from bodies) e
  record_fails bytes same before = fails_on (IsBad d.tree d.shelf (further gate 41) bytes) (BadRecord first from bodies) this_bad
    where
      this_bad : (at : ℕ) (cause : TextCause) → IsBad d.tree d.shelf (further gate 41) bytes at cause → BadRecord first from bodies at cause
      this_bad at cause bad =
          before at cause (subst (λ (left : List (List ℕ)). BadRecord d gate left at cause) (sym split) (inl (subst (λ (b : List ℕ). IsBad d.tree d.shelf (further gate 41) b at cause) same bad)))

  pub record_bad : (next : Saved) (bytes : List ℕ) (behind : ℕ) → bytes ≡ body → behind ≡ further (further gate 41) (length bytes) → IsRecord d next bytes
      → ((at : ℕ) (cause : TextCause) → BadRecord d gate (drop i bodies) at cause → BadRecord first from bodies at cause)
      → (at : ℕ) (cause : TextCause) → BadRecord next behind (drop (i + 1) bodies) at cause → BadRecord first from bodies at cause
  record_bad next bytes behind same there is before at cause bad =
      let gate_is : behind ≡ further (further gate 41) (length body) = there ∙ ap (λ (b : List ℕ). further (further gate 41) (length b)) same in
      before at cause (subst (λ (left : List (List ℕ)). BadRecord d gate left at cause) (sym split)
      (inr (next, subst (IsRecord d next) same is, subst (λ (g : ℕ). BadRecord next g (drop (i + 1) bodies) at cause) gate_is bad)))

-- an image, and what stands behind it
module _ (texts : Texts) (first : Saved) (image : List ℕ) (records : List (List ℕ)) (image_is : image ≡ texts.image) (records_are : records ≡ texts.records) (is : IsImage first image) where
  pub texts_stand : (end : Saved) → Lead first records end → StandFor texts end
  texts_stand end leads = (first, subst (IsImage first) image_is is, subst (λ (rs : List (List ℕ)). Lead first rs end) records_are leads)

  pub texts_bad : (gate : ℕ) → gate ≡ further 57 (length image) → (e : ReadError) → FailsFor (BadRecord first gate records) e → FailsFor (BadTexts texts) e
  texts_bad gate there = fails_on (BadRecord first gate records) (BadTexts texts) behind
    where
      behind : (at : ℕ) (cause : TextCause) → BadRecord first gate records at cause → BadTexts texts at cause
      behind at cause bad =
          let gate_is : gate ≡ further 57 (length texts.image) = there ∙ ap (λ (b : List ℕ). further 57 (length b)) image_is in
          inr (first, subst (IsImage first) image_is is, subst (λ (g : ℕ). BadRecord first g texts.records at cause) gate_is (subst (λ (rs : List (List ℕ)). BadRecord first gate rs at cause) records_are bad))

-- one record more
lead_on : (d now end : Saved) (bodies : List (List ℕ)) (body : List ℕ) → Lead d bodies now → IsRecord now end body → Lead d (bodies ++ body ∷ []) end
lead_on d now end [] body leads is = (end, subst (λ (x : Saved). IsRecord x end body) leads is, refl)
lead_on d now end (b ∷ bodies) body leads is = (leads.0, leads.1, lead_on leads.0 now end bodies body leads.2 is)

pub recorded_means : (point : Point) (texts : Texts) (now end : Saved) (body : List ℕ) → point ≡ Some texts → Mean point now → IsRecord now end body → Mean (recorded body point) end
recorded_means None texts now end body is means record_is = absurd (cc is)
recorded_means (Some t) texts now end body is means record_is = (means.0, means.1, lead_on means.0 now end t.records body means.2 record_is)

-- what is stood for is valid
lead_valid : (d end : Saved) (bodies : List (List ℕ)) → Valid d → Lead d bodies end → Valid end
lead_valid d end [] valid leads = subst Valid (sym leads) valid
lead_valid d end (body ∷ bodies) valid leads = lead_valid leads.0 end bodies leads.1.0 leads.2

pub means_valid : (point : Point) (d : Saved) → Mean point d → Valid d
means_valid None d means = subst Valid (sym means) fresh_valid
means_valid (Some texts) d means = lead_valid means.0 d texts.records means.1.0 means.2
